-- A block of the layout before, in the present one, holds the same register. Assumes nothing.
use mathlib.Core.Path.{◌≡◌, refl, sym, ap, subst, ◌∙◌}
use mathlib.Core.List.{List, ◌∷◌, ◌++◌, append_assoc}
use Prim.Native.Nat.{ℕ, zero, suc, ◌+◌, ◌*◌, ◌≤◌, ◌<◌}
use native.Mathlib.Omega.{arith}
use lib.Dec.{T}
use lib.ListN.{length, get_or, take, drop, replicate, length-append, length-replicate, take-append-drop, get_or-append}
use lib.Seq.{get_or-drop, drop_at, length-take-le}
use Rattle.rules.specs.List.{tabulate}
use Rattle.block.specs.Layout.{most_subjects, count_at, mark_size, record_size, retired_size, marks_at, retired_at, records_at}
use Rattle.block.specs.Bytes.{wide, read_all}
use Rattle.block.specs.Block.{marks_in, delegation_in, subjects_in, count_in, decode}
use Rattle.block.specs.Older.{old_size, brought, BroughtSame}
use Rattle.block.proofs.Wide.{wide_drop}
use Rattle.block.proofs.Form.{parts}

-- values that are the same at each place
tabulate_same : {A : Type 0} (f g : ℕ → A) (i n : ℕ) → ((k : ℕ) → k < i + n → f k ≡ g k) → tabulate f i n ≡ tabulate g i n
tabulate_same f g i zero h = refl
tabulate_same f g i (suc n) h = let e = h i (omega arith) in let more = tabulate_same f g (suc i) n (λ k l. h k (omega arith)) in λ j. e j ∷ more j

module _ (b : List ℕ) (e : length b ≡ old_size) where
  front_long : length (take retired_at b) ≡ retired_at
  front_long = length-take-le retired_at b (omega (arith, e))

  -- the bytes before the bits are the old ones
  same_front : (i : ℕ) → i < retired_at → get_or (brought b) i 0 ≡ get_or b i 0
  unfolding brought
  same_front i l =
      let k : i < length (take retired_at b) = omega (arith, front_long) in
      get_or-append (take retired_at b) (replicate retired_size 0 ++ drop retired_at b) 0 i k
      ∙ sym (get_or-append (take retired_at b) (drop retired_at b) 0 i k)
      ∙ ap (λ (s : List ℕ). get_or s i 0) (take-append-drop retired_at b)

  same_marks : (n : ℕ) → n ≤ most_subjects → read_all marks_in mark_size (drop marks_at (brought b)) n ≡ read_all marks_in mark_size (drop marks_at b) n
  same_marks n l = tabulate_same (λ k. marks_in (drop (mark_size * k) (drop marks_at (brought b)))) (λ k. marks_in (drop (mark_size * k) (drop marks_at b))) 0 n (λ k m. both k (omega arith))
    where
      at : (x : List ℕ) (k j : ℕ) → get_or (drop (mark_size * k) (drop marks_at x)) j 0 ≡ get_or x (marks_at + (mark_size * k + j)) 0
      at x k j = get_or-drop (mark_size * k) (drop marks_at x) j 0 ∙ get_or-drop marks_at x (mark_size * k + j) 0

      byte : (k j : ℕ) → k < most_subjects → j < mark_size → get_or (drop (mark_size * k) (drop marks_at (brought b))) j 0 ≡ get_or (drop (mark_size * k) (drop marks_at b)) j 0
      byte k j h m = at (brought b) k j ∙ same_front (marks_at + (mark_size * k + j)) (omega arith) ∙ sym (at b k j)

      both : (k : ℕ) → k < most_subjects → marks_in (drop (mark_size * k) (drop marks_at (brought b))) ≡ marks_in (drop (mark_size * k) (drop marks_at b))
      both k h = λ i. byte k 0 h (omega arith) i + byte k 1 h (omega arith) i * 256

  bits_drop : drop retired_at (brought b) ≡ replicate retired_size 0 ++ drop retired_at b
  unfolding brought
  bits_drop = drop_at (take retired_at b) (replicate retired_size 0 ++ drop retired_at b) retired_at front_long

  none_retired : wide retired_size (brought b) retired_at ≡ 0
  none_retired = sym (wide_drop retired_size (brought b) retired_at 0) ∙ ap (λ (s : List ℕ). wide retired_size s 0) bits_drop

  records_drop : drop records_at (brought b) ≡ drop retired_at b
  unfolding brought
  records_drop =
      ap (drop records_at) (sym (append_assoc (take retired_at b) (replicate retired_size 0) (drop retired_at b)))
      ∙ drop_at (take retired_at b ++ replicate retired_size 0) (drop retired_at b) records_at (length-append (take retired_at b) (replicate retired_size 0) ∙ omega (arith, front_long, length-replicate {A = ℕ} retired_size 0))

  same_subjects : subjects_in (brought b) ≡ subjects_in b
  same_subjects = same_front 0 (omega arith)

  same_count : count_in (brought b) ≡ count_in b
  same_count = λ i. same_front count_at (omega arith) i + same_front (count_at + 1) (omega arith) i * 256

pub brought_same : BroughtSame
unfolding decode
brought_same b e w =
    let most = (parts (brought b) (subst T (sym w) tt)).most in
    let marks = same_marks b e (subjects_in (brought b)) most ∙ ap (read_all marks_in mark_size (drop marks_at b)) (same_subjects b e) in
    λ i. record { subjects = same_subjects b e i; marks = marks i; retired = none_retired b e i; delegations = read_all delegation_in record_size (records_drop b e i) (same_count b e i) }
