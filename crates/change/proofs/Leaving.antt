-- A subject retired: what is left of the delegations, and the bits, in the block as in the register. Assumes nothing.
use mathlib.Core.Path.{◌≡◌, refl, sym, ap, subst, ◌∙◌}
use mathlib.Core.Logic.{◌⊎◌, inl, inr}
use mathlib.Core.Bool.{Bool, true, false, not, cond}
use mathlib.Core.List.{List, [], ◌∷◌, ◌++◌, append_assoc}
use Prim.Native.Nat.{ℕ, ◌*◌, ◌^◌, ◌≤◌, ◌<◌, zero-le, suc-le-suc}
use native.Mathlib.Nat.{one-mul}
use native.Mathlib.Omega.{arith}
use lib.Bits.{bit_or}
use lib.IntN.{ℤ, pos}
use lib.ListN.{length, get_or, set, length-append, length-set}
use lib.Seq.{sets}
use Rattle.rules.specs.List.{◌∈◌, keep, filter, concat_map}
use Rattle.rules.specs.Limit.{none, ◌≼◌}
use Rattle.rules.specs.Register.{Delegation, Register, with_delegations, with_marks, with_retired}
use Rattle.rules.specs.Round.{placed}
use Rattle.rules.specs.Cut.{retirement, touches, changed}
use Rattle.rules.proofs.Lists.{set_mem}
use Rattle.rules.proofs.Calls.{filtered_formed}
use Rattle.block.specs.Layout.{block_size, most_subjects, retired_at, retired_size}
use Rattle.block.specs.Bytes.{IsBytes, two_bytes, wide_bytes}
use Rattle.block.specs.Block.{subjects_in, count_in, retired_in, decode, encode}
use Rattle.block.specs.WellFormed.{well_formed}
use Rattle.block.specs.Fits.{Fits, Fitting}
use Rattle.block.specs.Records.{mark_place, delegation_at, delegations_to, left_to}
use Rattle.block.proofs.Fitting.{head_of, marks_part, retired_part, records_part, length_marks_part, encode_marks, length_encode, subjects_encode, retired_encode, decode_encode, encode_fitting, fitting_subjects, formed_fits}
use Rattle.block.proofs.Held.{held_formed, subjects_held_lem, delegations_held, record_held}
use Rattle.block.proofs.Wide.{length_wide_bytes}
use Rattle.block.proofs.Left.{left_all}
use Rattle.change.specs.Without.{weight_without, WeightsWithout}
use Rattle.change.proofs.Splice.{sets_over}
use Rattle.change.proofs.Rewrite.{encode_mark}

-- those that keep their weight are those that are neither to nor from s
others : (s : ℕ) (ds : List Delegation) → concat_map (λ d. placed d (weight_without s d)) ds ≡ filter (λ d. not (touches s d)) ds
others s [] = refl
others s (d ∷ ds) = go (touches s d) (others s ds)
  where
    go : (b : Bool) → concat_map (λ e. placed e (weight_without s e)) ds ≡ filter (λ e. not (touches s e)) ds
        → placed d (cond b none (pos d.weight)) ++ concat_map (λ e. placed e (weight_without s e)) ds ≡ keep (not b) d (filter (λ e. not (touches s e)) ds)
    go true h = h
    go false h = λ j. d ∷ h j

pub left_without : (b : List ℕ) (s n : ℕ) (ws : List ℤ) → WeightsWithout b s n ws → left_to (delegation_at b) ws n ≡ filter (λ d. not (touches s d)) (delegations_to b n)
left_without b s n ws h = left_all (delegation_at b) (λ d. placed d (weight_without s d)) ws n (λ k l. ap (placed (delegation_at b k)) (h k l)) ∙ others s (delegations_to b n)

-- other bits written
pub encode_retired : (R : Register) → Fits R → (n : ℕ) → sets (encode R) retired_at (wide_bytes retired_size n) ≡ encode (with_retired R n)
encode_retired R f n =
    ap (λ (s : List ℕ). sets s retired_at (wide_bytes retired_size n)) (encode_marks R ∙ sym (append_assoc head (marks_part R) (retired_part R ++ records_part R)))
    ∙ sets_over (head ++ marks_part R) (retired_part R) (wide_bytes retired_size n) (records_part R) retired_at (length-append head (marks_part R) ∙ omega (arith, length_marks_part R f)) (length_wide_bytes retired_size R.retired ∙ sym (length_wide_bytes retired_size n))
    ∙ append_assoc head (marks_part R) (wide_bytes retired_size n ++ records_part R)
    ∙ sym (encode_marks (with_retired R n))
  where
    head : List ℕ
    head = head_of R.subjects (length R.delegations)

-- the bit of an enrolled subject set
module _ (b : List ℕ) (h : Fitting b) (s : ℕ) (l : s < subjects_in b) where
  pub few_enrolled_lem : s < most_subjects
  few_enrolled_lem = omega (arith, l, fitting_subjects b h, h.fits.most)

  pub retired_set : (r one : ℕ) → r ≡ retired_in b → one ≡ 1 * 2 ^ s → sets b retired_at (wide_bytes retired_size (bit_or r one)) ≡ encode (with_retired (decode b) (bit_or (decode b).retired (2 ^ s)))
  retired_set r one e o =
      let q : bit_or r one ≡ bit_or (decode b).retired (2 ^ s) = λ j. bit_or ((e ∙ ap retired_in h.written ∙ retired_encode (decode b) h.fits) j) ((o ∙ one-mul (2 ^ s)) j) in
      (λ j. sets (h.written j) retired_at (wide_bytes retired_size (q j))) ∙ encode_retired (decode b) h.fits (bit_or (decode b).retired (2 ^ s))

-- ── the three steps: what is left written, the marks cleared, the bit set ──
module _ (b : List ℕ) (bytes : IsBytes b) (formed : well_formed b ≡ true) (s : ℕ) (l : s < subjects_in b) where
  -- the register after the first and after the second
  abbrev fewer : Register
  fewer = with_delegations (decode b) (filter (λ d. not (touches s d)) (decode b).delegations)

  abbrev cleared : Register
  cleared = with_marks fewer (set (decode b).marks s 0)

  enrolled : s < (decode b).subjects
  enrolled = subst (λ (n : ℕ). s < n) (sym (subjects_held_lem b bytes formed)) l

  fewer_fits : Fits fewer
  fewer_fits = formed_fits fewer (filtered_formed (decode b) (λ d. not (touches s d)) (held_formed b bytes formed))

  cleared_fits : Fits cleared
  cleared_fits = record {
    most = fewer_fits.most;
    marked = length-set (decode b).marks s 0 ∙ fewer_fits.marked;
    marks = λ m i. small m (set_mem (decode b).marks s 0 i);
    bits = fewer_fits.bits;
    few = fewer_fits.few;
    each = fewer_fits.each;
  }
    where
      small : (m : ℕ) → (m ≡ 0) ⊎ (m ∈ (decode b).marks) → m ≤ 65535
      small m (inl q) = omega arith
      small m (inr i) = fewer_fits.marks m i

  module _ (ws : List ℤ) (n : ℕ) (counted : n ≡ count_in b) (w : WeightsWithout b s n ws) where
    weights : WeightsWithout b s (count_in b) ws
    weights = subst (λ (m : ℕ). WeightsWithout b s m ws) counted w

    -- each weight that is kept is one that stands
    pub weights_most : (k : ℕ) → k < count_in b → get_or ws k (pos 0) ≼ pos 255
    weights_most k h = subst (λ (z : ℤ). z ≼ pos 255) (sym (weights k h)) (go (touches s (delegation_at b k)))
      where
        go : (t : Bool) → cond t none (pos (delegation_at b k).weight) ≼ pos 255
        go true = zero-le
        go false = suc-le-suc ((held_formed b bytes formed).each (delegation_at b k) (record_held b bytes formed k h)).weight

    module _ (b₁ : List ℕ) (e₁ : b₁ ≡ encode (with_delegations (decode b) (left_to (delegation_at b) ws (count_in b)))) where
      is_fewer : b₁ ≡ encode fewer
      is_fewer = e₁ ∙ ap (λ (ds : List Delegation). encode (with_delegations (decode b) ds)) (left_without b s (count_in b) ws weights ∙ ap (filter (λ d. not (touches s d))) (sym (delegations_held b bytes formed)))

      pub fewer_size : length b₁ ≡ block_size
      fewer_size = ap length is_fewer ∙ length_encode fewer fewer_fits

      module _ (b₂ : List ℕ) (e₂ : b₂ ≡ sets b₁ (mark_place s) (two_bytes 0)) where
        is_cleared : b₂ ≡ encode cleared
        is_cleared = e₂ ∙ ap (λ (x : List ℕ). sets x (mark_place s) (two_bytes 0)) is_fewer ∙ encode_mark fewer fewer_fits s 0 enrolled

        pub cleared_held : Fitting b₂ × (s < subjects_in b₂)
        cleared_held = subst (λ (x : List ℕ). Fitting x × (s < subjects_in x)) (sym is_cleared) (encode_fitting cleared cleared_fits, subst (λ (n : ℕ). s < n) (sym (subjects_encode cleared cleared_fits)) enrolled)

        pub retire_held : encode (with_retired (decode b₂) (bit_or (decode b₂).retired (2 ^ s))) ≡ encode (changed (decode b) (retirement s))
        retire_held = ap (λ (R : Register). encode (with_retired R (bit_or R.retired (2 ^ s)))) (ap decode is_cleared ∙ decode_encode cleared cleared_fits)
