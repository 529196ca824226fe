-- The table of reaches, filled row by row. Assumes nothing.
use mathlib.Core.Path.{◌≡◌, sym, ap, subst, ◌∙◌}
use mathlib.Core.Logic.{◌≢◌, ◌⊎◌, inl, inr}
use mathlib.Core.Bool.{true, not}
use mathlib.Core.List.{List, ◌++◌}
use Prim.Native.Nat.{ℕ, ◌+◌, ◌*◌, ◌-◌, ◌/◌, ◌%◌, ◌^◌, ◌≤◌, ◌<◌, max}
use native.Mathlib.Nat.{zero-add, add-zero}
use native.Mathlib.Omega.{arith}
use borrow.Author.Count.{below_more}
use lib.Bits.{bit_and, bit_or}
use lib.Dec.{T, ltb, ltb→lt, nltb→le}
use lib.ListN.{length, get_or, take, drop, get_or-append}
use lib.Seq.{length-take-le, get_or-append-add, get_or-take, get_or-drop}
use lib.IntN.{ℤ, pos}
use Rattle.rules.specs.List.{◌∈◌}
use Rattle.rules.specs.Register.{Delegation, Register, marks_of}
use Rattle.rules.specs.Reach.{reach}
use Rattle.rules.specs.WellFormed.{WellFormed}
use Rattle.rules.proofs.Lists.{either, eq_or}
use Rattle.rules.proofs.Support.{allowed_reach}
use Rattle.block.specs.Layout.{most_subjects}
use Rattle.block.specs.Bytes.{IsBytes}
use Rattle.block.specs.Block.{count_in, decode}
use Rattle.block.specs.WellFormed.{well_formed}
use Rattle.block.specs.Records.{delegation_at}
use Rattle.block.proofs.Bytes.{length_tabulate, tabulate_mem}
use Rattle.block.proofs.Held.{delegations_held, record_held}
use Rattle.rules.specs.Bits.{bit, BitPut}
use Rattle.rules.proofs.Bits.{bit_zero, bit_or_lem, bit_shr}
use Rattle.runs.specs.Lent.{delegations_in}
use Rattle.search.specs.Search.{under_marks}
use Rattle.search.specs.Found.{Searched}
use Rattle.search.specs.Named.{MarksAmong, AllNamed}
use Rattle.search.proofs.Sharing.{reach_shared}
use Rattle.reckoning.specs.Reckoned.{reach_count, reach_at, HasRow, Filled, Tabled, PlacesCopied, RowMade}

-- a search finds the reach of each subject
pub row_length : (t : List ℤ) (s : List ℕ) (m : ℕ) (l : List ℤ) (p : List ℕ) → Searched t s m l p → length l ≡ most_subjects
row_length t s m l p h = ap length h.limits ∙ length_tabulate (λ u. reach t (under_marks (delegations_in s) m) u 0) 0 most_subjects

module _ {A : Type 0} (l ys : List A) (a k : ℕ) (z : A) (fits : a + k ≤ length l) (size : length ys ≡ k) where
  front : length (take a l) ≡ a
  front = length-take-le a l (omega arith)

  -- a place of the part put back
  pub put_in : (i : ℕ) → i < k → get_or (take a l ++ (ys ++ drop k (drop a l))) (a + i) z ≡ get_or ys i z
  put_in i h =
      ap (λ (m : ℕ). get_or (take a l ++ (ys ++ drop k (drop a l))) (m + i) z) (sym front)
      ∙ get_or-append-add (take a l) (ys ++ drop k (drop a l)) i z
      ∙ get_or-append ys (drop k (drop a l)) z i (omega arith)

  -- a place before it, or after it
  pub put_out : (i : ℕ) → (i < a) ⊎ (a + k ≤ i) → get_or (take a l ++ (ys ++ drop k (drop a l))) i z ≡ get_or l i z
  put_out i (inl h) = get_or-append (take a l) (ys ++ drop k (drop a l)) z i (omega (arith, front)) ∙ get_or-take a l i z h
  put_out i (inr h) =
      let e : i ≡ length (take a l) + (length ys + (i - (a + k))) = omega (arith, front) in
      let f : a + (k + (i - (a + k))) ≡ i = omega arith in
      ap (λ (m : ℕ). get_or (take a l ++ (ys ++ drop k (drop a l))) m z) e
      ∙ get_or-append-add (take a l) (ys ++ drop k (drop a l)) (length ys + (i - (a + k))) z
      ∙ get_or-append-add ys (drop k (drop a l)) (i - (a + k)) z
      ∙ get_or-drop k (drop a l) (i - (a + k)) z
      ∙ get_or-drop a l (k + (i - (a + k))) z
      ∙ ap (λ (m : ℕ). get_or l m z) f

-- what holds of each delegation at a place holds of each delegation of the register
pub each_held : (P : Delegation → Type 0) (b : List ℕ) (bytes : IsBytes b) (formed : well_formed b ≡ true) (n : ℕ) → n ≡ count_in b → ((k : ℕ) → k < n → P (delegation_at b k)) → (d : Delegation) → d ∈ (decode b).delegations → P d
each_held P b bytes formed n e h d m =
    let (k, l, q) = tabulate_mem (delegation_at b) 0 (count_in b) (subst (λ (ds : List Delegation). d ∈ ds) (delegations_held b bytes formed) m) in
    subst P (sym (q ∙ ap (delegation_at b) (zero-add k))) (h k (omega arith))

-- and the other way
pub held_each : (P : Delegation → Type 0) (b : List ℕ) (bytes : IsBytes b) (formed : well_formed b ≡ true) (n : ℕ) → n ≡ count_in b → ((d : Delegation) → d ∈ (decode b).delegations → P d) → (k : ℕ) → k < n → P (delegation_at b k)
held_each P b bytes formed n e h k l = h (delegation_at b k) (record_held b bytes formed k (omega arith))

-- the bit that is read after a shift
pub bit_read : (n k : ℕ) → n / 2 ^ k % 2 ≡ bit n k
bit_read n k = bit_shr n k 0 ∙ ap (bit n) (add-zero k)

-- the marks of two more numbers
pub names_on : (f g : ℕ → ℕ) (named k : ℕ) → ((j : ℕ) → j < k → MarksAmong (f j) named × MarksAmong (g j) named) → (j : ℕ) → j < k + 1
    → MarksAmong (f j) (bit_or named (bit_or (f k) (g k))) × MarksAmong (g j) (bit_or named (bit_or (f k) (g k)))
names_on f g named k h = below_more (λ j. MarksAmong (f j) (bit_or named (bit_or (f k) (g k))) × MarksAmong (g j) (bit_or named (bit_or (f k) (g k)))) k
    (λ j l. ((λ y. omega (arith, wide y, (h j l).0 y)), (λ y. omega (arith, wide y, (h j l).1 y))))
    ((λ y. omega (arith, wide y)), (λ y. omega (arith, wide y)))
  where
    wide : (y : ℕ) → bit (bit_or named (bit_or (f k) (g k))) y ≡ max (bit named y) (max (bit (f k) y) (bit (g k) y))
    wide y = bit_or_lem named (bit_or (f k) (g k)) y ∙ ap (max (bit named y)) (bit_or_lem (f k) (g k) y)

module _ (t : List ℤ) (R : Register) (set : ℕ) where
  -- each subject below n that is in the set has its row, or is one of the rest
  pub record Filling (n rest : ℕ) (l : List ℤ) : Type 0 where
    pub size : length l ≡ reach_count
    pub rows : (r : ℕ) → r < n → bit set r ≡ 1 → (bit rest r ≡ 1) ⊎ HasRow t R r l

  module _ (n rest : ℕ) (l : List ℤ) (f : Filling n rest l) where
    module _ (v rest' : ℕ) (out : BitPut rest v 0 rest') where
      pub filling_on : (m : List ℤ) → length m ≡ length l → RowMade t R v l m → Filling n rest' m
      filling_on m kept made = record { size = kept ∙ f.size; rows = λ r k w. go r (eq_or v r) (f.rows r k w) }
        where
          aside : (r u : ℕ) → v ≢ r → u < most_subjects → T (ltb r v) ⊎ T (not (ltb r v)) → get_or m (reach_at u r) (pos 0) ≡ get_or l (reach_at u r) (pos 0)
          aside r u d h (inl k) = let i : r < v = ltb→lt r v k in made.rest (reach_at u r) (inl (omega arith))
          aside r u d h (inr k) = let i : v < r = omega (arith, nltb→le r v k, d) in made.rest (reach_at u r) (inr (omega arith))

          go : (r : ℕ) → (v ≡ r) ⊎ (v ≢ r) → (bit rest r ≡ 1) ⊎ HasRow t R r l → (bit rest' r ≡ 1) ⊎ HasRow t R r m
          go r (inl e) w = inr (subst (λ (i : ℕ). HasRow t R i m) e made.row)
          go r (inr d) (inl w) = inl (out.others r d ∙ w)
          go r (inr d) (inr row) = inr (λ u h. aside r u d h (either (ltb r v)) ∙ row u h)

    pub filling_end : rest ≡ 0 → Filled t R set n l
    filling_end e = record { size = f.size; rows = λ r k w. go r (f.rows r k w) }
      where
        go : (r : ℕ) → (bit rest r ≡ 1) ⊎ HasRow t R r l → HasRow t R r l
        go r (inl w) = absurd (omega (arith, sym (ap (λ (x : ℕ). bit x r) e ∙ bit_zero r) ∙ w))
        go r (inr row) = row

  -- the row of another receiver whose marks agree on all that are named, copied
  pub row_copied : (n w v : ℕ) (l m : List ℤ) → AllNamed n R.delegations → HasRow t R w l → bit_and (marks_of R w) n ≡ bit_and (marks_of R v) n → PlacesCopied (most_subjects * w) (most_subjects * v) most_subjects l m → RowMade t R v l m
  row_copied n w v l m names row e c = record { row = λ u h. c.there u h ∙ row u h ∙ reach_shared t R n u w v names e; rest = c.rest }

  pub filled_tabled : WellFormed R → ((d : Delegation) → d ∈ R.delegations → bit set d.receiver ≡ 1) → (v : ℕ) → v ≡ R.subjects → (l : List ℤ) → Filled t R set v l → Tabled t R l
  filled_tabled w all v e l f d m = f.rows d.receiver (omega (arith, (w.each d m).receiver)) (all d m) d.giver (omega (arith, (w.each d m).giver, w.most)) ∙ sym (allowed_reach t R d)
