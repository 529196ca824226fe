-- How many bytes the text of a register takes. Assumes nothing.
use mathlib.Core.Path.{◌≡◌, refl}
use mathlib.Core.Bool.{Bool, true, false}
use mathlib.Core.List.Memᴰ
use mathlib.Core.List.{List, [], ◌∷◌, ◌++◌, map}
use Prim.Native.Nat.{ℕ, suc, ◌+◌, ◌*◌, ◌-◌, ◌≤◌, ◌<◌}
use native.Mathlib.Omega.{arith}
use borrow.Author.Tests.{ltb-true, ltb-false}
use lib.Dec.{ltb}
use lib.IntN.{pos}
use lib.ListN.{length, get_or, length-append}
use Rattle.rules.specs.List.{◌∈◌, concat_map}
use Rattle.rules.specs.Bits.{bit}
use Rattle.rules.specs.Register.{Delegation, Register}
use Rattle.rules.proofs.Bits.{bit_small}
use Rattle.rules.specs.WellFormed.{DelegationFormed, WellFormed}
use Rattle.text.specs.Text.{digits, after, line}
use Rattle.text.proofs.Sizes.{tens, digits_below_lem}
use Rattle.regfile.specs.FileText.{subject_names, delegation_names, subject_rows, delegation_row, file_text}

-- a number of at most k + 1 digits, and what follows it
line_more : (k n : ℕ) (ns : List ℕ) → n < tens (suc k) → length (line (map pos (n ∷ ns))) ≤ suc (suc k) + length (line (map pos ns))
line_more k n ns h = omega (arith, length-append (digits n) (after (map pos ns) ∷ line (map pos ns)), digits_below_lem k n h)

-- ── the subjects ──

bit_short : (n s : ℕ) → length (line (map pos (bit n s ∷ []))) ≤ 2
bit_short n s = line_more 0 (bit n s) [] (omega (arith, bit_small n s))

-- the lines from subject s on; those below 10 have one digit
subjects_from : (n s : ℕ) (ms : List ℕ) → s + length ms ≤ 64 → ((m : ℕ) → m ∈ ms → m ≤ 65535) → length (concat_map line (subject_rows n s ms)) + 11 * s + (10 - s) ≤ 704
subjects_from n s [] l h = omega arith
subjects_from n s (m ∷ ms) l h = go (ltb s 10) refl (subjects_from n (suc s) ms (omega arith) (λ x i. h x (Memᴰ.tail i)))
  where
    row : length (line (map pos (m ∷ bit n s ∷ []))) ≤ 8
    row = omega (arith, line_more 4 m (bit n s ∷ []) (omega (arith, h m (Memᴰ.head refl))), bit_short n s)

    both : length (concat_map line (subject_rows n s (m ∷ ms))) ≡ length (line (pos s ∷ pos m ∷ pos (bit n s) ∷ [])) + length (concat_map line (subject_rows n (suc s) ms))
    both = length-append (line (pos s ∷ pos m ∷ pos (bit n s) ∷ [])) (concat_map line (subject_rows n (suc s) ms))

    go : (x : Bool) → ltb s 10 ≡ x → length (concat_map line (subject_rows n (suc s) ms)) + 11 * suc s + (10 - suc s) ≤ 704 → length (concat_map line (subject_rows n s (m ∷ ms))) + 11 * s + (10 - s) ≤ 704
    go true e ih = let q : s < 10 = ltb-true s 10 e in omega (arith, both, row, line_more 0 s (m ∷ bit n s ∷ []) (omega arith))
    go false e ih = let q : 10 ≤ s = ltb-false s 10 e in omega (arith, both, row, line_more 1 s (m ∷ bit n s ∷ []) (omega arith))

-- the owner's is the shortest
subjects_short : (n : ℕ) (ms : List ℕ) → length ms ≤ 64 → get_or ms 0 0 ≡ 0 → ((m : ℕ) → m ∈ ms → m ≤ 65535) → length (concat_map line (subject_rows n 0 ms)) ≤ 690
subjects_short n [] l e h = omega arith
subjects_short n (m ∷ ms) l e h =
    omega (
      arith,
      length-append (line (pos 0 ∷ pos m ∷ pos (bit n 0) ∷ [])) (concat_map line (subject_rows n 1 ms)),
      line_more 0 0 (m ∷ bit n 0 ∷ []) (omega arith),
      line_more 0 m (bit n 0 ∷ []) (omega (arith, e)),
      bit_short n 0,
      subjects_from n 1 ms (omega arith) (λ x i. h x (Memᴰ.tail i)),
    )

-- ── the delegations ──

delegation_short : (n : ℕ) (d : Delegation) → n ≤ 64 → DelegationFormed n d → length (line (delegation_row d)) ≤ 24
delegation_short n d l f =
    omega (
      arith,
      line_more 1 d.giver (d.receiver ∷ d.weight ∷ d.need ∷ d.bar ∷ d.kind ∷ []) (omega (arith, f.giver)),
      line_more 1 d.receiver (d.weight ∷ d.need ∷ d.bar ∷ d.kind ∷ []) (omega (arith, f.receiver)),
      line_more 2 d.weight (d.need ∷ d.bar ∷ d.kind ∷ []) (omega (arith, f.weight)),
      line_more 4 d.need (d.bar ∷ d.kind ∷ []) (omega (arith, f.need)),
      line_more 4 d.bar (d.kind ∷ []) (omega (arith, f.bar)),
      line_more 0 d.kind [] (omega (arith, f.kind)),
    )

delegations_short : (n : ℕ) (ds : List Delegation) → n ≤ 64 → ((d : Delegation) → d ∈ ds → DelegationFormed n d) → length (concat_map line (map delegation_row ds)) ≤ 24 * length ds
delegations_short n [] l h = omega arith
delegations_short n (d ∷ ds) l h =
    omega (arith, length-append (line (delegation_row d)) (concat_map line (map delegation_row ds)), delegation_short n d l (h d (Memᴰ.head refl)), delegations_short n ds l (λ e i. h e (Memᴰ.tail i)))

-- ── the whole text ──

names_length : length subject_names ≡ 22
unfolding subject_names
names_length = refl

more_length : length delegation_names ≡ 37
unfolding delegation_names
more_length = refl

module _ (R : Register) where
  length_file : length (file_text R) ≡ 22 + (length (concat_map line (subject_rows R.retired 0 R.marks)) + (37 + length (concat_map line (map delegation_row R.delegations))))
  unfolding file_text
  length_file =
      let S = concat_map line (subject_rows R.retired 0 R.marks) in
      let D = concat_map line (map delegation_row R.delegations) in
      omega (arith, names_length, more_length, length-append subject_names (S ++ (delegation_names ++ D)), length-append S (delegation_names ++ D), length-append delegation_names D)

  pub file_some : 1 ≤ length (file_text R)
  file_some = omega (arith, length_file)

  pub file_short : WellFormed R → length (file_text R) ≤ 6893
  file_short f =
      omega (arith, length_file, f.few, subjects_short R.retired R.marks (omega (arith, f.marked, f.most)) f.owner f.marks, delegations_short R.subjects R.delegations f.most f.each)
