-- A register's text written row by row. Assumes nothing.
use mathlib.Core.Path.{◌≡◌, refl, sym, ap, subst, ◌∙◌}
use mathlib.Core.Logic.{◌≢◌}
use mathlib.Core.Bool.{Bool, true, false, not}
use mathlib.Core.List.{List, [], ◌∷◌, ◌++◌, map, append-nil}
use Prim.Native.Nat.{ℕ, zero, suc, ◌+◌, ◌≤◌, ◌<◌}
use native.Mathlib.Nat.{zero-add, add-zero, le_of_suc-le-suc, not-suc-le-zero}
use native.Mathlib.Numerals.{add-one}
use native.Mathlib.Omega.{arith}
use borrow.Author.Tests.{ne_eqb}
use lib.Dec.{T}
use lib.IntN.{ℤ, pos}
use lib.ListN.{length, get_or, take, drop, length-append, length-map, take-append-drop, get_or-map}
use lib.Seq.{take-suc, take_all}
use mir.Syntax.{w64}
use mir.Val.{of_z, to_z, bool_byte}
use Rattle.rules.specs.List.{concat_map}
use Rattle.rules.specs.Bits.{bit, is_set}
use Rattle.rules.specs.Register.{Register, no_delegation}
use Rattle.rules.proofs.Retired.{bit_set, bit_unset}
use Rattle.rules.proofs.Signed.{get_or_within}
use Rattle.text.specs.Text.{line, AllAllowed}
use Rattle.text.specs.Write.{Room, Written}
use Rattle.text.proofs.Signed.{held}
use Rattle.text.proofs.Writing.{put_nil, put_length, then_written, then_room}
use Rattle.block.specs.Layout.{most_subjects}
use Rattle.block.specs.Bytes.{IsBytes}
use Rattle.block.specs.Block.{subjects_in, count_in, retired_in, decode}
use Rattle.block.specs.Records.{HasRetired, HasRecord, marks_for, delegation_at}
use Rattle.block.specs.WellFormed.{well_formed}
use Rattle.block.proofs.Held.{rules_of, size_held, has_records, held_formed, subjects_held_lem, retired_held, count_held, marks_held, delegation_held}
use Rattle.change.proofs.Rewrite.{concat_map_append}
use Rattle.regfile.specs.FileText.{subject_names, delegation_names, subject_rows, delegation_row, subject_columns, delegation_columns, rows_of, file_text}
use Rattle.regfile.proofs.FileRight.{length_subjects}

-- ── one row, as the machine holds it ──

-- each has room in two bytes
abbrev pub Small : List ℕ → Type 0
Small [] = Unit {0}
Small (n ∷ ns) = (n ≤ 65535) × Small ns

small_allowed : (ns : List ℕ) → Small ns → AllAllowed true (map pos ns)
small_allowed [] h = tt
small_allowed (n ∷ ns) h = (omega (arith, h.0), small_allowed ns h.1)

-- a number read, and the one that is meant
pub column_is : {x : ℤ} {n m : ℕ} → x ≡ pos n → n ≡ m → n ≤ 65535 → to_z w64 (of_z w64 x) ≡ pos m
column_is {n} e q h = held {y = pos n} e (omega (arith, h)) ∙ ap pos q

-- the numbers written, and those meant
module _ (zs : List ℤ) (ms : List ℕ) (h : Small ms) (e : zs ≡ map pos ms) where
  pub row_room : (at : ℕ) (buf : List ℕ) → Room at (line (map pos ms)) buf → AllAllowed true zs × Room at (line zs) buf
  row_room at buf l = subst (λ (zs : List ℤ). AllAllowed true zs × Room at (line zs) buf) (sym e) (small_allowed ms h, l)

  pub row_written : (at : ℕ) (buf : List ℕ) (r : ℕ) (buf' : List ℕ) → Written at (line zs) buf r buf' → Written at (line (map pos ms)) buf r buf'
  row_written at buf r buf' w = subst (λ (zs : List ℤ). Written at (line zs) buf r buf') e w

-- whether a subject is retired, as a number
pub retired_is : (n s : ℕ) (b : Bool) → b ≡ is_set n s → bool_byte b ≡ bit n s
retired_is n s true e = sym (bit_set n s (subst T e tt))
retired_is n s false e = sym (bit_unset n s (subst (λ (x : Bool). T (not x)) e tt))

-- ── the rows by their place ──

subject_row_lem : (n s i : ℕ) (ms : List ℕ) → i < length ms → get_or (subject_rows n s ms) i [] ≡ map pos ((s + i) ∷ get_or ms i 0 ∷ bit n (s + i) ∷ [])
subject_row_lem n s i [] l = absurd (not-suc-le-zero l)
subject_row_lem n s zero (m ∷ ms) l = ap (λ (k : ℕ). map pos (k ∷ m ∷ bit n k ∷ [])) (sym (add-zero s))
subject_row_lem n s (suc i) (m ∷ ms) l = let e : suc s + i ≡ s + suc i = omega arith in subject_row_lem n (suc s) i ms (le_of_suc-le-suc l) ∙ ap (λ (k : ℕ). map pos (k ∷ get_or ms i 0 ∷ bit n k ∷ [])) e

module _ (b : List ℕ) (bytes : IsBytes b) (formed : well_formed b ≡ true) where
  marks_count : length (decode b).marks ≡ subjects_in b
  marks_count = (held_formed b bytes formed).marked ∙ subjects_held_lem b bytes formed

  pub subject_count : length (rows_of subject_columns (decode b)) ≡ subjects_in b
  subject_count = length_subjects (decode b).retired 0 (decode b).marks ∙ marks_count

  pub delegation_count : length (rows_of delegation_columns (decode b)) ≡ count_in b
  delegation_count = length-map (decode b).delegations delegation_row ∙ count_held b bytes formed

  module _ (w k : ℕ) (l : k < length (rows_of w (decode b))) where
    pub subject_at : w ≡ subject_columns → HasRetired b × (k < most_subjects) × (get_or (rows_of w (decode b)) k [] ≡ map pos (k ∷ marks_for b k ∷ bit (retired_in b) k ∷ []))
    subject_at e =
        let m : k < subjects_in b = subst (λ (n : ℕ). k < n) (ap (λ (c : ℕ). length (rows_of c (decode b))) e ∙ subject_count) l in (
          omega (arith, size_held b bytes formed),
          omega (arith, m, (rules_of b bytes formed).most),
          ap (λ (c : ℕ). get_or (rows_of c (decode b)) k []) e
              ∙ subject_row_lem (decode b).retired 0 k (decode b).marks (omega (arith, m, marks_count))
              ∙ (λ p. map pos (zero-add k p ∷ sym (marks_held b bytes formed k m) p ∷ bit (retired_held b bytes formed p) (zero-add k p) ∷ [])),
        )

    pub delegation_at_lem : w ≢ subject_columns → HasRecord b k × (get_or (rows_of w (decode b)) k [] ≡ delegation_row (delegation_at b k))
    delegation_at_lem q =
        let e : rows_of w (decode b) ≡ map delegation_row (decode b).delegations = rw (ne_eqb w subject_columns q) in
        let m : k < count_in b = subst (λ (n : ℕ). k < n) (ap length e ∙ delegation_count) l in (
          omega (arith, m, has_records b bytes formed),
          get_or_within (rows_of w (decode b)) k [] (delegation_row no_delegation) l
              ∙ ap (λ (rows : List (List ℤ)). get_or rows k (delegation_row no_delegation)) e
              ∙ get_or-map delegation_row (decode b).delegations k no_delegation
              ∙ ap delegation_row (sym (delegation_held b bytes formed k m)),
        )

-- ── rows one after another ──

-- the first k of them are written at `at`
pub record RowsWritten (rows : List (List ℤ)) (at : ℕ) (before : List ℕ) (k next : ℕ) (buf : List ℕ) : Type 0 where
  pub size : length buf ≡ length before
  pub done : Written at (concat_map line (take k rows)) before next buf

module _ (rows : List (List ℤ)) (at : ℕ) (before : List ℕ) (h : Room at (concat_map line rows) before) where
  pub rows_start : RowsWritten rows at before 0 at before
  rows_start = record { size = refl; done = record { next = sym (add-zero at); bytes = sym (put_nil at before) } }

  module _ (k next : ℕ) (buf : List ℕ) (w : RowsWritten rows at before k next buf) where
    pub rows_end : length rows ≤ k → Written at (concat_map line rows) before next buf
    rows_end l = subst (λ (s : List (List ℤ)). Written at (concat_map line s) before next buf) (take_all k rows l) w.done

    module _ (l : k < length rows) where
      -- those written, and the next
      part : concat_map line (take (suc k) rows) ≡ concat_map line (take k rows) ++ line (get_or rows k [])
      part =
          ap (concat_map line) (take-suc rows k [] l) ∙ concat_map_append line (take k rows) (get_or rows k [] ∷ [])
          ∙ ap (λ (s : List ℕ). concat_map line (take k rows) ++ s) (append-nil (line (get_or rows k [])))

      fits : Room at (concat_map line (take k rows) ++ line (get_or rows k [])) before
      fits =
          let e = ap length (sym (concat_map_append line (take (suc k) rows) (drop (suc k) rows)) ∙ ap (concat_map line) (take-append-drop (suc k) rows)) in
          omega (arith, h, ap length part, e, length-append (concat_map line (take (suc k) rows)) (concat_map line (drop (suc k) rows)))

      pub rows_room : Room next (line (get_or rows k [])) buf
      rows_room = then_room at (concat_map line (take k rows)) (line (get_or rows k [])) before next buf fits w.done

      pub rows_more : (r : ℕ) (mid : List ℕ) → Written next (line (get_or rows k [])) buf r mid → RowsWritten rows at before (k + 1) r mid
      rows_more r mid v = subst (λ (j : ℕ). RowsWritten rows at before j r mid) (sym (add-one k)) record {
        size = ap length v.bytes ∙ put_length next (line (get_or rows k [])) buf rows_room ∙ w.size;
        done = subst (λ (s : List ℕ). Written at s before r mid) (sym part) (then_written at (concat_map line (take k rows)) (line (get_or rows k [])) before next buf r mid fits w.done v);
      }

-- ── the whole text ──

module _ (R : Register) (before : List ℕ) (h : Room 0 (file_text R) before) where
  abbrev subjects : List ℕ
  subjects = concat_map line (rows_of subject_columns R)

  abbrev delegations : List ℕ
  delegations = concat_map line (rows_of delegation_columns R)

  pub names_room : Room 0 subject_names before
  unfolding file_text
  names_room = omega (arith, h, length-append subject_names (subjects ++ (delegation_names ++ delegations)))

  module _ (r : ℕ) (mid : List ℕ) (w : Written 0 subject_names before r mid) where
    after_names : Room r (subjects ++ (delegation_names ++ delegations)) mid
    unfolding file_text
    after_names = then_room 0 subject_names (subjects ++ (delegation_names ++ delegations)) before r mid h w

    pub subjects_room : Room r subjects mid
    subjects_room = omega (arith, after_names, length-append subjects (delegation_names ++ delegations))

    module _ (r₂ : ℕ) (mid₂ : List ℕ) (w₂ : Written r subjects mid r₂ mid₂) where
      after_subjects : Room r₂ (delegation_names ++ delegations) mid₂
      after_subjects = then_room r subjects (delegation_names ++ delegations) mid r₂ mid₂ after_names w₂

      pub more_room : Room r₂ delegation_names mid₂
      more_room = omega (arith, after_subjects, length-append delegation_names delegations)

      module _ (r₃ : ℕ) (mid₃ : List ℕ) (w₃ : Written r₂ delegation_names mid₂ r₃ mid₃) where
        pub delegations_room : Room r₃ delegations mid₃
        delegations_room = then_room r₂ delegation_names delegations mid₂ r₃ mid₃ after_subjects w₃

        pub all_written : (r₄ : ℕ) (last : List ℕ) → Written r₃ delegations mid₃ r₄ last → Written 0 (file_text R) before r₄ last
        unfolding file_text
        all_written r₄ last w₄ =
            then_written 0 subject_names (subjects ++ (delegation_names ++ delegations)) before r mid r₄ last h w
            (then_written r subjects (delegation_names ++ delegations) mid r₂ mid₂ r₄ last after_names w₂
            (then_written r₂ delegation_names delegations mid₂ r₃ mid₃ r₄ last after_subjects w₃ w₄))
