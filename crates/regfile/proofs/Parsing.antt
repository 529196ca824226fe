-- A whole text: refused by its form, by its numbers, or read. Assumes nothing.
use mathlib.Core.Path.{◌≡◌, refl, sym, ap, subst, ◌∙◌}
use mathlib.Core.Logic.{◌≢◌}
use mathlib.Core.Bool.{Bool, true, false}
use mathlib.Core.List.Memᴰ
use mathlib.Core.List.{List, [], ◌∷◌, ◌++◌, map, append_assoc, append-nil}
use Prim.Native.Nat.{ℕ, suc, ◌-◌, ◌^◌, ◌≤◌, ◌<◌}
use native.Mathlib.Omega.{arith}
use lib.IntN.{ℤ, pos, negsuc}
use lib.ListN.{length, get_or, take, drop, length-append, length-drop, drop_of_length-le}
use lib.Seq.{take_all}
use Rattle.rules.specs.List.{concat_map}
use Rattle.rules.specs.Register.{Register}
use Rattle.rules.specs.WellFormed.{WellFormed}
use Rattle.rules.proofs.Lists.{clash, T_true}
use Rattle.block.specs.Block.{decode, encode}
use Rattle.block.specs.WellFormed.{well_formed}
use Rattle.block.specs.Fits.{Fits, Fitting, empty}
use Rattle.block.proofs.Fitting.{encode_fitting, decode_encode, formed_fits}
use Rattle.block.proofs.Form.{encode_formed}
use Rattle.block.proofs.Held.{fits_formed}
use Rattle.text.specs.Text.{line, AllAllowed}
use Rattle.text.proofs.Rows.{rows_line, rows_empty}
use Rattle.text.proofs.Sizes.{line_long}
use Rattle.text.proofs.Injective.{line_inj}
use Rattle.text.specs.Rows.{rows}
use Rattle.regfile.specs.FileText.{subject_names, delegation_names, subject_columns, delegation_columns, subject_rows, delegation_row, rows_of, file_of, file_text, AreRows, FileLines, Filed, refused_file, passing_file, value_at, delegation_of, bits_of, filed}
use Rattle.regfile.specs.Parsed.{with_row, with_rows, RowsHeld, RowsRead, Parsed}
use Rattle.regfile.specs.declared.Rows.{Rows}
use Rattle.regfile.proofs.FileRight.{filed_right, known_rows, subject_marks, subject_bits, delegation_rows}

-- ── lines one after another ──

-- no line of w values begins here
abbrev pub NoRow : ℕ → List ℕ → Type 0
NoRow w s = (row : List ℤ) (rest : List ℕ) → length row ≡ w → AllAllowed false row → s ≢ line row ++ rest

signed_too : (zs : List ℤ) → AllAllowed false zs → AllAllowed true zs
signed_too [] h = tt
signed_too (pos n ∷ zs) h = (h.0, signed_too zs h.1)
signed_too (negsuc n ∷ zs) h = absurd h.0

-- the lines at the front of a text, as many as there are, are determined
pub lines_unique : (w : ℕ) (xs ys : List (List ℤ)) (s t : List ℕ) → AreRows w xs → AreRows w ys → NoRow w s → NoRow w t → concat_map line xs ++ s ≡ concat_map line ys ++ t → (xs ≡ ys) × (s ≡ t)
lines_unique w [] [] s t a b m n e = (refl, e)
lines_unique w [] (y ∷ ys) s t a b m n e = absurd (m y (concat_map line ys ++ t) b.0 b.1 (e ∙ append_assoc (line y) (concat_map line ys) t))
lines_unique w (x ∷ xs) [] s t a b m n e = absurd (n x (concat_map line xs ++ s) a.0 a.1 (sym e ∙ append_assoc (line x) (concat_map line xs) s))
lines_unique w (x ∷ xs) (y ∷ ys) s t a b m n e =
    let q = line_inj x y (concat_map line xs ++ s) (concat_map line ys ++ t) (a.0 ∙ sym b.0) (signed_too x a.1) (signed_too y b.1)
    (sym (append_assoc (line x) (concat_map line xs) s) ∙ e ∙ append_assoc (line y) (concat_map line ys) t) in
    let r = lines_unique w xs ys s t a.2 b.2 m n q.1 in
    (λ i. q.0 i ∷ r.0 i, r.1)

-- an empty line is no row, nor is the end of the text
pub empty_apart : (w : ℕ) (s : List ℕ) → NoRow (suc w) (10 ∷ s)
empty_apart w s row rest l a e =
    let some : row ≢ [] = λ z. absurd (omega (arith, l, ap length z)) in
    let q : ◌≡◌ {A = List (List ℤ)} ([] ∷ rows s) (row ∷ rows rest) = sym (rows_empty s) ∙ ap rows e ∙ rows_line row rest some in
    some (ap (λ (x : List (List ℤ)). get_or x 0 []) (sym q))

pub end_apart : (w : ℕ) → NoRow (suc w) []
end_apart w row rest l a e = absurd (omega (arith, ap length e, length-append (line row) rest, line_long row, l))

pub names_apart : (w : ℕ) (s : List ℕ) → NoRow (suc w) (delegation_names ++ s)
unfolding delegation_names
names_apart w s = empty_apart w _

-- ── the rows of the other part stay ──
marks_stay : (R : Register) (rs : List (List ℤ)) → (with_rows delegation_columns R rs).marks ≡ R.marks
marks_stay R [] = refl
marks_stay R (r ∷ rs) = marks_stay (with_row delegation_columns R r) rs

retired_stay : (R : Register) (rs : List (List ℤ)) → (with_rows delegation_columns R rs).retired ≡ R.retired
retired_stay R [] = refl
retired_stay R (r ∷ rs) = retired_stay (with_row delegation_columns R r) rs

delegations_stay : (R : Register) (rs : List (List ℤ)) → (with_rows subject_columns R rs).delegations ≡ R.delegations
delegations_stay R [] = refl
delegations_stay R (r ∷ rs) = delegations_stay (with_row subject_columns R r) rs

-- two registers with the same rows
same_rows : (R S : Register) → Fits R → Fits S → rows_of subject_columns R ≡ rows_of subject_columns S → rows_of delegation_columns R ≡ rows_of delegation_columns S → R ≡ S
same_rows R S a b p q =
    let m : R.marks ≡ S.marks = sym (subject_marks R.retired 0 R.marks) ∙ ap (map (λ row. value_at row 1)) p ∙ subject_marks S.retired 0 S.marks in
    let n : R.subjects ≡ S.subjects = sym a.marked ∙ ap length m ∙ b.marked in
    let r : R.retired ≡ S.retired = sym (subject_bits R.retired R.marks (room R a)) ∙ ap (λ (rs : List (List ℤ)). bits_of (map (λ row. value_at row 2) rs)) p ∙ subject_bits S.retired S.marks (room S b) in
    let d : R.delegations ≡ S.delegations = sym (delegation_rows R.delegations) ∙ ap (map delegation_of) q ∙ delegation_rows S.delegations in
    λ i. record { subjects = n i; marks = m i; retired = r i; delegations = d i }
  where
    room : (X : Register) → Fits X → X.retired < 2 ^ length X.marks
    room X f = subst (λ (k : ℕ). X.retired < 2 ^ k) (sym f.marked) f.bits

-- no subject and no delegation have room
pub empty_fits : Fits empty
empty_fits = record { most = omega arith; marked = refl; marks = λ m i. absurd (Memᴰ.not-nil i); bits = omega arith; few = omega arith; each = λ d i. absurd (Memᴰ.not-nil i) }

-- the part of a text from a place on
pub part_is : (s : List ℕ) (n : ℕ) → take (length s - n) (drop n s) ≡ drop n s
part_is s n = take_all (length s - n) (drop n s) (omega (arith, length-drop n s))

-- ── what is returned ──
refused_text_lem : (text : List ℕ) (n : ℕ) (after : List ℕ) → n ≢ 0 → filed text ≡ refused_file n → Parsed text n after
refused_text_lem text n after h e = record { refusal = ap (λ (f : Filed). f.refusal) (sym e); bytes = λ z. absurd (h z) }

module _ (text : List ℕ) where
  -- text of another form
  other_form : (after : List ℕ) → ((ss ds : List (List ℤ)) → FileLines text ss ds → ⊥) → Parsed text 7 after
  other_form after n = refused_text_lem text 7 after (λ z. absurd (omega arith)) (filed_right.malformed text n)

  pub no_names : (after : List ℕ) → ((rest : List ℕ) → text ≢ subject_names ++ rest) → Parsed text 7 after
  no_names after n = other_form after (λ ss ds h. n (concat_map line ss ++ (delegation_names ++ concat_map line ds)) h.same)

  -- where the rows of subjects begin
  pub names_after : (s : List ℕ) → text ≡ subject_names ++ s → drop 22 text ≡ s
  unfolding subject_names
  names_after s e = ap (drop 22) e

  module _ (front b₀ b₁ : List ℕ) (first : text ≡ subject_names ++ front) (start : b₀ ≡ encode empty) (r₁ : Rows) (m₁ : RowsRead front subject_columns (decode b₀) true r₁ b₁) where
    -- the text goes on after the subjects of every file
    subjects_known : (ss ds : List (List ℤ)) → FileLines text ss ds → (m₁.rows ≡ ss) × (drop r₁.next front ≡ delegation_names ++ concat_map line ds)
    subjects_known ss ds h =
        lines_unique subject_columns m₁.rows ss (drop r₁.next front) (delegation_names ++ concat_map line ds) m₁.formed h.subjects m₁.last (names_apart 2 (concat_map line ds))
        (sym m₁.front ∙ sym (names_after front first) ∙ names_after (concat_map line ss ++ (delegation_names ++ concat_map line ds)) h.same)

    pub no_middle : (after : List ℕ) → ((rest : List ℕ) → drop r₁.next front ≢ delegation_names ++ rest) → Parsed text 7 after
    no_middle after n = other_form after (λ ss ds h. n (concat_map line ds) (subjects_known ss ds h).1)

    -- the block that the rows of delegations are put into
    pub put_into : r₁.fits ≡ true → Fitting b₁
    put_into t = let h = (m₁.held t).1 in subst Fitting (sym h.bytes) (encode_fitting (with_rows subject_columns (decode b₀) m₁.rows) h.fits)

    -- ── after the second line of names ──
    module _ (back b₂ : List ℕ) (second : drop r₁.next front ≡ delegation_names ++ back) (r₂ : Rows) (m₂ : RowsRead back delegation_columns (decode b₁) r₁.fits r₂ b₂) where
      delegations_known : (ss ds : List (List ℤ)) → FileLines text ss ds → (m₂.rows ≡ ds) × (drop r₂.next back ≡ [])
      unfolding delegation_names
      delegations_known ss ds h =
          lines_unique delegation_columns m₂.rows ds (drop r₂.next back) [] m₂.formed h.delegations m₂.last (end_apart 5)
          (sym m₂.front ∙ ap (drop 37) (sym second ∙ (subjects_known ss ds h).1) ∙ sym (append-nil (concat_map line ds)))

      pub more_follows : (after : List ℕ) → r₂.next < length back → Parsed text 7 after
      more_follows after l = other_form after (λ ss ds h. absurd (omega (arith, ap length (delegations_known ss ds h).1, length-drop r₂.next back, l)))

      -- ── the text has its form ──
      module _ (end : length back ≤ r₂.next) where
        lines : FileLines text m₁.rows m₂.rows
        lines = record {
          subjects = m₁.formed;
          delegations = m₂.formed;
          same = first ∙ ap (λ (s : List ℕ). subject_names ++ s) (m₁.front ∙ ap (λ (s : List ℕ). concat_map line m₁.rows ++ s) (second ∙ ap (λ (s : List ℕ). delegation_names ++ s)
              (m₂.front ∙ ap (λ (s : List ℕ). concat_map line m₂.rows ++ s) (drop_of_length-le back end) ∙ append-nil (concat_map line m₂.rows))));
        }

        -- the rows of a well-formed register whose text this is
        known : (R : Register) → WellFormed R → text ≡ file_text R → (m₁.rows ≡ rows_of subject_columns R) × (m₂.rows ≡ rows_of delegation_columns R)
        known = known_rows text m₁.rows m₂.rows lines

        not_formed : (after : List ℕ) → ((R : Register) → WellFormed R → text ≢ file_text R) → Parsed text 8 after
        not_formed after n = refused_text_lem text 8 after (λ z. absurd (omega arith)) (filed_right.unformed text m₁.rows m₂.rows lines n)

        empty_decoded : decode b₀ ≡ empty
        empty_decoded = ap decode start ∙ decode_encode empty empty_fits

        -- the rows of subjects after the empty register's, which has none
        module _ (k₁ : r₁.fits ≡ true) where
          S₁ : Register
          S₁ = with_rows subject_columns empty m₁.rows

          held₁ : RowsHeld subject_columns S₁ m₁.rows b₁
          unfolding S₁
          held₁ = subst (λ (x : Register). RowsHeld subject_columns (with_rows subject_columns x m₁.rows) (rows_of subject_columns x ++ m₁.rows) b₁) empty_decoded (m₁.held k₁).1

          decoded₁ : decode b₁ ≡ S₁
          decoded₁ = ap decode held₁.bytes ∙ decode_encode S₁ held₁.fits

          no_delegations : rows_of delegation_columns (decode b₁) ≡ []
          unfolding S₁
          no_delegations = ap (rows_of delegation_columns) decoded₁ ∙ ap (map delegation_row) (delegations_stay empty m₁.rows)

        unfit : r₂.fits ≡ false → (R : Register) → WellFormed R → text ≢ file_text R
        unfit k₂ R f e = go r₁.fits refl
          where
            go : (x : Bool) → r₁.fits ≡ x → ⊥
            go false k₁ = m₁.out refl k₁ R f [] (sym (known R f e).0 ∙ sym (append-nil m₁.rows) ∙ ap (λ (x : Register). (rows_of subject_columns x ++ m₁.rows) ++ []) (sym empty_decoded))
            go true k₁ = m₂.out k₁ k₂ R f [] (sym (known R f e).1 ∙ sym (append-nil m₂.rows) ∙ ap (λ (x : List (List ℤ)). (x ++ m₂.rows) ++ []) (sym (no_delegations k₁)))

        pub no_room : (after : List ℕ) → r₂.fits ≡ false → Parsed text 8 after
        no_room after k₂ = not_formed after (unfit k₂)

        module _ (k₂ : r₂.fits ≡ true) where
          k₁ : r₁.fits ≡ true
          k₁ = (m₂.held k₂).0

          S₂ : Register
          S₂ = with_rows delegation_columns (S₁ k₁) m₂.rows

          held₂ : RowsHeld delegation_columns S₂ m₂.rows b₂
          unfolding S₂
          held₂ =
              let h = subst (λ (x : Register). RowsHeld delegation_columns (with_rows delegation_columns x m₂.rows) (rows_of delegation_columns (decode b₁) ++ m₂.rows) b₂) (decoded₁ k₁) (m₂.held k₂).1 in
              subst (λ (x : List (List ℤ)). RowsHeld delegation_columns (with_rows delegation_columns (S₁ k₁) m₂.rows) (x ++ m₂.rows) b₂) (no_delegations k₁) h

          subjects₂ : rows_of subject_columns S₂ ≡ m₁.rows
          unfolding S₂
          subjects₂ = (λ j. subject_rows (retired_stay (S₁ k₁) m₂.rows j) 0 (marks_stay (S₁ k₁) m₂.rows j)) ∙ (held₁ k₁).same

          pub not_well_formed_lem : (after : List ℕ) → well_formed b₂ ≡ false → Parsed text 8 after
          not_well_formed_lem after w = not_formed after (λ R f e.
              let q : R ≡ S₂ = same_rows R S₂ (formed_fits R f) held₂.fits (sym (known R f e).0 ∙ sym subjects₂) (sym (known R f e).1 ∙ sym held₂.same) in
              clash (sym (T_true (well_formed (encode R)) (encode_formed R f)) ∙ ap (λ (x : Register). well_formed (encode x)) q ∙ ap well_formed (sym held₂.bytes) ∙ w))

          whole : file_of m₁.rows m₂.rows ≡ file_text S₂
          unfolding file_text
          whole = λ i. file_of (sym subjects₂ i) (sym held₂.same i)

          pub read_whole : well_formed b₂ ≡ true → Parsed text 0 b₂
          read_whole w =
              let f = fits_formed S₂ held₂.fits (ap well_formed (sym held₂.bytes) ∙ w) in
              let e : text ≡ file_text S₂ = lines.same ∙ whole in
              let p : filed text ≡ passing_file S₂ = ap filed e ∙ filed_right.formed S₂ f in
              record { refusal = ap (λ (x : Filed). x.refusal) (sym p); bytes = λ z. held₂.bytes ∙ ap (λ (x : Filed). encode x.register) (sym p) }
