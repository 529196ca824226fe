-- Rows read one after another, as many as there are. Assumes nothing.
use mathlib.Core.Path.{◌≡◌, refl, sym, ap, subst, ◌∙◌}
use mathlib.Core.Logic.{◌≢◌}
use mathlib.Core.Bool.{Bool, true, false}
use mathlib.Core.List.{List, [], ◌∷◌, ◌++◌, append_assoc, append-nil}
use Prim.Native.Nat.{ℕ, ◌-◌, ◌≤◌, ◌<◌}
use native.Mathlib.Omega.{arith}
use lib.IntN.{ℤ}
use lib.ListN.{length, drop, length-append, length-drop}
use Rattle.rules.specs.List.{concat_map}
use Rattle.rules.specs.Register.{Register}
use Rattle.rules.proofs.Lists.{clash}
use Rattle.block.specs.Block.{decode}
use Rattle.block.specs.Fits.{Fitting}
use Rattle.block.proofs.Fitting.{encode_fitting, decode_encode}
use Rattle.text.specs.Text.{line, AllAllowed}
use Rattle.text.specs.Read.{LineRead}
use Rattle.std.specs.Prelude.{None, Some}
use Rattle.text.proofs.Sizes.{line_long}
use Rattle.regfile.specs.FileText.{rows_of, AreRows}
use Rattle.regfile.specs.declared.Part.{Part}
use Rattle.regfile.specs.declared.Part.TheVariants.{Subjects, Delegations}
use Rattle.regfile.specs.Parsed.{with_row, with_rows, RowsHeld, Unformed, columns, RowPut, RowsRead}

-- ── lists of rows ──
rows_last : (w : ℕ) (rs : List (List ℤ)) (r : List ℤ) → AreRows w rs → length r ≡ w → AllAllowed false r → AreRows w (rs ++ (r ∷ []))
rows_last w [] r h l a = (l, a, tt)
rows_last w (x ∷ rs) r h l a = (h.0, h.1, rows_last w rs r h.2 l a)

with_last : (w : ℕ) (R : Register) (rs : List (List ℤ)) (r : List ℤ) → with_rows w R (rs ++ (r ∷ [])) ≡ with_row w (with_rows w R rs) r
with_last w R [] r = refl
with_last w R (x ∷ rs) r = with_last w (with_row w R x) rs r

pub lines_last : (rs : List (List ℤ)) (r : List ℤ) → concat_map line (rs ++ (r ∷ [])) ≡ concat_map line rs ++ line r
lines_last [] r = append-nil (line r)
lines_last (x ∷ rs) r = ap (λ (s : List ℕ). line x ++ s) (lines_last rs r) ∙ sym (append_assoc (line x) (concat_map line rs) (line r))

-- ── the rows so far ──
pub record Reading (text : List ℕ) (w : ℕ) (R : Register) (fits : Bool) (next : ℕ) (kept : Bool) (b : List ℕ) : Type 0 where
  pub rows : List (List ℤ)
  pub formed : AreRows w rows
  pub front : text ≡ concat_map line rows ++ drop next text
  pub within : next ≤ length text
  pub held : kept ≡ true → (fits ≡ true) × RowsHeld w (with_rows w R rows) (rows_of w R ++ rows) b
  pub out : fits ≡ true → kept ≡ false → Unformed w (rows_of w R ++ rows)

-- a part has columns
pub columns_some : (p : Part) → 1 ≤ columns p
columns_some Subjects = omega arith
columns_some Delegations = omega arith

module _ (text : List ℕ) (w : ℕ) (some : 1 ≤ w) (R : Register) (fits : Bool) where
  module _ (next : ℕ) (kept : Bool) (b : List ℕ) (g : Reading text w R fits next kept b) where
    -- no line begins here
    pub rows_end : ((row : List ℤ) (rest : List ℕ) → length row ≡ w → AllAllowed false row → drop next text ≢ line row ++ rest) → RowsRead text w R fits (record { next = next; fits = kept }) b
    rows_end last = record { rows = g.rows; formed = g.formed; front = g.front; within = g.within; last = last; held = g.held; out = g.out }

    -- the text ends here
    pub text_end : length text ≤ next → RowsRead text w R fits (record { next = next; fits = kept }) b
    text_end l = rows_end (λ row rest k a e.
        absurd (omega (arith, ap length e, length-append (line row) rest, line_long row, k, some, length-drop next text, l)))

    -- what is here is read as no line
    pub no_row : (before after : List ℤ) → length before ≡ w → LineRead text next false before None after → RowsRead text w R fits (record { next = next; fits = kept }) b
    no_row before after size m = rows_end (λ row rest k a e. m.each row rest (k ∙ sym size) a e)

    module _ (end : ℕ) (before after : List ℤ) (m : LineRead text next false before (Some end) after) (long : length after ≡ w) where
      pub row_within : end ≤ length text
      row_within =
          let q = m.read in
          omega (arith, ap length q.2, length-append (line after) (drop end text), length-drop next text, length-drop end text, q.1, g.within)

      pub row_less : length text - end < length text - next
      row_less = let q = m.read in omega (arith, q.1, row_within, line_long after, long, some)

      front_more : text ≡ concat_map line (g.rows ++ (after ∷ [])) ++ drop end text
      front_more =
          g.front
          ∙ ap (λ (s : List ℕ). concat_map line g.rows ++ s) m.read.2
          ∙ sym (append_assoc (concat_map line g.rows) (line after) (drop end text))
          ∙ ap (λ (s : List ℕ). s ++ drop end text) (sym (lines_last g.rows after))

      formed_more : AreRows w (g.rows ++ (after ∷ []))
      formed_more = rows_last w g.rows after g.formed long m.read.0

      -- not stored: one before it was left out
      pub row_passed : kept ≡ false → Reading text w R fits end kept b
      row_passed k = record {
        rows = g.rows ++ (after ∷ []);
        formed = formed_more;
        front = front_more;
        within = row_within;
        held = λ t. clash (sym t ∙ k);
        out = λ u t S h more e. g.out u k S h ((after ∷ []) ++ more)
            (e ∙ ap (λ (x : List (List ℤ)). x ++ more) (sym (append_assoc (rows_of w R) g.rows (after ∷ []))) ∙ append_assoc (rows_of w R ++ g.rows) (after ∷ []) more);
      }

      module _ (k : kept ≡ true) where
        -- the block is one to which a row can be added
        pub row_fitting : Fitting b
        row_fitting = let h = (g.held k).1 in subst Fitting (sym h.bytes) (encode_fitting (with_rows w R g.rows) h.fits)

        decoded : decode b ≡ with_rows w R g.rows
        decoded = let h = (g.held k).1 in ap decode h.bytes ∙ decode_encode (with_rows w R g.rows) h.fits

        -- stored, or left out
        pub row_put : (o : Bool) (c : List ℕ) → RowPut w (decode b) after o c → Reading text w R fits end o c
        row_put o c p = record {
          rows = g.rows ++ (after ∷ []);
          formed = formed_more;
          front = front_more;
          within = row_within;
          held = λ t. ((g.held k).0, held t);
          out = λ u t. subst (Unformed w) joined (q.out t);
        }
          where
            q : RowPut w (with_rows w R g.rows) after o c
            q = subst (λ (x : Register). RowPut w x after o c) decoded p

            joined : rows_of w (with_rows w R g.rows) ++ (after ∷ []) ≡ rows_of w R ++ (g.rows ++ (after ∷ []))
            joined = ap (λ (x : List (List ℤ)). x ++ (after ∷ [])) (g.held k).1.same ∙ append_assoc (rows_of w R) g.rows (after ∷ [])

            held : o ≡ true → RowsHeld w (with_rows w R (g.rows ++ (after ∷ []))) (rows_of w R ++ (g.rows ++ (after ∷ []))) c
            held t = subst (λ (x : Register). RowsHeld w x (rows_of w R ++ (g.rows ++ (after ∷ []))) c) (sym (with_last w R g.rows after))
                (subst (λ (x : List (List ℤ)). RowsHeld w (with_row w (with_rows w R g.rows) after) x c) joined (q.put t))

-- before the first row
pub rows_start : (text : List ℕ) (w : ℕ) (b : List ℕ) (fits : Bool) → (fits ≡ true → Fitting b) → Reading text w (decode b) fits 0 fits b
rows_start text w b fits h = record {
  rows = [];
  formed = tt;
  front = refl;
  within = omega arith;
  held = λ t. (t, record { fits = (h t).fits; bytes = (h t).written; same = sym (append-nil (rows_of w (decode b))) });
  out = λ t f. clash (sym t ∙ f);
}
