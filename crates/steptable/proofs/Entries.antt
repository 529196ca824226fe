-- The lines of a table's text read one by one. Assumes nothing.
use Rattle.std.proofs.lemmas.Bool.{false≢true}
use mathlib.Core.Path.{◌≡◌, refl, sym, ap, subst, ◌∙◌}
use mathlib.Core.Logic.{◌≢◌}
use mathlib.Core.Bool.{Bool, true, false}
use mathlib.Core.List.{List, [], ◌∷◌, ◌++◌, append_assoc, append-nil}
use Prim.Native.Nat.{ℕ, zero, suc, ◌+◌, ◌≤◌, ◌<◌}
use native.Mathlib.Nat.{le_of_suc-le-suc, not-suc-le-zero, add-zero, zero-add, add-suc, suc-add}
use native.Mathlib.Numerals.{add-one}
use native.Mathlib.Omega.{arith}
use borrow.Author.Tests.{leb-true, leb-false}
use lib.Dec.{leb}
use lib.IntN.{ℤ, pos}
use lib.ListN.{length, get_or, take, drop, set, length-set, length-drop, drop_of_length-le}
use lib.Seq.{take-suc, take_all, drop-cons, take-set-le, get_or-set_same, length-take-le}
use mir.Syntax.{w64}
use mir.Val.{of_z, to_z}
use Rattle.std.specs.Prelude.{None, Some}
use Rattle.text.specs.declared.Found.{Found}
use Rattle.text.proofs.Signed.{kept, allowed_fits}
use Rattle.steptable.specs.TableText.{table_names, entry_line, table_lines, IsNext, AreNexts, Holds}
use Rattle.steptable.specs.Read.{EntryRead, EntriesRead}

-- ── entries ──
pub entry_at : (xs : List ℤ) (i : ℕ) → i < length xs → AreNexts xs → IsNext (get_or xs i (pos 0))
entry_at [] i h a = absurd (not-suc-le-zero h)
entry_at (x ∷ xs) zero h a = a.0
entry_at (x ∷ xs) (suc i) h a = entry_at xs i (le_of_suc-le-suc h) a.1

entries_more : (xs : List ℤ) (x : ℤ) → AreNexts xs → IsNext x → AreNexts (xs ++ (x ∷ []))
entries_more [] x a e = (e, tt)
entries_more (y ∷ ys) x a e = (a.0, entries_more ys x a.1 e)

lines_more : (w : ℕ) (xs : List ℤ) (x : ℤ) → table_lines w (xs ++ (x ∷ [])) ≡ table_lines w xs ++ entry_line (w + length xs) x
lines_more w [] x = append-nil (entry_line w x) ∙ ap (λ (k : ℕ). entry_line k x) (sym (add-zero w))
lines_more w (y ∷ ys) x =
    ap (λ (s : List ℕ). entry_line w y ++ s) (lines_more (suc w) ys x)
    ∙ sym (append_assoc (entry_line w y) (table_lines (suc w) ys) (entry_line (suc w + length ys) x))
    ∙ ap (λ (k : ℕ). (entry_line w y ++ table_lines (suc w) ys) ++ entry_line k x) (suc-add w (length ys) ∙ sym (add-suc w (length ys)))

-- ── the lines from `at` on are what those from weight w on must be ──
pub record Reading (lines : List ℕ) (at w : ℕ) (entries : List ℤ) : Type 0 where
  pub long : length entries ≡ 256
  pub good : AreNexts (take w entries)
  pub front : lines ≡ table_lines 0 (take w entries) ++ drop at lines
  pub rest : (t : List ℤ) → Holds (table_names ++ lines) t → drop at lines ≡ table_lines w (drop w t)

pub no_names : (text : List ℕ) (entries : List ℤ) → ((rest : List ℕ) → text ≢ table_names ++ rest) → EntriesRead text false entries
no_names text entries h = record { yes = λ f. absurd (false≢true f); no = λ f t k. h (table_lines 0 t) k.same }

module _ (lines : List ℕ) where
  pub names : (entries : List ℤ) → length entries ≡ 256 → Reading lines 0 0 entries
  unfolding table_names
  names entries l = record {
    long = l;
    good = tt;
    front = refl;
    rest = λ t k. ap (drop 12) k.same;
  }

  module _ (at w : ℕ) (entries : List ℤ) (r : Reading lines at w entries) where
    finished : 256 ≤ w → length lines ≤ at → EntriesRead (table_names ++ lines) true entries
    finished h l =
        let q : take w entries ≡ entries = take_all w entries (omega (arith, r.long)) in
        let n : drop at lines ≡ [] = drop_of_length-le lines l in
        record {
          yes = λ f. record {
            size = r.long;
            entries = subst AreNexts q r.good;
            same = ap (λ (s : List ℕ). table_names ++ s) (r.front ∙ (λ i. table_lines 0 (q i) ++ n i) ∙ append-nil (table_lines 0 entries));
          };
          no = λ f. absurd (false≢true (sym f));
        }

    unfinished : 256 ≤ w → at < length lines → EntriesRead (table_names ++ lines) false entries
    unfinished h l = record {
      yes = λ f. absurd (false≢true f);
      no = λ f t k.
          let n : length t ≤ w = omega (arith, k.size) in
          let z : table_lines w (drop w t) ≡ [] = ap (table_lines w) (drop_of_length-le t n) in
          absurd (omega (arith, ap length (r.rest t k ∙ z), length-drop at lines));
    }

    pub lines_end : 256 ≤ w → (b : Bool) → leb (length lines) at ≡ b → EntriesRead (table_names ++ lines) b entries
    lines_end h true e = finished h (leb-true (length lines) at e)
    lines_end h false e = unfinished h (leb-false (length lines) at e)

    module _ (h : w < 256) where
      -- the text of a table goes on with the line of weight w
      here : (t : List ℤ) → Holds (table_names ++ lines) t → drop at lines ≡ entry_line w (get_or t w (pos 0)) ++ table_lines (suc w) (drop (suc w) t)
      here t k = r.rest t k ∙ ap (table_lines w) (drop-cons t w (pos 0) (omega (arith, k.size)))

      next_of : (t : List ℤ) → Holds (table_names ++ lines) t → IsNext (get_or t w (pos 0))
      next_of t k = entry_at t w (omega (arith, k.size)) k.entries

      pub no_line_lem : (left : List ℤ) → EntryRead lines at w None → EntriesRead (table_names ++ lines) false left
      no_line_lem left m = record {
        yes = λ g. absurd (false≢true g);
        no = λ g t k. m.each (get_or t w (pos 0)) (table_lines (suc w) (drop (suc w) t)) (next_of t k) (here t k);
      }

      module _ (v : Found ℤ) (m : EntryRead lines at w (Some v)) where
        pub value_held : to_z w64 (of_z w64 v.value) ≡ v.value
        value_held = kept v.value (allowed_fits true v.value m.read.0.0)

        pub line_more : Reading lines v.next (w + 1) (set entries w v.value)
        line_more =
            let l : w < length entries = omega (arith, r.long) in
            let g = m.read in
            let k : length (set entries w v.value) ≡ length entries = length-set entries w v.value in
            let q : take (suc w) (set entries w v.value) ≡ take w entries ++ (v.value ∷ []) =
            take-suc (set entries w v.value) w (pos 0) (omega arith)
            ∙ (λ i. take-set-le w entries w v.value (omega arith) i ++ (get_or-set_same entries w v.value (pos 0) l i ∷ [])) in
            let j : 0 + length (take w entries) ≡ w = zero-add (length (take w entries)) ∙ length-take-le w entries (omega arith) in
            let u : table_lines 0 (take (suc w) (set entries w v.value)) ≡ table_lines 0 (take w entries) ++ entry_line w v.value =
            ap (table_lines 0) q ∙ lines_more 0 (take w entries) v.value ∙ ap (λ (n : ℕ). table_lines 0 (take w entries) ++ entry_line n v.value) j in
            subst (λ (n : ℕ). Reading lines v.next n (set entries w v.value)) (sym (add-one w)) record {
              long = k ∙ r.long;
              good = subst AreNexts (sym q) (entries_more (take w entries) v.value r.good g.0);
              front =
                  r.front
                  ∙ ap (λ (s : List ℕ). table_lines 0 (take w entries) ++ s) g.1
                  ∙ sym (append_assoc (table_lines 0 (take w entries)) (entry_line w v.value) (drop v.next lines))
                  ∙ ap (λ (s : List ℕ). s ++ drop v.next lines) (sym u);
              rest = λ t h'. (m.each (get_or t w (pos 0)) (table_lines (suc w) (drop (suc w) t)) (next_of t h') (here t h')).1;
            }
