-- What is given with a text is fixed by the texts of tables alone, and always keeps the rule. Assumes nothing.
use mathlib.Core.Path.{◌≡◌, refl, sym, ap, subst, ◌∙◌}
use mathlib.Core.Logic.{◌≢◌, ◌⊎◌, inl, inr}
use mathlib.Core.Bool.{Bool, true, false, ◌&&◌}
use mathlib.Core.List.{List, [], ◌∷◌, ◌++◌, map}
use Prim.Native.Nat.{ℕ, zero, suc}
use native.Mathlib.Omega.{arith}
use borrow.Author.Tests.{le-leb}
use lib.Dec.{T, leb, eqb, leb→le, eqb→eq, eqb_refl}
use lib.ListN.{length, get_or, drop}
use lib.IntN.{ℤ, pos, negsuc}
use Rattle.rules.specs.Limit.{none, code, from_none}
use Rattle.rules.specs.Table.{TableRule, table_test}
use Rattle.rules.proofs.Lists.{T_left, T_right, T_both, T_true, yes, eq_to_eqb}
use Rattle.rules.proofs.Table.{table_rule, steps_rule}
use Rattle.text.specs.Text.{most}
use Rattle.text.specs.Rows.{rows}
use Rattle.text.proofs.Rows.{rows_line}
use Rattle.steptable.specs.TableText.{Given}
use Rattle.steptable.specs.TableText.{table_names, table_lines, table_text, IsNext, AreNexts, Holds, refused_text, nexts_of, equal, are_nexts, holds, verdict, given, GivenRight}
use Rattle.rules.proofs.Table.{rule_test}

-- ── the test of a text ──
equal_same : (s : List ℕ) → T (equal s s)
equal_same [] = tt
equal_same (b ∷ s) = T_both (eqb b b) (equal s s) (eqb_refl b) (equal_same s)

same_equal : (r s : List ℕ) → T (equal r s) → r ≡ s
same_equal [] [] h = refl
same_equal [] (b ∷ s) h = absurd h
same_equal (a ∷ r) [] h = absurd h
same_equal (a ∷ r) (b ∷ s) h =
    let p = eqb→eq a b (T_left (eqb a b) (equal r s) h) in
    let q = same_equal r s (T_right (eqb a b) (equal r s) h) in
    λ i. p i ∷ q i

entry_test : (x : ℤ) → IsNext x → T (from_none x && leb (code x) (suc most))
entry_test (pos n) e = T_both (from_none (pos n)) (leb (suc n) (suc most)) e.1 (yes (le-leb (suc n) (suc most) (omega (arith, e.0))))
entry_test (negsuc n) e = T_both (from_none (negsuc n)) (leb 0 (suc most)) e.1 (yes (le-leb 0 (suc most) (omega arith)))

test_entry : (x : ℤ) → T (from_none x && leb (code x) (suc most)) → IsNext x
unfolding from_none
test_entry (pos n) h = (omega (arith, leb→le (suc n) (suc most) h), tt)
test_entry (negsuc zero) h = (omega arith, tt)
test_entry (negsuc (suc n)) h = absurd h

entries_test : (t : List ℤ) → AreNexts t → T (are_nexts t)
entries_test [] a = tt
entries_test (x ∷ xs) a = T_both (from_none x && leb (code x) (suc most)) (are_nexts xs) (entry_test x a.0) (entries_test xs a.1)

pub test_entries : (t : List ℤ) → T (are_nexts t) → AreNexts t
test_entries [] h = tt
test_entries (x ∷ xs) h =
    let a = from_none x && leb (code x) (suc most) in
    (test_entry x (T_left a (are_nexts xs) h), test_entries xs (T_right a (are_nexts xs) h))

module _ (text : List ℕ) (t : List ℤ) where
  holds_test : Holds text t → T (holds text t)
  unfolding holds
  holds_test h =
      T_both (eqb (length t) 256) (are_nexts t && equal text (table_text t)) (eq_to_eqb h.size)
      (T_both (are_nexts t) (equal text (table_text t)) (entries_test t h.entries) (subst (λ (s : List ℕ). T (equal text s)) h.same (equal_same text)))

  test_holds : T (holds text t) → Holds text t
  unfolding holds
  test_holds h =
      let r = T_right (eqb (length t) 256) (are_nexts t && equal text (table_text t)) h in
      record {
        size = eqb→eq (length t) 256 (T_left (eqb (length t) 256) (are_nexts t && equal text (table_text t)) h);
        entries = test_entries t (T_left (are_nexts t) (equal text (table_text t)) r);
        same = same_equal text (table_text t) (T_right (are_nexts t) (equal text (table_text t)) r);
      }

-- ── the table of a text ──
nexts : (w : ℕ) (t : List ℤ) → map (λ row. get_or row 1 none) (rows (table_lines w t)) ≡ t
unfolding rows
nexts w [] = refl
nexts w (x ∷ xs) =
    ap (map (λ row. get_or row 1 none)) (rows_line (pos w ∷ x ∷ []) (table_lines (suc w) xs) (λ e. let z : ◌≡◌ {A = ℕ} 0 1 = cc in absurd (omega arith)))
    ∙ ap (λ (s : List ℤ). x ∷ s) (nexts (suc w) xs)

names_row : (s : List ℕ) → drop 1 (rows (table_names ++ s)) ≡ rows s
unfolding rows table_names
names_row s = refl

nexts_of_lem : (text : List ℕ) (t : List ℤ) → text ≡ table_text t → nexts_of text ≡ t
unfolding nexts_of
nexts_of_lem text t e =
    ap (λ (s : List ℕ). map (λ row. get_or row 1 none) (drop 1 (rows s))) e
    ∙ ap (map (λ row. get_or row 1 none)) (names_row (table_lines 0 t))
    ∙ nexts 0 t

-- ── what is given ──
abbrev Judged : List ℕ → Given
Judged text = verdict (holds text (nexts_of text)) (table_test (nexts_of text)) (nexts_of text)

judged : (text : List ℕ) → text ≢ [] → given text ≡ Judged text
unfolding given
judged [] n = absurd (n refl)
judged (b ∷ s) n = refl

names_some : (s : List ℕ) → table_names ++ s ≢ []
unfolding table_names
names_some s e = let z : ◌≡◌ {A = ℕ} 0 1 = cc in absurd (omega arith)

held : (text : List ℕ) (t : List ℤ) → Holds text t → given text ≡ verdict true (table_test t) t
held text t h =
    judged text (λ e. names_some (table_lines 0 t) (sym h.same ∙ e))
    ∙ (λ i. verdict (holds text (nexts_of_lem text t h.same i)) (table_test (nexts_of_lem text t h.same i)) (nexts_of_lem text t h.same i))
    ∙ ap (λ (b : Bool). verdict b (table_test t) t) (T_true (holds text t) (holds_test text t h))

broken : (t : List ℤ) (b : Bool) → table_test t ≡ b → (TableRule t → ⊥) → verdict true b t ≡ refused_text 17
broken t true e n = absurd (n (table_rule t (yes e)))
broken t false e n = refl

otherwise : (text : List ℕ) (t : List ℤ) (b : Bool) → holds text t ≡ b → ((u : List ℤ) → Holds text u → ⊥) → verdict b (table_test t) t ≡ refused_text 7
otherwise text t true e n = absurd (n t (test_holds text t (yes e)))
otherwise text t false e n = refl

pub given_right : GivenRight
unfolding given
given_right = record {
  empty = refl;
  passes = λ text t h r. held text t h ∙ ap (λ (b : Bool). verdict true b t) (T_true (table_test t) (rule_test t r));
  breaks = λ text t h n. held text t h ∙ broken t (table_test t) refl n;
  other = λ text s n. judged text s ∙ otherwise text (nexts_of text) (holds text (nexts_of text)) refl n;
}

kept : (t : List ℤ) (h r : Bool) → table_test t ≡ r → TableRule (verdict h r t).steps
kept t false r e = steps_rule
kept t true false e = steps_rule
kept t true true e = table_rule t (yes e)

pub given_keeps : (text : List ℕ) → TableRule (given text).steps
unfolding given
given_keeps [] = steps_rule
given_keeps (b ∷ s) = kept (nexts_of (b ∷ s)) (holds (b ∷ s) (nexts_of (b ∷ s))) (table_test (nexts_of (b ∷ s))) refl

-- a text passes, or is refused with 7 or with 17
numbered : (t : List ℤ) (h r : Bool) → let n = (verdict h r t).refusal in (n ≡ 0) ⊎ ((n ≡ 7) ⊎ (n ≡ 17))
numbered t false r = inr (inl refl)
numbered t true false = inr (inr refl)
numbered t true true = inl refl

pub given_number : (text : List ℕ) → ((given text).refusal ≡ 0) ⊎ (((given text).refusal ≡ 7) ⊎ ((given text).refusal ≡ 17))
unfolding given
given_number [] = inl refl
given_number (b ∷ s) = numbered (nexts_of (b ∷ s)) (holds (b ∷ s) (nexts_of (b ∷ s))) (table_test (nexts_of (b ∷ s)))
