-- A step table keeps the rule exactly where one computed test over its entries passes. Document 01's own table passes it. Assumes nothing.
use mathlib.Core.Path.{◌≡◌, refl, sym, subst, ◌∙◌}
use mathlib.Core.Logic.{◌≢◌}
use mathlib.Core.Bool.{Bool, true, false, not, cond, ◌&&◌}
use mathlib.Core.List.{List, [], ◌∷◌}
use Prim.Native.Nat.{ℕ, zero, suc, ◌+◌, ◌≤◌, ◌<◌, zero-le, suc-le-suc}
use native.Mathlib.Nat.{le_refl, add-zero, zero-add, add-suc, suc-add, le_of_suc-le-suc, not-suc-le-zero}
use native.Mathlib.Omega.{arith}
use lib.Dec.{T, leb, eqb, leb→le, le→leb, eqb→eq}
use lib.ListN.{length, get_or}
use lib.IntN.{ℤ}
use Rattle.rules.specs.Limit.{none, code, from_none}
use Rattle.rules.specs.Table.{entry, TableRule, fits, ruled, table_test, step, steps}
use Rattle.rules.proofs.Lists.{T_left, T_right, T_both, eq_to_eqb, test_ne}

from : (xs : List ℤ) (i : ℕ) (p : ℤ) → T (ruled i p xs) → (k : ℕ) → k < length xs → T (fits (i + k) (get_or (p ∷ xs) k none) (get_or xs k none))
from [] i p h k l = absurd (not-suc-le-zero l)
from (x ∷ xs) i p h zero l = subst (λ (j : ℕ). T (fits j p x)) (sym (add-zero i)) (T_left (fits i p x) (ruled (suc i) x xs) h)
from (x ∷ xs) i p h (suc k) l =
    subst (λ (j : ℕ). T (fits j (get_or (x ∷ xs) k none) (get_or xs k none))) (suc-add i k ∙ sym (add-suc i k))
    (from xs (suc i) x (T_right (fits i p x) (ruled (suc i) x xs) h) k (le_of_suc-le-suc l))

module _ (t : List ℤ) (h : T (table_test t)) where
  long : length t ≡ 256
  long = eqb→eq (length t) 256 (T_left (eqb (length t) 256) (ruled 0 none t) h)

  at : (k : ℕ) → k < 256 → T (fits k (get_or (none ∷ t) k none) (entry t k))
  at k l =
      subst (λ (j : ℕ). T (fits j (get_or (none ∷ t) k none) (entry t k))) (zero-add k)
      (from t 0 none (T_right (eqb (length t) 256) (ruled 0 none t) h) k (omega (arith, long)))

  bounds : (k : ℕ) → k < 256 → T (from_none (entry t k)) × (code (get_or (none ∷ t) k none) ≤ code (entry t k)) × (code (entry t k) ≤ cond (eqb k 255) 256 k)
  bounds k l =
      let a = from_none (entry t k) in
      let b = leb (code (get_or (none ∷ t) k none)) (code (entry t k)) in
      let c = leb (code (entry t k)) (cond (eqb k 255) 256 k) in
      let h₁ = T_left (a && b) c (at k l) in
      (T_left a b h₁, leb→le _ _ (T_right a b h₁), leb→le _ _ (T_right (a && b) c (at k l)))

  -- a place before the last
  early : (b : Bool) (k : ℕ) → (T b → k ≡ 255) → k < 255 → cond b 256 k ≡ k
  early true k f l = absurd (omega (arith, f tt))
  early false k f l = refl

  -- the rule, at every entry
  pub table_rule : TableRule t
  table_rule = record {
    size = long;
    low = λ k l. (bounds k l).0;
    rises = λ k l. (bounds (suc k) (omega arith)).1;
    falls = λ k l. subst (λ (n : ℕ). code (entry t k) ≤ n) (early (eqb k 255) k (eqb→eq k 255) l) (bounds k (omega arith)).2;
    last = (bounds 255 (le_refl 256)).2;
  }

-- ── and passes the test where it keeps the rule ──
into : (xs : List ℤ) (i : ℕ) (p : ℤ) → ((k : ℕ) → k < length xs → T (fits (i + k) (get_or (p ∷ xs) k none) (get_or xs k none))) → T (ruled i p xs)
into [] i p h = tt
into (x ∷ xs) i p h =
    T_both (fits i p x) (ruled (suc i) x xs)
    (subst (λ (j : ℕ). T (fits j p x)) (add-zero i) (h zero (suc-le-suc zero-le)))
    (into xs (suc i) x (λ k l. subst (λ (j : ℕ). T (fits j (get_or (x ∷ xs) k none) (get_or xs k none))) (add-suc i k ∙ sym (suc-add i k)) (h (suc k) (suc-le-suc l))))

module _ (t : List ℤ) (rule : TableRule t) where
  above : (k : ℕ) → k < 256 → code (get_or (none ∷ t) k none) ≤ code (entry t k)
  above zero l = zero-le
  above (suc k) l = rule.rises k (omega arith)

  below : (b : Bool) (k : ℕ) → (T b → k ≡ 255) → (T (not b) → k ≢ 255) → k < 256 → code (entry t k) ≤ cond b 256 k
  below true k f g l = subst (λ (j : ℕ). code (entry t j) ≤ 256) (sym (f tt)) rule.last
  below false k f g l = let n = g tt in rule.falls k (omega arith)

  at_each : (k : ℕ) → k < 256 → T (fits k (get_or (none ∷ t) k none) (entry t k))
  at_each k l =
      let a = from_none (entry t k) in
      let b = leb (code (get_or (none ∷ t) k none)) (code (entry t k)) in
      let c = leb (code (entry t k)) (cond (eqb k 255) 256 k) in
      T_both (a && b) c (T_both a b (rule.low k l) (le→leb _ _ (above k l))) (le→leb _ _ (below (eqb k 255) k (eqb→eq k 255) (test_ne k 255) l))

  pub rule_test : T (table_test t)
  rule_test =
      T_both (eqb (length t) 256) (ruled 0 none t) (eq_to_eqb rule.size)
      (into t 0 none (λ k l. subst (λ (j : ℕ). T (fits j (get_or (none ∷ t) k none) (entry t k))) (sym (zero-add k)) (at_each k (omega (arith, rule.size)))))

-- ── document 01's table ──
pub steps_rule : TableRule steps
unfolding steps step from_none
steps_rule = table_rule steps tt
