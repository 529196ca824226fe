-- Tests joined one after another give the first that applies. Assumes nothing.
use mathlib.Core.Path.{◌≡◌, refl, sym, ap, subst, ◌∙◌}
use mathlib.Core.Logic.{◌≢◌}
use mathlib.Core.Bool.{Bool, true, false, cond, ◌||◌}
use mathlib.Core.List.{List, [], ◌∷◌, ◌++◌, map}
use Prim.Native.Nat.{ℕ}
use native.Mathlib.Omega.{arith}
use borrow.Author.Tests.{ne_eqb}
use lib.Dec.{T, ltb, eqb, ltb→lt, eqb→eq}
use Rattle.rules.specs.List.{any}
use Rattle.rules.specs.Refusal.{first_of}
use Rattle.rules.proofs.Lists.{T_left, T_right}
use Rattle.rules.proofs.Refusals.{numbered, first_of_append}

-- n, or, where n is 0, the number of a test that applies
abbrev pub or_else : ℕ → ℕ × Bool → ℕ
or_else n p = cond (eqb n 0) (cond p.1 p.0 0) n

-- a test that does not apply
pub else_none : (n k : ℕ) → n ≡ or_else n (k, false)
else_none n k = go (eqb n 0) refl
  where
    go : (b : Bool) → eqb n 0 ≡ b → n ≡ cond b 0 n
    go true e = eqb→eq n 0 (subst T (sym e) tt)
    go false e = refl

abbrev pub joined : ℕ → List (ℕ × Bool) → ℕ
joined n [] = n
joined n (p ∷ ps) = joined (or_else n p) ps

joined_on : (n : ℕ) (ps : List (ℕ × Bool)) → T (numbered ps) → joined n ps ≡ cond (eqb n 0) (first_of ps) n
joined_on n [] h = else_none n 0
joined_on n (p ∷ ps) h = joined_on (or_else n p) ps (T_right (ltb 0 p.0) (numbered ps) h) ∙ go (eqb n 0) p.1 refl
  where
    ne : p.0 ≢ 0
    ne e = let l = ltb→lt 0 p.0 (T_left (ltb 0 p.0) (numbered ps) h) in omega arith

    go : (b x : Bool) → eqb n 0 ≡ b → let m = cond b (cond x p.0 0) n in cond (eqb m 0) (first_of ps) m ≡ cond b (cond x p.0 (first_of ps)) n
    go true true e = rw (ne_eqb p.0 0 ne)
    go true false e = refl
    go false x e = rw e

-- three tests, each joined to the one before
pub three_joined : (n : ℕ) (p q r : ℕ × Bool) {n₁ n₂ n₃ : ℕ} → n₁ ≡ or_else n p → n₂ ≡ or_else n₁ q → n₃ ≡ or_else n₂ r → n₃ ≡ joined n (p ∷ q ∷ r ∷ [])
three_joined n p q r e₁ e₂ e₃ = e₃ ∙ ap (λ (m : ℕ). or_else m r) (e₂ ∙ ap (λ (m : ℕ). or_else m q) e₁)

-- from the first test on
pub joined_first : (ps : List (ℕ × Bool)) → T (numbered ps) → joined 0 ps ≡ first_of ps
joined_first ps h = joined_on 0 ps h

-- after the first that applies of others
pub joined_after : (ps qs : List (ℕ × Bool)) → T (numbered ps) → T (numbered qs) → joined (first_of ps) qs ≡ first_of (ps ++ qs)
joined_after ps qs h k = joined_on (first_of ps) qs k ∙ sym (first_of_append ps qs h)

-- a test of any of several numbers, made one after another
pub any_tests : (n : ℕ) (f : ℕ → Bool) (xs : List ℕ) (ps : List (ℕ × Bool)) → first_of (map (λ x. (n, f x || false)) xs ++ ps) ≡ first_of ((n, any f xs) ∷ ps)
any_tests n f [] ps = refl
any_tests n f (x ∷ xs) ps = go (f x) (any_tests n f xs ps)
  where
    go : (b : Bool) → first_of (map (λ y. (n, f y || false)) xs ++ ps) ≡ first_of ((n, any f xs) ∷ ps)
        → cond (b || false) n (first_of (map (λ y. (n, f y || false)) xs ++ ps)) ≡ first_of ((n, b || any f xs) ∷ ps)
    go true e = refl
    go false e = e

-- a test of either of two, made one after the other
pub either_else : (n k : ℕ) (a b : Bool) → k ≢ 0 → or_else (or_else n (k, a)) (k, b) ≡ or_else n (k, a || b)
either_else n k a b h = go (eqb n 0) a refl
  where
    go : (z x : Bool) → eqb n 0 ≡ z → or_else (cond z (cond x k 0) n) (k, b) ≡ cond z (cond (x || b) k 0) n
    go true true e = rw (ne_eqb k 0 h)
    go true false e = refl
    go false x e = rw e
