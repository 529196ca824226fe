-- Two lists compared, whole and part by part. Assumes nothing.
use mathlib.Core.Path.{◌≡◌, refl, ap, ◌∙◌}
use mathlib.Core.Logic.{◌≢◌}
use mathlib.Core.Bool.{Bool, true, false, ◌&&◌}
use mathlib.Core.List.{List, [], ◌∷◌, ◌++◌}
use Prim.Native.Nat.{ℕ}
use native.Mathlib.Nat.{suc_inj}
use native.Mathlib.Omega.{arith}
use lib.Dec.{eqb, not_T}
use lib.ListN.{length}
use Rattle.rules.specs.Round.{equal}
use Rattle.rules.proofs.Lists.{T_true, unset}
use Rattle.rules.proofs.Rounds.{equal_refl, equal_to_eq}

pub equal_self : (xs : List ℕ) → equal xs xs ≡ true
equal_self xs = T_true (equal xs xs) (equal_refl xs)

pub equal_differ : (xs ys : List ℕ) → xs ≢ ys → equal xs ys ≡ false
equal_differ xs ys n = unset (equal xs ys) (not_T (equal xs ys) (λ h. n (equal_to_eq xs ys h)))

-- in two parts
pub equal_append : (xs ys us vs : List ℕ) → length xs ≡ length ys → equal (xs ++ us) (ys ++ vs) ≡ (equal xs ys && equal us vs)
equal_append [] [] us vs e = refl
equal_append [] (y ∷ ys) us vs e = absurd (omega (arith, e))
equal_append (x ∷ xs) [] us vs e = absurd (omega (arith, e))
equal_append (x ∷ xs) (y ∷ ys) us vs e = ap (λ (z : Bool). eqb x y && z) (equal_append xs ys us vs (suc_inj e)) ∙ assoc (eqb x y)
  where
    assoc : (a : Bool) → (a && (equal xs ys && equal us vs)) ≡ ((a && equal xs ys) && equal us vs)
    assoc true = refl
    assoc false = refl
