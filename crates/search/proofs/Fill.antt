-- The limits and places at the start. Assumes nothing.
use mathlib.Core.Path.{◌≡◌, refl, sym, ap, ◌∙◌}
use mathlib.Core.List.{List}
use Prim.Native.Nat.{ℕ, zero, suc, ◌<◌}
use lib.IntN.{ℤ, pos}
use lib.ListN.{length, get_or, set, replicate}
use lib.Seq.{get_or-set_same, get_or-set_other}
use Rattle.rules.specs.Limit.{none}
use Rattle.search.specs.Search.{Started}

-- the default many times: so is what stands past the end
everywhere : {A : Type 0} (v : A) (n y : ℕ) → get_or (replicate n v) y v ≡ v
everywhere v zero y = refl
everywhere v (suc n) zero = refl
everywhere v (suc n) (suc y) = everywhere v n y

pub started : (l : List ℤ) (p : List ℕ) (m n : ℕ) → l ≡ replicate m none → p ≡ replicate n 0 → 0 < length l → Started (set l 0 (pos 255)) p
started l p m n a b some = record {
  owner = get_or-set_same l 0 (pos 255) none some;
  others = λ y d. get_or-set_other l 0 y (pos 255) none (λ e. d (sym e)) ∙ ap (λ (x : List ℤ). get_or x y none) a ∙ everywhere none m y;
  places = λ y. ap (λ (x : List ℕ). get_or x y 0) b ∙ everywhere 0 n y;
}
