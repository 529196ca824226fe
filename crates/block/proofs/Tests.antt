-- A list of tests: all pass exactly if each does. Early returns over it: x is the whole answer, e says that it is the answer of the tests that are left. Assumes nothing.
use mathlib.Core.Path.{◌≡◌, refl, sym, ap, ◌∙◌}
use mathlib.Core.Bool.{Bool, true, false, ◌&&◌, and-true, and_assoc}
use mathlib.Core.List.{List, [], ◌∷◌, ◌++◌}
use lib.Dec.{T}
use Rattle.rules.proofs.Lists.{T_left, T_right, T_both}
use Rattle.block.specs.WellFormed.{all_pass}

-- each test by itself
infixr 30 ◌▸◌
pub data Each {A : Type 0} (x : A) : List (A → Bool) → Type 0 where
  end : Each x []
  ◌▸◌ : {f : A → Bool} {fs : List (A → Bool)} → T (f x) → Each x fs → Each x (f ∷ fs)

pub each : {A : Type 0} (fs : List (A → Bool)) (x : A) → T (all_pass fs x) → Each x fs
each [] x h = end
each (f ∷ fs) x h = T_left (f x) (all_pass fs x) h ▸ each fs x (T_right (f x) (all_pass fs x) h)

pub every : {A : Type 0} (fs : List (A → Bool)) (x : A) → Each x fs → T (all_pass fs x)
every [] x end = tt
every (f ∷ fs) x (p ▸ ps) = T_both (f x) (all_pass fs x) p (every fs x ps)

-- some tests at the front as one
pub tests_group : {A : Type 0} (fs gs : List (A → Bool)) (y : A) → all_pass (fs ++ gs) y ≡ all_pass (all_pass fs ∷ gs) y
tests_group [] gs y = refl
tests_group (f ∷ fs) gs y = ap (λ (a : Bool). f y && a) (tests_group fs gs y) ∙ sym (and_assoc (f y) (all_pass fs y) (all_pass gs y))

module _ {A : Type 0} (f : A → Bool) (fs : List (A → Bool)) (y : A) {x : Bool} (e : x ≡ all_pass (f ∷ fs) y) where
  pub tests_on : f y ≡ true → x ≡ all_pass fs y
  tests_on t = rw t at e

  pub tests_stop : f y ≡ false → false ≡ x
  tests_stop t = sym (rw t at e)

-- the last test is the answer
pub tests_last : {A : Type 0} (f : A → Bool) (y : A) {x : Bool} → x ≡ all_pass (f ∷ []) y → x ≡ f y
tests_last f y e = e ∙ and-true (f y)
