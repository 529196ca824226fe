-- What is left of the records of a block, as a list of delegations. Assumes nothing.
use mathlib.Core.Path.{◌≡◌, refl, sym, ap, ◌∙◌}
use mathlib.Core.List.{List, [], ◌∷◌, ◌++◌, append_assoc, append-nil}
use Prim.Native.Nat.{ℕ, zero, suc, ◌+◌, ◌<◌}
use native.Mathlib.Nat.{add-zero, add-suc, suc-add, zero-add}
use native.Mathlib.Omega.{arith}
use lib.IntN.{ℤ, pos}
use lib.ListN.{get_or}
use Rattle.rules.specs.List.{tabulate, concat_map}
use Rattle.rules.specs.Register.{Delegation}
use Rattle.rules.specs.Round.{placed}
use Rattle.block.specs.Records.{left_to}

tabulate_last : {A : Type 0} (f : ℕ → A) (i n : ℕ) → tabulate f i (suc n) ≡ tabulate f i n ++ (f (i + n) ∷ [])
tabulate_last f i zero = λ j. f (sym (add-zero i) j) ∷ []
tabulate_last f i (suc n) = ap (λ (xs : List _). f i ∷ xs) (tabulate_last f (suc i) n) ∙ ap (λ (m : ℕ). f i ∷ (tabulate f (suc i) n ++ (f m ∷ []))) (suc-add i n ∙ sym (add-suc i n))

concat_map_last : {A B : Type 0} (g : A → List B) (xs : List A) (y : A) → concat_map g (xs ++ (y ∷ [])) ≡ concat_map g xs ++ g y
concat_map_last g [] y = append-nil (g y)
concat_map_last g (x ∷ xs) y = ap (λ (ys : List _). g x ++ ys) (concat_map_last g xs y) ∙ sym (append_assoc (g x) (concat_map g xs) (g y))

-- what is left of all
pub left_all : (f : ℕ → Delegation) (g : Delegation → List Delegation) (w : List ℤ) (n : ℕ) → ((k : ℕ) → k < n → placed (f k) (get_or w k (pos 0)) ≡ g (f k)) → left_to f w n ≡ concat_map g (tabulate f 0 n)
left_all f g w zero h = refl
left_all f g w (suc n) h =
    (λ j. left_all f g w n (λ k q. h k (omega arith)) j ++ h n (omega arith) j)
    ∙ sym (ap (concat_map g) (tabulate_last f 0 n) ∙ concat_map_last g (tabulate f 0 n) (f (0 + n)) ∙ ap (λ (m : ℕ). concat_map g (tabulate f 0 n) ++ g (f m)) (zero-add n))
