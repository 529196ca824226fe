-- A list written over another, one place a turn: the first i values are those of s, the others still those of d. Assumes nothing.
use mathlib.Core.Path.{◌≡◌, sym, ap, ◌∙◌}
use mathlib.Core.List.{List, [], ◌∷◌, ◌++◌, append-nil}
use Prim.Native.Nat.{ℕ, suc, ◌+◌, ◌≤◌, ◌<◌}
use native.Mathlib.Numerals.{add-one}
use native.Mathlib.Omega.{arith}
use lib.ListN.{length, get_or, take, drop, set, drop_of_length-le}
use lib.Seq.{length-take-le, take-suc, take_all, drop-cons, append_snoc, set_at}

module _ (s d : List ℕ) (same : length s ≡ length d) (i : ℕ) (l : List ℕ) (e : l ≡ take i s ++ drop i d) where
  pub over_on : i < length d → (v : ℕ) → v ≡ get_or s i 0 → set l i v ≡ take (i + 1) s ++ drop (i + 1) d
  over_on h v q =
      rw (add-one i) (ap (λ (t : List ℕ). set t i v) (e ∙ ap (λ (t : List ℕ). take i s ++ t) (drop-cons d i 0 h))
      ∙ set_at (take i s) (get_or d i 0) (drop (suc i) d) v i (length-take-le i s (omega arith))
      ∙ sym (append_snoc (take i s) v (drop (suc i) d))
      ∙ ap (λ (w : ℕ). take i s ++ (w ∷ []) ++ drop (suc i) d) q
      ∙ ap (λ (t : List ℕ). t ++ drop (suc i) d) (sym (take-suc s i 0 (omega arith))))

  pub over_all : length d ≤ i → l ≡ s
  over_all h = e ∙ (λ j. take_all i s (omega arith) j ++ drop_of_length-le d {i = i} h j) ∙ append-nil s
