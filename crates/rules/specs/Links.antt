-- The links up to a subject by its parent and the parents before it: what a search that keeps, for each subject, the delegation by which it was reached can hand out. Assumes nothing.
use Rattle.std.specs.Prelude.{true, false, List, [], ◌∷◌, ◌++◌, ℕ, zero, suc, eqb}
use Rattle.rules.specs.Register.{Delegation}

-- the links up to u, the owner's end first; at most k
abbrev pub links_to : (ℕ → Delegation) → ℕ → ℕ → List Delegation
links_to parent zero u = []
links_to parent (suc k) u = elim (eqb u 0) [ true ↦ [] | false ↦ links_to parent k (parent u).giver ++ (parent u ∷ []) ]
