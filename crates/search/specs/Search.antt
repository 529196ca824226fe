-- What a search for reach is given and what it finds: for one receiver's marks, the reach of every subject. Assumes nothing.
use Rattle.std.specs.Prelude.{◌≡◌, ◌≢◌, ◌⊎◌, List, [], ◌∷◌, ℕ, ◌-◌, ◌<◌, get_or, ℤ, pos}
use Rattle.rules.specs.List.{tabulate}
use Rattle.rules.specs.Limit.{none}
use Rattle.rules.specs.Register.{Delegation, Register, no_delegation}
use Rattle.rules.specs.Chain.{limit, IsChain}
use Rattle.rules.specs.Reach.{reach}
use Rattle.rules.specs.Links.{links_to}
use Rattle.block.specs.Layout.{most_subjects}

-- a register with these delegations in which subject 0 has these marks: the reach of a pair looks at nothing else
abbrev pub under_marks : List Delegation → ℕ → Register
under_marks ds m = record { subjects = 1; marks = m ∷ []; retired = 0; delegations = ds }

-- the limits and the places of the parents as a search begins: 255 at the owner, none elsewhere, no parents
pub record Started (l : List ℤ) (p : List ℕ) : Type 0 where
  pub owner : get_or l 0 none ≡ pos 255
  pub others : (y : ℕ) → 0 ≢ y → get_or l y none ≡ none
  pub places : (y : ℕ) → get_or p y 0 ≡ 0

-- the reach of each subject, for these marks
abbrev pub reaches : List ℤ → List Delegation → ℕ → List ℤ
reaches t ds m = tabulate (λ u. reach t (under_marks ds m) u 0) 0 most_subjects

-- the delegation by which each subject was reached, as the place of its record
abbrev pub parent_in : List Delegation → List ℕ → ℕ → Delegation
parent_in ds parents u = get_or ds (get_or parents u 0) no_delegation

-- no chain has more links: each receiver is another subject, and none is the owner
abbrev pub most_links : ℕ
most_links = most_subjects - 1

-- the parents lead back along chains: each subject has no reach, or the links up to it are a chain that carries its reach
abbrev pub LeadBack : List ℤ → List Delegation → ℕ → List ℕ → Type 0
LeadBack t ds m parents =
    (u : ℕ) → u < most_subjects → (reach t (under_marks ds m) u 0 ≡ none)
    ⊎ (IsChain t (under_marks ds m) u 0 (links_to (parent_in ds parents) most_links u) × (reach t (under_marks ds m) u 0 ≡ limit t (links_to (parent_in ds parents) most_links u)))
