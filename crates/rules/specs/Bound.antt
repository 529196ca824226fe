-- How many rounds a cut can take (document 01, 'Calls', the cuts): a worst case for a host. Assumes nothing.
use Rattle.std.specs.Prelude.{Bool, List, ℕ, suc, ◌+◌, ◌≤◌, ◌<◌, T, eqb, length, ℤ, pos}
use Rattle.rules.specs.List.{filter}
use Rattle.rules.specs.Limit.{◌≼◌}
use Rattle.rules.specs.Table.{TableRule}
use Rattle.rules.specs.Register.{Delegation, Register}
use Rattle.rules.specs.Pair.{weight_at, stands}
use Rattle.rules.specs.Round.{settle, rounds}
use Rattle.rules.specs.Cut.{Cut, removal, lowering, named}
use Rattle.rules.specs.WellFormed.{WellFormed}

abbrev pub is_unlimited : Delegation → Bool
is_unlimited d = eqb d.weight 255

-- how many are unlimited
abbrev pub unlimited : List Delegation → ℕ
unlimited ds = length (filter is_unlimited ds)

-- the cut's pair stands, and a new weight is below the present one
abbrev pub Names : Register → Cut → Type 0
Names R (removal g r) = T (stands R g r)
Names R (lowering g r w) = pos (suc w) ≼ weight_at R.delegations g r

-- rounds from a well-formed register: 256, and one more for each unlimited delegation; at most 512
abbrev pub RoundsAtMost : List ℤ → Type 0
RoundsAtMost t = (C : Register) → WellFormed C → (rounds (settle t C) ≤ unlimited C.delegations + 256) × (rounds (settle t C) ≤ 512)

-- rounds of a cut: below 512
abbrev pub RoundsBelow : List ℤ → Type 0
RoundsBelow t = (R : Register) (k : Cut) → WellFormed R → Names R k → rounds (settle t (named R k)) < 512

-- both, for every table that keeps the rule, and so for document 01's
abbrev pub Bounded : Type 0
Bounded = (t : List ℤ) → TableRule t → RoundsAtMost t × RoundsBelow t
