-- The marks that the conditions of delegations name: a subject meets a condition by these alone. Assumes nothing.
use Rattle.std.specs.Prelude.{ℕ, ◌≤◌, List}
use Rattle.rules.specs.List.{◌∈◌}
use Rattle.rules.specs.Register.{Delegation}
use Rattle.rules.specs.Bits.{bit}

-- every mark of m is a mark of n
abbrev pub MarksAmong : ℕ → ℕ → Type 0
MarksAmong m n = (y : ℕ) → bit m y ≤ bit n y

-- every mark that a condition of ds names is a mark of n
abbrev pub AllNamed : ℕ → List Delegation → Type 0
AllNamed n ds = (d : Delegation) → d ∈ ds → MarksAmong d.need n × MarksAmong d.bar n
