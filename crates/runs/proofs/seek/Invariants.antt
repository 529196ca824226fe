-- `runs::run::seek` finds the first record whose giver is not below a bound: the givers rise, so none before it is left out. Assumes nothing.
use mathlib.Core.Path.{◌≡◌}
use Prim.Native.Nat.{ℕ, ◌<◌}
use Rattle.runs.specs.Lent.{record_count, record_at}
use Rattle.runs.proofs.seek.Given as goal

abbrev pub invariant-loop-k : goal.invariant-loop-k
invariant-loop-k l = (l.n ≡ record_count l.records) × ((j : ℕ) → j < l.k → (record_at l.records j).giver < l.bound)
