-- `runs::run::fill_starts` stores where the run of each giver starts. Assumes nothing.
use mathlib.Core.Path.{◌≡◌}
use Prim.Native.Nat.{ℕ, ◌≤◌, ◌<◌}
use lib.ListN.{length, get_or}
use Rattle.runs.specs.Lent.{record_count, record_at}
use Rattle.runs.specs.Steps.{Sought, start_count}
use Rattle.runs.proofs.fill_starts.Given as goal

abbrev pub invariant-loop-giver : goal.invariant-loop-giver
invariant-loop-giver l =
    (l.n ≡ record_count l.records) × (length l.starts ≡ start_count) × (l.k ≤ l.n) × ((j : ℕ) → j < l.k → (record_at l.records j).giver < l.giver) × ((g : ℕ) → g < l.giver → Sought l.records g (get_or l.starts g 0))
