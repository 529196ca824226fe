-- `reckoning::lower_all` lowers all delegations, run by run. Assumes nothing.
use mathlib.Core.Path.{◌≡◌}
use Prim.Native.Nat.{◌*◌}
use lib.ListN.{length}
use Rattle.block.specs.Layout.{most_records}
use Rattle.block.specs.Records.{delegation_at}
use Rattle.reckoning.specs.Reckoned.{run_size, RunLowered}
use Rattle.reckoning.proofs.lower.lower_all.Given as goal

abbrev pub invariant-loop-run : goal.invariant-loop-run
invariant-loop-run l = (length l.weights ≡ most_records) × RunLowered l.reaches (delegation_at l.block) 0 (run_size * l.run) l.changed l.initial.weights l.weights
