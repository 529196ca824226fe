-- `reckoning::read_weights` reads the weights out. Assumes nothing.
use mathlib.Core.Path.{◌≡◌}
use lib.ListN.{length}
use Rattle.block.specs.Layout.{most_records}
use Rattle.block.specs.Records.{delegation_at}
use Rattle.reckoning.specs.Reckoned.{WeightsRead}
use Rattle.reckoning.proofs.lower.read_weights.Given as goal

abbrev pub invariant-loop-k : goal.invariant-loop-k
invariant-loop-k l = (length l.weights ≡ most_records) × WeightsRead (delegation_at l.block) l.ds l.first l.k l.changed l.initial.weights l.weights
