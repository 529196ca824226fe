-- `change::weights_without` stores the weights that records keep. Assumes nothing.
use Rattle.change.specs.Without.{WeightsWithout}
use Rattle.change.proofs.retiring.weights_without.Given as goal

abbrev pub invariant-loop-k : goal.invariant-loop-k
invariant-loop-k l = WeightsWithout l.b l.subject l.k l.weight-items
