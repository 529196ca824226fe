-- `reckoning::receivers` collects the receivers of the first records. Assumes nothing.
use Rattle.block.specs.Records.{delegation_at}
use Rattle.reckoning.specs.Reckoned.{HasReceivers}
use Rattle.reckoning.proofs.indexed.receivers.Given as goal

abbrev pub invariant-loop-k : goal.invariant-loop-k
invariant-loop-k l = HasReceivers (delegation_at l.block) l.k l.set
