-- `reckoning::named_marks` collects the marks that the conditions of the first records name. Assumes nothing.
use Rattle.block.specs.Records.{delegation_at}
use Rattle.reckoning.specs.Reckoned.{FirstNamed}
use Rattle.reckoning.proofs.indexed.named_marks.Given as goal

abbrev pub invariant-loop-k : goal.invariant-loop-k
invariant-loop-k l = FirstNamed (delegation_at l.block) l.k l.named
