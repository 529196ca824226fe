-- `search::heaviest` finds those of a set whose limit is the largest of theirs. Assumes nothing.
use Rattle.search.proofs.Choosing.{Chosen}
use Rattle.search.proofs.heaviest.Given as goal

abbrev pub invariant-loop-other : goal.invariant-loop-other
invariant-loop-other l = Chosen l.limits l.set l.first l.best l.other-iterator.0
