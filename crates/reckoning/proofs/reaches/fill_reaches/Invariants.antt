-- `reckoning::fill_reaches` fills the table of reaches. Assumes nothing.
use Rattle.block.specs.Block.{decode}
use Rattle.queue.specs.Queue.{Empty}
use Rattle.reckoning.proofs.Filling.{Filling}
use Rattle.reckoning.proofs.reaches.fill_reaches.Given as goal

abbrev pub invariant-loop-receiver : goal.invariant-loop-receiver
invariant-loop-receiver l = Filling l.table (decode l.block) l.set l.n l.receiver-iterator.0 l.reaches × Empty l.waiting
