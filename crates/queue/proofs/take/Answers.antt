-- `queue::take` takes all who wait in a group. Assumes nothing.
use native.Mathlib.Omega.{arith}
use Rattle.queue.proofs.Buckets.{taken}
use Rattle.queue.proofs.take.Goals as goal

pub returns : goal.returns
returns c = let a = c.args in taken a.queue.now a.group a.settled c.minus.result (omega arith) c.minus.ensures
