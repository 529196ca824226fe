-- `queue::minus` takes the members of another set out of a set. Assumes nothing.
use native.Mathlib.Omega.{arith}
use Rattle.queue.proofs.Buckets.{bits_without}
use Rattle.queue.proofs.minus.Goals as goal

pub returns : goal.returns
returns c = bits_without c.args.set c.args.other (omega arith) (omega arith)
