-- `queue::with` puts a member into a set. Assumes nothing.
use native.Mathlib.Omega.{arith}
use lib.Pow.{shl_exact}
use Rattle.queue.specs.Queue.{set_bits}
use Rattle.rules.proofs.Bits.{put_in}
use Rattle.queue.proofs.with.Goals as goal

pub returns : goal.returns
returns c = let a = c.args in put_in a.member _ (shl_exact 1 a.member set_bits (omega arith) (omega arith)) a.set
