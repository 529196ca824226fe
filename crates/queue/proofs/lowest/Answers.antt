-- `queue::lowest` finds the lowest member of a set. Assumes nothing.
use native.Mathlib.Omega.{arith}
use Rattle.queue.proofs.Buckets.{lowest_of}
use Rattle.queue.proofs.lowest.Goals as goal

pub returns : goal.returns
returns c = lowest_of c.args.set c.requires (omega arith)
