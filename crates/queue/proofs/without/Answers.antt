-- `queue::without` takes a member out of a set. Assumes nothing.
use Rattle.queue.proofs.Buckets.{put_out}
use Rattle.queue.proofs.without.Goals as goal

pub returns : goal.returns
returns c = let a = c.args in put_out a.set a.member c.with.result c.minus.result c.with.ensures c.minus.ensures
