-- `search::limits_for` finds the reaches of a receiver by a queue of its own. Assumes nothing.
use mathlib.Core.Path.{refl}
use Rattle.queue.specs.Queue.{groups}
use Rattle.queue.proofs.Buckets.{empty_waits}
use Rattle.search.proofs.on_block.limits_for.Goals as goal

pub limits_by-requires : goal.limits_by-requires
limits_by-requires c = (c.requires.0, c.requires.1, record { lists = c.requires.2; queue = record { size = refl; none = empty_waits groups } })
