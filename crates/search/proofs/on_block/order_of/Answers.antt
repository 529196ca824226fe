-- `search::order_of` finds the reaches of a receiver and the order for it. Assumes nothing.
use mathlib.Core.Path.{refl}
use Rattle.queue.specs.Queue.{groups}
use Rattle.queue.proofs.Buckets.{empty_waits}
use Rattle.block.proofs.Bytes.{fits_bytes}
use Rattle.search.proofs.Searching.{order_found}
use Rattle.search.proofs.on_block.order_of.Goals as goal

pub search_by-requires : goal.search_by-requires
search_by-requires c = (
  record { block = c.requires.0; starts = c.starts_of.ensures },
  c.requires.1,
  record { search = record { lists = record { limits = c.requires.2.limits; parents = refl }; queue = record { size = refl; none = empty_waits groups } }; order = c.requires.2.order },
)

pub returns : goal.returns
returns c =
    let o = c.search_by in
    order_found c.args.block.now (fits_bytes c.args.block.now c.type_inv.block) c.requires.0.formed c.args.table.now c.args.receiver _ _ o.ensures.searched _ _ o.ensures.settled
