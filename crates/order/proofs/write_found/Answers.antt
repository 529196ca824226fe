-- `order::write_found` writes the order that the search found. Assumes nothing.
use Rattle.block.specs.Block.{decode}
use Rattle.block.proofs.Bytes.{fits_bytes}
use Rattle.block.proofs.Held.{held_formed}
use Rattle.order.proofs.OrderWays.{items_held, order_written}
use Rattle.order.proofs.write_found.Goals as goal

pub write_items-requires : goal.write_items-requires
write_items-requires c =
    let o = c.order_of-count in
    items_held c.args.table.now c.requires.1 (decode c.args.block.now) (held_formed c.args.block.now (fits_bytes c.args.block.now c.shared_slice_known-1.given) c.requires.0.formed) c.args.receiver _ _ o.result o.ensures c.args.buf.now c.requires.2

pub returns : goal.returns
returns c =
    let o = c.order_of-count in
    order_written c.args.table.now c.requires.1 (decode c.args.block.now) (held_formed c.args.block.now (fits_bytes c.args.block.now c.shared_slice_known-1.given) c.requires.0.formed) c.args.receiver _ _ o.result o.ensures c.args.buf.now c.requires.2 _ c.write_items.ensures
