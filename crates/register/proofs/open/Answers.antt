-- `register::open` writes a fresh register or refuses. Assumes nothing.
use Rattle.register.proofs.Made.{open_refused, open_done}
use Rattle.register.proofs.open.Goals as goal

pub returns-then-block-ne-BLOCK_SIZE : goal.returns-then-block-ne-BLOCK_SIZE
returns-then-block-ne-BLOCK_SIZE c = (open_refused c.args.block.now c.if-block-ne-BLOCK_SIZE.true)

pub returns : goal.returns
returns c = rw c.new.ensures (open_done c.args.block.now c.if-block-ne-BLOCK_SIZE.false c.write_fresh.new.b c.write_fresh.ensures)
