-- `register::bring_over` takes a block of the layout before over, or refuses. Assumes nothing.
use mathlib.Core.Path.{sym, ap, ◌∙◌}
use Rattle.block.specs.WellFormed.{well_formed}
use Rattle.register.proofs.BringWays.{bring_old, bring_new, bring_unformed, bring_done}
use Rattle.register.proofs.bring_over.Goals as goal

pub returns-then-old-ne-OLD_BLOCK_SIZE : goal.returns-then-old-ne-OLD_BLOCK_SIZE
returns-then-old-ne-OLD_BLOCK_SIZE c = (bring_old c.args.old.now c.args.block.now c.if-old-ne-OLD_BLOCK_SIZE.true)

pub returns-then-block-ne-BLOCK_SIZE : goal.returns-then-block-ne-BLOCK_SIZE
returns-then-block-ne-BLOCK_SIZE c = (bring_new c.args.old.now c.args.block.now c.if-old-ne-OLD_BLOCK_SIZE.false c.if-block-ne-BLOCK_SIZE.true)

pub returns-then-not-well_formed : goal.returns-then-not-well_formed
returns-then-not-well_formed c =
    (bring_unformed c.args.old.now c.args.block.now c.if-old-ne-OLD_BLOCK_SIZE.false c.if-block-ne-BLOCK_SIZE.false (ap well_formed (sym c.write_brought.ensures) ∙ sym c.well_formed-2.ensures ∙ c.if-not-well_formed.true))

pub returns : goal.returns
returns c =
    rw c.new.ensures (bring_done c.args.old.now c.args.block.now c.if-old-ne-OLD_BLOCK_SIZE.false c.if-block-ne-BLOCK_SIZE.false (ap well_formed (sym c.write_brought.ensures) ∙ sym c.well_formed-2.ensures ∙ c.if-not-well_formed.false) c.copy.new.to (c.copy.ensures ∙ c.write_brought.ensures))
