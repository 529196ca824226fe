-- `replay::copy_slot` copies a slot to the one after it. Assumes nothing.
use Rattle.std.proofs.Common.{◌≡◌, refl, ap, ◌∙◌, ◌+◌, ◌-◌, ◌*◌, drop, arith}
use lib.Seq.{paste}
use Rattle.block.specs.Layout.{block_size}
use Rattle.replay.proofs.Slots.{copied_all}
use Rattle.replay.proofs.copy_slot.Goals as goal

pub returns : goal.returns
returns c =
    let b = c.args.blocks.now in
    let from = block_size * c.args.i in
    let n : from + block_size - from ≡ block_size = omega arith in
    copied_all b from (from + block_size) refl (omega arith) c.args.i refl _ (c.copy_within.ensures.after ∙ ap (paste b (from + block_size) (drop from b)) n)
