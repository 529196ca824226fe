-- `replay::turn` makes one call on a copy of the last block. Assumes nothing.
use borrow.Rule.Slice.PartMut.{post_of}
use mathlib.Core.Path.{◌≡◌}
use Prim.Native.Nat.{◌+◌, ◌*◌, ◌-◌}
use native.Mathlib.Omega.{arith}
use lib.ListN.{length}
use Rattle.block.specs.Layout.{block_size}
use Rattle.register.specs.Answer.{answer_of}
use Rattle.replay.proofs.Turns.{turned}
use Rattle.replay.proofs.turn.Goals as goal

pub returns : goal.returns
returns c =
    let a = c.args in
    let copy = c.copy_slot in
    let made = c.call_at-o in
    let stored = c.store in
    let same : length copy.new.blocks ≡ length a.blocks.now = copy.auto.blocks in
    let m = block_size * (a.i + 1) in
    turned a.calls.now a.texts.now a.blocks.now a.refusals.now a.answers.now a.i
    copy.new.blocks copy.ensures m (m + block_size - m) (omega arith) (omega arith) (omega (arith, c.requires.place, c.requires.sizes.blocks))
    (answer_of made.result) made.new.block (post_of m (m + block_size - m) copy.new.blocks) made.auto.block made.ensures
    stored.new.refusals stored.new.answers stored.ensures
