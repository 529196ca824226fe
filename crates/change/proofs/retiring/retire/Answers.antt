-- `change::retire` retires an enrolled subject. Assumes nothing.
use mathlib.Core.Path.{◌≡◌, ◌∙◌}
use Prim.Native.Nat.{◌<◌}
use native.Mathlib.Omega.{arith}
use lib.ListN.{length}
use Rattle.block.specs.Layout.{block_size}
use Rattle.block.specs.Block.{subjects_in}
use Rattle.block.specs.Fits.{Fitting}
use Rattle.block.proofs.Bytes.{fits_bytes}
use Rattle.block.proofs.Held.{size_held, count_most, has_head, has_marks, has_records}
use Rattle.change.proofs.Leaving.{weights_most, fewer_size, cleared_held, retire_held}
use Rattle.change.proofs.retiring.retire.Goals as goal
use Rattle.change.proofs.retiring.retire.Goals.{After-put_marks, After-write_left}

-- the block is long enough after the first, and holds a register after the second
left_long : (c : After-write_left) → length c.write_left.new.block ≡ block_size
left_long c =
    fewer_size c.args.b.now (fits_bytes c.args.b.now c.slice_known-1.given) c.requires.0 c.args.subject c.requires.1 c.weights_without.new.weights c.count-n.result c.count-n.ensures c.weights_without.ensures c.write_left.new.block c.write_left.ensures

marks_held : (c : After-put_marks) → Fitting c.put_marks.new.b × (c.args.subject < subjects_in c.put_marks.new.b)
marks_held c =
    cleared_held c.args.b.now (fits_bytes c.args.b.now c.slice_known-1.given) c.requires.0 c.args.subject c.requires.1 c.weights_without.new.weights c.count-n.result c.count-n.ensures c.weights_without.ensures c.write_left.new.block c.write_left.ensures c.put_marks.new.b c.put_marks.ensures

pub count-n-requires : goal.count-n-requires
count-n-requires c = has_head c.args.b.now (fits_bytes c.args.b.now c.slice_known-1.given) c.requires.0

pub weights_without-requires : goal.weights_without-requires
weights_without-requires c =
    let n = c.count-n.ensures in
    (rw n (has_records c.args.b.now (fits_bytes c.args.b.now c.slice_known-1.given) c.requires.0), omega (arith, n, count_most c.args.b.now (fits_bytes c.args.b.now c.slice_known-1.given) c.requires.0))

pub write_left-requires : goal.write_left-requires
write_left-requires c =
    (c.requires.0, c.weights-2-1.given, weights_most c.args.b.now (fits_bytes c.args.b.now c.slice_known-1.given) c.requires.0 c.args.subject c.requires.1 c.weights_without.new.weights c.count-n.result c.count-n.ensures c.weights_without.ensures)

pub put_marks-requires : goal.put_marks-requires
put_marks-requires c = omega (arith, left_long (goal.at.put_marks-requires c).After-write_left, has_marks c.args.b.now (fits_bytes c.args.b.now c.slice_known-1.given) c.requires.0 c.args.subject c.requires.1, size_held c.args.b.now (fits_bytes c.args.b.now c.slice_known-1.given) c.requires.0)

pub set_retired-requires : goal.set_retired-requires
set_retired-requires c = marks_held (goal.at.set_retired-requires c).After-put_marks

pub returns : goal.returns
returns c =
    c.set_retired.ensures
    ∙ retire_held c.args.b.now (fits_bytes c.args.b.now c.slice_known-1.given) c.requires.0 c.args.subject c.requires.1 c.weights_without.new.weights c.count-n.result c.count-n.ensures c.weights_without.ensures c.write_left.new.block c.write_left.ensures c.put_marks.new.b c.put_marks.ensures
