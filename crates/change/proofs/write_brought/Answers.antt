-- `change::write_brought` writes a block of the layout before in the present one. Assumes nothing.
use mathlib.Core.Path.{sym, ◌∙◌}
use native.Mathlib.Omega.{arith}
use lib.Seq.{length-take-le}
use Rattle.std.proofs.Common.{rules}
use Rattle.block.specs.Layout.{retired_at}
use Rattle.change.proofs.Bringing.{brought_stored}
use Rattle.change.proofs.write_brought.Goals as goal

pub slice_bounds-copy_from_slice-end-2 : goal.slice_bounds-copy_from_slice-end-2
slice_bounds-copy_from_slice-end-2 c = sym (length-take-le retired_at c.args.b.now (omega (arith, c.requires.1)))

pub slice_bounds-copy_from_slice-end-3 : goal.slice_bounds-copy_from_slice-end-3
slice_bounds-copy_from_slice-end-3 c = sym (length-take-le retired_at c.args.old.now (omega (arith, c.requires.0)))

pub copy_from_slice-requires : goal.copy_from_slice-requires
copy_from_slice-requires c =
    length-take-le retired_at c.args.b.now (omega (arith, c.requires.1)) ∙ sym (length-take-le retired_at c.args.old.now (omega (arith, c.requires.0)))

pub returns : goal.returns
returns c =
    brought_stored c.args.old.now c.args.b.now c.requires.0 c.requires.1 c.copy_from_slice.new.self c.fill.new.self c.copy_from_slice-2.new.self c.copy_from_slice.ensures.after (c.fill.ensures.after (λ y e. search rules)) c.copy_from_slice-2.ensures.after
