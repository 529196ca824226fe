-- `slips::write_slip` writes a slip's three parts. Assumes nothing.
use mathlib.Core.Path.{sym, ◌∙◌}
use native.Mathlib.Omega.{arith}
use lib.Seq.{length-take-le}
use Rattle.block.specs.Layout.{block_size}
use Rattle.slips.proofs.Parts.{slip_stored}
use Rattle.slips.proofs.slip.write_slip.Goals as goal

pub slice_bounds-copy-end-2 : goal.slice_bounds-copy-end-2
slice_bounds-copy-end-2 c = sym (length-take-le block_size c.args.slip.now (omega (arith, c.requires.0)))

pub copy-requires : goal.copy-requires
copy-requires c = c.requires.1 ∙ sym (length-take-le block_size c.args.slip.now (omega (arith, c.requires.0)))

pub returns : goal.returns
returns c =
    let a = c.args in
    slip_stored a.slip.now a.before.now a.cut.now a.after.now c.requires.0 c.requires.1 c.requires.2 c.copy.ensures c.copy-2.ensures c.copy-3.ensures
