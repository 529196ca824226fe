-- `refusals::overweight` is the test of 16. Assumes nothing.
use Rattle.std.proofs.Common.{arith}
use mir.Syntax.{w16}
use mir.Facts.{to_z-of_z, to_z_pos}
use Rattle.rules.specs.Register.{granted}
use Rattle.block.specs.Block.{decode}
use Rattle.refusals.proofs.Holding.{heavy_test}
use Rattle.refusals.proofs.held.overweight.Goals as goal

pub returns : goal.returns
returns c =
    let r = c.reach_of-reach in
    let a = c.args in
    rw (heavy_test a.table.now (decode a.block.now) (granted a.giver a.receiver a.weight a.need a.bar a.kind))
    (rw (to_z-of_z {w = w16} {z = r.result} record { sfits = omega (arith, r.type_inv) }, to_z_pos w16 {n = a.weight} (omega (arith, c.requires.0.numbers.1)), r.ensures) at c.tested.ensures)
