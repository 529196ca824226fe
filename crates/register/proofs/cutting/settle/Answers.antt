-- `register::settle` makes the rounds of a cut. Assumes nothing.
use Prim.Native.Nat.{◌≤◌}
use native.Mathlib.Omega.{arith}
use mir.Syntax.{w32}
use mir.Facts.{to_z_pos}
use Rattle.block.specs.Block.{decode}
use Rattle.block.proofs.Bytes.{fits_bytes}
use Rattle.block.proofs.Held.{held_formed}
use Rattle.register.proofs.CutWays.{settled_cut, settled_few}
use Rattle.register.proofs.cutting.settle.Goals as goal
use Rattle.register.proofs.cutting.settle.Goals.{After-settled-o}

few : (c : After-settled-o) → (c.settled-o.result.dropped ≤ 256) × (c.settled-o.result.lowered ≤ 256) × (c.settled-o.result.rounds ≤ 512)
few c =
    let b = c.args.block.now in
    settled_few c.args.table.now c.requires.1 (decode b) (held_formed b (fits_bytes b c.slice_known-1.given) c.requires.0) c.settled-o.result c.settled-o.new.block c.settled-o.ensures

-- ── the needs ──
pub settled-o-requires : goal.settled-o-requires
settled-o-requires c = c.requires

pub overflow_cast-dropped : goal.overflow_cast-dropped
overflow_cast-dropped c = omega (arith, (few (goal.at.overflow_cast-dropped c).After-settled-o).0)

pub overflow_cast-lowered : goal.overflow_cast-lowered
overflow_cast-lowered c = omega (arith, (few (goal.at.overflow_cast-lowered c).After-settled-o).1)

pub overflow_cast-made : goal.overflow_cast-made
overflow_cast-made c = omega (arith, (few (goal.at.overflow_cast-made c).After-settled-o).2)

pub returns : goal.returns
returns c =
    let o = c.settled-o in
    let a = c.args in
    rw (c.new.ensures, to_z_pos w32 {n = o.result.dropped} (omega (arith, (few (goal.at.returns c).After-settled-o).0)), to_z_pos w32 {n = o.result.lowered} (omega (arith, (few (goal.at.returns c).After-settled-o).1)), to_z_pos w32 {n = o.result.rounds} (omega (arith, (few (goal.at.returns c).After-settled-o).2)))
    (settled_cut a.table.now a.block.now (decode a.block.now) o.result o.new.block o.ensures)
