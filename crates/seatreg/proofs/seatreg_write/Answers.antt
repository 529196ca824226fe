-- `seatreg::seatreg_write` writes the text of a register, or refuses, and hands out. Assumes nothing.
use Prim.Native.Nat.{◌≤◌}
use native.Mathlib.Omega.{arith}
use Rattle.block.proofs.Bytes.{fits_bytes}
use Rattle.demands.specs.Kept.{most_written}
use Rattle.demands.proofs.Keeping.{kept_write, filled_most}
use Rattle.transfer.specs.Filled.{filled_of}
use Rattle.seatreg.proofs.Entry.{write_fits, write_short, write_made}
use Rattle.seatreg.proofs.seatreg_write.Goals as goal
use Rattle.seatreg.proofs.seatreg_write.Goals.{After-write_file-o}

few : (c : After-write_file-o) → (filled_of c.write_file-o.result).length ≤ most_written
few c =
    let a = c.args in
    let w = c.write_file-o in
    filled_most most_written a.text.now (filled_of w.result).refusal (filled_of w.result).length _ (kept_write a.block.now a.text.now (filled_of w.result) _ (fits_bytes a.block.now c.shared_slice_known-1.given) w.ensures)

-- ── the needs ──
pub returns-then-answers-ne-ANSWERS_SIZE : goal.returns-then-answers-ne-ANSWERS_SIZE
returns-then-answers-ne-ANSWERS_SIZE c = let a = c.args in write_short a.block.now a.text.now a.answers.now c.if-answers-ne-ANSWERS_SIZE.true

pub hand_out_length-requires : goal.hand_out_length-requires
hand_out_length-requires c = (c.if-answers-ne-ANSWERS_SIZE.false, write_fits c.write_file-o.result (omega (arith, few (goal.at.hand_out_length-requires c).After-write_file-o)))

pub returns : goal.returns
returns c =
    let a = c.args in
    let w = c.write_file-o in
    let h = c.hand_out_length in
    write_made a.block.now a.text.now a.answers.now c.if-answers-ne-ANSWERS_SIZE.false w.result _ w.ensures h.result _ h.ensures
