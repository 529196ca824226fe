-- `seatreg::seatreg_order` writes the order for a receiver, or refuses, and hands out. Assumes nothing.
use Prim.Native.Nat.{◌*◌, ◌≤◌}
use native.Mathlib.Omega.{arith}
use Rattle.steptable.specs.TableText.{given}
use Rattle.order.specs.Items.{item_size, order_size}
use Rattle.block.proofs.Bytes.{fits_bytes}
use Rattle.demands.proofs.Keeping.{kept_order, filled_most}
use Rattle.order.specs.Listed.{listed_of}
use Rattle.seatreg.proofs.Entry.{order_fits, order_short, order_made}
use Rattle.seatreg.proofs.seatreg_order.Goals as goal
use Rattle.seatreg.proofs.seatreg_order.Goals.{After-write_order-o}

few : (c : After-write_order-o) → item_size * (listed_of c.write_order-o.result).subjects ≤ order_size
few c =
    let a = c.args in
    let w = c.write_order-o in
    filled_most order_size a.out.now (listed_of w.result).refusal (item_size * (listed_of w.result).subjects) _ (kept_order (given a.table.now) a.block.now a.receiver a.out.now (listed_of w.result) _ (fits_bytes a.block.now c.shared_slice_known-1.given) w.ensures)

-- ── the needs ──
pub returns-then-answers-ne-ANSWERS_SIZE : goal.returns-then-answers-ne-ANSWERS_SIZE
returns-then-answers-ne-ANSWERS_SIZE c = let a = c.args in order_short (given a.table.now) a.block.now a.receiver a.out.now a.answers.now c.if-answers-ne-ANSWERS_SIZE.true

pub hand_out_length-requires : goal.hand_out_length-requires
hand_out_length-requires c = (c.if-answers-ne-ANSWERS_SIZE.false, order_fits c.write_order-o.result (omega (arith, few (goal.at.hand_out_length-requires c).After-write_order-o)))

pub returns : goal.returns
returns c =
    let a = c.args in
    let w = c.write_order-o in
    let h = c.hand_out_length in
    order_made (given a.table.now) a.block.now a.receiver a.out.now a.answers.now c.if-answers-ne-ANSWERS_SIZE.false w.result _ w.ensures h.result _ h.ensures
