-- `seatreg::seatreg_downgrade_slip` downgrades by the step table of a text and writes a slip, or refuses, and hands out. Assumes nothing.
use Rattle.rules.specs.Cut.{lowering}
use Rattle.steptable.specs.TableText.{given}
use Rattle.register.specs.Answer.{answer_of}
use Rattle.seatreg.proofs.Entry.{slip_short, slip_made}
use Rattle.seatreg.proofs.seatreg_downgrade_slip.Goals as goal

pub returns-then-answers-ne-ANSWERS_SIZE : goal.returns-then-answers-ne-ANSWERS_SIZE
returns-then-answers-ne-ANSWERS_SIZE c =
    let a = c.args in
    slip_short (given a.table.now) a.by (lowering a.giver a.receiver a.weight) a.block.now a.slip.now a.answers.now c.if-answers-ne-ANSWERS_SIZE.true

pub returns : goal.returns
returns c =
    let h = c.hand_out in
    let a = c.args in
    slip_made (given a.table.now) a.by (lowering a.giver a.receiver a.weight) a.block.now a.slip.now a.answers.now
    c.if-answers-ne-ANSWERS_SIZE.false (answer_of c.downgrade_slip-o.result) c.downgrade_slip-o.new.block c.downgrade_slip-o.new.slip c.downgrade_slip-o.ensures h.result h.new.answers h.ensures
