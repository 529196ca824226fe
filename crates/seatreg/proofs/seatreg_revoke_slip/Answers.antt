-- `seatreg::seatreg_revoke_slip` revokes by the step table of a text and writes a slip, or refuses, and hands out. Assumes nothing.
use Rattle.rules.specs.Cut.{removal}
use Rattle.steptable.specs.TableText.{given}
use Rattle.register.specs.Answer.{answer_of}
use Rattle.seatreg.proofs.Entry.{slip_short, slip_made}
use Rattle.seatreg.proofs.seatreg_revoke_slip.Goals as goal

pub returns-then-answers-ne-ANSWERS_SIZE : goal.returns-then-answers-ne-ANSWERS_SIZE
returns-then-answers-ne-ANSWERS_SIZE c =
    let a = c.args in
    slip_short (given a.table.now) a.by (removal a.giver a.receiver) a.block.now a.slip.now a.answers.now c.if-answers-ne-ANSWERS_SIZE.true

pub returns : goal.returns
returns c =
    let h = c.hand_out in
    let a = c.args in
    slip_made (given a.table.now) a.by (removal a.giver a.receiver) a.block.now a.slip.now a.answers.now
    c.if-answers-ne-ANSWERS_SIZE.false (answer_of c.revoke_slip-o.result) c.revoke_slip-o.new.block c.revoke_slip-o.new.slip c.revoke_slip-o.ensures h.result h.new.answers h.ensures
