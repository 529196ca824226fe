-- `seatreg::seatreg_revoke_table` revokes by the step table of a text, or refuses, and hands out. Assumes nothing.
use Rattle.rules.specs.Call.{revoke}
use Rattle.steptable.specs.TableText.{given}
use Rattle.register.specs.Answer.{answer_of}
use Rattle.seatreg.proofs.Entry.{cut_short, cut_made}
use Rattle.seatreg.proofs.seatreg_revoke_table.Goals as goal

pub returns-then-answers-ne-ANSWERS_SIZE : goal.returns-then-answers-ne-ANSWERS_SIZE
returns-then-answers-ne-ANSWERS_SIZE c =
    let a = c.args in
    cut_short a.block.now a.answers.now (given a.table.now) (revoke a.by a.giver a.receiver) c.if-answers-ne-ANSWERS_SIZE.true

pub returns : goal.returns
returns c =
    let h = c.hand_out in
    let a = c.args in
    cut_made a.block.now a.answers.now (given a.table.now) (revoke a.by a.giver a.receiver)
    c.if-answers-ne-ANSWERS_SIZE.false (answer_of c.revoke_table-o.result) c.revoke_table-o.new.block c.revoke_table-o.ensures h.result h.new.answers h.ensures
