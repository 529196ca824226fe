-- `seatreg::seatreg_take_back` takes the cut of a slip back, or refuses, and hands out. Assumes nothing.
use Rattle.steptable.specs.TableText.{given}
use Rattle.register.specs.Answer.{answer_of}
use Rattle.seatreg.proofs.Entry.{back_short, back_made}
use Rattle.seatreg.proofs.seatreg_take_back.Goals as goal

pub returns-then-answers-ne-ANSWERS_SIZE : goal.returns-then-answers-ne-ANSWERS_SIZE
returns-then-answers-ne-ANSWERS_SIZE c =
    let a = c.args in
    back_short (given a.table.now) a.by a.slip.now a.block.now a.answers.now c.if-answers-ne-ANSWERS_SIZE.true

pub returns : goal.returns
returns c =
    let h = c.hand_out in
    let a = c.args in
    back_made (given a.table.now) a.by a.slip.now a.block.now a.answers.now
    c.if-answers-ne-ANSWERS_SIZE.false (answer_of c.take_back-o.result) c.take_back-o.new.block c.take_back-o.ensures h.result h.new.answers h.ensures
