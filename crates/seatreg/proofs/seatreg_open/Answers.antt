-- `seatreg::seatreg_open` writes a fresh register, or refuses, and hands out. Assumes nothing.
use Rattle.register.specs.Answer.{answer_of}
use Rattle.seatreg.proofs.Entry.{open_short, open_made}
use Rattle.seatreg.proofs.seatreg_open.Goals as goal

pub returns-then-answers-ne-ANSWERS_SIZE : goal.returns-then-answers-ne-ANSWERS_SIZE
returns-then-answers-ne-ANSWERS_SIZE c =
    let a = c.args in
    open_short a.block.now a.answers.now c.if-answers-ne-ANSWERS_SIZE.true

pub returns : goal.returns
returns c =
    let h = c.hand_out in
    let a = c.args in
    open_made a.block.now a.answers.now
    c.if-answers-ne-ANSWERS_SIZE.false (answer_of c.open-o.result) c.open-o.new.block c.open-o.ensures h.result h.new.answers h.ensures
