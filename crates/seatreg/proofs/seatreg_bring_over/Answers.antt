-- `seatreg::seatreg_bring_over` takes a block of the layout before over, or refuses, and hands out. Assumes nothing.
use Rattle.register.specs.Answer.{answer_of}
use Rattle.seatreg.proofs.Entry.{bring_short, bring_made}
use Rattle.seatreg.proofs.seatreg_bring_over.Goals as goal

pub returns-then-answers-ne-ANSWERS_SIZE : goal.returns-then-answers-ne-ANSWERS_SIZE
returns-then-answers-ne-ANSWERS_SIZE c =
    let a = c.args in
    bring_short a.old.now a.block.now a.answers.now c.if-answers-ne-ANSWERS_SIZE.true

pub returns : goal.returns
returns c =
    let h = c.hand_out in
    let a = c.args in
    bring_made a.old.now a.block.now a.answers.now
    c.if-answers-ne-ANSWERS_SIZE.false (answer_of c.bring_over-o.result) c.bring_over-o.new.block c.bring_over-o.ensures h.result h.new.answers h.ensures
