-- `seatreg::seatreg_enrol` enrols, or refuses, and hands out. Assumes nothing.
use Rattle.rules.specs.Call.{enrol}
use Rattle.steptable.specs.TableText.{ours}
use Rattle.register.specs.Answer.{answer_of}
use Rattle.seatreg.proofs.Entry.{short, made}
use Rattle.seatreg.proofs.seatreg_enrol.Goals as goal

pub returns-then-answers-ne-ANSWERS_SIZE : goal.returns-then-answers-ne-ANSWERS_SIZE
returns-then-answers-ne-ANSWERS_SIZE c =
    let a = c.args in
    short a.block.now a.answers.now ours (enrol a.marks) c.if-answers-ne-ANSWERS_SIZE.true

pub returns : goal.returns
returns c =
    let h = c.hand_out in
    let a = c.args in
    made a.block.now a.answers.now ours (enrol a.marks)
    c.if-answers-ne-ANSWERS_SIZE.false (answer_of c.enrol-o.result) c.enrol-o.new.block c.enrol-o.ensures h.result h.new.answers h.ensures
