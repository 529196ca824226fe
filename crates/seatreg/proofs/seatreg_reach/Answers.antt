-- `seatreg::seatreg_reach` answers the reach, or refuses, and hands out. Assumes nothing.
use Rattle.rules.specs.Call.{ask_reach}
use Rattle.steptable.specs.TableText.{ours}
use Rattle.register.specs.Answer.{answer_of}
use Rattle.seatreg.proofs.Entry.{short, made}
use Rattle.seatreg.proofs.seatreg_reach.Goals as goal

pub returns-then-answers-ne-ANSWERS_SIZE : goal.returns-then-answers-ne-ANSWERS_SIZE
returns-then-answers-ne-ANSWERS_SIZE c =
    let a = c.args in
    short a.block.now a.answers.now ours (ask_reach a.giver a.receiver) c.if-answers-ne-ANSWERS_SIZE.true

pub returns : goal.returns
returns c =
    let h = c.hand_out in
    let a = c.args in
    made a.block.now a.answers.now ours (ask_reach a.giver a.receiver)
    c.if-answers-ne-ANSWERS_SIZE.false (answer_of c.reach-o.result) a.block.now c.reach-o.ensures h.result h.new.answers h.ensures
