-- `seatreg::seatreg_downgrade` downgrades, or refuses, and hands out. Assumes nothing.
use Rattle.rules.specs.Call.{downgrade}
use Rattle.steptable.specs.TableText.{ours}
use Rattle.register.specs.Answer.{answer_of}
use Rattle.seatreg.proofs.Entry.{cut_short, cut_made}
use Rattle.seatreg.proofs.seatreg_downgrade.Goals as goal

pub returns-then-answers-ne-ANSWERS_SIZE : goal.returns-then-answers-ne-ANSWERS_SIZE
returns-then-answers-ne-ANSWERS_SIZE c =
    let a = c.args in
    cut_short a.block.now a.answers.now ours (downgrade a.by a.giver a.receiver a.weight) c.if-answers-ne-ANSWERS_SIZE.true

pub returns : goal.returns
returns c =
    let h = c.hand_out in
    let a = c.args in
    cut_made a.block.now a.answers.now ours (downgrade a.by a.giver a.receiver a.weight)
    c.if-answers-ne-ANSWERS_SIZE.false (answer_of c.downgrade-o.result) c.downgrade-o.new.block c.downgrade-o.ensures h.result h.new.answers h.ensures
