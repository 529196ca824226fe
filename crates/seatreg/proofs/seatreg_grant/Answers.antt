-- `seatreg::seatreg_grant` grants, or refuses, and hands out. Assumes nothing.
use Rattle.rules.specs.Register.{granted}
use Rattle.rules.specs.Call.{grant}
use Rattle.steptable.specs.TableText.{ours}
use Rattle.register.specs.Answer.{answer_of}
use Rattle.seatreg.proofs.Entry.{short, made}
use Rattle.seatreg.proofs.seatreg_grant.Goals as goal

pub returns-then-answers-ne-ANSWERS_SIZE : goal.returns-then-answers-ne-ANSWERS_SIZE
returns-then-answers-ne-ANSWERS_SIZE c =
    let a = c.args in
    short a.block.now a.answers.now ours (grant (granted a.giver a.receiver a.weight a.need a.bar 0)) c.if-answers-ne-ANSWERS_SIZE.true

pub returns : goal.returns
returns c =
    let h = c.hand_out in
    let a = c.args in
    made a.block.now a.answers.now ours (grant (granted a.giver a.receiver a.weight a.need a.bar 0))
    c.if-answers-ne-ANSWERS_SIZE.false (answer_of c.grant-o.result) c.grant-o.new.block c.grant-o.ensures h.result h.new.answers h.ensures
