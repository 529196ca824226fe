-- `seatreg::seatreg_grant_kind` grants with a kind by the step table of a text, or refuses, and hands out. Assumes nothing.
use Rattle.rules.specs.Register.{granted}
use Rattle.rules.specs.Call.{grant}
use Rattle.steptable.specs.TableText.{given}
use Rattle.register.specs.Answer.{answer_of}
use Rattle.seatreg.proofs.Entry.{short, made}
use Rattle.seatreg.proofs.seatreg_grant_kind.Goals as goal

pub returns-then-answers-ne-ANSWERS_SIZE : goal.returns-then-answers-ne-ANSWERS_SIZE
returns-then-answers-ne-ANSWERS_SIZE c =
    let a = c.args in
    short a.block.now a.answers.now (given a.table.now) (grant (granted a.giver a.receiver a.weight a.need a.bar a.kind)) c.if-answers-ne-ANSWERS_SIZE.true

pub returns : goal.returns
returns c =
    let h = c.hand_out in
    let a = c.args in
    made a.block.now a.answers.now (given a.table.now) (grant (granted a.giver a.receiver a.weight a.need a.bar a.kind))
    c.if-answers-ne-ANSWERS_SIZE.false (answer_of c.grant_kind-o.result) c.grant_kind-o.new.block c.grant_kind-o.ensures h.result h.new.answers h.ensures
