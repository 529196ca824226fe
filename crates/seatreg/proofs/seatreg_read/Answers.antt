-- `seatreg::seatreg_read` reads the register of a text, or refuses, and hands out. Assumes nothing.
use Rattle.register.specs.Answer.{answer_of}
use Rattle.seatreg.proofs.Entry.{read_short, read_made}
use Rattle.seatreg.proofs.seatreg_read.Goals as goal

pub returns-then-answers-ne-ANSWERS_SIZE : goal.returns-then-answers-ne-ANSWERS_SIZE
returns-then-answers-ne-ANSWERS_SIZE c =
    let a = c.args in
    read_short a.text.now a.table.now a.block.now a.answers.now c.if-answers-ne-ANSWERS_SIZE.true

pub returns : goal.returns
returns c =
    let h = c.hand_out in
    let a = c.args in
    read_made a.text.now a.table.now a.block.now a.answers.now
    c.if-answers-ne-ANSWERS_SIZE.false (answer_of c.read_file-o.result) c.read_file-o.new.block c.read_file-o.ensures h.result h.new.answers h.ensures
