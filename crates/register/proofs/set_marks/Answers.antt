-- `register::set_marks` lends the table of a text. Assumes nothing.
use Rattle.steptable.proofs.Right.{given_keeps}
use Rattle.register.proofs.set_marks.Goals as goal

pub set_marks_by-requires : goal.set_marks_by-requires
set_marks_by-requires c = rw c.read_table.ensures (given_keeps c.args.table.now)

pub returns : goal.returns
returns c = rw (← c.read_table.ensures) c.set_marks_by.ensures
