-- `register::retire` lends the table of a text. Assumes nothing.
use Rattle.steptable.proofs.Right.{given_keeps}
use Rattle.register.proofs.retire.Goals as goal

pub retire_by-requires : goal.retire_by-requires
retire_by-requires c = rw c.read_table.ensures (given_keeps c.args.table.now)

pub returns : goal.returns
returns c = rw (← c.read_table.ensures) c.retire_by.ensures
