-- `register::reach_table` lends the table of a text. Assumes nothing.
use Rattle.steptable.proofs.Right.{given_keeps}
use Rattle.register.proofs.reach_table.Goals as goal

pub reach_by-requires : goal.reach_by-requires
reach_by-requires c = rw c.read_table.ensures (given_keeps c.args.table.now)

pub returns : goal.returns
returns c = rw (← c.read_table.ensures) c.reach_by.ensures
