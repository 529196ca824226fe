-- `register::downgrade_table` lends the table of a text. Assumes nothing.
use Rattle.steptable.proofs.Right.{given_keeps}
use Rattle.register.proofs.downgrade_table.Goals as goal

pub downgrade_lent-requires : goal.downgrade_lent-requires
downgrade_lent-requires c = rw c.read_table.ensures (given_keeps c.args.table.now)

pub returns : goal.returns
returns c = rw (← c.read_table.ensures) c.downgrade_lent.ensures
