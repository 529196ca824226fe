-- `register::grant_kind` lends the table of a text. Assumes nothing.
use Rattle.steptable.proofs.Right.{given_keeps}
use Rattle.register.proofs.grant_kind.Goals as goal

pub grant_by-requires : goal.grant_by-requires
grant_by-requires c = rw c.read_table.ensures (given_keeps c.args.table.now)

pub returns : goal.returns
returns c = rw (← c.read_table.ensures) c.grant_by.ensures
