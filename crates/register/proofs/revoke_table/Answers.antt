-- `register::revoke_table` lends the table of a text. Assumes nothing.
use Rattle.std.proofs.Common.{rules}
use Rattle.steptable.proofs.Right.{given_keeps}
use Rattle.register.proofs.revoke_table.Goals as goal

pub revoke_lent-requires : goal.revoke_lent-requires
revoke_lent-requires c = search (rules, given_keeps)

pub returns : goal.returns
returns c = search rules
