-- `register::grant` lends document 01's own step table. Assumes nothing.
use Rattle.rules.proofs.Table.{steps_rule}
use Rattle.register.proofs.grant.Goals as goal

pub grant_by-requires : goal.grant_by-requires
grant_by-requires c = rw c.own.ensures steps_rule

pub returns : goal.returns
returns c = rw c.own.ensures at c.grant_by.ensures
