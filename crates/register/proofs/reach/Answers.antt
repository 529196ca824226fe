-- `register::reach` lends document 01's own step table. Assumes nothing.
use Rattle.rules.proofs.Table.{steps_rule}
use Rattle.register.proofs.reach.Goals as goal

pub reach_by-requires : goal.reach_by-requires
reach_by-requires c = rw c.own.ensures steps_rule

pub returns : goal.returns
returns c = rw c.own.ensures at c.reach_by.ensures
