-- `register::downgrade` lends document 01's own step table. Assumes nothing.
use Rattle.rules.proofs.Table.{steps_rule}
use Rattle.register.proofs.downgrade.Goals as goal

pub downgrade_by-requires : goal.downgrade_by-requires
downgrade_by-requires c = rw c.steps.ensures steps_rule

pub returns : goal.returns
returns c = rw c.steps.ensures at c.downgrade_by.ensures
