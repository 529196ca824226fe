-- `register::revoke` lends document 01's own step table. Assumes nothing.
use Rattle.rules.proofs.Table.{steps_rule}
use Rattle.register.proofs.revoke.Goals as goal

pub revoke_by-requires : goal.revoke_by-requires
revoke_by-requires c = rw c.steps.ensures steps_rule

pub returns : goal.returns
returns c = rw c.steps.ensures at c.revoke_by.ensures
