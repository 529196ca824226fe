-- `chain::write_chain` lends document 01's own step table. Assumes nothing.
use Rattle.rules.proofs.Table.{steps_rule}
use Rattle.chain.proofs.write_chain.Goals as goal

pub write_chain_by-requires : goal.write_chain_by-requires
write_chain_by-requires c = rw c.steps.ensures steps_rule

pub returns : goal.returns
returns c = rw c.steps.ensures at c.write_chain_by.ensures
