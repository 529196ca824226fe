-- `chain::write_chain_table` lends the table of a text. Assumes nothing.
use Rattle.steptable.proofs.Right.{given_keeps}
use Rattle.chain.proofs.write_chain_table.Goals as goal

pub write_chain_by-requires : goal.write_chain_by-requires
write_chain_by-requires c = rw c.read_table.ensures (given_keeps c.args.table.now)

pub returns : goal.returns
returns c = rw (← c.read_table.ensures) c.write_chain_by.ensures
