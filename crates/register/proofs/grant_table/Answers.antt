-- `register::grant_table` adds an ordinary delegation. Assumes nothing.
use Rattle.register.proofs.grant_table.Goals as goal

pub returns : goal.returns
returns c = c.grant_kind.ensures
