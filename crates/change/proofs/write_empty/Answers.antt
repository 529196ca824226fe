-- `change::write_empty` writes no subject and no delegation. Assumes nothing.
use Rattle.std.proofs.Common.{rules}
use Rattle.change.proofs.Rewrite.{encode_empty}
use Rattle.change.proofs.write_empty.Goals as goal

pub returns : goal.returns
returns c = rw (c.fill.ensures.after (λ y e. search rules), c.requires) encode_empty
