-- `change::write_fresh` writes the fresh register. Assumes nothing.
use Rattle.std.proofs.Common.{rules}
use Rattle.change.proofs.Rewrite.{encode_fresh}
use Rattle.change.proofs.write_fresh.Goals as goal

pub returns : goal.returns
returns c = rw (c.fill.ensures.after (λ y e. search rules), c.requires) encode_fresh
