-- `steptable::keeps` tests one entry as the definition does. Assumes nothing.
use Rattle.steptable.proofs.Making.{keeps_not}
use Rattle.steptable.proofs.keeps.Goals as goal

pub returns-then-next-before : goal.returns-then-next-before
returns-then-next-before c =
    keeps_not c.args.weight c.args.before c.args.next c.requires.1 c.requires.2 c.if-next-before.true
