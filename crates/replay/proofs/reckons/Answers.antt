-- `replay::reckons` tells whether a call takes a table. Assumes nothing.
use Rattle.replay.proofs.Texts.{reckons_none, reckons_none_5, reckons_some}
use Rattle.replay.proofs.reckons.Goals as goal

pub returns-then-number-eq0 : goal.returns-then-number-eq0
returns-then-number-eq0 c = reckons_none c.args.number c.if-number-eq0.true

pub returns-then-number-eq5 : goal.returns-then-number-eq5
returns-then-number-eq5 c = reckons_none_5 c.args.number c.if-number-eq5.true

pub returns : goal.returns
returns c = reckons_some c.args.number c.if-number-eq0.false c.if-number-eq5.false
