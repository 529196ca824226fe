-- `rules::meets` is the definition's `meets`. Assumes nothing.
use borrow.Author.Tests.{eq-eqb, ne_eqb}
use Rattle.rules.specs.Condition.{meets}
use Rattle.rules.proofs.meets.Goals as goal

pub returns-then-marks-need : goal.returns-then-marks-need
unfolding meets
returns-then-marks-need c = rw (eq-eqb _ _ c.if-marks-need.true)

pub returns-else-marks-need : goal.returns-else-marks-need
unfolding meets
returns-else-marks-need c = rw (ne_eqb _ _ c.if-marks-need.false)
