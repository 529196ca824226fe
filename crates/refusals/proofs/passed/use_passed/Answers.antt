-- `refusals::use_passed` makes the tests of `passed` in their order. Assumes nothing.
use Rattle.std.proofs.Common.{rules}
use Rattle.rules.specs.Refusal.{passed}
use Rattle.refusals.proofs.passed.use_passed.Goals as goal

pub returns : goal.returns
unfolding passed
returns c = search rules
