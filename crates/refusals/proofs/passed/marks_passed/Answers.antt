-- `refusals::marks_passed` makes the tests of `passed` in their order. Assumes nothing.
use Rattle.std.proofs.Common.{rules}
use Rattle.rules.specs.Refusal.{passed}
use Rattle.refusals.proofs.passed.marks_passed.Goals as goal

pub returns-in_err-no_subject : goal.returns-in_err-no_subject
unfolding passed
returns-in_err-no_subject c = search rules

pub returns-in_err-no_marks : goal.returns-in_err-no_marks
unfolding passed
returns-in_err-no_marks c = search rules

pub returns : goal.returns
unfolding passed
returns c = search rules
