-- `refusals::enrol_refusal` is the whole refusal of the call. Assumes nothing.
use Rattle.std.proofs.Common.{rules}
use Rattle.rules.specs.Table.{steps}
use Rattle.rules.specs.Call.{enrol}
use Rattle.rules.specs.Refusal.{held}
use Rattle.refusals.proofs.EarlyTests.{early_refused, early_checked, early_late}
use Rattle.refusals.proofs.enrol_refusal.Goals as goal

pub returns-in_err-early_told : goal.returns-in_err-early_told
returns-in_err-early_told c = search (rules, early_refused 0 c.args.block.now (enrol c.args.marks) c.enrol_passed.ensures c.early_told.ensures c.in_err-early_told.was steps)

pub all_enrolled-requires : goal.all_enrolled-requires
all_enrolled-requires c = (early_checked 0 c.args.block.now (enrol c.args.marks) c.enrol_passed.ensures c.early_told.ensures c.in_ok-early_told.was).formed

pub returns : goal.returns
unfolding held
returns c = early_late 0 c.args.block.now (enrol c.args.marks) c.enrol_passed.ensures c.early_told.ensures c.in_ok-early_told.was steps _ c.all_enrolled.ensures
