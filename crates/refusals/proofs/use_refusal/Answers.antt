-- `refusals::use_refusal` is the whole refusal of the call. Assumes nothing.
use Rattle.std.proofs.Common.{rules}
use Rattle.rules.specs.Table.{steps}
use Rattle.rules.specs.Call.{ask_use}
use Rattle.rules.specs.Refusal.{held}
use Rattle.refusals.proofs.EarlyTests.{early_refused, early_checked, early_late}
use Rattle.refusals.proofs.use_refusal.Goals as goal

pub returns-in_err-early_told : goal.returns-in_err-early_told
returns-in_err-early_told c = search (rules, early_refused 0 c.args.block.now (ask_use c.args.receiver) c.use_passed.ensures c.early_told.ensures c.in_err-early_told.was steps)

pub subjects_held-requires : goal.subjects_held-requires
subjects_held-requires c = (early_checked 0 c.args.block.now (ask_use c.args.receiver) c.use_passed.ensures c.early_told.ensures c.in_ok-early_told.was).formed

pub returns : goal.returns
unfolding held
returns c = early_late 0 c.args.block.now (ask_use c.args.receiver) c.use_passed.ensures c.early_told.ensures c.in_ok-early_told.was steps _ c.subjects_held.ensures
