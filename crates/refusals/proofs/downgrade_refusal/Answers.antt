-- `refusals::downgrade_refusal` is the whole refusal of the call. Assumes nothing.
use Rattle.std.proofs.Common.{rules}
use Rattle.rules.specs.Call.{downgrade}
use Rattle.refusals.proofs.EarlyTests.{early_refused, early_checked, early_late}
use Rattle.refusals.proofs.downgrade_refusal.Goals as goal

pub returns-in_err-early_told : goal.returns-in_err-early_told
returns-in_err-early_told c t = search (rules, early_refused c.args.fault c.args.block.now (downgrade c.args.by c.args.giver c.args.receiver c.args.weight) c.downgrade_passed.ensures c.early_told.ensures c.in_err-early_told.was t)

pub downgrade_held-requires : goal.downgrade_held-requires
downgrade_held-requires c = (early_checked c.args.fault c.args.block.now (downgrade c.args.by c.args.giver c.args.receiver c.args.weight) c.downgrade_passed.ensures c.early_told.ensures c.in_ok-early_told.was)

pub returns : goal.returns
returns c t = early_late c.args.fault c.args.block.now (downgrade c.args.by c.args.giver c.args.receiver c.args.weight) c.downgrade_passed.ensures c.early_told.ensures c.in_ok-early_told.was t _ (c.downgrade_held.ensures t)
