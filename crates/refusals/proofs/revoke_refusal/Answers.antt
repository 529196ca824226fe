-- `refusals::revoke_refusal` is the whole refusal of the call. Assumes nothing.
use Rattle.std.proofs.Common.{rules}
use Rattle.rules.specs.Call.{revoke}
use Rattle.refusals.proofs.EarlyTests.{early_refused, early_checked, early_late}
use Rattle.refusals.proofs.revoke_refusal.Goals as goal

pub returns-in_err-early_told : goal.returns-in_err-early_told
returns-in_err-early_told c t = search (rules, early_refused c.args.fault c.args.block.now (revoke c.args.by c.args.giver c.args.receiver) c.revoke_passed.ensures c.early_told.ensures c.in_err-early_told.was t)

pub revoke_held-requires : goal.revoke_held-requires
revoke_held-requires c = (early_checked c.args.fault c.args.block.now (revoke c.args.by c.args.giver c.args.receiver) c.revoke_passed.ensures c.early_told.ensures c.in_ok-early_told.was)

pub returns : goal.returns
returns c t = early_late c.args.fault c.args.block.now (revoke c.args.by c.args.giver c.args.receiver) c.revoke_passed.ensures c.early_told.ensures c.in_ok-early_told.was t _ (c.revoke_held.ensures t)
