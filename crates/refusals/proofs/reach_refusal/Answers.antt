-- `refusals::reach_refusal` is the whole refusal of the call. Assumes nothing.
use Rattle.std.proofs.Common.{rules}
use Rattle.rules.specs.Call.{ask_reach}
use Rattle.rules.specs.Refusal.{held}
use Rattle.refusals.proofs.EarlyTests.{early_refused, early_checked, early_late}
use Rattle.refusals.proofs.reach_refusal.Goals as goal

pub returns-in_err-early_told : goal.returns-in_err-early_told
returns-in_err-early_told c t = search (rules, early_refused c.args.fault c.args.block.now (ask_reach c.args.giver c.args.receiver) c.pair_passed.ensures c.early_told.ensures c.in_err-early_told.was t)

pub pair_held-requires : goal.pair_held-requires
pair_held-requires c = (early_checked c.args.fault c.args.block.now (ask_reach c.args.giver c.args.receiver) c.pair_passed.ensures c.early_told.ensures c.in_ok-early_told.was).formed

pub returns : goal.returns
unfolding held
returns c t = early_late c.args.fault c.args.block.now (ask_reach c.args.giver c.args.receiver) c.pair_passed.ensures c.early_told.ensures c.in_ok-early_told.was t _ c.pair_held.ensures
