-- `refusals::retire_refusal` is the whole refusal of the call. Assumes nothing.
use Rattle.std.proofs.Common.{◌∙◌, rules}
use Rattle.rules.specs.Call.{retire}
use Rattle.block.specs.Block.{decode}
use Rattle.refusals.proofs.CutHolding.{retire_owners}
use Rattle.refusals.proofs.EarlyTests.{early_refused, early_checked, early_late}
use Rattle.refusals.proofs.retire_refusal.Goals as goal

pub returns-in_err-early_told : goal.returns-in_err-early_told
returns-in_err-early_told c t = search (rules, early_refused c.args.fault c.args.block.now (retire c.args.by c.args.subject) c.retire_passed.ensures c.early_told.ensures c.in_err-early_told.was t)

pub owner_held-requires : goal.owner_held-requires
owner_held-requires c = (early_checked c.args.fault c.args.block.now (retire c.args.by c.args.subject) c.retire_passed.ensures c.early_told.ensures c.in_ok-early_told.was).formed

pub returns : goal.returns
returns c t = early_late c.args.fault c.args.block.now (retire c.args.by c.args.subject) c.retire_passed.ensures c.early_told.ensures c.in_ok-early_told.was t _ (c.owner_held.ensures ∙ retire_owners t (decode c.args.block.now) c.args.by c.args.subject)
