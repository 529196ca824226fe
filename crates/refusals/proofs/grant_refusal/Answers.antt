-- `refusals::grant_refusal` is the whole refusal of the call. Assumes nothing.
use Rattle.std.proofs.Common.{rules}
use Rattle.rules.specs.Register.{granted}
use Rattle.rules.specs.Call.{grant}
use Rattle.refusals.proofs.EarlyTests.{early_refused, early_checked, early_late}
use Rattle.refusals.proofs.grant_refusal.Goals as goal

pub returns-in_err-early_told : goal.returns-in_err-early_told
returns-in_err-early_told c = search (rules, early_refused c.args.fault c.args.block.now (grant (granted c.args.giver c.args.receiver c.args.weight c.args.need c.args.bar c.args.kind)) c.grant_passed-passed.ensures c.early_told.ensures c.in_err-early_told.was c.args.table.now)

pub grant_held-requires : goal.grant_held-requires
grant_held-requires c = (early_checked c.args.fault c.args.block.now (grant (granted c.args.giver c.args.receiver c.args.weight c.args.need c.args.bar c.args.kind)) c.grant_passed-passed.ensures c.early_told.ensures c.in_ok-early_told.was, c.requires)

pub returns : goal.returns
returns c = early_late c.args.fault c.args.block.now (grant (granted c.args.giver c.args.receiver c.args.weight c.args.need c.args.bar c.args.kind)) c.grant_passed-passed.ensures c.early_told.ensures c.in_ok-early_told.was c.args.table.now _ c.grant_held.ensures
