-- `refusals::downgrade_held` is the first refusal of a downgrade by what the register holds. Assumes nothing.
use Rattle.std.proofs.Common.{sym, ap, ◌∙◌, rules}
use Rattle.rules.specs.Refused.{refused_with}
use Rattle.block.specs.Block.{decode}
use Rattle.refusals.proofs.First.{number_some}
use Rattle.refusals.proofs.CutHolding.{downgrade_early, downgrade_late}
use Rattle.refusals.proofs.held.downgrade_held.Goals as goal

pub returns-in_err-revoke_held : goal.returns-in_err-revoke_held
returns-in_err-revoke_held c t =
    let a = c.args in
    let z = sym (ap refused_with c.in_err-revoke_held.was) ∙ c.revoke_held.ensures t in
    search (rules, z ∙ downgrade_early t (decode a.block.now) a.by a.giver a.receiver a.weight (λ n. number_some _ (z ∙ n)))

pub returns : goal.returns
returns c t =
    let a = c.args in
    c.not_below.ensures ∙ downgrade_late t (decode a.block.now) a.by a.giver a.receiver a.weight (sym (c.revoke_held.ensures t) ∙ ap refused_with c.in_ok-revoke_held.was)
