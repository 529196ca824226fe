-- `refusals::downgrade_allowed` is the whole refusal of the call, or the steps of its table. Assumes nothing.
use Rattle.std.proofs.Common.{ap, ◌∙◌, ℕ, rules}
use Rattle.rules.specs.Call.{downgrade}
use Rattle.steptable.specs.TableText.{lent}
use Rattle.steptable.specs.Lent.{given_by}
use Rattle.refusals.specs.Early.{refusal_on}
use Rattle.refusals.proofs.First.{told, told_none}
use Rattle.refusals.proofs.EarlyTests.{text_allowed}
use Rattle.refusals.proofs.allowed.downgrade_allowed.Goals as goal

pub returns-in_err-downgrade_refusal-clause-refusal : goal.returns-in_err-downgrade_refusal-clause-refusal
returns-in_err-downgrade_refusal-clause-refusal c t = search (rules, told (c.downgrade_refusal.ensures t ∙ ap (λ (n : ℕ). refusal_on (lent n t) c.args.block.now (downgrade c.args.by c.args.giver c.args.receiver c.args.weight)) c.fault.ensures) c.in_err-downgrade_refusal.was)

pub returns-clause-refusal : goal.returns-clause-refusal
returns-clause-refusal c t =
    c.steps_of.ensures.refusal
    ∙ text_allowed (lent (given_by c.args.table.now).refusal t) c.args.block.now (downgrade c.args.by c.args.giver c.args.receiver c.args.weight) (told_none (c.downgrade_refusal.ensures t ∙ ap (λ (n : ℕ). refusal_on (lent n t) c.args.block.now (downgrade c.args.by c.args.giver c.args.receiver c.args.weight)) c.fault.ensures) c.in_ok-downgrade_refusal.was)
