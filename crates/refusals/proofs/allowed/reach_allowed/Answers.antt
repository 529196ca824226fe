-- `refusals::reach_allowed` is the whole refusal of the call, or the steps of its table. Assumes nothing.
use Rattle.std.proofs.Common.{ap, ◌∙◌, ℕ, rules}
use Rattle.rules.specs.Call.{ask_reach}
use Rattle.steptable.specs.TableText.{lent}
use Rattle.steptable.specs.Lent.{given_by}
use Rattle.refusals.specs.Early.{refusal_on}
use Rattle.refusals.proofs.First.{told, told_none}
use Rattle.refusals.proofs.EarlyTests.{text_allowed}
use Rattle.refusals.proofs.allowed.reach_allowed.Goals as goal

pub returns-in_err-reach_refusal-clause-refusal : goal.returns-in_err-reach_refusal-clause-refusal
returns-in_err-reach_refusal-clause-refusal c t = search (rules, told (c.reach_refusal.ensures t ∙ ap (λ (n : ℕ). refusal_on (lent n t) c.args.block.now (ask_reach c.args.giver c.args.receiver)) c.fault.ensures) c.in_err-reach_refusal.was)

pub returns-clause-refusal : goal.returns-clause-refusal
returns-clause-refusal c t =
    c.steps_of.ensures.refusal
    ∙ text_allowed (lent (given_by c.args.table.now).refusal t) c.args.block.now (ask_reach c.args.giver c.args.receiver) (told_none (c.reach_refusal.ensures t ∙ ap (λ (n : ℕ). refusal_on (lent n t) c.args.block.now (ask_reach c.args.giver c.args.receiver)) c.fault.ensures) c.in_ok-reach_refusal.was)
