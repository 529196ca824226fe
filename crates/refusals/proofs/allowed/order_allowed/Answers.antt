-- `refusals::order_allowed` is the refusal of the order call on a block, or the steps of its table. Assumes nothing.
use Rattle.std.proofs.Common.{ap, sym, ◌∙◌, ℕ, rules}
use Rattle.steptable.specs.Lent.{given_by}
use Rattle.refusals.specs.Early.{order_refusal}
use Rattle.refusals.proofs.First.{told, told_none}
use Rattle.refusals.proofs.EarlyTests.{order_text}
use Rattle.refusals.proofs.allowed.order_allowed.Goals as goal

pub returns-in_err-order_refusal-clause-refusal : goal.returns-in_err-order_refusal-clause-refusal
returns-in_err-order_refusal-clause-refusal c = search (rules, told (c.order_refusal.ensures ∙ ap (λ (n : ℕ). order_refusal n c.args.block.now c.args.receiver) c.fault.ensures) c.in_err-order_refusal.was)

pub returns-clause-refusal : goal.returns-clause-refusal
returns-clause-refusal c =
    let z = told_none (c.order_refusal.ensures ∙ ap (λ (n : ℕ). order_refusal n c.args.block.now c.args.receiver) c.fault.ensures) c.in_ok-order_refusal.was in
    c.steps_of.ensures.refusal ∙ order_text (given_by c.args.table.now).refusal c.args.block.now c.args.receiver z ∙ sym z
