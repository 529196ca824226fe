-- `refusals::order_refusal` is the refusal of the order call on a block. Assumes nothing.
use Rattle.std.proofs.Common.{sym, ap, ◌∙◌, rules}
use Rattle.rules.specs.Refused.{refused_with}
use Rattle.refusals.proofs.First.{number_some}
use Rattle.refusals.proofs.EarlyTests.{order_early, order_formed, order_held_lem}
use Rattle.refusals.proofs.order_refusal.Goals as goal

pub returns-in_err-early_told : goal.returns-in_err-early_told
returns-in_err-early_told c =
    let w = ap refused_with c.in_err-early_told.was in
    search (rules, sym w ∙ order_early c.args.fault c.args.block.now c.args.receiver c.order_passed.ensures c.early_told.ensures (λ z. number_some _ (sym w ∙ z)))

pub subjects_held-requires : goal.subjects_held-requires
subjects_held-requires c = order_formed c.args.fault c.args.block.now c.args.receiver c.order_passed.ensures c.early_told.ensures (ap refused_with c.in_ok-early_told.was)

pub returns : goal.returns
returns c = order_held_lem c.args.fault c.args.block.now c.args.receiver c.order_passed.ensures c.early_told.ensures (ap refused_with c.in_ok-early_told.was) c.subjects_held.ensures
