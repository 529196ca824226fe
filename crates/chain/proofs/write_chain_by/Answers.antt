-- `chain::write_chain_by` writes a chain or refuses. Assumes nothing.
use Rattle.std.proofs.Common.{sym, ap, ◌∙◌, subst, List, ℤ, rules}
use Rattle.rules.specs.Table.{TableRule}
use Rattle.rules.specs.Call.{ask_reach}
use Rattle.rules.specs.Pair.{weight_at}
use Rattle.rules.specs.Refused.{refused_with}
use Rattle.rules.specs.Refusal.{first_of, chain_held}
use Rattle.block.specs.Block.{decode}
use Rattle.steptable.specs.Lent.{given_by}
use Rattle.refusals.proofs.First.{number_some}
use Rattle.refusals.proofs.EarlyTests.{EarlyFound, early_found}
use Rattle.chain.specs.Answer.{chain_answer}
use Rattle.chain.specs.ChainOn.{ChainLeft}
use Rattle.chain.proofs.ChainWays.{chain_buffer, chain_early, chain_made}
use Rattle.chain.proofs.write_chain_by.Goals as goal
use Rattle.chain.proofs.write_chain_by.Goals.{After-early}

found : (c : After-early) → EarlyFound (given_by c.args.table.now).refusal c.args.block.now (ask_reach c.args.giver c.args.receiver) (refused_with c.early.result)
found c = early_found c.pair_passed.ensures c.early.ensures.refusal

pub returns-then-buf-lt-CHAIN_SIZE : goal.returns-then-buf-lt-CHAIN_SIZE
returns-then-buf-lt-CHAIN_SIZE c = let a = c.args in chain_buffer (given_by a.table.now) a.block.now a.giver a.receiver a.buf.now c.if-buf-lt-CHAIN_SIZE.true

pub returns-in_err-steps : goal.returns-in_err-steps
returns-in_err-steps c =
    let a = c.args in
    let f = found (goal.at.returns-in_err-steps c).After-early in
    search (rules, chain_early (given_by a.table.now) a.block.now a.giver a.receiver a.buf.now c.if-buf-lt-CHAIN_SIZE.false _ (f.first ∙ ap refused_with c.in_err-steps.was) (number_some _))

pub write_held-requires : goal.write_held-requires
write_held-requires c =
    let f = found (goal.at.write_held-requires c).After-early in
    (f.checked (ap refused_with c.in_ok-steps.was), subst TableRule (sym c.in_ok-steps.ensures.steps) c.requires, c.if-buf-lt-CHAIN_SIZE.false)

pub returns : goal.returns
returns c =
    let o = c.write_held in
    let a = c.args in
    let R = decode a.block.now in
    let f = found (goal.at.returns c).After-early in
    chain_made (given_by a.table.now) a.block.now a.giver a.receiver a.buf.now c.if-buf-lt-CHAIN_SIZE.false (f.first ∙ ap refused_with c.in_ok-steps.was) (chain_answer o.result) _
    (subst (λ (t : List ℤ). ChainLeft t R a.giver a.receiver (weight_at R.delegations a.giver a.receiver) (first_of (chain_held t R a.giver a.receiver)) a.buf.now (chain_answer o.result) o.new.buf) c.in_ok-steps.ensures.steps o.ensures)
