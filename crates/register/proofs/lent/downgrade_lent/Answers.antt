-- `register::downgrade_lent` makes a cut. Assumes nothing.
use Rattle.std.proofs.Common.{refl, sym, ap, subst, Ok, rules}
use Rattle.rules.specs.Table.{TableRule}
use Rattle.rules.specs.Refused.{refused_with}
use Rattle.refusals.proofs.First.{number_some, told}
use Rattle.register.specs.Answer.{answer_of}
use native.Mathlib.Omega.{arith}
use Rattle.rules.specs.Call.{Call, downgrade}
use Rattle.rules.specs.Cut.{cutting, lowering, named}
use Rattle.block.specs.Block.{decode}
use Rattle.block.proofs.Bytes.{fits_bytes}
use Rattle.steptable.specs.Lent.{given_by}
use Rattle.refusals.proofs.CutHolding.{downgrade_stands}
use Rattle.register.proofs.CutWays.{cut_refused, CutThrough, cut_past, changed_block, cut_done}
use Rattle.register.proofs.lent.downgrade_lent.Goals as goal
use Rattle.register.proofs.lent.downgrade_lent.Goals.{In_ok-steps, Start}

abbrev call : Start → Call
call s = downgrade s.args.by s.args.giver s.args.receiver s.args.weight

past : (c : In_ok-steps) → let a = c.args in CutThrough (given_by a.table.now) a.block.now (downgrade c.args.by c.args.giver c.args.receiver c.args.weight) (cutting (lowering c.args.giver c.args.receiver c.args.weight))
past c =
    cut_past c.requires (fits_bytes c.args.block.now c.slice_known-1.given) refl (c.downgrade_allowed.ensures.refusal (given_by c.args.table.now).steps) (ap refused_with c.in_ok-steps.was)

pub returns-in_err-steps : goal.returns-in_err-steps
returns-in_err-steps c =
    let g = given_by c.args.table.now in
    search (rules, cut_refused g (call (goal.at.returns-in_err-steps c).Start) c.args.block.now _ (told (c.downgrade_allowed.ensures.refusal g.steps) c.in_err-steps.was) (number_some _))

pub overflow_cast-giver : goal.overflow_cast-giver
overflow_cast-giver c = omega (arith, (past (goal.at.overflow_cast-giver c).In_ok-steps).through.numbers.0.1.0)

pub overflow_cast-receiver : goal.overflow_cast-receiver
overflow_cast-receiver c = omega (arith, (past (goal.at.overflow_cast-receiver c).In_ok-steps).through.numbers.0.1.1.0)

pub overflow_cast-weight : goal.overflow_cast-weight
overflow_cast-weight c = omega (arith, (past (goal.at.overflow_cast-weight c).In_ok-steps).through.numbers.1)

pub set_weight-requires : goal.set_weight-requires
set_weight-requires c =
    let a = c.args in
    ((past (goal.at.set_weight-requires c).In_ok-steps).through.early.formed, downgrade_stands (given_by a.table.now).steps (decode a.block.now) a.by a.giver a.receiver a.weight (past (goal.at.set_weight-requires c).In_ok-steps).through.held)

pub settle-requires : goal.settle-requires
unfolding named
settle-requires c =
    (changed_block (past (goal.at.settle-requires c).In_ok-steps) c.set_weight.ensures, subst TableRule (sym c.in_ok-steps.ensures.steps) c.requires)

pub returns : goal.returns
unfolding named
returns c =
    let o = c.settle in
    cut_done (past (goal.at.returns c).In_ok-steps) c.set_weight.ensures (answer_of (Ok o.result)) o.new.block c.in_ok-steps.ensures.steps o.ensures
