-- `register::downgrade_by` makes a cut. Assumes nothing.
use Rattle.std.proofs.Common.{refl, ap, Ok, rules}
use Rattle.rules.specs.Refused.{refused_with}
use Rattle.refusals.proofs.First.{number_some, told}
use Rattle.register.specs.Answer.{answer_of}
use native.Mathlib.Omega.{arith}
use Rattle.rules.specs.Call.{Call, downgrade}
use Rattle.rules.specs.Cut.{cutting, lowering, named}
use Rattle.block.specs.Block.{decode}
use Rattle.block.proofs.Bytes.{fits_bytes}
use Rattle.steptable.specs.TableText.{lent}
use Rattle.refusals.proofs.CutHolding.{downgrade_stands}
use Rattle.register.proofs.CutWays.{cut_refused, CutThrough, cut_past, changed_block, cut_done}
use Rattle.register.proofs.cutting.downgrade_by.Goals as goal
use Rattle.register.proofs.cutting.downgrade_by.Goals.{In_ok-downgrade_refusal, Start}

abbrev call : Start → Call
call s = downgrade s.args.by s.args.giver s.args.receiver s.args.weight

past : (c : In_ok-downgrade_refusal) → let a = c.args in CutThrough (lent a.fault a.table.now) a.block.now (downgrade c.args.by c.args.giver c.args.receiver c.args.weight) (cutting (lowering c.args.giver c.args.receiver c.args.weight))
past c =
    cut_past c.requires (fits_bytes c.args.block.now c.slice_known-1.given) refl (c.downgrade_refusal.ensures c.args.table.now) (ap refused_with c.in_ok-downgrade_refusal.was)

pub returns-in_err-downgrade_refusal : goal.returns-in_err-downgrade_refusal
returns-in_err-downgrade_refusal c =
    let g = lent c.args.fault c.args.table.now in
    search (rules, cut_refused g (call (goal.at.returns-in_err-downgrade_refusal c).Start) c.args.block.now _ (told (c.downgrade_refusal.ensures g.steps) c.in_err-downgrade_refusal.was) (number_some _))

pub overflow_cast-giver : goal.overflow_cast-giver
overflow_cast-giver c = omega (arith, (past (goal.at.overflow_cast-giver c).In_ok-downgrade_refusal).through.numbers.0.1.0)

pub overflow_cast-receiver : goal.overflow_cast-receiver
overflow_cast-receiver c = omega (arith, (past (goal.at.overflow_cast-receiver c).In_ok-downgrade_refusal).through.numbers.0.1.1.0)

pub overflow_cast-weight : goal.overflow_cast-weight
overflow_cast-weight c = omega (arith, (past (goal.at.overflow_cast-weight c).In_ok-downgrade_refusal).through.numbers.1)

pub set_weight-requires : goal.set_weight-requires
set_weight-requires c =
    let a = c.args in
    ((past (goal.at.set_weight-requires c).In_ok-downgrade_refusal).through.early.formed, downgrade_stands a.table.now (decode a.block.now) a.by a.giver a.receiver a.weight (past (goal.at.set_weight-requires c).In_ok-downgrade_refusal).through.held)

pub settle-requires : goal.settle-requires
unfolding named
settle-requires c =
    (changed_block (past (goal.at.settle-requires c).In_ok-downgrade_refusal) c.set_weight.ensures, c.requires)

pub returns : goal.returns
unfolding named
returns c =
    let o = c.settle in
    cut_done (past (goal.at.returns c).In_ok-downgrade_refusal) c.set_weight.ensures (answer_of (Ok o.result)) o.new.block refl o.ensures
