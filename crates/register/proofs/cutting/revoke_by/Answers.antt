-- `register::revoke_by` makes a cut. Assumes nothing.
use Rattle.std.proofs.Common.{refl, ap, Ok, rules}
use Rattle.rules.specs.Refused.{refused_with}
use Rattle.refusals.proofs.First.{number_some, told}
use Rattle.register.specs.Answer.{answer_of}
use native.Mathlib.Omega.{arith}
use Rattle.rules.specs.Call.{Call, revoke}
use Rattle.rules.specs.Cut.{cutting, removal}
use Rattle.block.specs.Block.{decode}
use Rattle.block.proofs.Bytes.{fits_bytes}
use Rattle.steptable.specs.TableText.{lent}
use Rattle.refusals.proofs.CutHolding.{revoke_stands}
use Rattle.register.proofs.CutWays.{cut_refused, CutThrough, cut_past, changed_block, cut_done}
use Rattle.register.proofs.cutting.revoke_by.Goals as goal
use Rattle.register.proofs.cutting.revoke_by.Goals.{In_ok-revoke_refusal, Start}

abbrev call : Start → Call
call s = revoke s.args.by s.args.giver s.args.receiver

past : (c : In_ok-revoke_refusal) → let a = c.args in CutThrough (lent a.fault a.table.now) a.block.now (revoke c.args.by c.args.giver c.args.receiver) (cutting (removal c.args.giver c.args.receiver))
past c =
    cut_past c.requires (fits_bytes c.args.block.now c.slice_known-1.given) refl (c.revoke_refusal.ensures c.args.table.now) (ap refused_with c.in_ok-revoke_refusal.was)

pub returns-in_err-revoke_refusal : goal.returns-in_err-revoke_refusal
returns-in_err-revoke_refusal c =
    let g = lent c.args.fault c.args.table.now in
    search (rules, cut_refused g (call (goal.at.returns-in_err-revoke_refusal c).Start) c.args.block.now _ (told (c.revoke_refusal.ensures g.steps) c.in_err-revoke_refusal.was) (number_some _))

pub overflow_cast-giver : goal.overflow_cast-giver
overflow_cast-giver c = omega (arith, (past (goal.at.overflow_cast-giver c).In_ok-revoke_refusal).through.numbers.1.0)

pub overflow_cast-receiver : goal.overflow_cast-receiver
overflow_cast-receiver c = omega (arith, (past (goal.at.overflow_cast-receiver c).In_ok-revoke_refusal).through.numbers.1.1.0)

pub remove-requires : goal.remove-requires
remove-requires c =
    let a = c.args in
    ((past (goal.at.remove-requires c).In_ok-revoke_refusal).through.early.formed, revoke_stands a.table.now (decode a.block.now) a.by a.giver a.receiver (past (goal.at.remove-requires c).In_ok-revoke_refusal).through.held)

pub settle-requires : goal.settle-requires
settle-requires c =
    (changed_block (past (goal.at.settle-requires c).In_ok-revoke_refusal) c.remove.ensures, c.requires)

pub returns : goal.returns
returns c =
    let o = c.settle in
    cut_done (past (goal.at.returns c).In_ok-revoke_refusal) c.remove.ensures (answer_of (Ok o.result)) o.new.block refl o.ensures
