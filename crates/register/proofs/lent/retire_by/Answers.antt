-- `register::retire_by` retires a subject, and rounds follow. Assumes nothing.
use Rattle.std.proofs.Common.{refl, sym, ap, subst, Ok, rules}
use Rattle.rules.specs.Table.{TableRule}
use Rattle.rules.specs.Refused.{refused_with}
use Rattle.refusals.proofs.First.{number_some, told}
use Rattle.register.specs.Answer.{answer_of}
use native.Mathlib.Omega.{arith}
use Rattle.rules.specs.Call.{Call, retire}
use Rattle.rules.specs.Cut.{retirement}
use Rattle.block.specs.Block.{decode}
use Rattle.block.proofs.Bytes.{fits_bytes}
use Rattle.block.proofs.Held.{subjects_held_lem}
use Rattle.steptable.specs.Lent.{given_by}
use Rattle.refusals.proofs.CutHolding.{retire_enrolled}
use Rattle.register.proofs.CutWays.{cut_refused, CutThrough, cut_past, changed_block, cut_done}
use Rattle.register.proofs.lent.retire_by.Goals as goal
use Rattle.register.proofs.lent.retire_by.Goals.{In_ok-steps, Start}

abbrev call : Start → Call
call s = retire s.args.by s.args.subject

past : (c : In_ok-steps) → let a = c.args in CutThrough (given_by a.table.now) a.block.now (retire c.args.by c.args.subject) (retirement c.args.subject)
past c =
    cut_past c.requires (fits_bytes c.args.block.now c.slice_known-1.given) refl (c.retire_allowed.ensures.refusal (given_by c.args.table.now).steps) (ap refused_with c.in_ok-steps.was)

pub returns-in_err-steps : goal.returns-in_err-steps
returns-in_err-steps c =
    let g = given_by c.args.table.now in
    search (rules, cut_refused g (call (goal.at.returns-in_err-steps c).Start) c.args.block.now _ (told (c.retire_allowed.ensures.refusal g.steps) c.in_err-steps.was) (number_some _))

pub overflow_cast-subject : goal.overflow_cast-subject
overflow_cast-subject c = omega (arith, (past (goal.at.overflow_cast-subject c).In_ok-steps).through.numbers.1.0)

pub retire-requires : goal.retire-requires
retire-requires c =
    let a = c.args in
    let b = a.block.now in
    ((past (goal.at.retire-requires c).In_ok-steps).through.early.formed, rw (← subjects_held_lem b (past (goal.at.retire-requires c).In_ok-steps).bytes (past (goal.at.retire-requires c).In_ok-steps).through.early.formed) (retire_enrolled (given_by a.table.now).steps (decode b) a.by a.subject (past (goal.at.retire-requires c).In_ok-steps).through.held))

pub settle-requires : goal.settle-requires
settle-requires c =
    (changed_block (past (goal.at.settle-requires c).In_ok-steps) c.retire.ensures, subst TableRule (sym c.in_ok-steps.ensures.steps) c.requires)

pub returns : goal.returns
returns c =
    let o = c.settle in
    cut_done (past (goal.at.returns c).In_ok-steps) c.retire.ensures (answer_of (Ok o.result)) o.new.block c.in_ok-steps.ensures.steps o.ensures
