-- `register::set_marks_by` sets marks, and rounds follow. Assumes nothing.
use Rattle.std.proofs.Common.{refl, sym, ap, subst, Ok, rules}
use Rattle.rules.specs.Table.{TableRule}
use Rattle.rules.specs.Refused.{refused_with}
use Rattle.refusals.proofs.First.{number_some, told}
use Rattle.register.specs.Answer.{answer_of}
use native.Mathlib.Omega.{arith}
use Rattle.rules.specs.Call.{Call, set_marks}
use Rattle.rules.specs.Cut.{marking}
use Rattle.block.specs.Block.{decode}
use Rattle.block.proofs.Bytes.{fits_bytes}
use Rattle.block.proofs.Held.{subjects_held_lem}
use Rattle.steptable.specs.Lent.{given_by}
use Rattle.refusals.proofs.CutHolding.{marks_enrolled}
use Rattle.register.proofs.CutWays.{cut_refused, CutThrough, cut_past, changed_block, cut_done}
use Rattle.register.proofs.lent.set_marks_by.Goals as goal
use Rattle.register.proofs.lent.set_marks_by.Goals.{In_ok-steps, Start}

abbrev call : Start → Call
call s = set_marks s.args.by s.args.subject s.args.marks

past : (c : In_ok-steps) → let a = c.args in CutThrough (given_by a.table.now) a.block.now (set_marks c.args.by c.args.subject c.args.marks) (marking c.args.subject c.args.marks)
past c =
    cut_past c.requires (fits_bytes c.args.block.now c.slice_known-1.given) refl (c.marks_allowed.ensures.refusal (given_by c.args.table.now).steps) (ap refused_with c.in_ok-steps.was)

pub returns-in_err-steps : goal.returns-in_err-steps
returns-in_err-steps c =
    let g = given_by c.args.table.now in
    search (rules, cut_refused g (call (goal.at.returns-in_err-steps c).Start) c.args.block.now _ (told (c.marks_allowed.ensures.refusal g.steps) c.in_err-steps.was) (number_some _))

pub overflow_cast-subject : goal.overflow_cast-subject
overflow_cast-subject c = omega (arith, (past (goal.at.overflow_cast-subject c).In_ok-steps).through.numbers.0.1.0)

pub overflow_cast-marks : goal.overflow_cast-marks
overflow_cast-marks c = omega (arith, (past (goal.at.overflow_cast-marks c).In_ok-steps).through.numbers.1)

pub set_marks-requires : goal.set_marks-requires
set_marks-requires c =
    let a = c.args in
    let b = a.block.now in
    ((past (goal.at.set_marks-requires c).In_ok-steps).through.early.formed, rw (← subjects_held_lem b (past (goal.at.set_marks-requires c).In_ok-steps).bytes (past (goal.at.set_marks-requires c).In_ok-steps).through.early.formed) (marks_enrolled (given_by a.table.now).steps (decode b) a.by a.subject a.marks (past (goal.at.set_marks-requires c).In_ok-steps).through.held))

pub settle-requires : goal.settle-requires
settle-requires c =
    (changed_block (past (goal.at.settle-requires c).In_ok-steps) c.set_marks.ensures, subst TableRule (sym c.in_ok-steps.ensures.steps) c.requires)

pub returns : goal.returns
returns c =
    let o = c.settle in
    cut_done (past (goal.at.returns c).In_ok-steps) c.set_marks.ensures (answer_of (Ok o.result)) o.new.block c.in_ok-steps.ensures.steps o.ensures
