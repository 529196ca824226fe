-- `register::enrol` enrols a subject or refuses. Assumes nothing.
use mir.Facts.{to_z_pos}
use mir.Syntax.{w32}
use native.Mathlib.Omega.{arith}
use Rattle.rules.specs.Call.{Call, enrol}
use Rattle.block.proofs.Bytes.{fits_bytes}
use Rattle.block.proofs.Held.{held_fitting}
use Rattle.steptable.specs.TableText.{ours}
use Rattle.std.proofs.Common.{rules}
use Rattle.refusals.proofs.First.{number_some, told, told_none}
use Rattle.refusals.proofs.EarlyTests.{Through, through}
use Rattle.register.proofs.Enrolling.{enrol_done, enrol_room}
use Rattle.register.proofs.Made.{made_refused}
use Rattle.register.proofs.enrol.Goals as goal
use Rattle.register.proofs.enrol.Goals.{In_ok-enrol_refusal, Start}

abbrev call : Start → Call
call s = enrol s.args.marks

past : (c : In_ok-enrol_refusal) → Through ours c.args.block.now (enrol c.args.marks)
past c = through ours c.args.block.now (enrol c.args.marks) (told_none c.enrol_refusal.ensures c.in_ok-enrol_refusal.was)

pub returns-in_err-enrol_refusal : goal.returns-in_err-enrol_refusal
returns-in_err-enrol_refusal c =
    search (rules, made_refused ours (call (goal.at.returns-in_err-enrol_refusal c).Start) c.args.block.now _ (told c.enrol_refusal.ensures c.in_err-enrol_refusal.was) (number_some _))

pub subjects-subject-requires : goal.subjects-subject-requires
subjects-subject-requires c = omega (arith, (past c).early.size)

pub overflow_cast-marks : goal.overflow_cast-marks
overflow_cast-marks c = omega (arith, (past (goal.at.overflow_cast-marks c).In_ok-enrol_refusal).numbers)

pub add_subject-requires : goal.add_subject-requires
add_subject-requires c =
    let a = c.args in
    (held_fitting a.block.now (fits_bytes c.args.block.now c.slice_known-1.given) (past (goal.at.add_subject-requires c).In_ok-enrol_refusal).early.formed, enrol_room ours a.marks a.block.now (fits_bytes c.args.block.now c.slice_known-1.given) (past (goal.at.add_subject-requires c).In_ok-enrol_refusal))

pub returns : goal.returns
returns c =
    let i = c.add_subject in
    let a = c.args in
    rw (c.new.ensures, to_z_pos w32 {n = c.subjects-subject.result} (omega arith), c.subjects-subject.ensures) (enrol_done ours a.marks a.block.now (fits_bytes c.args.block.now c.slice_known-1.given) (past (goal.at.returns c).In_ok-enrol_refusal) i.new.b i.ensures)
