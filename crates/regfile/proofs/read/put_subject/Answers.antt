-- `regfile::put_subject` stores a subject's row, or no well-formed register has it there. Assumes nothing.
use mathlib.Core.Path.{sym, ap, ◌∙◌}
use Prim.Native.Nat.{ℕ}
use lib.IntN.{pos}
use Rattle.std.specs.Prelude.{Ok, Err}
use Rattle.regfile.specs.FileText.{value_at}
use native.Mathlib.Omega.{arith}
use Rattle.block.proofs.Fitting.{fitting_size}
use Rattle.regfile.proofs.Storing.{Next, subject_full, subject_other, subject_large, subject_beyond, added_held, subject_plain, subject_gone, column_held, column_plain, column_is, column_cases}
use Rattle.regfile.proofs.read.put_subject.Goals as goal
use Rattle.regfile.proofs.read.put_subject.Goals.{After-add_subject}

-- ── the row is stored: what is known of its values ──
module _ (d : After-add_subject) where
  known : Next d.args.b.now d.args.row.now d.subjects-n.result d.in-Ok.marks d.unsigned-retired.result
  known =
      let row = d.args.row.now in
      let held = column_held row d.requires.2 in
      let n = d.subjects-n in
      let u = d.unsigned-subject in
      let m = column_cases row d.requires.2 1 (omega (arith, d.requires.1)) {E = ℕ} 16 (Ok d.in-Ok.marks) d.in-Ok.ensures in
      record {
        size = d.requires.1;
        number = ap pos (sym (d.if-subject-from.false ∙ d.from.ensures)) ∙ u.ensures ∙ held 0 (omega (arith, d.requires.1));
        marks = ap pos m.1 ∙ column_is row d.requires.2 1 (omega (arith, d.requires.1));
        retired = d.unsigned-retired.ensures ∙ held 2 (omega (arith, d.requires.1));
        next = n.ensures;
        room = omega (arith, d.if-n-ge-MOST_SUBJECTS.false, n.ensures);
        small = omega (arith, m.0, m.1);
        few = omega (arith, d.if-retired-gt1.false);
      }

pub subjects-n-requires : goal.subjects-n-requires
subjects-n-requires c = omega (arith, fitting_size c.args.b.now c.requires.0)

pub returns-then-n-ge-MOST_SUBJECTS : goal.returns-then-n-ge-MOST_SUBJECTS
returns-then-n-ge-MOST_SUBJECTS c =
    subject_full c.args.b.now c.requires.0 c.args.row.now (omega (arith, c.if-n-ge-MOST_SUBJECTS.true, c.subjects-n.ensures))

pub unsigned-subject-requires : goal.unsigned-subject-requires
unsigned-subject-requires c = column_plain c.args.row.now c.requires.2 0 (omega (arith, c.requires.1))

pub returns-then-subject-from : goal.returns-then-subject-from
returns-then-subject-from c =
    let row = c.args.row.now in
    let u = c.unsigned-subject in
    let n = c.subjects-n in
    subject_other c.args.b.now c.requires.0 row u.result (u.ensures ∙ column_held row c.requires.2 0 (omega (arith, c.requires.1))) (λ e. c.if-subject-from.true (e ∙ sym n.ensures ∙ sym c.from.ensures))

pub returns-in_default : goal.returns-in_default
returns-in_default c =
    let row = c.args.row.now in
    let m = column_cases row c.requires.2 1 (omega (arith, c.requires.1)) {E = ℕ} 16 (Err 0) c.in_default.ensures in
    subject_large c.args.b.now c.requires.0 row (value_at row 1) (column_is row c.requires.2 1 (omega (arith, c.requires.1))) (omega (arith, m))

pub unsigned-retired-requires : goal.unsigned-retired-requires
unsigned-retired-requires c = column_plain c.args.row.now c.requires.2 2 (omega (arith, c.requires.1))

pub returns-then-retired-gt1 : goal.returns-then-retired-gt1
returns-then-retired-gt1 c =
    let row = c.args.row.now in
    let u = c.unsigned-retired in
    subject_beyond c.args.b.now c.requires.0 row u.result (u.ensures ∙ column_held row c.requires.2 2 (omega (arith, c.requires.1))) c.if-retired-gt1.true

pub set_retired-requires : goal.set_retired-requires
set_retired-requires c = added_held c.args.b.now c.requires.0 c.args.row.now _ _ _ (known (goal.at.set_retired-requires c).After-add_subject) c.add_subject.new.b c.add_subject.ensures

pub returns-then-retired-eq1 : goal.returns-then-retired-eq1
returns-then-retired-eq1 c =
    subject_gone c.args.b.now c.requires.0 c.args.row.now _ _ _ (known (goal.at.returns-then-retired-eq1 c).After-add_subject) c.if-retired-eq1.true c.add_subject.new.b c.add_subject.ensures c.set_retired.new.b c.set_retired.ensures

pub returns-else-retired-eq1 : goal.returns-else-retired-eq1
returns-else-retired-eq1 c =
    subject_plain c.args.b.now c.requires.0 c.args.row.now _ _ _ (known (goal.at.returns-else-retired-eq1 c).After-add_subject) c.if-retired-eq1.false c.add_subject.new.b c.add_subject.ensures
