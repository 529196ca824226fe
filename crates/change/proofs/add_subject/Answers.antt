-- `change::add_subject` enrols one more subject. Assumes nothing.
use native.Mathlib.Omega.{arith}
use lib.ListN.{length-set}
use Rattle.block.proofs.Fitting.{fitting_size}
use Rattle.change.proofs.Changing.{enrol_fitting}
use Rattle.change.proofs.add_subject.Goals as goal

pub subjects-n-requires : goal.subjects-n-requires
subjects-n-requires c = omega (arith, fitting_size c.args.b.now c.requires.0)

pub bounds-b-0 : goal.bounds-b-0
bounds-b-0 c = omega (arith, fitting_size c.args.b.now c.requires.0)

pub put_marks-requires : goal.put_marks-requires
put_marks-requires c =
    simp length-set (omega (arith, fitting_size c.args.b.now c.requires.0, c.subjects-n.ensures, c.requires.1))

pub returns : goal.returns
returns c =
    let a = c.args in
    let at-subjects = c.subjects-n in
    let at-put-marks = c.put_marks in
    rw (at-put-marks.ensures, at-subjects.ensures) (enrol_fitting a.b.now c.requires.0 a.marks c.requires.1)
