-- `seatreg::answers::hand_out` writes the answers of an accepted call and returns the number. Assumes nothing.
use Rattle.std.proofs.Common.{refl, Ok, Err, rules}
use mir.Syntax.{w32}
use mir.Val.{SFits}
use mir.Facts.{to_z-of_z}
use Rattle.register.proofs.Errors.{refused_some}
use Rattle.register.specs.Answer.{answer_of}
use Rattle.seatreg.proofs.Entry.{accepted, refused}
use Rattle.seatreg.proofs.answers.hand_out.Goals as goal

pub returns-in-Ok : goal.returns-in-Ok
returns-in-Ok c =
    let a = c.args in
    let o = c.in-Ok.told in
    let f : SFits w32 o.first = search rules in
    let g : SFits w32 o.second = search rules in
    let h : SFits w32 o.third = search rules in
    rw (c.in-Ok.is, c.put_answers.ensures, to_z-of_z f, to_z-of_z g, to_z-of_z h) (accepted (answer_of (Ok o)) a.answers.now refl)

pub returns-in-Err : goal.returns-in-Err
returns-in-Err c = rw (c.in-Err.is, c.number.ensures) (refused (answer_of (Err c.in-Err.refusal)) c.args.answers.now (refused_some c.in-Err.refusal))
