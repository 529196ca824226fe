-- `replay::store` stores what a call returned. Assumes nothing.
use native.Mathlib.Omega.{arith}
use lib.ListN.{length-set}
use mir.Syntax.{w32}
use mir.Val.{SFits}
use mir.Facts.{to_z-of_z}
use Rattle.std.proofs.Common.{rules}
use Rattle.register.specs.Answer.{Answer, as_numbers}
use Rattle.replay.proofs.Turns.{stored_all}
use Rattle.replay.proofs.store.Goals as goal

pub bounds-answers-i-2 : goal.bounds-answers-i-2
bounds-answers-i-2 c = simp length-set (omega arith)

pub bounds-answers-i-3 : goal.bounds-answers-i-3
bounds-answers-i-3 c = simp length-set (omega arith)

pub returns : goal.returns
returns c =
    let a = c.args in
    let (n, r) = c.told-number.result in
    let o : Answer = as_numbers n r in
    let f : SFits w32 o.first = search rules in
    let g : SFits w32 o.second = search rules in
    let h : SFits w32 o.third = search rules in
    rw (← c.told-number.ensures, to_z-of_z f, to_z-of_z g, to_z-of_z h) (stored_all a.refusals.now a.answers.now a.i o (omega arith) (omega arith))
