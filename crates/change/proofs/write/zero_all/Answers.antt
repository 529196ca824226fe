-- `change::zero_all` leaves zeros. Assumes nothing.
use mathlib.Core.Path.{refl, sym}
use native.Mathlib.Omega.{arith}
use lib.ListN.{length, replicate, length-set, length-replicate, get_or-replicate}
use Rattle.change.proofs.Filling.{over_on, over_all}
use Rattle.change.proofs.write.zero_all.Goals as goal

pub loop-i-init : goal.loop-i-init
loop-i-init c = (refl, omega arith, refl)

pub loop-i-preserved : goal.loop-i-preserved
loop-i-preserved c =
    let b = c.args.b.now in
    let l = c.loop-i in
    let n = length b in
    (simp length-set l.invariant.0, omega arith, over_on (replicate n 0) b (length-replicate n 0) l.i l.b l.invariant.2 (omega arith) 0 (sym (get_or-replicate n l.i 0 0 (omega arith))))

pub shape_of-b : goal.shape_of-b
shape_of-b c = c.loop-i.invariant.0

pub returns : goal.returns
returns c =
    let b = c.args.b.now in
    let l = c.loop-i in
    over_all (replicate (length b) 0) b (length-replicate (length b) 0) l.i l.b l.invariant.2 (omega arith)
