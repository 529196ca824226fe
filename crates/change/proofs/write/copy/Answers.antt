-- `change::copy` copies a slice. Assumes nothing.
use mathlib.Core.Path.{refl}
use native.Mathlib.Omega.{arith}
use lib.ListN.{length-set}
use Rattle.change.proofs.Filling.{over_on, over_all}
use Rattle.change.proofs.write.copy.Goals as goal

pub loop-i-init : goal.loop-i-init
loop-i-init c = (refl, omega arith, refl)

pub loop-i-preserved : goal.loop-i-preserved
loop-i-preserved c =
    let l = c.loop-i in
    (simp length-set l.invariant.0, omega arith, over_on c.args.from.now c.args.to.now c.requires l.i l.to l.invariant.2 (omega arith) _ refl)

pub shape_of-to : goal.shape_of-to
shape_of-to c = c.loop-i.invariant.0

pub returns : goal.returns
returns c =
    let l = c.loop-i in
    over_all c.args.from.now c.args.to.now c.requires l.i l.to l.invariant.2 (omega arith)
