-- `reckoning::named_marks` collects the marks that the conditions of the first records name. Assumes nothing.
use native.Mathlib.Omega.{arith}
use Rattle.block.specs.Records.{delegation_at}
use Rattle.reckoning.proofs.Filling.{names_on}
use Rattle.reckoning.proofs.indexed.named_marks.Goals as goal

pub loop-k-preserved : goal.loop-k-preserved
loop-k-preserved c =
    let b = c.args.block.now in
    let l = c.loop-k in
    rw (c.need.ensures, c.bar.ensures) (names_on (λ j. (delegation_at b j).need) (λ j. (delegation_at b j).bar) l.named l.k l.invariant)

pub returns : goal.returns
returns c = λ k h. c.loop-k.invariant k (omega arith)
