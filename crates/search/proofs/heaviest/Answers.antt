-- `search::heaviest` finds those of a set whose limit is the largest of theirs. Assumes nothing.
use native.Mathlib.Omega.{arith}
use Rattle.search.proofs.Choosing.{same_read, less_read, more_read, chosen_first, chosen_last, chosen_heavier, chosen_equal, chosen_lighter}
use Rattle.search.proofs.heaviest.Goals as goal

pub loop-other-init : goal.loop-other-init
loop-other-init c =
    let a = c.args in
    rw c.into_iter-other-iterator.ensures.into_iter_gives (chosen_first a.limits.now a.set _ _ _ c.lowest-first.ensures c.with-best.ensures c.without.ensures)

pub loop-other-preserved-then-most-limit : goal.loop-other-preserved-then-most-limit
loop-other-preserved-then-most-limit c =
    let l = c.args.limits.now in
    let v = c.loop-other in
    chosen_heavier l c.args.set v.first v.best v.other-iterator.0 v.invariant _ _ c.in-Some.ensures.steps.0 c.in-Some.ensures.steps.1 _
    (less_read l v.first c.in-Some.other (omega (arith, c.requires.0.size, v.invariant.small)) (omega (arith, c.requires.0.size, c.in-Some.ensures.steps.0.small)) (omega arith) (omega arith) (c.requires.0.each v.first) c.if-most-limit.true) c.with-best-then-most-limit.ensures

pub loop-other-preserved-then-most-limit-2 : goal.loop-other-preserved-then-most-limit-2
loop-other-preserved-then-most-limit-2 c =
    let l = c.args.limits.now in
    let v = c.loop-other in
    chosen_equal l c.args.set v.first v.best v.other-iterator.0 v.invariant _ _ c.in-Some.ensures.steps.0 c.in-Some.ensures.steps.1 _
    (same_read l v.first c.in-Some.other (omega (arith, c.requires.0.size, v.invariant.small)) (omega (arith, c.requires.0.size, c.in-Some.ensures.steps.0.small)) (omega arith) (omega arith) c.if-most-limit-2.true) c.with-best-then-most-limit-2.ensures

pub loop-other-preserved : goal.loop-other-preserved
loop-other-preserved c =
    let l = c.args.limits.now in
    let v = c.loop-other in
    let o = c.in-Some.other in
    chosen_lighter l c.args.set v.first v.best v.other-iterator.0 v.invariant _ _ c.in-Some.ensures.steps.0 c.in-Some.ensures.steps.1
    (more_read l v.first o (omega (arith, c.requires.0.size, v.invariant.small)) (omega (arith, c.requires.0.size, c.in-Some.ensures.steps.0.small)) (omega arith) (omega arith) (c.requires.0.each v.first) (c.requires.0.each o) c.if-most-limit.false c.if-most-limit-2.false)

pub returns : goal.returns
returns c =
    let a = c.args in
    let v = c.loop-other in
    chosen_last a.limits.now a.set v.first v.best v.other-iterator.0 v.invariant c.in-None.ensures.steps.0
