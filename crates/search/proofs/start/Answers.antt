-- `search::start` meets its contract. Assumes nothing.
use native.Mathlib.Omega.{arith}
use Rattle.search.proofs.Fill.{started}
use Rattle.search.proofs.start.Goals as goal

pub returns : goal.returns
returns c =
    let l = c.fill.ensures in
    started _ _ _ _ (l.after (λ y e. e)) (c.fill-2.ensures.after (λ y e. e)) (omega (arith, l.len, c.requires.limits))
