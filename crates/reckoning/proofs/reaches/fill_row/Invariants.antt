-- `reckoning::fill_row` fills the row of one receiver. Assumes nothing.
use mathlib.Core.Path.{◌≡◌}
use Rattle.reckoning.proofs.reaches.fill_row.Given as goal

abbrev pub invariant-loop-other : goal.invariant-loop-other
invariant-loop-other l = l.reaches ≡ l.initial.reaches
