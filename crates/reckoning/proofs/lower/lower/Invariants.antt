-- `reckoning::lower` lowers each delegation of a run. Assumes nothing.
use mathlib.Core.Path.{◌≡◌}
use mathlib.Core.List.{map, ◌++◌}
use lib.ListN.{take, drop}
use Rattle.reckoning.specs.Reckoned.{lower_one}
use Rattle.reckoning.proofs.lower.lower.Given as goal

abbrev pub invariant-loop-d : goal.invariant-loop-d
invariant-loop-d l = l.ds ≡ map (lower_one l.reaches) (take l.d-index l.initial.ds) ++ drop l.d-index l.initial.ds
