-- `change::zero_all` leaves zeros. Assumes nothing.
use mathlib.Core.Path.{◌≡◌}
use mathlib.Core.List.{◌++◌}
use Prim.Native.Nat.{◌≤◌}
use lib.ListN.{length, replicate, take, drop}
use Rattle.change.proofs.write.zero_all.Given as goal

abbrev pub invariant-loop-i : goal.invariant-loop-i
invariant-loop-i l = (length l.b ≡ length l.initial.b) × (l.i ≤ length l.initial.b) × (l.b ≡ take l.i (replicate (length l.initial.b) 0) ++ drop l.i l.initial.b)
