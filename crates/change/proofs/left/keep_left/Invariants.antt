-- `change::keep_left` writes what is left of the first records. Assumes nothing.
use Prim.Native.Nat.{◌≤◌}
use Rattle.change.specs.Left.{LeftWritten}
use Rattle.change.proofs.left.keep_left.Given as goal

abbrev pub invariant-loop-k : goal.invariant-loop-k
invariant-loop-k l = (l.k ≤ l.n) × LeftWritten l.initial.block l.weights l.k l.kept l.block
