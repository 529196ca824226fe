-- `block::records_formed` tests the first records in one pass. Assumes nothing.
use mathlib.Core.Path.{◌≡◌}
use Prim.Native.Nat.{◌-◌}
use Rattle.block.proofs.Rise.{passes}
use Rattle.block.proofs.read.records_formed.Given as goal

abbrev pub invariant-loop-k : goal.invariant-loop-k
invariant-loop-k l = passes l.subjects l.b 0 0 0 l.count ≡ passes l.subjects l.b l.kinds l.last l.k (l.count - l.k)
