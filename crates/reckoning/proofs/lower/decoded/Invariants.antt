-- `reckoning::decoded` decodes a run of records. Assumes nothing.
use mathlib.Core.Path.{◌≡◌}
use Prim.Native.Nat.{◌+◌}
use lib.ListN.{length}
use Rattle.block.specs.Records.{delegation_at}
use Rattle.reckoning.specs.Reckoned.{run_size, Decoded}
use Rattle.reckoning.proofs.lower.decoded.Given as goal

abbrev pub invariant-loop-k : goal.invariant-loop-k
invariant-loop-k l = (length l.ds ≡ run_size) × Decoded (λ j. delegation_at l.block (l.first + j)) l.k l.ds
