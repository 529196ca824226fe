-- `block::zero_range` is the test `zeros`. Assumes nothing.
use mathlib.Core.Path.{◌≡◌, ap, ◌∙◌}
use Prim.Native.Nat.{ℕ, ◌-◌}
use native.Mathlib.Omega.{arith}
use lib.Bits.{bit_or}
use lib.Dec.{eqb}
use lib.ListN.{take, drop}
use Rattle.std.specs.List.{fold}
use Rattle.std.proofs.Common.{rules}
use Rattle.block.proofs.Chains.{joined_zeros}
use Rattle.block.proofs.read.zero_range.Goals as goal

pub returns : goal.returns
returns c =
    let a = c.args in
    let joined : c.fold.result ≡ fold bit_or 0 (take (a.to - a.from) (drop a.from a.s.now)) = search rules in
    ap (λ (n : ℕ). eqb n 0) joined ∙ joined_zeros 0 a.from (a.to - a.from) a.s.now (omega arith)
