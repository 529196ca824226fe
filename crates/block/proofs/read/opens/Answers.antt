-- `block::opens` is the test `opens` of the records. Assumes nothing.
use mathlib.Core.Path.{refl}
use Rattle.std.proofs.Common.{rules}
use Rattle.rules.specs.Pair.{opens_to}
use Rattle.block.specs.Records.{delegation_at}
use Rattle.block.proofs.Chains.{any_place}
use Rattle.block.proofs.read.opens.Goals as goal

pub returns : goal.returns
returns c =
    let a = c.args in
    any_place refl (opens_to a.receiver) (delegation_at a.b.now) c.any.ensures.ran (λ x q k. search rules) (λ x q k. search rules)
