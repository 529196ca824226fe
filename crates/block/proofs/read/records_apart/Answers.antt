-- `block::records_apart` tests every record by the bits. Assumes nothing.
use mathlib.Core.Path.{refl}
use Rattle.std.proofs.Common.{rules}
use Rattle.block.specs.Records.{delegation_at}
use Rattle.block.specs.WellFormed.{is_apart}
use Rattle.block.proofs.Chains.{all_places}
use Rattle.block.proofs.read.records_apart.Goals as goal

pub returns : goal.returns
returns c =
    let a = c.args in
    all_places refl (λ k. is_apart a.retired (delegation_at a.b.now k)) c.all.ensures.ran (λ x q k. search rules) (λ x q k. search rules)
