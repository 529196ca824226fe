-- `block::subjects_formed` tests every subject. Assumes nothing.
use mathlib.Core.Path.{refl}
use Rattle.std.proofs.Common.{rules}
use Rattle.block.specs.WellFormed.{subject_formed}
use Rattle.block.proofs.Chains.{all_places}
use Rattle.block.proofs.read.subjects_formed.Goals as goal

pub returns : goal.returns
returns c =
    let a = c.args in
    all_places refl (subject_formed a.retired a.b.now) c.all.ensures.ran (λ x q k. search rules) (λ x q k. search rules)
