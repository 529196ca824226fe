-- `block::place` is the number of records at the front that a pair does not come before. Assumes nothing.
use mathlib.Core.Path.{refl, ◌∙◌}
use Rattle.std.proofs.Common.{rules}
use Rattle.rules.specs.Register.{granted}
use Rattle.rules.specs.CallStep.{before}
use Rattle.block.specs.Records.{delegation_at}
use Rattle.block.proofs.Chains.{first_place}
use Rattle.block.proofs.read.place.Goals as goal

pub returns : goal.returns
returns c =
    let a = c.args in
    c.unwrap_or.ensures ∙ first_place refl (before (granted a.giver a.receiver 0 0 0 0)) (delegation_at a.b.now) c.position.ensures.ran (λ x q k. search rules) (λ x q k. search rules)
