-- `block::find` is the number of records before the first of a pair. Assumes nothing.
use mathlib.Core.Path.{refl, ◌∙◌}
use Rattle.std.proofs.Common.{rules}
use Rattle.rules.specs.Pair.{is_pair}
use Rattle.block.specs.Records.{delegation_at}
use Rattle.block.proofs.Chains.{first_place}
use Rattle.block.proofs.read.find.Goals as goal

pub returns : goal.returns
returns c =
    let a = c.args in
    c.unwrap_or.ensures ∙ first_place refl (is_pair a.giver a.receiver) (delegation_at a.b.now) c.position.ensures.ran (λ x q k. search rules) (λ x q k. search rules)
