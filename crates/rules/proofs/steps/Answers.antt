-- `rules::steps` is document 01's table, entry by entry. Assumes nothing.
use mathlib.Core.Path.{refl}
use Rattle.rules.specs.Table.{step, steps}
use Rattle.rules.proofs.steps.Goals as goal

pub returns : goal.returns
unfolding step steps
returns c = refl
