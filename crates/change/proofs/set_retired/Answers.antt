-- `change::set_retired` sets the bit of an enrolled subject. Assumes nothing.
use mathlib.Core.Path.{◌∙◌}
use native.Mathlib.Omega.{arith}
use lib.Pow.{shl_exact}
use Rattle.block.specs.Layout.{most_subjects}
use Rattle.block.proofs.Fitting.{fitting_size}
use Rattle.change.proofs.Leaving.{few_enrolled_lem, retired_set}
use Rattle.change.proofs.set_retired.Goals as goal

pub retired-retired-requires : goal.retired-retired-requires
retired-retired-requires c = omega (arith, fitting_size c.args.b.now c.requires.0)

pub overflow_shl-subject : goal.overflow_shl-subject
overflow_shl-subject c = few_enrolled_lem c.args.b.now c.requires.0 c.args.subject c.requires.1

pub put_retired-requires : goal.put_retired-requires
put_retired-requires c = omega (arith, fitting_size c.args.b.now c.requires.0)

pub returns : goal.returns
returns c =
    c.put_retired.ensures
    ∙ retired_set c.args.b.now c.requires.0 c.args.subject c.requires.1 c.retired-retired.result _ c.retired-retired.ensures (shl_exact 1 c.args.subject most_subjects (omega arith) (omega (arith, few_enrolled_lem c.args.b.now c.requires.0 c.args.subject c.requires.1)))
