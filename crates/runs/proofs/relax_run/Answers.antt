-- `runs::run::relax_run` takes the step of each record of a run in turn. Assumes nothing.
use mathlib.Core.Path.{refl, ◌∙◌}
use native.Mathlib.Numerals.{add-one}
use Rattle.runs.specs.Steps.{stepped_none, stepped_more}
use Rattle.runs.proofs.relax_run.Goals as goal

pub loop-k-init : goal.loop-k-init
loop-k-init c =
    (refl, c.requires.2.lists, stepped_none, c.requires.2.waiting)

pub loop-k-preserved : goal.loop-k-preserved
loop-k-preserved c =
    let v = c.loop-k in
    let f = c.relax_at-left in (
      refl,
      record { limits = f.auto.limits ∙ v.invariant.1.limits; parents = f.auto.parents ∙ v.invariant.1.parents },
      rw add-one (stepped_more v.invariant.2 f.ensures.0),
      f.ensures.1,
    )
