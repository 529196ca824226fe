-- `runs::run::relax_run` takes the step of each record of a run in turn. Assumes nothing.
use mathlib.Core.Path.{◌≡◌}
use mathlib.Core.List.{◌∷◌}
use Rattle.runs.specs.Lent.{record_count, SubjectLists}
use Rattle.runs.specs.Steps.{SteppedTo, Waiting}
use Rattle.runs.proofs.relax_run.Given as goal

abbrev pub invariant-loop-k : goal.invariant-loop-k
invariant-loop-k l =
    (l.n ≡ record_count l.run) × SubjectLists l.limits l.parents × SteppedTo l.by.table.now l.by.limit l.by.marks l.run l.first l.initial.limits l.initial.parents (l.initial.left.here ∷ l.initial.left.near ∷ l.initial.waiting) l.k l.limits l.parents (l.left.here ∷ l.left.near ∷ l.waiting) × Waiting l.limits l.waiting l.left.far
