-- `search::search` finds the reaches by settling the heaviest open subject, the lowest where several are, until none waits; one that was raised is settled at its new limit, and waits no more; and lists them as it settles them. Assumes nothing.
use Rattle.search.proofs.Whole.{measure}
use Rattle.search.proofs.Midway.{Midway}
use Rattle.search.proofs.Listing.{Listing}
use Rattle.search.proofs.search.Given as goal

abbrev pub invariant-loop-sets : goal.invariant-loop-sets
invariant-loop-sets l = Midway l.table l.records l.marks l.limits l.parents l.waiting l.sets l.settled × Listing l.table l.records l.marks l.settled l.order l.count

abbrev pub decreases-loop-sets : goal.decreases-loop-sets
decreases-loop-sets l = measure l.settled l.sets.near l.sets.far
