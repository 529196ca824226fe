-- `rounds::counts` compares two registers as `dropped` and `lowered` do. Assumes nothing.
use Rattle.block.proofs.Held.{Holds}
use Rattle.rounds.proofs.Counting.{Compared}
use Rattle.rounds.proofs.counted.counts.Given as goal

abbrev pub invariant-loop-k : goal.invariant-loop-k
invariant-loop-k l =
    Holds l.before l.n × Holds l.after l.m × Compared l.before l.after l.j l.k l.dropped l.lowered
