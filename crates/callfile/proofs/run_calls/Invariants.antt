-- `callfile::run_calls` goes over the lines call by call. Assumes nothing.
use Rattle.std.proofs.Common.{◌≡◌, ◌-◌, length}
use Rattle.callfile.proofs.Going.{Going}
use Rattle.callfile.proofs.run_calls.Given as goal

abbrev pub invariant-loop-row : goal.invariant-loop-row
invariant-loop-row l = record {
  same : l.calls.lines.now ≡ l.lines;
  going : Going l.lines l.initial.block l.initial.out l.to l.calls.at l.end l.number l.block l.out;
}

abbrev pub decreases-loop-row : goal.decreases-loop-row
decreases-loop-row l = length l.lines - l.calls.at
