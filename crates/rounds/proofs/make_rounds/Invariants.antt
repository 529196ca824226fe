-- `rounds::make_rounds` makes rounds until one changes nothing, or the first that changes something. Assumes nothing.
use mathlib.Core.Path.{◌≡◌}
use lib.ListN.{length}
use Rattle.rules.specs.Round.{total}
use Rattle.block.specs.Layout.{most_records}
use Rattle.block.specs.Block.{decode}
use Rattle.queue.specs.Queue.{Empty}
use Rattle.reckoning.specs.Reckoned.{reach_count, IndexOf}
use Rattle.rounds.proofs.Settling.{GoingOn}
use Rattle.rounds.proofs.make_rounds.Given as goal

abbrev pub invariant-loop-starts : goal.invariant-loop-starts
invariant-loop-starts l =
    (length l.block ≡ length l.initial.block) × GoingOn l.table (decode l.initial.block) l.changed l.block × (length l.reaches ≡ reach_count) × Empty l.waiting × (length l.weights ≡ most_records) × IndexOf l.block l.index l.starts

abbrev pub decreases-loop-starts : goal.decreases-loop-starts
decreases-loop-starts l = total (decode l.block).delegations
