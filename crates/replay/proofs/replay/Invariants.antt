-- `replay::replay` makes a list of calls and keeps every block. Assumes nothing.
use Rattle.replay.specs.Turn.{Sized}
use Rattle.replay.proofs.Turns.{Through}
use Rattle.replay.proofs.replay.Given as goal

abbrev pub invariant-loop-i : goal.invariant-loop-i
invariant-loop-i l =
    Sized l.calls l.blocks l.refusals l.answers × Through l.calls l.texts l.blocks l.refusals l.answers l.i
