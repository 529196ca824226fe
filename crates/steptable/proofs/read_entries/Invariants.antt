-- `steptable::read_entries` reads the entries of a table exactly where the text is its text. Assumes nothing.
use Rattle.steptable.proofs.Entries.{Reading}
use Rattle.steptable.proofs.read_entries.Given as goal

abbrev pub invariant-loop-w : goal.invariant-loop-w
invariant-loop-w l = Reading l.lines l.at l.w l.entries
