-- `steptable::table_of` stores the entries of a table that keeps the rule. Assumes nothing.
use Rattle.steptable.proofs.Making.{Making}
use Rattle.steptable.proofs.table_of.Given as goal

abbrev pub invariant-loop-w : goal.invariant-loop-w
invariant-loop-w l = Making l.entries l.before l.w l.table
