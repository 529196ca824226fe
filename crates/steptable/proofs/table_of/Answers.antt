-- `steptable::table_of` stores the entries of a table that keeps the rule. Assumes nothing.
use native.Mathlib.Omega.{arith}
use Rattle.steptable.proofs.Making.{making_start, making_end, making_entry, making_not, making_fits, making_more}
use Rattle.steptable.proofs.table_of.Goals as goal

pub loop-w-init : goal.loop-w-init
loop-w-init c = making_start c.args.entries.now c.requires.0 c.requires.2 c.args.table.now c.requires.1

pub keeps-requires : goal.keeps-requires
keeps-requires c =
    let l = c.loop-w in
    (omega arith, l.invariant.good, making_entry c.args.entries.now c.requires.0 c.requires.2 _ l.w l.table l.invariant (omega arith))

pub returns-then-not-keeps : goal.returns-then-not-keeps
returns-then-not-keeps c =
    let l = c.loop-w in
    making_not c.args.entries.now c.requires.0 c.requires.2 _ l.w l.table l.invariant (omega arith) c.keeps.result c.keeps.ensures c.if-not-keeps.true

pub overflow_cast-table : goal.overflow_cast-table
overflow_cast-table c =
    let l = c.loop-w in
    making_fits c.args.entries.now c.requires.0 c.requires.2 _ l.w l.table l.invariant (omega arith) c.keeps.result c.keeps.ensures c.if-not-keeps.false

pub loop-w-preserved : goal.loop-w-preserved
loop-w-preserved c =
    let l = c.loop-w in
    making_more c.args.entries.now c.requires.0 c.requires.2 _ l.w l.table l.invariant (omega arith) c.keeps.result c.keeps.ensures c.if-not-keeps.false

pub returns : goal.returns
returns c =
    let l = c.loop-w in
    making_end c.args.entries.now c.requires.0 c.requires.2 _ l.w l.table l.invariant (omega arith)
