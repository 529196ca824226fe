-- `steptable::read_table` is what is given with the text. Assumes nothing.
use mathlib.Core.Path.{refl, sym, ◌∙◌}
use borrow.Author.Tests.{eqb-true, eqb-false}
use lib.ListN.{length}
use Rattle.steptable.proofs.Whole.{given_empty, given_other, given_broken, given_passed}
use Rattle.steptable.proofs.read_table.Goals as goal

pub returns-then-is_empty : goal.returns-then-is_empty
returns-then-is_empty c = given_empty c.args.text.now c.steps.result (eqb-true (length c.args.text.now) 0 (sym c.is_empty.ensures ∙ c.if-is_empty.true)) c.steps.ensures

pub returns-then-not-read_entries : goal.returns-then-not-read_entries
returns-then-not-read_entries c =
    let e = c.read_entries in
    given_other c.args.text.now e.result e.new.entries e.ensures (eqb-false (length c.args.text.now) 0 (sym c.is_empty.ensures ∙ c.if-is_empty.false)) c.if-not-read_entries.true

pub table_of-requires : goal.table_of-requires
table_of-requires c =
    let h = c.read_entries.ensures.yes c.if-not-read_entries.false in
    (h.size, refl, h.entries)

pub returns-then-not-table_of : goal.returns-then-not-table_of
returns-then-not-table_of c =
    let e = c.read_entries in
    let t = c.table_of in
    given_broken c.args.text.now e.result e.new.entries e.ensures c.if-not-read_entries.false t.result t.new.table t.ensures c.if-not-table_of.true

pub returns : goal.returns
returns c =
    let e = c.read_entries in
    let t = c.table_of in
    given_passed c.args.text.now e.result e.new.entries e.ensures c.if-not-read_entries.false t.result t.new.table t.ensures c.if-not-table_of.false
