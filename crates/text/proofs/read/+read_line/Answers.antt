-- `text::read_line` reads a line exactly where the text is its rendering, and changes no value elsewhere. Assumes nothing.
use Rattle.std.proofs.Common.{sym, ◌∙◌, length, arith}
use borrow.Author.Tests.{eqb-false}
use Rattle.text.proofs.Signed.{kept, allowed_fits}
use Rattle.text.proofs.Lines.{first_none, rest_none, rest_found}
use Rattle.text.proofs.read.+read_line.Goals as goal

pub returns-in_err-first : goal.returns-in_err-first
returns-in_err-first t c =
    let n = eqb-false (length c.args.values.now) 0 (sym c.is_empty.ensures ∙ c.if-is_empty.false) in
    let m = rw c.column_end.ensures at c.in_err-first.ensures in
    rw c.from_residual.ensures (first_none c.args.text.now c.args.at c.args.signed c.args.values.now (omega (arith, n)) m)

pub returns-in_err-next : goal.returns-in_err-next
returns-in_err-next t c =
    let n = eqb-false (length c.args.values.now) 0 (sym c.is_empty.ensures ∙ c.if-is_empty.false) in
    let m = rw c.column_end.ensures at c.in_ok-first.ensures in
    rw c.from_residual-in_err-next.ensures (rest_none c.args.text.now c.args.at c.args.signed c.args.values.now (omega (arith, n)) c.in_ok-first.first m c.read_line.new.values c.in_err-next.ensures)

pub returns : goal.returns
returns t c =
    let n = eqb-false (length c.args.values.now) 0 (sym c.is_empty.ensures ∙ c.if-is_empty.false) in
    let v = c.in_ok-first.first in
    let m = rw c.column_end.ensures at c.in_ok-first.ensures in
    rw (kept v.value (allowed_fits c.args.signed v.value m.read.0))
    (rest_found c.args.text.now c.args.at c.args.signed c.args.values.now (omega (arith, n)) v m c.in_ok-next.next c.read_line.new.values c.in_ok-next.ensures c.read_line.auto.values)
