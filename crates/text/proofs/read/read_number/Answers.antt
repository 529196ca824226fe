-- `text::read_number` reads a number exactly where the text is its rendering. The loop: the whole answer is the answer from i on. Assumes nothing.
use Rattle.std.proofs.Common.{sym, ap, ◌∙◌, arith}
use borrow.Author.Tests.{not-true, not-false}
use Rattle.text.specs.Read.{is_digit}
use Rattle.text.proofs.Reading.{start_end, start_other, turn_done, turn_end, turn_zero, turn_large}
use Rattle.text.proofs.read.read_number.Goals as goal

pub returns-in_err-first : goal.returns-in_err-first
returns-in_err-first c = rw c.from_residual.ensures (start_end c.args.end c.requires c.args.text.now c.args.at c.in_err-first.ensures.lookup.3)

pub returns-in_err-value : goal.returns-in_err-value
returns-in_err-value c =
    let g = c.in_ok-first.ensures.lookup.3 in
    rw c.from_residual-in_err-value.ensures (start_other c.args.end c.requires c.args.text.now c.args.at g.0 (ap is_digit (sym (g.1 0)) ∙ c.in_err-value.ensures))

pub returns-then-not-is_digit : goal.returns-then-not-is_digit
returns-then-not-is_digit c =
    let l = c.loop-i in
    rw c.ended.ensures (turn_end c.args.end c.requires c.args.text.now c.args.at l.value l.i l.invariant.1 (omega arith) (sym c.is_digit.ensures ∙ not-true _ c.if-not-is_digit.true-raw))

pub returns-then-value-eq0 : goal.returns-then-value-eq0
returns-then-value-eq0 c =
    let l = c.loop-i in
    turn_zero c.args.end c.requires c.args.text.now c.args.at l.value l.i l.invariant.1 (omega arith) (sym c.is_digit.ensures ∙ not-false _ c.if-not-is_digit.false-raw) c.if-value-eq0.true

pub returns-then-value-gt-MOST : goal.returns-then-value-gt-MOST
returns-then-value-gt-MOST c =
    let l = c.loop-i in
    turn_large c.args.end c.requires c.args.text.now c.args.at l.value l.i l.invariant.1 (omega arith) (sym c.is_digit.ensures ∙ not-false _ c.if-not-is_digit.false-raw) (omega (arith, c.if-value-gt-MOST.true))

pub returns : goal.returns
returns c =
    let l = c.loop-i in
    turn_done c.args.end c.requires c.args.text.now c.args.at l.value l.i l.invariant.1 (omega arith)
