-- `steptable::read_entry` reads a next exactly where the text is its line. Assumes nothing.
use Rattle.steptable.proofs.Lines.{no_weight_lem, other_weight, no_next, next_low, next_there}
use Rattle.steptable.proofs.read_entry.Goals as goal

pub returns-in_err-w : goal.returns-in_err-w
returns-in_err-w c = rw c.from_residual.ensures (no_weight_lem c.args.text.now c.args.at c.args.weight c.requires c.in_err-w.ensures)

pub returns-then-w-weight : goal.returns-then-w-weight
returns-then-w-weight c = other_weight c.args.text.now c.args.at c.args.weight c.requires c.in_ok-w.w c.in_ok-w.ensures c.if-w-weight.true

pub returns-in_err-next : goal.returns-in_err-next
returns-in_err-next c = rw c.from_residual-in_err-next.ensures (no_next c.args.text.now c.args.at c.args.weight c.requires c.in_ok-w.w c.in_ok-w.ensures c.in_err-next.ensures)

pub returns-then-next-ltminus1 : goal.returns-then-next-ltminus1
returns-then-next-ltminus1 c = next_low c.args.text.now c.args.at c.args.weight c.requires c.in_ok-w.w c.in_ok-w.ensures c.in_ok-next.next c.in_ok-next.ensures c.if-next-ltminus1.true

pub returns : goal.returns
returns c = next_there c.args.text.now c.args.at c.args.weight c.requires c.in_ok-w.w c.in_ok-w.ensures c.in_ok-next.next c.in_ok-next.ensures c.if-w-weight.false c.if-next-ltminus1.false
