-- `text::read_negative` reads a number with its sign. Assumes nothing.
use Rattle.std.proofs.Common.{pos, true}
use Rattle.text.specs.Text.{Allowed}
use Rattle.text.proofs.Signed.{negative_held}
use Rattle.text.proofs.Values.{negative_none, negative_zero, negative_some}
use Rattle.text.proofs.read.read_negative.Goals as goal

pub returns-in_err-n : goal.returns-in_err-n
returns-in_err-n c = rw c.from_residual.ensures (negative_none c.args.text.now c.args.at c.args.end c.requires.0 c.requires.1 c.requires.2 c.in_err-n.ensures)

pub returns-then-size-eq0 : goal.returns-then-size-eq0
returns-then-size-eq0 c = negative_zero c.args.text.now c.args.at c.args.end c.requires.0 c.requires.1 c.requires.2 c.in_ok-n.n c.in_ok-n.ensures c.if-size-eq0.true

pub returns : goal.returns
returns c =
    let l : Allowed true (pos c.in_ok-n.n.value) = (let m = c.in_ok-n.ensures in m.read.0) in
    rw (negative_held c.from.ensures l) (negative_some c.args.text.now c.args.at c.args.end c.requires.0 c.requires.1 c.requires.2 c.in_ok-n.n c.in_ok-n.ensures c.if-size-eq0.false)
