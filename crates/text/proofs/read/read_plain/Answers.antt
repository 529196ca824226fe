-- `text::read_plain` reads a number without sign. Assumes nothing.
use Rattle.text.proofs.Signed.{held}
use Rattle.text.proofs.Values.{plain_none, plain_some}
use Rattle.text.proofs.read.read_plain.Goals as goal

pub returns-in_err-n : goal.returns-in_err-n
returns-in_err-n c = rw c.from_residual.ensures (plain_none c.args.text.now c.args.at c.args.end c.in_err-n.ensures)

pub returns : goal.returns
returns c =
    let m = c.in_ok-n.ensures in
    rw (held c.from.ensures m.read.0) (plain_some c.args.text.now c.args.at c.args.end c.in_ok-n.n m)
