-- `text::write_digit` writes the digit of a number below 10. Assumes nothing.
use native.Mathlib.Omega.{arith}
use Rattle.text.proofs.Digits.{digits_some}
use Rattle.text.proofs.Writing.{digit_alone}
use Rattle.text.proofs.write.write_digit.Goals as goal

pub bounds-buf-at : goal.bounds-buf-at
bounds-buf-at c = omega (arith, digits_some c.args.n, c.requires.1)

pub returns : goal.returns
returns c = digit_alone c.args.at c.args.n c.args.buf.now c.requires.1 c.requires.0
