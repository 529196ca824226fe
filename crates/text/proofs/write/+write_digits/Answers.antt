-- `text::write_digits` writes the digits of a number. Assumes nothing.
use Rattle.std.proofs.Common.{arith}
use Rattle.text.proofs.Writing.{digits_on, digit_room, digits_last}
use Rattle.text.proofs.write.+write_digits.Goals as goal

pub write_digits-last-requires : goal.write_digits-last-requires
write_digits-last-requires t c =
    (omega arith, digits_on c.args.at c.args.n c.args.buf.now c.requires c.if-n-lt10.false)

pub write_digit-requires-2 : goal.write_digit-requires-2
write_digit-requires-2 t c =
    let w = c.write_digits-last in
    (omega arith, digit_room c.args.at c.args.n c.args.buf.now c.requires c.if-n-lt10.false w.result w.new.buf w.ensures)

pub returns : goal.returns
returns t c =
    let w = c.write_digits-last in
    let v = c.write_digit-2 in
    digits_last c.args.at c.args.n c.args.buf.now c.requires c.if-n-lt10.false w.result w.new.buf w.ensures v.result v.new.buf v.ensures
