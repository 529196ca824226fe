-- `text::write_line` writes a line. The loop: with the values from i on written, the buffer is as it shall be. Assumes nothing.
use Rattle.text.proofs.Writing.{Pending}
use Rattle.text.proofs.write.write_line.Given as goal

abbrev pub invariant-loop-i : goal.invariant-loop-i
invariant-loop-i l = Pending l.at l.values l.initial.buf l.next l.i l.buf
