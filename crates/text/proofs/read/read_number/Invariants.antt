-- `text::read_number` reads a number exactly where the text is its rendering. The loop: the whole answer is the answer from i on. Assumes nothing.
use Rattle.std.proofs.Common.{◌≡◌, ◌≤◌, drop}
use Rattle.text.specs.Text.{most}
use Rattle.text.proofs.Reading.{read_on, read_from}
use Rattle.text.proofs.read.read_number.Given as goal

abbrev pub invariant-loop-i : goal.invariant-loop-i
invariant-loop-i l = (l.value ≤ most) × (read_from l.end (drop l.at l.text) l.at ≡ read_on l.end l.value (drop l.i l.text) l.i)
