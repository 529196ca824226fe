-- The measure of `text::read_line` is the number of values. Assumes nothing.
use Rattle.std.proofs.Common.{length}
use Rattle.text.proofs.read.+read_line.Given as goal

abbrev pub decreases-read_line : goal.decreases-read_line
decreases-read_line l = length l.values.now
