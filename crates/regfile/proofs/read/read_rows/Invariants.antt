-- `regfile::read_rows` reads the rows of a part, as many as there are, and stores them as long as all have room. Assumes nothing.
use Rattle.std.proofs.Common.{◌≡◌, ◌-◌, length}
use Rattle.block.specs.Block.{decode}
use Rattle.regfile.specs.Parsed.{columns}
use Rattle.regfile.proofs.Rowing.{Reading}
use Rattle.regfile.proofs.read.read_rows.Given as goal

abbrev pub invariant-loop-end : goal.invariant-loop-end
invariant-loop-end l = (length l.row ≡ columns l.part) × Reading l.text (columns l.part) (decode l.initial.b) l.fits l.next l.kept l.b

abbrev pub decreases-loop-end : goal.decreases-loop-end
decreases-loop-end l = length l.text - l.next
