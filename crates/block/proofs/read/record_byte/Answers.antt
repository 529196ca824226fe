-- `block::record_byte` is a byte of record k. Assumes nothing.
use lib.Seq.{drop-drop, get_or-drop}
use Rattle.block.proofs.read.record_byte.Goals as goal

pub returns : goal.returns
returns c = rw (drop-drop, get_or-drop)
