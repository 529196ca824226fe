-- `block::record_two` is a two-byte number of record k. Assumes nothing.
use mathlib.Core.Path.{◌∙◌}
use lib.Seq.{drop-drop}
use Rattle.block.specs.Records.{record_place}
use Rattle.block.proofs.Fields.{two_in}
use Rattle.block.proofs.read.record_two.Goals as goal

pub returns : goal.returns
returns c =
    let a = c.args in
    c.read_two.ensures ∙ rw drop-drop (two_in a.b.now (record_place a.k) a.j)
