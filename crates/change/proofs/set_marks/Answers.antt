-- `change::set_marks` sets the marks of an enrolled subject. Assumes nothing.
use Rattle.block.proofs.Bytes.{fits_bytes}
use Rattle.block.proofs.Held.{has_marks}
use Rattle.change.proofs.Changing.{mark_held}
use Rattle.change.proofs.set_marks.Goals as goal

pub put_marks-requires : goal.put_marks-requires
put_marks-requires c =
    has_marks c.args.b.now (fits_bytes c.args.b.now c.slice_known-1.given) c.requires.0 c.args.subject c.requires.1

pub returns : goal.returns
returns c =
    let m = c.put_marks in
    let a = c.args in
    rw m.ensures (mark_held a.b.now (fits_bytes a.b.now c.slice_known-1.given) c.requires.0 a.subject a.marks c.requires.1)
