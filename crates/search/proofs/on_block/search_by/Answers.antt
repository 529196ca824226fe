-- `search::search_by` finds the reaches of a receiver, and the order for it. Assumes nothing.
use Rattle.block.proofs.Bytes.{fits_bytes}
use Rattle.block.proofs.Held.{has_marks, has_records, marks_held}
use Rattle.search.proofs.Searching.{lent_held}
use Rattle.search.proofs.on_block.search_by.Goals as goal

pub marks-marks-requires : goal.marks-marks-requires
marks-marks-requires c =
    has_marks c.args.block.now (fits_bytes c.args.block.now c.type_inv.block) c.requires.0.block.formed c.args.receiver c.requires.1

pub records-requires : goal.records-requires
records-requires c = has_records c.args.block.now (fits_bytes c.args.block.now c.type_inv.block) c.requires.0.block.formed

pub search-requires : goal.search-requires
search-requires c =
    rw c.records.ensures (record { lent = lent_held c.args.block.now (fits_bytes c.args.block.now c.type_inv.block) c.requires.0.block.formed c.args.table.now c.requires.0.block.rule; starts = c.requires.0.starts }, c.requires.2)

pub returns : goal.returns
returns c =
    rw (c.records.ensures, c.marks-marks.ensures, marks_held c.args.block.now (fits_bytes c.args.block.now c.type_inv.block) c.requires.0.block.formed c.args.receiver c.requires.1) at c.search.ensures
