-- `search::starts_of` stores where the run of each giver starts in the records of a block. Assumes nothing.
use Rattle.rules.specs.Table.{steps}
use Rattle.rules.proofs.Table.{steps_rule}
use Rattle.block.proofs.Bytes.{fits_bytes}
use Rattle.block.proofs.Held.{has_records}
use Rattle.search.proofs.Searching.{lent_held}
use Rattle.search.proofs.on_block.starts_of.Goals as goal

pub records-requires : goal.records-requires
records-requires c = has_records c.args.block.now (fits_bytes c.args.block.now c.type_inv.block) c.requires.0

pub fill_starts-requires : goal.fill_starts-requires
fill_starts-requires c =
    rw c.records.ensures (let lent = lent_held c.args.block.now (fits_bytes c.args.block.now c.type_inv.block) c.requires.0 steps steps_rule in (lent.few, lent.rising, c.requires.1))
