-- `search::reach_of` is the reach of the pair. Assumes nothing.
use mathlib.Core.Path.{◌∙◌}
use native.Mathlib.Omega.{arith}
use mir.Syntax.{w16}
use mir.Facts.{to_z-of_z}
use Rattle.block.proofs.Bytes.{fits_bytes}
use Rattle.block.proofs.Held.{rules_of}
use Rattle.search.proofs.Searching.{reach_found}
use Rattle.search.proofs.on_block.reach_of.Goals as goal

pub bounds-limits-giver : goal.bounds-limits-giver
bounds-limits-giver c = omega (arith, (rules_of c.args.block.now (fits_bytes c.args.block.now c.type_inv.block) c.requires.0.formed).most, c.requires.1)

pub returns : goal.returns
returns c =
    let a = c.args in
    let bytes = fits_bytes a.block.now c.type_inv.block in
    to_z-of_z {w = w16} record { sfits = omega arith } ∙ reach_found a.block.now bytes c.requires.0.formed a.table.now a.receiver c.limits_for.new.limits c.limits_for.new.parents c.limits_for.ensures a.giver (omega (arith, (rules_of a.block.now bytes c.requires.0.formed).most, c.requires.1))
