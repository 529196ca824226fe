-- `reckoning::lower` lowers each delegation of a run. Assumes nothing.
use native.Mathlib.Omega.{arith}
use mir.Syntax.{w16}
use mir.Facts.{to_z-of_z}
use lib.ListN.{get_or}
use Rattle.std.proofs.lemmas.List.{get_or_default}
use Rattle.std.proofs.lemmas.List.Edits.{map_over_more}
use Rattle.reckoning.specs.Reckoned.{none_decoded, lower_one}
use Rattle.reckoning.proofs.lower.lower.Goals as goal

pub loop-d-preserved : goal.loop-d-preserved
loop-d-preserved c =
    let l = c.loop-d in
    let d = get_or l.ds l.d-index none_decoded in
    let e = map_over_more (lower_one c.args.reaches.now) c.args.ds.now l.ds l.d-index d (omega arith) l.invariant (get_or_default l.ds l.d-index none_decoded d (omega arith)) in
    rw (to_z-of_z {w = w16} record { sfits = c.lowered_weight-d.type_inv }, c.lowered_weight-d.ensures, to_z-of_z {w = w16} {z = d.weight} record { sfits = omega arith }) e
