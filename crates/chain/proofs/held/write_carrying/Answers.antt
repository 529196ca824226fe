-- `chain::write_carrying` writes a chain of the pair that carries a weight, or refuses. Assumes nothing.
use borrow.Author.Rules.{rules}
use mathlib.Core.Path.{◌≡◌}
use mathlib.Core.Bool.{true, false}
use Prim.Native.Nat.{◌<◌}
use native.Mathlib.Omega.{arith}
use mir.Syntax.{w16}
use mir.Facts.{to_z-of_z, to_z_pos}
use lib.ListN.{length, get_or}
use lib.IntN.{pos}
use lib.Signed.{lt_z}
use Rattle.block.proofs.Bytes.{fits_bytes}
use Rattle.block.proofs.Held.{rules_of, has_records}
use Rattle.chain.proofs.ChainWays.{carrying_refused, carrying_traceable, carrying_done}
use Rattle.chain.proofs.held.write_carrying.Goals as goal
use Rattle.chain.proofs.held.write_carrying.Goals.{After-limits_for, Else-limits-giver, Then-limits-giver}

inside : (c : After-limits_for) → c.args.giver < 64
inside c = omega (arith, (rules_of c.args.block.now (fits_bytes c.args.block.now c.shared_slice_known-1.given) c.requires.0.formed).most, c.requires.0.giver)

-- the test of 16, on numbers
heavy : (c : Then-limits-giver) → lt_z (get_or c.limits_for.new.limits c.args.giver (pos 0)) (pos c.args.weight) ≡ true
heavy c =
    rw (to_z-of_z {w = w16} record { sfits = c.t18-1.given }, to_z_pos w16 {n = c.args.weight} (omega (arith, c.ranges.weight))) at c.if-limits-giver.true

light : (c : Else-limits-giver) → lt_z (get_or c.limits_for.new.limits c.args.giver (pos 0)) (pos c.args.weight) ≡ false
light c =
    rw (to_z-of_z {w = w16} record { sfits = c.t18-1.given }, to_z_pos w16 {n = c.args.weight} (omega (arith, c.ranges.weight))) at c.if-limits-giver.false

pub offset_bounds-limits-giver : goal.offset_bounds-limits-giver
offset_bounds-limits-giver c = omega (arith, inside (goal.at.offset_bounds-limits-giver c).After-limits_for)

pub bounds-limits-giver : goal.bounds-limits-giver
bounds-limits-giver c = omega (arith, inside (goal.at.bounds-limits-giver c).After-limits_for)

pub returns-then-limits-giver : goal.returns-then-limits-giver
returns-then-limits-giver c =
    let a = c.args in
    (carrying_refused a.table.now a.block.now (fits_bytes c.args.block.now c.shared_slice_known-1.given) c.requires.0.formed a.giver a.receiver a.weight c.limits_for.new.limits c.limits_for.new.parents c.limits_for.ensures (inside (goal.at.returns-then-limits-giver c).After-limits_for) (heavy (goal.at.returns-then-limits-giver c).Then-limits-giver) a.buf.now)

pub records-records-requires : goal.records-records-requires
records-records-requires c =
    has_records c.args.block.now (fits_bytes c.args.block.now c.shared_slice_known-1.given) c.requires.0.formed

pub write_links-requires : goal.write_links-requires
write_links-requires c =
    let a = c.args in
    let size : length c.limits_for.new.parents ≡ 64 = search rules in
    rw c.records-records.ensures (carrying_traceable a.table.now a.block.now (fits_bytes c.args.block.now c.shared_slice_known-1.given) c.requires.0.formed a.giver a.receiver a.weight c.limits_for.new.limits c.limits_for.new.parents c.limits_for.ensures (inside (goal.at.write_links-requires c).After-limits_for) (light (goal.at.write_links-requires c).Else-limits-giver) c.requires.1 size, c.requires.2)

pub returns : goal.returns
returns c =
    let w = c.write_links in
    let a = c.args in
    let (n, e) = rw c.records-records.ensures at w.ensures in
    carrying_done a.table.now a.block.now (fits_bytes c.args.block.now c.shared_slice_known-1.given) c.requires.0.formed a.giver a.receiver a.weight c.limits_for.new.limits c.limits_for.new.parents c.limits_for.ensures (inside (goal.at.returns c).After-limits_for) (light (goal.at.returns c).Else-limits-giver) w.result a.buf.now w.new.buf n e
