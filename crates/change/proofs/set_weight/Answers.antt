-- `change::set_weight` sets the weight of the pair's delegation. Assumes nothing.
use mathlib.Core.Bool.{not}
use Prim.Native.Nat.{◌<◌}
use native.Mathlib.Omega.{arith}
use Rattle.rules.specs.Pair.{is_pair}
use Rattle.block.proofs.Bytes.{fits_bytes}
use Rattle.block.proofs.Held.{has_head, has_records}
use Rattle.change.proofs.Changing.{Among, among, place_below, reweigh_held}
use Rattle.change.proofs.set_weight.Goals as goal
use Rattle.change.proofs.set_weight.Goals.{After-find}

-- the place among the records that stand
known : (c : After-find) → Among c.args.b.now c.count-n.result c.find.result
known c =
    among c.args.b.now (fits_bytes c.args.b.now c.slice_known-1.given) c.requires.0 (λ d. not (is_pair c.args.giver c.args.receiver d)) c.count-n.result c.find.result c.count-n.ensures c.find.ensures

below : (c : After-find) → c.find.result < c.count-n.result
below c =
    place_below c.args.b.now (fits_bytes c.args.b.now c.slice_known-1.given) c.requires.0 c.count-n.result c.count-n.ensures c.args.giver c.args.receiver c.find.result c.find.ensures c.requires.1

pub count-n-requires : goal.count-n-requires
count-n-requires c = has_head c.args.b.now (fits_bytes c.args.b.now c.slice_known-1.given) c.requires.0

pub find-requires : goal.find-requires
find-requires c = rw c.count-n.ensures (has_records c.args.b.now (fits_bytes c.args.b.now c.slice_known-1.given) c.requires.0)

pub record_place-at-requires : goal.record_place-at-requires
record_place-at-requires c = let p = known c in omega arith

pub bounds-b-at : goal.bounds-b-at
bounds-b-at c = let p = known (goal.at.bounds-b-at c).After-find in omega (arith, below (goal.at.bounds-b-at c).After-find, c.record_place-at.ensures)

pub returns : goal.returns
returns c =
    let n = c.count-n in
    let a = c.args in
    rw c.record_place-at.ensures (reweigh_held a.b.now (fits_bytes c.args.b.now c.slice_known-1.given) c.requires.0 n.result n.ensures a.giver a.receiver c.find.result c.find.ensures c.requires.1 a.weight)
