-- `change::remove` removes the pair's delegation. Assumes nothing.
use mathlib.Core.Path.{◌≡◌, ap, ◌∙◌}
use mathlib.Core.Bool.{not}
use mathlib.Core.List.{List}
use Prim.Native.Nat.{ℕ, ◌+◌, ◌-◌, ◌≤◌, ◌<◌}
use native.Mathlib.Omega.{arith}
use borrow.Rule.Slice.PartMut.{mid_of, mid_len}
use lib.ListN.{length, replicate}
use lib.Seq.{sets}
use Rattle.std.proofs.Common.{rules}
use Rattle.rules.specs.Pair.{is_pair}
use Rattle.rules.specs.Register.{no_delegation}
use Rattle.block.specs.Layout.{count_at, record_size}
use Rattle.block.specs.Bytes.{two_bytes}
use Rattle.block.specs.Block.{record_bytes}
use Rattle.block.proofs.Bytes.{fits_bytes}
use Rattle.block.proofs.Held.{has_head, has_records}
use Rattle.change.proofs.Changing.{Among, among, place_below, remove_held}
use Rattle.change.proofs.Storing.{stored}
use Rattle.change.proofs.remove.Goals as goal
use Rattle.change.proofs.remove.Goals.{After-find}

-- the place among the records that stand
known : (c : After-find) → Among c.args.b.now c.count-n.result c.find.result
known c =
    among c.args.b.now (fits_bytes c.args.b.now c.slice_known-1.given) c.requires.0 (λ d. not (is_pair c.args.giver c.args.receiver d)) c.count-n.result c.find.result c.count-n.ensures c.find.ensures

below : (c : After-find) → c.find.result < c.count-n.result
below c =
    place_below c.args.b.now (fits_bytes c.args.b.now c.slice_known-1.given) c.requires.0 c.count-n.result c.count-n.ensures c.args.giver c.args.receiver c.find.result c.find.ensures c.requires.1

pub count-n-requires : goal.count-n-requires
count-n-requires c = has_head c.args.b.now (fits_bytes c.args.b.now c.slice_known-1.given) c.requires.0

pub find-requires : goal.find-requires
find-requires c = rw c.count-n.ensures (has_records c.args.b.now (fits_bytes c.args.b.now c.slice_known-1.given) c.requires.0)

pub record_place-at-requires : goal.record_place-at-requires
record_place-at-requires c = let p = known c in omega arith

pub record_place-requires : goal.record_place-requires
record_place-requires c = let p = known (goal.at.record_place-requires c).After-find in omega arith

pub shift_down-requires : goal.shift_down-requires
shift_down-requires c = let p = known (goal.at.shift_down-requires c).After-find in omega (arith, below (goal.at.shift_down-requires c).After-find, c.record_place.ensures, c.record_place-at.ensures)

pub overflow_sub-last : goal.overflow_sub-last
overflow_sub-last c = omega (arith, below (goal.at.overflow_sub-last c).After-find)

pub record_place-start-requires : goal.record_place-start-requires
record_place-start-requires c = let p = known (goal.at.record_place-start-requires c).After-find in omega arith

pub slice_bounds-fill-end : goal.slice_bounds-fill-end
slice_bounds-fill-end c = let p = known (goal.at.slice_bounds-fill-end c).After-find in omega (arith, below (goal.at.slice_bounds-fill-end c).After-find, c.record_place-start.ensures, c.shift_down.auto.b)

pub returns : goal.returns
returns c =
    let n = c.count-n in
    let a = c.args in
    let last = record_bytes no_delegation in
    let p = known (goal.at.returns c).After-find in
    let last_room : c.record_place-start.result + length last ≤ length c.shift_down.new.b = omega (arith, below (goal.at.returns c).After-find, c.record_place-start.ensures, c.shift_down.auto.b) in
    let start = c.record_place-start.result in
    let wide : length (mid_of start (start + record_size - start) c.shift_down.new.b) ≡ record_size = omega (arith, mid_len start (start + record_size) c.shift_down.new.b last_room) in
    c.put_two.ensures
    ∙ ap (λ (l : List ℕ). sets l count_at (two_bytes (n.result - 1))) (stored c.shift_down.new.b last c.fill.new.self c.record_place-start.result _ (c.fill.ensures.after (λ y e. search rules) ∙ ap (λ (m : ℕ). replicate m 0) wide) (omega arith) (last_room))
    ∙ rw (c.record_place-start.ensures, c.shift_down.ensures, c.record_place.ensures, c.record_place-at.ensures)
    (remove_held a.b.now (fits_bytes c.args.b.now c.slice_known-1.given) c.requires.0 n.result n.ensures a.giver a.receiver c.find.result c.find.ensures c.requires.1)
