-- `change::write_left` writes the block of the register with what is left. Assumes nothing.
use mathlib.Core.Path.{◌≡◌, ◌∙◌}
use Prim.Native.Nat.{◌≤◌}
use native.Mathlib.Omega.{arith}
use lib.ListN.{length}
use Rattle.block.specs.Layout.{block_size, most_records}
use Rattle.block.proofs.Bytes.{fits_bytes}
use Rattle.block.proofs.Held.{count_most, has_head, has_records}
use Rattle.change.proofs.Writing.{left_bounds, left_encoded}
use Rattle.change.proofs.left.write_left.Goals as goal
use Rattle.change.proofs.left.write_left.Goals.{After-keep_left-kept}

-- what is known once the records that are left are written
known : (c : After-keep_left-kept) → (c.keep_left-kept.result ≤ c.count-n.result) × (c.count-n.result ≤ most_records) × (length c.keep_left-kept.new.block ≡ block_size)
known c =
    let n = c.count-n in
    let r = c.keep_left-kept in
    left_bounds c.args.block.now (fits_bytes c.args.block.now c.slice_known-1.given) c.requires.0 c.args.weights.now n.result r.result r.new.block n.ensures r.ensures

pub count-n-requires : goal.count-n-requires
count-n-requires c = has_head c.args.block.now (fits_bytes c.args.block.now c.slice_known-1.given) c.requires.0

pub keep_left-kept-requires : goal.keep_left-kept-requires
keep_left-kept-requires c =
    let b = c.args.block.now in
    let n = c.count-n.ensures in
    let few = count_most b (fits_bytes c.args.block.now c.slice_known-1.given) c.requires.0 in
    record {
      few = omega (arith, n, few);
      room = rw n (has_records b (fits_bytes c.args.block.now c.slice_known-1.given) c.requires.0);
      given = omega (arith, n, few);
      most = λ k l. c.requires.2 k (omega (arith, n));
    }

pub record_place-start-requires : goal.record_place-start-requires
record_place-start-requires c = omega (arith, known (goal.at.record_place-start-requires c).After-keep_left-kept)

pub record_place-end-requires : goal.record_place-end-requires
record_place-end-requires c = (known (goal.at.record_place-end-requires c).After-keep_left-kept).1

pub slice_bounds-zero_all-count : goal.slice_bounds-zero_all-count
slice_bounds-zero_all-count c = omega (arith, known (goal.at.slice_bounds-zero_all-count c).After-keep_left-kept, c.record_place-start.ensures, c.record_place-end.ensures)

pub slice_bounds-zero_all-start : goal.slice_bounds-zero_all-start
slice_bounds-zero_all-start c = omega (arith, known (goal.at.slice_bounds-zero_all-start c).After-keep_left-kept, c.record_place-start.ensures, c.record_place-end.ensures)

pub slice_bounds-zero_all-end : goal.slice_bounds-zero_all-end
slice_bounds-zero_all-end c = omega (arith, known (goal.at.slice_bounds-zero_all-end c).After-keep_left-kept, c.record_place-end.ensures)

pub overflow_cast-kept : goal.overflow_cast-kept
overflow_cast-kept c = omega (arith, known (goal.at.overflow_cast-kept c).After-keep_left-kept)

pub put_two-requires : goal.put_two-requires
put_two-requires c = omega (arith, c.block-2-1.given.1, (known (goal.at.put_two-requires c).After-keep_left-kept).2)

pub returns : goal.returns
returns c =
    let n = c.count-n in
    let z = c.zero_all in
    let start = c.record_place-start.ensures in
    let end = c.record_place-end.ensures in
    c.put_two.ensures
    ∙ rw (start, end) (left_encoded c.args.block.now (fits_bytes c.args.block.now c.slice_known-1.given) c.requires.0 c.args.weights.now n.result c.keep_left-kept.result c.keep_left-kept.new.block n.ensures c.keep_left-kept.ensures z.new.b (rw (start, end) at z.ensures))
