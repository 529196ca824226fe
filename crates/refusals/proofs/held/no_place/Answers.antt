-- `refusals::no_place` makes the tests of 11 and 12. Assumes nothing.
use native.Mathlib.Omega.{arith}
use Rattle.rules.specs.Register.{granted}
use Rattle.block.proofs.Bytes.{fits_bytes}
use Rattle.block.proofs.Held.{size_held, count_most, has_head, has_records}
use Rattle.refusals.proofs.Holding.{place_missing, place_found}
use Rattle.refusals.proofs.held.no_place.Goals as goal

pub count-count-requires : goal.count-count-requires
count-count-requires c = has_head c.args.block.now (fits_bytes c.args.block.now c.shared_slice_known-1.given) c.requires.formed

pub overflow_cast-giver : goal.overflow_cast-giver
overflow_cast-giver c = omega (arith, c.requires.numbers.0.0)

pub overflow_cast-receiver : goal.overflow_cast-receiver
overflow_cast-receiver c = omega (arith, c.requires.numbers.0.1.0)

pub find-k-requires : goal.find-k-requires
find-k-requires c = rw c.count-count.ensures (has_records c.args.block.now (fits_bytes c.args.block.now c.shared_slice_known-1.given) c.requires.formed)

pub returns-then-k-count : goal.returns-then-k-count
returns-then-k-count c =
    rw (c.tested.ensures, c.count-count.ensures)
    (place_missing c.args.block.now (fits_bytes c.args.block.now c.shared_slice_known-1.given) c.requires.formed (let a = c.args in granted a.giver a.receiver a.weight a.need a.bar a.kind) c.find-k.result (rw (← c.count-count.ensures) c.find-k.ensures) (rw (← c.count-count.ensures) c.if-k-count.true))

pub is_raise-requires : goal.is_raise-requires
is_raise-requires c =
    let b = c.args.block.now in
    omega (arith, size_held b (fits_bytes c.args.block.now c.shared_slice_known-1.given) c.requires.formed, count_most b (fits_bytes c.args.block.now c.shared_slice_known-1.given) c.requires.formed, c.count-count.ensures, c.if-k-count.false)

pub returns : goal.returns
returns c =
    rw (c.tested-2.ensures, c.is_raise.ensures)
    (place_found c.args.block.now (fits_bytes c.args.block.now c.shared_slice_known-1.given) c.requires.formed (let a = c.args in granted a.giver a.receiver a.weight a.need a.bar a.kind) c.find-k.result (rw (← c.count-count.ensures) c.find-k.ensures) (rw (← c.count-count.ensures) c.if-k-count.false))
