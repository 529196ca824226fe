-- `change::keep_at` writes a record at its new place and weight. Assumes nothing.
use mathlib.Core.Path.{refl}
use native.Mathlib.Omega.{arith}
use mir.Syntax.{w8}
use mir.Val.{Fits}
use lib.Dec.{T}
use lib.IntN.{nat_abs}
use lib.Signed.{non_neg}
use Rattle.rules.proofs.Signed.{kept}
use Rattle.block.specs.Records.{delegation_at}
use Rattle.change.specs.Record.{delegation_of}
use Rattle.block.proofs.Bytes.{fits_bytes}
use Rattle.change.proofs.Writing.{none_written, weight_fits, weight_written, one_written}
use Rattle.change.proofs.left.keep_at.Goals as goal
use Rattle.change.proofs.left.keep_at.Goals.{After-record_place-at}

-- the weight where it is not -1
weight_known : (c : After-record_place-at) → T (non_neg (kept c.args.weight)) × Fits w8 (nat_abs (kept c.args.weight))
weight_known c =
    weight_fits c.args.weight c.ranges.weight c.if-weight-lt0.false c.requires.most

pub returns-then-weight-lt0 : goal.returns-then-weight-lt0
returns-then-weight-lt0 c =
    none_written c.args.weight c.ranges.weight c.if-weight-lt0.true c.args.block.now _ (delegation_at c.args.block.now c.args.from)

pub overflow_cast-block : goal.overflow_cast-block
overflow_cast-block c = weight_known (goal.at.overflow_cast-block c).After-record_place-at

pub overflow_add-block : goal.overflow_add-block
overflow_add-block c = omega (arith, c.record_place-at.ensures)

pub bounds-block-at : goal.bounds-block-at
bounds-block-at c = omega (arith, c.record_place-at.ensures)

pub returns-then-from-to : goal.returns-then-from-to
returns-then-from-to c =
    let b = c.args.block.now in
    rw (← c.if-from-to.true) (weight_written c.args.weight c.ranges.weight c.if-weight-lt0.false c.requires.most b _ (fits_bytes b c.slice_known-1.given) _ c.args.from (rw c.if-from-to.true c.record_place-at.ensures) refl)

pub overflow_cast-delegation : goal.overflow_cast-delegation
overflow_cast-delegation c = weight_known (goal.at.overflow_cast-delegation c).After-record_place-at

pub returns : goal.returns
returns c =
    one_written c.args.weight c.ranges.weight c.if-weight-lt0.false c.requires.most c.args.block.now _ _ (delegation_of c.at.result) (delegation_at c.args.block.now c.args.from)
    c.at.ensures (rw c.record_place-at.ensures at c.put_record.ensures)
