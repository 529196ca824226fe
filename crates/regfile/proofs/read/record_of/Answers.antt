-- `regfile::record_of` takes each number that has room. Assumes nothing.
use Rattle.std.proofs.Common.{arith}
use Rattle.rules.specs.Register.{granted}
use Rattle.regfile.proofs.Storing.{column_tried}
use Rattle.regfile.proofs.read.record_of.Goals as goal

pub returns : goal.returns
returns c =
    let row = c.args.row.now in
    let g = column_tried row c.requires.1 0 (omega (arith, c.requires.0)) 8 c.try_from.result c.in_ok-giver.giver c.try_from.ensures c.in_ok-giver.ensures.value in
    let r = column_tried row c.requires.1 1 (omega (arith, c.requires.0)) 8 c.try_from-2.result c.in_ok-receiver.receiver c.try_from-2.ensures c.in_ok-receiver.ensures.value in
    let w = column_tried row c.requires.1 2 (omega (arith, c.requires.0)) 8 c.try_from-3.result c.in_ok-weight.weight c.try_from-3.ensures c.in_ok-weight.ensures.value in
    let n = column_tried row c.requires.1 3 (omega (arith, c.requires.0)) 16 c.try_from-4.result c.in_ok-need.need c.try_from-4.ensures c.in_ok-need.ensures.value in
    let b = column_tried row c.requires.1 4 (omega (arith, c.requires.0)) 16 c.try_from-5.result c.in_ok-bar.bar c.try_from-5.ensures c.in_ok-bar.ensures.value in
    let k = column_tried row c.requires.1 5 (omega (arith, c.requires.0)) 8 c.try_from-6.result c.in_ok-kind.kind c.try_from-6.ensures c.in_ok-kind.ensures.value in (
      record { giver = omega (arith, g.0); receiver = omega (arith, r.0); weight = omega (arith, w.0); need = omega (arith, n.0); bar = omega (arith, b.0); kind = omega (arith, k.0) },
      λ i. granted (g.1 i) (r.1 i) (w.1 i) (n.1 i) (b.1 i) (k.1 i),
    )
