-- `change::append` adds the delegation after all others. Assumes nothing.
use native.Mathlib.Omega.{arith}
use Rattle.rules.specs.Register.{granted}
use Rattle.block.proofs.Fitting.{fitting_size}
use Rattle.change.proofs.Changing.{append_fitting}
use Rattle.change.proofs.append.Goals as goal

pub count-n-requires : goal.count-n-requires
count-n-requires c = omega (arith, fitting_size c.args.b.now c.requires.0)

pub put_record-requires : goal.put_record-requires
put_record-requires c = omega (arith, fitting_size c.args.b.now c.requires.0, c.requires.1, c.count-n.ensures, c.record_place.ensures)

pub put_two-requires : goal.put_two-requires
put_two-requires c = omega (arith, fitting_size c.args.b.now c.requires.0, c.put_record.auto.b)

pub returns : goal.returns
returns c =
    let n = c.count-n in
    let a = c.args in
    rw (c.put_two.ensures, c.put_record.ensures, c.record_place.ensures)
    (append_fitting a.b.now c.requires.0 (granted a.giver a.receiver a.weight a.need a.bar a.kind) n.result n.ensures (rw n.ensures c.requires.1))
