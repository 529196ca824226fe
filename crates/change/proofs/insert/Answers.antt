-- `change::insert` adds the delegation at its place. Assumes nothing.
use mathlib.Core.Bool.{not}
use native.Mathlib.Omega.{arith}
use Rattle.rules.specs.Register.{granted}
use Rattle.rules.specs.CallStep.{before}
use Rattle.change.specs.Record.{delegation_of}
use Rattle.block.proofs.Bytes.{fits_bytes}
use Rattle.block.proofs.Held.{has_head}
use Rattle.change.proofs.Changing.{Among, among, insert_held}
use Rattle.change.proofs.insert.Goals as goal
use Rattle.change.proofs.insert.Goals.{After-count-n}

-- the place among the records that stand
known : (c : After-count-n) → Among c.args.b.now c.count-n.result c.args.at
known c =
    among c.args.b.now (fits_bytes c.args.b.now c.slice_known-1.given) c.requires.0 (λ d. not (before (granted c.args.delegation.giver c.args.delegation.receiver 0 0 0 0) d)) c.count-n.result c.args.at c.count-n.ensures (rw c.count-n.ensures c.requires.2)

pub count-n-requires : goal.count-n-requires
count-n-requires c = has_head c.args.b.now (fits_bytes c.args.b.now c.slice_known-1.given) c.requires.0

pub record_place-start-requires : goal.record_place-start-requires
record_place-start-requires c = let p = known c in omega arith

pub shift_up-requires : goal.shift_up-requires
shift_up-requires c = let p = known (goal.at.shift_up-requires c).After-count-n in omega (arith, c.record_place.ensures, c.record_place-start.ensures)

pub put_record-requires : goal.put_record-requires
put_record-requires c = let p = known (goal.at.put_record-requires c).After-count-n in omega (arith, c.record_place-start.ensures, c.shift_up.auto.b)

pub put_two-requires : goal.put_two-requires
put_two-requires c = let p = known (goal.at.put_two-requires c).After-count-n in omega (arith, c.put_record.auto.b, c.shift_up.auto.b)

pub returns : goal.returns
returns c =
    let n = c.count-n in
    let a = c.args in
    rw (c.put_two.ensures, c.put_record.ensures, c.shift_up.ensures, c.record_place.ensures, c.record_place-start.ensures)
    (insert_held a.b.now (fits_bytes c.args.b.now c.slice_known-1.given) c.requires.0 n.result n.ensures (delegation_of a.delegation) a.at (rw n.ensures c.requires.1) (rw n.ensures c.requires.2))
