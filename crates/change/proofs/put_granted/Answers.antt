-- `change::put_granted` puts the delegation granted. Assumes nothing.
use mathlib.Core.Path.{sym, ap, ◌∙◌}
use Rattle.rules.specs.Register.{granted}
use Rattle.rules.proofs.Granting.{after_raise, after_insert}
use Rattle.block.specs.Block.{decode, encode}
use Rattle.block.proofs.Bytes.{fits_bytes}
use Rattle.block.proofs.Held.{has_head, has_records}
use Rattle.change.proofs.put_granted.Goals as goal

pub count-n-requires : goal.count-n-requires
count-n-requires c = has_head c.args.b.now (fits_bytes c.args.b.now c.slice_known-1.given) c.requires.0

pub place-at-requires : goal.place-at-requires
place-at-requires c = rw c.count-n.ensures (has_records c.args.b.now (fits_bytes c.args.b.now c.slice_known-1.given) c.requires.0)

pub stands_before-requires : goal.stands_before-requires
stands_before-requires c = (c.requires.0, rw (← c.count-n.ensures) c.place-at.ensures)

pub set_weight-requires : goal.set_weight-requires
set_weight-requires c = (c.requires.0, sym c.stands_before.ensures ∙ c.if-stands_before.true)

pub returns-then-stands_before : goal.returns-then-stands_before
returns-then-stands_before c =
    let a = c.args in
    rw c.set_weight.ensures (ap encode (sym (after_raise (decode a.b.now) (granted a.giver a.receiver a.weight a.need a.bar a.kind) (sym c.stands_before.ensures ∙ c.if-stands_before.true))))

pub insert-requires : goal.insert-requires
insert-requires c =
    (c.requires.0, c.requires.1 (sym c.stands_before.ensures ∙ c.if-stands_before.false), rw (← c.count-n.ensures) c.place-at.ensures)

pub returns : goal.returns
returns c =
    let a = c.args in
    rw c.insert.ensures (ap encode (sym (after_insert (decode a.b.now) (granted a.giver a.receiver a.weight a.need a.bar a.kind) (sym c.stands_before.ensures ∙ c.if-stands_before.false))))
