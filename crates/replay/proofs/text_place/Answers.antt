-- `replay::text_place` finds where the text of a call lies. Assumes nothing.
use Rattle.replay.proofs.Texts.{placed_none, placed}
use Rattle.replay.proofs.text_place.Goals as goal

pub returns-then-not-reckons : goal.returns-then-not-reckons
returns-then-not-reckons c =
    let a = c.args in
    let r = c.reckons in
    placed_none a.calls.now a.at r.result r.ensures c.if-not-reckons.true

pub returns : goal.returns
returns c =
    let a = c.args in
    let r = c.reckons in
    let begin = c.size_at-begin in
    let size = c.size_at in
    placed a.calls.now a.at r.result r.ensures c.if-not-reckons.false begin.result size.result begin.ensures.0 size.ensures.0
