-- `replay::call_at` makes the call whose numbers begin at a place, with its text. Assumes nothing.
use mathlib.Core.Path.{sym, subst}
use lib.Dec.{T, leb→le}
use lib.ListN.{length, drop}
use Rattle.register.specs.Answer.{answer_of}
use Rattle.replay.proofs.Calling.{call_at}
use Rattle.replay.proofs.Texts.{made_lent}
use Rattle.replay.proofs.call_at.Goals as goal

pub slice_bounds-call-end : goal.slice_bounds-call-end
slice_bounds-call-end c =
    let n = length c.args.texts.now in
    let p = c.text_place-place in
    leb→le p.result.end n (subst T (sym (p.ensures.fits n)) c.requires.2)

pub returns : goal.returns
returns c =
    let a = c.args in
    let p = c.text_place-place in
    let r = c.call in
    made_lent (drop a.at a.calls.now) a.texts.now p.result p.ensures _ (call_at a.calls.now a.at) a.block.now (answer_of r.result) r.new.block (r.ensures.made c.requires.1)
