-- `replay::all_texts` tests where every text lies. Assumes nothing.
use mathlib.Core.Path.{◌≡◌, sym, ◌∙◌}
use Prim.Native.Nat.{ℕ, ◌-◌}
use native.Mathlib.Omega.{arith}
use borrow.Author.Tests.{le-leb, lt-leb}
use lib.ListN.{length}
use Rattle.block.proofs.Loops.{all_end, all_stop, all_on}
use Rattle.replay.specs.Replay.{call_count, text_fits_at}
use Rattle.replay.proofs.all_texts.Goals as goal

pub loop-i-init : goal.loop-i-init
loop-i-init c =
    let n : ℕ = call_count c.args.calls.now in
    let z : n - 0 ≡ n = omega arith in
    rw z

pub returns-then-place-texts : goal.returns-then-place-texts
returns-then-place-texts c =
    let a = c.args in
    let l = c.loop-i in
    let p = c.text_place-place in
    all_stop (text_fits_at a.calls.now a.texts.now) l.i (call_count a.calls.now) l.invariant (omega arith)
    (sym (p.ensures.fits (length a.texts.now)) ∙ lt-leb p.result.end (length a.texts.now) c.if-place-texts.true)

pub loop-i-preserved : goal.loop-i-preserved
loop-i-preserved c =
    let a = c.args in
    let l = c.loop-i in
    let p = c.text_place-place in
    all_on (text_fits_at a.calls.now a.texts.now) l.i (call_count a.calls.now) l.invariant (omega arith)
    (sym (p.ensures.fits (length a.texts.now)) ∙ le-leb p.result.end (length a.texts.now) c.if-place-texts.false)

pub returns : goal.returns
returns c =
    let a = c.args in
    let l = c.loop-i in
    all_end (text_fits_at a.calls.now a.texts.now) l.i (call_count a.calls.now) l.invariant (omega arith)
