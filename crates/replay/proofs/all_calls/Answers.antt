-- `replay::all_calls` tests every call number. Assumes nothing.
use mathlib.Core.Path.{◌≡◌, sym, ◌∙◌}
use mathlib.Core.Bool.{Bool}
use mathlib.Core.List.{List}
use Prim.Native.Nat.{ℕ, ◌-◌}
use native.Mathlib.Omega.{arith}
use Rattle.block.proofs.Loops.{all_end, all_stop, all_on}
use Rattle.replay.specs.Replay.{is_call, call_count, number_at}
use Rattle.replay.proofs.all_calls.Goals as goal

abbrev test : List ℕ → ℕ → Bool
test calls i = is_call (number_at calls i)

pub loop-i-init : goal.loop-i-init
loop-i-init c =
    let n : ℕ = call_count c.args.calls.now in
    let z : n - 0 ≡ n = omega arith in
    rw z

pub returns-then-not-is_call : goal.returns-then-not-is_call
returns-then-not-is_call c =
    let s = c.args.calls.now in
    let l = c.loop-i in
    all_stop (test s) l.i (call_count s) l.invariant (omega arith) (sym c.is_call.ensures ∙ c.if-not-is_call.true)

pub loop-i-preserved : goal.loop-i-preserved
loop-i-preserved c =
    let s = c.args.calls.now in
    let l = c.loop-i in
    all_on (test s) l.i (call_count s) l.invariant (omega arith) (sym c.is_call.ensures ∙ c.if-not-is_call.false)

pub returns : goal.returns
returns c =
    let s = c.args.calls.now in
    let l = c.loop-i in
    all_end (test s) l.i (call_count s) l.invariant (omega arith)
