-- `replay::is_sized` compares the lengths. Assumes nothing.
use mathlib.Core.Path.{◌≡◌}
use Prim.Native.Nat.{suc, ◌*◌, ◌/◌}
use native.Mathlib.Omega.{arith}
use Rattle.block.specs.Layout.{block_size}
use Rattle.replay.specs.Replay.{numbers_per_call}
use Rattle.replay.proofs.Sizes.{calls_wrong, blocks_wrong, refusals_wrong, answers_wrong, answers_compared}
use Rattle.replay.proofs.is_sized.Goals as goal

pub returns-then-calls-ne0 : goal.returns-then-calls-ne0
returns-then-calls-ne0 c = let a = c.args in calls_wrong a.calls a.blocks a.refusals a.answers c.if-calls-ne0.true

pub returns-then-blocks-ne0 : goal.returns-then-blocks-ne0
returns-then-blocks-ne0 c = let a = c.args in blocks_wrong a.calls a.blocks a.refusals a.answers c.if-calls-ne0.false (λ e. c.if-blocks-ne0.true (omega arith))

pub returns-then-blocks-calls : goal.returns-then-blocks-calls
returns-then-blocks-calls c = let a = c.args in blocks_wrong a.calls a.blocks a.refusals a.answers c.if-calls-ne0.false (λ e. c.if-blocks-calls.true (omega arith))

pub returns-then-refusals-calls : goal.returns-then-refusals-calls
returns-then-refusals-calls c =
    let a = c.args in
    let b : a.blocks ≡ block_size * suc (a.calls / numbers_per_call) = omega arith in
    refusals_wrong a.calls a.blocks a.refusals a.answers c.if-calls-ne0.false b c.if-refusals-calls.true

pub returns-then-answers-ne0 : goal.returns-then-answers-ne0
returns-then-answers-ne0 c =
    let a = c.args in
    let b : a.blocks ≡ block_size * suc (a.calls / numbers_per_call) = omega arith in
    answers_wrong a.calls a.blocks a.refusals a.answers c.if-calls-ne0.false b c.if-refusals-calls.false c.if-answers-ne0.true

pub returns : goal.returns
returns c =
    let a = c.args in
    let b : a.blocks ≡ block_size * suc (a.calls / numbers_per_call) = omega arith in
    answers_compared a.calls a.blocks a.refusals a.answers c.if-calls-ne0.false b c.if-refusals-calls.false c.if-answers-ne0.false
