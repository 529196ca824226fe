-- `replay::replay` makes a list of calls and keeps every block. Assumes nothing.
use mathlib.Core.Path.{◌≡◌, sym, ◌∙◌}
use mathlib.Core.Bool.{true}
use native.Mathlib.Omega.{arith}
use borrow.Rule.Slice.PartMut.{post_of, same_len_mid}
use lib.ListN.{length}
use Rattle.block.specs.Layout.{block_size}
use Rattle.replay.specs.Replay.{is_call, is_sized, call_count, number_at, text_fits_at, all_texts, all_calls}
use Rattle.replay.specs.Turn.{Sized}
use Rattle.replay.proofs.Calling.{passes_at}
use Rattle.replay.proofs.Sizes.{sized}
use Rattle.register.specs.Answer.{answer_of}
use Rattle.replay.proofs.Turns.{opens, opened, through_none, through_on, replayed, made_length, made_outside, made_number, made_all}
use Rattle.replay.proofs.replay.Goals as goal
use Rattle.replay.proofs.replay.Goals.{Else-not-all_calls, Else-not-all_texts, Else-not-is_sized}

-- ── past the tests ──
fit : (c : Else-not-is_sized) → let a = c.args in is_sized (length a.calls.now) (length a.blocks.now) (length a.refusals.now) (length a.answers.now) ≡ true
fit c = sym c.is_sized.ensures ∙ c.if-not-is_sized.false

sizes : (c : Else-not-is_sized) → let a = c.args in Sized a.calls.now a.blocks.now a.refusals.now a.answers.now
sizes c =
    let a = c.args in
    sized a.calls.now a.blocks.now a.refusals.now a.answers.now (sym c.is_sized.ensures ∙ c.if-not-is_sized.false)

all_within : (c : Else-not-all_texts) → let a = c.args in all_texts a.calls.now a.texts.now ≡ true
all_within c = sym c.all_texts.ensures ∙ c.if-not-all_texts.false

all_known : (c : Else-not-all_calls) → all_calls c.args.calls.now ≡ true
all_known c = sym c.all_calls.ensures ∙ c.if-not-all_calls.false

-- ── the needs ──
pub returns-then-not-is_sized : goal.returns-then-not-is_sized
returns-then-not-is_sized c =
    let a = c.args in
    made_length a.calls.now a.texts.now a.blocks.now a.refusals.now a.answers.now (sym c.is_sized.ensures ∙ c.if-not-is_sized.true)

pub returns-then-not-all_texts : goal.returns-then-not-all_texts
returns-then-not-all_texts c =
    let a = c.args in
    made_outside a.calls.now a.texts.now a.blocks.now a.refusals.now a.answers.now (fit (goal.at.returns-then-not-all_texts c).Else-not-is_sized) (sym c.all_texts.ensures ∙ c.if-not-all_texts.true)

pub returns-then-not-all_calls : goal.returns-then-not-all_calls
returns-then-not-all_calls c =
    let a = c.args in
    made_number a.calls.now a.texts.now a.blocks.now a.refusals.now a.answers.now (fit (goal.at.returns-then-not-all_calls c).Else-not-is_sized) (all_within (goal.at.returns-then-not-all_calls c).Else-not-all_texts)
    (sym c.all_calls.ensures ∙ c.if-not-all_calls.true)

pub slice_bounds-open-end : goal.slice_bounds-open-end
slice_bounds-open-end c = omega (arith, (sizes (goal.at.slice_bounds-open-end c).Else-not-is_sized).blocks)

pub returns-in_err-open : goal.returns-in_err-open
returns-in_err-open c =
    let o = c.open in
    let z = sizes (goal.at.returns-in_err-open c).Else-not-is_sized in
    absurd (opens c.args.blocks.now o.new.block o.result (omega (arith, z.blocks)) o.ensures c.in_err-open.was)

pub loop-i-init : goal.loop-i-init
loop-i-init c =
    let o = c.open in
    let a = c.args in
    let z = sizes (goal.at.loop-i-init c).Else-not-is_sized in (
      record { blocks = same_len_mid 0 block_size a.blocks.now o.new.block o.auto.block ∙ z.blocks; refusals = z.refusals; answers = z.answers },
      through_none a.calls.now a.texts.now _ a.refusals.now a.answers.now
          (opened a.blocks.now o.new.block (post_of 0 block_size a.blocks.now) (answer_of o.result) (omega (arith, z.blocks)) o.auto.block o.ensures),
    )

pub turn-requires : goal.turn-requires
turn-requires c =
    let l = c.loop-i in
    let a = c.args in
    let n = call_count a.calls.now in
    record {
      place = omega arith;
      number = passes_at (λ k. is_call (number_at a.calls.now k)) n (all_known (goal.at.turn-requires c).Else-not-all_calls) l.i (omega arith);
      text = passes_at (text_fits_at a.calls.now a.texts.now) n (all_within (goal.at.turn-requires c).Else-not-all_texts) l.i (omega arith);
      sizes = l.invariant.0;
    }

pub loop-i-preserved : goal.loop-i-preserved
loop-i-preserved c =
    let a = c.args in
    let l = c.loop-i in
    let t = c.turn in (
      record { blocks = t.auto.blocks ∙ l.invariant.0.blocks; refusals = t.auto.refusals ∙ l.invariant.0.refusals; answers = t.auto.answers ∙ l.invariant.0.answers },
      through_on a.calls.now a.texts.now l.blocks l.refusals l.answers l.i l.invariant.1 _ _ _ t.ensures,
    )

pub shape_of-blocks : goal.shape_of-blocks
shape_of-blocks c = c.loop-i.invariant.0.blocks ∙ sym (sizes (goal.at.shape_of-blocks c).Else-not-is_sized).blocks

pub shape_of-refusals : goal.shape_of-refusals
shape_of-refusals c = c.loop-i.invariant.0.refusals ∙ sym (sizes (goal.at.shape_of-refusals c).Else-not-is_sized).refusals

pub shape_of-answers : goal.shape_of-answers
shape_of-answers c = c.loop-i.invariant.0.answers ∙ sym (sizes (goal.at.shape_of-answers c).Else-not-is_sized).answers

pub returns : goal.returns
returns c =
    let l = c.loop-i in
    let a = c.args in
    made_all a.calls.now a.texts.now a.blocks.now a.refusals.now a.answers.now (fit (goal.at.returns c).Else-not-is_sized) (all_within (goal.at.returns c).Else-not-all_texts) (all_known (goal.at.returns c).Else-not-all_calls) l.blocks l.refusals l.answers
    (replayed a.calls.now a.texts.now l.blocks l.refusals l.answers l.i (omega arith) l.invariant.1)
