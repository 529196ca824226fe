-- `callfile::run` prints what its text prints. Assumes nothing.
use mathlib.Core.Path.{refl, ap, subst}
use mathlib.Core.Logic.{inl, inr}
use mathlib.Core.List.{List}
use Prim.Native.Nat.{ℕ}
use native.Mathlib.Omega.{arith}
use lib.ListN.{length, length-append}
use Rattle.std.specs.Prelude.{None, Some}
use Rattle.std.proofs.lemmas.Bool.Decides.{Decides-eqb}
use Rattle.std.proofs.lemmas.Slice.Eq.{strip_prefix_is}
use Rattle.callfile.specs.CallFile.{call_names, answer_names}
use Rattle.callfile.specs.Row.{Finished}
use Rattle.register.specs.Answer.{answer_of}
use Rattle.register.proofs.Errors.{open_passes}
use Rattle.callfile.proofs.Whole.{run_short, run_unnamed, run_named, names_length, mid_length, opened}
use Rattle.callfile.proofs.run.Goals as goal

pub returns-then-out-lt-OUT_SIZE : goal.returns-then-out-lt-OUT_SIZE
returns-then-out-lt-OUT_SIZE c =
    run_short c.args.text.now c.args.out.now c.if-out-lt-OUT_SIZE.true

pub returns-then-text-gt-MOST_TEXT : goal.returns-then-text-gt-MOST_TEXT
unfolding answer_names
returns-then-text-gt-MOST_TEXT c =
    let w = c.write_bytes-start in
    let v = c.write_malformed in
    run_unnamed c.args.text.now c.args.out.now c.if-out-lt-OUT_SIZE.false w.result w.new.buf w.ensures (inl c.if-text-gt-MOST_TEXT.true) v.result v.new.out v.ensures _ refl

pub returns-in_default : goal.returns-in_default
unfolding answer_names call_names
returns-in_default c =
    let w = c.write_bytes-start in
    let v = c.write_malformed-in_default in
    run_unnamed c.args.text.now c.args.out.now c.if-out-lt-OUT_SIZE.false w.result w.new.buf w.ensures (inr (strip_prefix_is Decides-eqb c.args.text.now call_names None c.in_default.ensures.cases)) v.result v.new.out v.ensures _ refl

pub returns-in_err-open : goal.returns-in_err-open
returns-in_err-open c =
    let o = c.open in
    absurd (open_passes _ o.new.block o.result refl o.ensures c.in_err-open.was)

pub run_calls-requires : goal.run_calls-requires
unfolding answer_names call_names
run_calls-requires c =
    let w = c.write_bytes-start in
    let m = mid_length c.args.text.now c.args.out.now c.if-out-lt-OUT_SIZE.false w.result w.new.buf w.ensures in
    let d = strip_prefix_is Decides-eqb c.args.text.now call_names (Some c.in-Some.lines) c.in-Some.ensures.cases in
    (omega (arith, ap length d, length-append call_names c.in-Some.lines.now, names_length, c.if-text-gt-MOST_TEXT.false), omega (arith, m.0), omega (arith, m.1, c.if-out-lt-OUT_SIZE.false))

pub returns : goal.returns
unfolding answer_names call_names
returns c =
    let w = c.write_bytes-start in
    let o = c.open in
    let f = c.run_calls in
    let s = c.in-Some.lines.now in
    let d = strip_prefix_is Decides-eqb c.args.text.now call_names (Some c.in-Some.lines) c.in-Some.ensures.cases in
    run_named c.args.text.now c.args.out.now c.if-out-lt-OUT_SIZE.false w.result w.new.buf w.ensures c.if-text-gt-MOST_TEXT.false s d f.result f.new.out
    (subst (λ (x : List ℕ). Finished s x w.new.buf w.result f.result f.new.out) (opened _ (answer_of o.result) o.new.block refl o.ensures) f.ensures) _ refl
