-- The history theorem over the entry points: demand 3 follows from the relation that every entry point promises. Assumes nothing.
use mathlib.Core.Path.{◌≡◌, sym, ap, subst, ◌∙◌}
use mathlib.Core.Bool.{Bool, true, false, cond}
use mathlib.Core.List.{List}
use Prim.Native.Nat.{ℕ}
use native.Mathlib.Omega.{arith}
use borrow.Author.Tests.{eq-eqb}
use lib.Dec.{eqb}
use lib.ListN.{length}
use lib.IntN.{ℤ, pos}
use Rattle.rules.specs.Table.{TableRule}
use Rattle.rules.specs.Support.{Supported}
use Rattle.rules.specs.Cut.{changed}
use Rattle.rules.specs.Remainder.{Within}
use Rattle.rules.specs.Call.{Call, fresh, cut_call}
use Rattle.rules.proofs.Trace.{stays_each, stays, stays_from, places}
use Rattle.block.specs.Layout.{block_size}
use Rattle.block.specs.Bytes.{IsBytes}
use Rattle.block.specs.Block.{decode, encode}
use Rattle.steptable.specs.TableText.{given}
use Rattle.steptable.proofs.Right.{given_keeps}
use Rattle.regfile.specs.FileText.{file_text}
use Rattle.register.specs.CallOn.{Result, turned, open_on}
use Rattle.register.specs.Answer.{Answer}
use Rattle.register.specs.Cuts.{CutsLeft}
use Rattle.slips.specs.Slip.{Effect}
use Rattle.slips.specs.TakeBack.{take_back_on}
use Rattle.transfer.specs.RoundTrip.{reading}
use Rattle.demands.specs.History.{Asked, asks, reads, slips, takes_back, asked_on, bytes_left, GivenBelow, SlipBears}
use Rattle.demands.proofs.Keeping.{kept_read, kept_back}
use Rattle.demands.proofs.History.{leaves_right, bytes_left_lem, Sound, sound, fresh_sound, call_under, fresh_supported, written_before, place_taken, bears_own}
use Rattle.seatreg.specs.Answers.{answers_size, answer_bytes}
use Rattle.seatreg.specs.Entry.{Returned, EntryEffect, handed_out, wrong_answers, entry_of, entry_open, EntryOpened, EntryCutsRight}
use Rattle.seatreg.specs.Kept.{AllUnused}
use Rattle.seatreg.specs.History.{EntryAsked, lent_slip, entry_asked_on, BuffersRight, EntryLeavesRight, block_left, entry_block_at, EntryDemand3}
use Rattle.seatreg.proofs.Entry.{cut_left, returned_of, entry_accepted}

-- ── one call ──

-- what is right of a call's result is right of what its entry point returns
entry_cuts : (t : List ℤ) (b a : List ℕ) (c : Call) (r : Result) → CutsLeft t b c r → EntryCutsRight t b c (entry_of r b a)
entry_cuts t b a c r cut = go (eqb (length a) answers_size)
  where
    o : Answer
    o = record { refusal = r.refusal; first = r.first; second = r.second; third = r.third }

    go : (x : Bool) → EntryCutsRight t b c (cond x (handed_out r a) (wrong_answers b a))
    go true = λ k i z.
        let (right, lifts) = cut k i z in
        (cut_left t (changed (decode b) k) o r.refusal r.bytes (handed_out r a).answers z right (ap (λ (x : Bool). cond x (answer_bytes r.first r.second r.third) a) (eq-eqb r.refusal 0 z)), lifts)
    go false = λ k i z. absurd (omega arith)

-- an accepted call that answers 0, 0 and 0: L is what it leaves
entry_unused : (L : List ℕ → Type 0) (b a : List ℕ) (r : Result) → (r.refusal ≡ 0 → L r.bytes) → (r.refusal ≡ 0 → AllUnused r.first r.second r.third)
    → let o = entry_of r b a in o.refusal ≡ 0 → L o.block × (o.answers ≡ answer_bytes (pos 0) (pos 0) (pos 0))
entry_unused L b a r leaves unused = go (eqb (length a) answers_size)
  where
    go : (x : Bool) → let o = cond x (handed_out r a) (wrong_answers b a) in o.refusal ≡ 0 → L o.block × (o.answers ≡ answer_bytes (pos 0) (pos 0) (pos 0))
    go true = λ z. let (x, y, w) = unused z in
        (leaves z, ap (λ (x : Bool). cond x (answer_bytes r.first r.second r.third) a) (eq-eqb r.refusal 0 z) ∙ (λ j. answer_bytes (x j) (y j) (w j)))
    go false = λ z. absurd (omega arith)

buffers_right : (b a : List ℕ) → IsBytes b → (q : Asked) → BuffersRight b q (entry_of (asked_on b q).result b a)
buffers_right b a bytes (asks text c) = entry_cuts (given text).steps b a c (asked_on b (asks text c)).result (leaves_right b (asks text c) bytes)
buffers_right b a bytes (reads text table) =
    λ z. let ((e, s), w) = entry_unused (λ x. (file_text (decode x) ≡ text) × Supported (given table).steps (decode x)) b a (reading text table b) (leaves_right b (reads text table) bytes) (kept_read text table b).range z in (e, s, w)
buffers_right b a bytes (slips text y k s) = entry_cuts (given text).steps b a (cut_call y k) (asked_on b (slips text y k s)).result (leaves_right b (slips text y k s) bytes)
buffers_right b a bytes (takes_back text y s h) =
    entry_unused (λ x. Within (decode b) (decode x)) b a (take_back_on (given text) b y s) (leaves_right b (takes_back text y s h) bytes) (kept_back (given text) (given_keeps text) b y s h).range

-- the block is left as the call leaves it, or as it was: what every call keeps is kept
entry_keeps : (P : List ℕ → Type 0) (b : List ℕ) (e : EntryAsked) → P b → P (bytes_left (asked_on b e.asked)) → P (block_left (entry_asked_on b e))
entry_keeps P b e found left = go (eqb (length e.answers) answers_size)
  where
    o : Effect
    o = asked_on b e.asked

    go : (x : Bool) → let r : EntryEffect = cond x record { returned = handed_out o.result e.answers; slip = o.slip } record { returned = wrong_answers b e.answers; slip = lent_slip e.asked } in P r.returned.block
    go true = left
    go false = found

-- ── open ──
opened : (b a b' a' : List ℕ) → EntryOpened b a 0 b' a' → b' ≡ encode fresh
unfolding entry_open open_on
opened b a b' a' made = go (eqb (length a) answers_size) (eqb (length b) block_size) made
  where
    go : (x y : Bool)
        → (let r : Result = cond y record { refusal = 0; first = pos 0; second = pos 0; third = pos 0; bytes = encode fresh } (turned 1 b) in
        record { refusal = 0; block = b'; answers = a' } ≡ cond x (handed_out r a) (wrong_answers b a))
        → b' ≡ encode fresh
    go true true q = ap (λ (r : Returned). r.block) q
    go true false q = let e : ◌≡◌ {A = ℕ} 0 1 = ap (λ (r : Returned). r.refusal) q in absurd (omega arith)
    go false y q = let e : ◌≡◌ {A = ℕ} 0 1 = ap (λ (r : Returned). r.refusal) q in absurd (omega arith)

-- THE WHOLE LIST, over the entry points
pub entry_demand3 : EntryDemand3
entry_demand3 = record {
  opened = opened;
  places = places entry_asked_on block_left IsBytes keeps_bytes EntryLeavesRight
      (λ b e bytes. subst (BuffersRight b e.asked) (sym (returned_of (asked_on b e.asked) b e.answers (lent_slip e.asked))) (buffers_right b e.answers bytes e.asked)) (encode fresh) fresh_sound.0;
  formed = λ es i. (stays entry_asked_on block_left Sound (λ b e s. entry_keeps Sound b e s (sound b e.asked s)) (encode fresh) es i fresh_sound).1;
  supported = λ es i m rule u. (stays_each entry_asked_on block_left (λ b. IsBytes b × Supported m (decode b)) (λ e. GivenBelow e.asked m × SlipBears e.asked m) (step m rule) (encode fresh) es i u (fresh_sound.0, fresh_supported m)).1;
  supported_own = λ es n m rule own all.
      (stays_from entry_asked_on block_left (λ b. IsBytes b × Supported m (decode b)) (λ e. GivenBelow e.asked m × SlipBears e.asked m) (step m rule) (encode fresh) es n
      (λ j e l a before. (
        all e (place_taken es n j e l a),
        bears_own m e.asked (λ text y t h q.
            let w = own j l e a text y t h q in
            let b = entry_block_at es w.place in
            let o = asked_on b w.call.asked in
            let (z, _, v) = entry_accepted o b w.call.answers (lent_slip w.call.asked) w.accepted in
            let (z', v') = subst (λ (c : Asked). ((asked_on b c).result.refusal ≡ 0) × (t ≡ (asked_on b c).slip)) w.slips (z, w.same ∙ v) in
            subst (λ (x : List ℕ). Supported m (decode x)) (sym (written_before w.text w.by w.cut w.buffer b t z' v')) (before w.place (omega (arith, w.earlier))).1),
      ))
      (fresh_sound.0, fresh_supported m) n (omega arith)).1;
}
  where
    step : (m : List ℤ) → TableRule m → (b : List ℕ) (e : EntryAsked) → GivenBelow e.asked m × SlipBears e.asked m → IsBytes b × Supported m (decode b)
        → IsBytes (block_left (entry_asked_on b e)) × Supported m (decode (block_left (entry_asked_on b e)))
    step m rule b e u p =
        (entry_keeps IsBytes b e p.0 (bytes_left_lem b e.asked p.0), entry_keeps (λ x. Supported m (decode x)) b e p.1 (call_under m rule b e.asked u.0 u.1 p.0 p.1))

    keeps_bytes : (b : List ℕ) (e : EntryAsked) → IsBytes b → IsBytes (block_left (entry_asked_on b e))
    keeps_bytes b e bytes = entry_keeps IsBytes b e bytes (bytes_left_lem b e.asked bytes)
