-- Demand 1 for the entry points follows from that of the calls on bytes. Assumes nothing.
use mathlib.Core.Path.{◌≡◌, refl, sym, ap, subst, ◌∙◌}
use mathlib.Core.Logic.{◌≢◌, ◌⊎◌, inl, inr}
use mathlib.Core.Bool.{Bool, true, false, cond}
use mathlib.Core.List.{List}
use Prim.Native.Nat.{ℕ, zero, suc, ◌≤◌, ◌<◌}
use native.Mathlib.Omega.{arith}
use borrow.Author.Tests.{eq-eqb}
use lib.Dec.{T, eqb, eqb→eq}
use lib.ListN.{length, drop, length-append, length-drop}
use lib.Seq.{drop_at}
use lib.IntN.{ℤ, pos, negsuc}
use Rattle.rules.specs.Limit.{code, ◌≼◌, from_none}
use Rattle.rules.specs.Table.{TableRule}
use Rattle.rules.specs.Cut.{Cut}
use Rattle.rules.specs.Call.{Call, enrol, grant, revoke, downgrade, ask_reach, ask_use, set_marks, retire, fresh, cut_call}
use Rattle.rules.specs.Ranges.{FromTo, Unused, CutInRange, InRange}
use Rattle.rules.proofs.Table.{steps_rule}
use Rattle.rules.proofs.Calls.{fresh_formed}
use Rattle.rules.proofs.Lists.{eq_or}
use Rattle.rules.proofs.Order.{order_some, order_few, order_length}
use Rattle.block.specs.Layout.{block_size}
use Rattle.block.specs.Bytes.{IsBytes}
use Rattle.block.specs.Block.{decode, encode}
use Rattle.block.specs.WellFormed.{well_formed}
use Rattle.block.proofs.Encode.{bytes_encode}
use Rattle.block.proofs.Held.{held_formed}
use Rattle.steptable.specs.TableText.{ours, given}
use Rattle.steptable.specs.TableText.{Given}
use Rattle.steptable.proofs.Right.{given_keeps}
use Rattle.regfile.specs.FileText.{file_text}
use Rattle.regfile.proofs.Sizes.{file_some, file_short}
use Rattle.register.specs.CallOn.{Result, turned, call_on, open_on}
use Rattle.register.specs.Bring.{bring_on}
use Rattle.slips.specs.Slip.{Effect, slipped_on}
use Rattle.slips.specs.TakeBack.{take_back_on}
use Rattle.transfer.specs.FileOn.{write_refusal}
use Rattle.transfer.specs.RoundTrip.{reading}
use Rattle.transfer.proofs.Writing.{write_through}
use Rattle.order.specs.Items.{order_size}
use Rattle.order.specs.OrderOn.{order_refusal_on, IsOrderBytes}
use Rattle.order.proofs.OrderWays.{order_through}
use Rattle.demands.specs.History.{reads}
use Rattle.demands.specs.Kept.{KeptSlip, most_written}
use Rattle.demands.proofs.Keeping.{kept, kept_open, kept_bring, kept_slip, kept_back, kept_read}
use Rattle.demands.proofs.History.{bytes_left_lem}
use Rattle.seatreg.specs.Answers.{answers_size, answer_bytes, answer_in}
use Rattle.seatreg.specs.Entry.{EntryEffect, handed_out, wrong_answers, entry_of, entry_on, entry_open, EntryFilled, EntryWriteMade, EntryOrderMade}
use Rattle.seatreg.specs.Kept.{BuffersKept, AllUnused, EntryKept, EntryKeptOpen, EntryKeptBring, EntryKeptBack, EntryKeptSlip, EntryKeptRead, EntryKeptFilled, EntryKeptWrite, EntryKeptOrder}
use Rattle.seatreg.proofs.Entry.{returned_of, entry_accepted}
use Rattle.seatreg.proofs.AnswerBytes.{Fits32, length_answers, bytes_answers, first_back, second_back, third_back}

-- ── answers in range have 32 bits ──
module _ {a : ℤ} where
  range_fits : {low high : ℕ} → high ≤ 512 → FromTo low high a → Fits32 a
  range_fits m (n, e, l, h) = rw e (omega arith)

  unused_fits : Unused a → Fits32 a
  unused_fits e = rw e (omega arith)

reach_fits : (a : ℤ) → T (from_none a) → a ≼ pos 255 → Fits32 a
unfolding from_none
reach_fits (pos n) f h = omega arith
reach_fits (negsuc zero) f h = omega arith
reach_fits (negsuc (suc n)) f h = absurd f

abbrev AllFit32 : ℤ → ℤ → ℤ → Type 0
AllFit32 a b c = Fits32 a × Fits32 b × Fits32 c

unused_fit : (a b c : ℤ) → AllUnused a b c → AllFit32 a b c
unused_fit a b c (x, y, z) = (unused_fits x, unused_fits y, unused_fits z)

cut_fits : (most : ℕ) → most ≤ 512 → (a b c : ℤ) → CutInRange most a b c → AllFit32 a b c
cut_fits most few a b c ((m, n, x, y, h), r) = (rw x (omega arith), rw y (omega arith), range_fits (omega arith) r)

all_fit : (d : Call) (a b c : ℤ) → InRange d a b c → AllFit32 a b c
all_fit (enrol m) a b c (r, y, z) = (range_fits (omega arith) r, unused_fits y, unused_fits z)
all_fit (grant d) a b c (k, y, z) = (range_fits (omega arith) k, unused_fits y, unused_fits z)
all_fit (revoke y g r) a b c h = cut_fits 511 (omega arith) a b c h
all_fit (downgrade y g r w) a b c h = cut_fits 511 (omega arith) a b c h
all_fit (ask_reach g r) a b c (f, h, y, z) = (reach_fits a f h, unused_fits y, unused_fits z)
all_fit (ask_use r) a b c (k, y, z) = (range_fits (omega arith) k, unused_fits y, unused_fits z)
all_fit (set_marks y s m) a b c h = cut_fits 512 (omega arith) a b c h
all_fit (retire y s) a b c h = cut_fits 512 (omega arith) a b c h

-- ── what is handed out, of a library call's result r that is kept ──
apart : (n : ℕ) → eqb n 0 ≡ false → n ≢ 0
apart n q e = subst T (sym (eq-eqb n 0 e) ∙ q) tt

record ResultKept (Range : ℤ → ℤ → ℤ → Type 0) (b : List ℕ) (r : Result) : Type 0 where
  refused : r.refusal ≢ 0 → r.bytes ≡ b
  formed : r.refusal ≡ 0 → well_formed r.bytes ≡ true
  range : r.refusal ≡ 0 → Range r.first r.second r.third
  fits : r.refusal ≡ 0 → AllFit32 r.first r.second r.third
  bytes : IsBytes r.bytes

module _ (Range : ℤ → ℤ → ℤ → Type 0) (b a : List ℕ) (found : IsBytes b) (lent : IsBytes a) (r : Result) (k : ResultKept Range b r) where
  short_kept : BuffersKept Range b a (wrong_answers b a)
  short_kept = record {
    refused = λ n. (refl, refl);
    formed = λ z. absurd (omega arith);
    size = λ z. absurd (omega arith);
    answers = λ z. absurd (omega arith);
    range = λ z. absurd (omega arith);
    bytes = (found, lent);
  }

  refused_kept : r.refusal ≢ 0 → BuffersKept Range b a record { refusal = r.refusal; block = r.bytes; answers = a }
  refused_kept n = record {
    refused = λ _. (k.refused n, refl);
    formed = λ z. absurd (n z);
    size = λ z. absurd (n z);
    answers = λ z. absurd (n z);
    range = λ z. absurd (n z);
    bytes = (k.bytes, lent);
  }

  accepted_kept : r.refusal ≡ 0 → BuffersKept Range b a record { refusal = r.refusal; block = r.bytes; answers = answer_bytes r.first r.second r.third }
  accepted_kept e =
      let x = r.first in
      let y = r.second in
      let z = r.third in
      let s = k.fits e in
      let p : answer_in (answer_bytes x y z) 0 ≡ x = first_back x y z s.0 in
      let q : answer_in (answer_bytes x y z) 1 ≡ y = second_back x y z s.1 in
      let w : answer_in (answer_bytes x y z) 2 ≡ z = third_back x y z s.2 in
      record {
        refused = λ n. absurd (n e);
        formed = k.formed;
        size = λ _. length_answers x y z;
        answers = λ _. sym (λ i. answer_bytes (p i) (q i) (w i));
        range = λ _.
            subst (λ (v : ℤ). Range v (answer_in (answer_bytes x y z) 1) (answer_in (answer_bytes x y z) 2)) (sym p)
            (subst (λ (v : ℤ). Range x v (answer_in (answer_bytes x y z) 2)) (sym q) (subst (λ (v : ℤ). Range x y v) (sym w) (k.range e)));
        bytes = (k.bytes, bytes_answers x y z);
      }

  kept_of : BuffersKept Range b a (entry_of r b a)
  kept_of = go (eqb (length a) 12) (eqb r.refusal 0) refl
    where
      go : (x y : Bool) → eqb r.refusal 0 ≡ y
          → BuffersKept Range b a (cond x record { refusal = r.refusal; block = r.bytes; answers = cond y (answer_bytes r.first r.second r.third) a } (wrong_answers b a))
      go false y q = short_kept
      go true true q = accepted_kept (eqb→eq r.refusal 0 (subst T (sym q) tt))
      go true false q = refused_kept (apart r.refusal q)

-- ── the calls of a list, and open ──
pub entry_kept : (g : Given) → TableRule g.steps → (c : Call) (b a : List ℕ) → IsBytes b → IsBytes a → EntryKept g c b a
unfolding entry_on
entry_kept g rule c b a found lent =
    let k = kept g b c rule found in
    kept_of (InRange c) b a found lent (call_on g b c) record {
      refused = k.refused;
      formed = k.formed;
      range = k.range;
      fits = λ e. all_fit c (call_on g b c).first (call_on g b c).second (call_on g b c).third (k.range e);
      bytes = k.bytes;
    }

open_bytes : (b : List ℕ) → IsBytes b → IsBytes (open_on b).bytes
unfolding open_on
open_bytes b found = go (eqb (length b) block_size)
  where
    go : (x : Bool) → IsBytes (cond x record { refusal = 0; first = pos 0; second = pos 0; third = pos 0; bytes = encode fresh } (turned 1 b)).bytes
    go true = bytes_encode fresh fresh_formed
    go false = found

-- by the table of any text, and by document 01's own
pub entry_kept_given : (text : List ℕ) (c : Call) (b a : List ℕ) → IsBytes b → IsBytes a → EntryKept (given text) c b a
entry_kept_given text c b a found lent = entry_kept (given text) (given_keeps text) c b a found lent

pub entry_kept_ours : (c : Call) (b a : List ℕ) → IsBytes b → IsBytes a → EntryKept ours c b a
entry_kept_ours c b a found lent = entry_kept ours steps_rule c b a found lent

pub entry_kept_open : (b a : List ℕ) → IsBytes b → IsBytes a → EntryKeptOpen b a
unfolding entry_open
entry_kept_open b a found lent =
    let k = kept_open b in
    kept_of AllUnused b a found lent (open_on b) record {
      refused = k.refused;
      formed = k.formed;
      range = k.range;
      fits = λ e. unused_fit (open_on b).first (open_on b).second (open_on b).third (k.range e);
      bytes = open_bytes b found;
    }

pub entry_kept_bring : (old b a : List ℕ) → IsBytes old → IsBytes b → IsBytes a → EntryKeptBring old b a
entry_kept_bring old b a given found lent =
    let k = kept_bring old b in
    let r = bring_on old b in
    kept_of AllUnused b a found lent r record {
      refused = k.refused;
      formed = k.formed;
      range = k.range;
      fits = λ e. unused_fit r.first r.second r.third (k.range e);
      bytes = k.bytes given found;
    }

pub entry_kept_read : (text table b a : List ℕ) → IsBytes b → IsBytes a → EntryKeptRead text table b a
entry_kept_read text table b a found lent =
    let k = kept_read text table b in
    let r = reading text table b in
    kept_of AllUnused b a found lent r record {
      refused = k.refused;
      formed = k.formed;
      range = k.range;
      fits = λ e. unused_fit r.first r.second r.third (k.range e);
      bytes = bytes_left_lem b (reads text table) found;
    }

-- ── a cut with a slip, and taking it back ──
pub entry_kept_back : (text : List ℕ) (y : ℕ) (s b a : List ℕ) → IsBytes s → IsBytes b → IsBytes a → EntryKeptBack (given text) y s b a
entry_kept_back text y s b a handed found lent =
    let k = kept_back (given text) (given_keeps text) b y s handed in
    let r = take_back_on (given text) b y s in
    kept_of AllUnused b a found lent r record {
      refused = k.refused;
      formed = k.formed;
      range = k.range;
      fits = λ e. unused_fit r.first r.second r.third (k.range e);
      bytes = k.bytes found handed;
    }

pub entry_kept_slip : (text : List ℕ) (y : ℕ) (k : Cut) (b s a : List ℕ) → IsBytes b → IsBytes a → EntryKeptSlip (given text) y k b s a
entry_kept_slip text y k b s a found lent = record {
  buffers = subst (BuffersKept (InRange (cut_call y k)) b a) (sym (returned_of e b a s)) (kept_of (InRange (cut_call y k)) b a found lent r record {
    refused = λ n. (m.refused n).0;
    formed = m.formed;
    range = m.range;
    fits = λ z. all_fit (cut_call y k) r.first r.second r.third (m.range z);
    bytes = m.bytes;
  });
  refused = go (eqb (length a) answers_size);
  written = λ z. let (q, _, w) = entry_accepted e b a s z in let (u, v) = m.written q in (m.size q, ap length w ∙ u, subst IsBytes (sym w) v);
}
  where
    e : Effect
    e = slipped_on (given text) s y b k

    r : Result
    r = e.result

    m : KeptSlip (given text) s y b k
    m = kept_slip (given text) (given_keeps text) s y b k found

    go : (x : Bool) → let o : EntryEffect = cond x record { returned = handed_out r a; slip = e.slip } record { returned = wrong_answers b a; slip = s } in o.returned.refusal ≢ 0 → o.slip ≡ s
    go true n = (m.refused n).1
    go false n = refl

-- ── write and order ──

-- s was filled in, from 1 to `most` bytes, and the buffer has room for it
module _ (m : ℕ) (Right : List ℕ → Type 0) (t a : List ℕ) (n : ℕ) (t' a' : List ℕ) (made : EntryFilled m Right t a n t' a') (most : ℕ) (small : most < 65536)
    (sized : n ≡ 0 → (s : List ℕ) → Right s → (1 ≤ length s) × (length s ≤ most) × (length s ≤ length t)) where
  bytes_back : (z : n ≡ 0) → let k = length (made.filled z).0 in (answer_in a' 0 ≡ pos k) × (answer_in a' 1 ≡ pos 0) × (answer_in a' 2 ≡ pos 0)
  bytes_back z =
      let (s, right, _, e) = made.filled z in
      let h = (sized z s right).1 in (
        ap (λ (x : List ℕ). answer_in x 0) e ∙ first_back (pos (length s)) (pos 0) (pos 0) (omega (arith, h, small)),
        ap (λ (x : List ℕ). answer_in x 1) e ∙ second_back (pos (length s)) (pos 0) (pos 0) (omega arith),
        ap (λ (x : List ℕ). answer_in x 2) e ∙ third_back (pos (length s)) (pos 0) (pos 0) (omega arith),
      )

  kept_filled : EntryKeptFilled most t a n t' a'
  kept_filled = record {
    refused = made.refused;
    size = λ z. let (s, right, _, e) = made.filled z in ap length e ∙ length_answers (pos (length s)) (pos 0) (pos 0);
    answers = λ z. let (x, y, w) = bytes_back z in (made.filled z).3 ∙ sym (λ i. answer_bytes (x i) (y i) (w i));
    range = λ z. let (x, y, w) = bytes_back z in let h = sized z (made.filled z).0 (made.filled z).1 in ((length (made.filled z).0, x, h.0, h.1), y, w);
    within = within (eq_or n 0);
    rest = λ z k e.
        let (s, right, q, _) = made.filled z in
        let i : k ≡ length s = pos_same (sym e ∙ (bytes_back z).0) in
        (omega (arith, i, (sized z s right).2), ap (λ (j : ℕ). drop j t') i ∙ ap (drop (length s)) q ∙ drop_at s (drop (length s) t) (length s) refl ∙ ap (λ (j : ℕ). drop j t) (sym i));
  }
    where
      pos_same : {j k : ℕ} → pos j ≡ pos k → j ≡ k
      pos_same e = let c = ap code e in omega arith

      within : (n ≡ 0) ⊎ (n ≢ 0) → length t' ≡ length t
      within (inl z) = let (s, right, q, _) = made.filled z in ap length q ∙ length-append s (drop (length s) t) ∙ omega (arith, length-drop (length s) t, (sized z s right).2)
      within (inr k) = ap length (made.refused k).0

-- the answers buffer has its length where the call is accepted
past_answers : (a : List ℕ) (m n : ℕ) → n ≡ cond (eqb (length a) answers_size) m 1 → n ≡ 0 → m ≡ 0
past_answers a m n e z = go (eqb (length a) answers_size) (sym e ∙ z)
  where
    go : (x : Bool) → cond x m 1 ≡ 0 → m ≡ 0
    go true q = q
    go false q = absurd (omega arith)

pub entry_kept_write : (b t a : List ℕ) (n : ℕ) (t' a' : List ℕ) → IsBytes b → EntryWriteMade b t a n t' a' → EntryKeptWrite t a n t' a'
entry_kept_write b t a n t' a' found made = kept_filled (write_refusal b t) (λ s. s ≡ file_text (decode b)) t a n t' a' made most_written (omega arith) sized
  where
    sized : n ≡ 0 → (s : List ℕ) → s ≡ file_text (decode b) → (1 ≤ length s) × (length s ≤ most_written) × (length s ≤ length t)
    sized z s e =
        let w = write_through b t (past_answers a (write_refusal b t) n made.refusal z) in
        let most = file_short (decode b) (held_formed b found w.formed) in
        (omega (arith, ap length e, file_some (decode b)), omega (arith, ap length e, most), omega (arith, ap length e, most, w.room))

pub entry_kept_order : (g : Given) (b : List ℕ) (v : ℕ) (t a : List ℕ) (n : ℕ) (t' a' : List ℕ) → IsBytes b → EntryOrderMade g b v t a n t' a' → EntryKeptOrder t a n t' a'
entry_kept_order g b v t a n t' a' found made =
    kept_filled (order_refusal_on g b v t) (IsOrderBytes g b v) t a n t' a' made order_size (omega arith) sized
  where
    sized : n ≡ 0 → (s : List ℕ) → IsOrderBytes g b v s → (1 ≤ length s) × (length s ≤ order_size) × (length s ≤ length t)
    sized z s (ws, o, e) =
        let p = order_through g b v t (past_answers a (order_refusal_on g b v t) n made.refusal z) in
        let few = (order_few g.steps (decode b) v o).1 (held_formed b found p.formed) in
        let k = order_length g.steps (decode b) v ws in
        (omega (arith, ap length e, k, order_some g.steps (decode b) v o), omega (arith, ap length e, k, few), omega (arith, ap length e, k, few, p.size))
