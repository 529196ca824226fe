-- The ways of an entry point: an answers buffer of another length, a call accepted, a call refused. Assumes nothing.
use mathlib.Core.Path.{◌≡◌, refl, sym, ap, subst, ◌∙◌}
use mathlib.Core.Logic.{◌≢◌}
use mathlib.Core.Bool.{Bool, true, false, cond}
use mathlib.Core.List.{List, ◌++◌}
use Prim.Native.Nat.{ℕ, ◌*◌, ◌<◌}
use native.Mathlib.Omega.{arith}
use borrow.Author.Tests.{eq-eqb, ne_eqb}
use lib.Dec.{eqb}
use lib.ListN.{length, drop}
use lib.IntN.{ℤ, pos}
use Rattle.rules.specs.Register.{Register}
use Rattle.rules.specs.Order.{order_bytes}
use Rattle.rules.proofs.Order.{order_length}
use Rattle.rules.specs.Cut.{Cut, changed}
use Rattle.rules.specs.Call.{Call}
use Rattle.rules.specs.History.{CutRight}
use Rattle.block.specs.Block.{decode}
use Rattle.steptable.specs.TableText.{Given}
use Rattle.regfile.specs.FileText.{file_text}
use Rattle.register.specs.CallOn.{Result, call_on, open_on}
use Rattle.register.specs.Made.{result_of, Made, MadeOpen}
use Rattle.register.specs.Bring.{bring_on, BringMade}
use Rattle.register.specs.Cuts.{on_register, CutMade}
use Rattle.register.specs.Answer.{Answer}
use Rattle.slips.specs.Slip.{Effect, SlipMade}
use Rattle.slips.specs.TakeBack.{take_back_on, TakeBackMade}
use Rattle.transfer.specs.FileOn.{write_refusal, WriteMade, ReadMade}
use Rattle.transfer.specs.RoundTrip.{reading}
use Rattle.transfer.specs.Filled.{filled_of}
use Rattle.order.specs.Items.{item_size}
use Rattle.order.specs.OrderOn.{order_refusal_on, IsOrderBytes, OrderMade}
use Rattle.std.specs.Prelude as std
use Rattle.rules.specs.declared.refusal.Refusal.{Refusal}
use Rattle.order.specs.Listed.{listed_of}
use Rattle.seatreg.specs.Answers.{answers_size, answer_bytes}
use Rattle.seatreg.specs.Entry.{EntryEffect, handed_out, wrong_answers, entry_of, entry_on, entry_open, EntryMade, EntryOpened, EntryBroughtOver, EntryReadMade, EntryFilled, EntryWriteMade, EntryOrderMade, EntryCutRight, EntryCutMade, effect_of, EntrySlipMade, EntryTakeBackMade, told_by, filled_told, AnswersPut}

-- ── what is handed out ──
module _ (o : Answer) (a : List ℕ) where
  pub accepted : o.refusal ≡ 0 → AnswersPut o a o.refusal (answer_bytes o.first o.second o.third)
  accepted z = (refl, ap (λ (x : Bool). cond x (answer_bytes o.first o.second o.third) a) (sym (eq-eqb o.refusal 0 z)))

  pub refused : o.refusal ≢ 0 → AnswersPut o a o.refusal a
  refused n = (refl, ap (λ (x : Bool). cond x (answer_bytes o.first o.second o.third) a) (sym (ne_eqb o.refusal 0 n)))

  -- an accepted call's answers are in the buffer
  accepted_bytes : (n : ℕ) (a' : List ℕ) → AnswersPut o a n a' → n ≡ 0 → a' ≡ answer_bytes o.first o.second o.third
  accepted_bytes n a' h z = h.1 ∙ ap (λ (x : Bool). cond x (answer_bytes o.first o.second o.third) a) (eq-eqb o.refusal 0 (sym h.0 ∙ z))

-- an accepted cut's answers as bytes
pub cut_left : (t : List ℤ) (C : Register) (o : Answer) (n : ℕ) (b' a' : List ℕ) → o.refusal ≡ 0 → CutRight t C (on_register (result_of o b')) → a' ≡ answer_bytes o.first o.second o.third
    → EntryCutRight t C record { refusal = n; block = b'; answers = a' }
cut_left t C o n b' a' z d e = record {
  first = o.first;
  second = o.second;
  third = o.third;
  bytes = e;
  right = subst (λ (x : ℕ). CutRight t C record { refusal = x; first = o.first; second = o.second; third = o.third; left = decode b' }) z d;
}

-- ── of any library call with the result r ──
module _ (r : Result) (b a : List ℕ) where
  -- another length than twelve
  short_of : length a ≢ 12 → wrong_answers b a ≡ entry_of r b a
  short_of n = rw (ne_eqb (length a) 12 n)

  -- twelve bytes: what the library call returned was handed out
  made_of : length a ≡ 12 → (o : Answer) (b' : List ℕ) → result_of o b' ≡ r → (n : ℕ) (a' : List ℕ) → AnswersPut o a n a' → record { refusal = n; block = b'; answers = a' } ≡ entry_of r b a
  made_of l o b' e n a' h =
      let (p, q) = h in
      (λ i. record { refusal = p i; block = b'; answers = q i })
      ∙ ap (λ (x : Result). handed_out x a) e
      ∙ rw (eq-eqb (length a) 12 l)

-- ── of the calls of a list, of the cuts and of open ──
module _ (b a : List ℕ) where
  module _ (g : Given) (c : Call) where
    pub short : length a ≢ 12 → EntryMade g c b a 1 b a
    unfolding entry_on
    short n = short_of (call_on g b c) b a n

    pub made : length a ≡ 12 → (o : Answer) (b' : List ℕ) → Made g c b o b' → (n : ℕ) (a' : List ℕ) → AnswersPut o a n a' → EntryMade g c b a n b' a'
    unfolding entry_on
    made l o b' e n a' h = made_of (call_on g b c) b a l o b' e n a' h

    pub cut_short : length a ≢ 12 → EntryCutMade g c b a 1 b a
    cut_short n = record { outcome = short n; leaves = λ k i z. absurd (omega arith) }

    pub cut_made : length a ≡ 12 → (o : Answer) (b' : List ℕ) → CutMade g c b o b' → (n : ℕ) (a' : List ℕ) → AnswersPut o a n a' → EntryCutMade g c b a n b' a'
    cut_made l o b' m n a' h = record {
      outcome = made l o b' m.outcome n a' h;
      leaves = λ k i z. let y = sym h.0 ∙ z in let (right, lifts) = m.leaves k i y in (cut_left g.steps (changed (decode b) k) o n b' a' y right (accepted_bytes o a n a' h z), lifts);
    }

  pub open_short : length a ≢ 12 → EntryOpened b a 1 b a
  unfolding entry_open
  open_short n = short_of (open_on b) b a n

  pub open_made : length a ≡ 12 → (o : Answer) (b' : List ℕ) → MadeOpen b o b' → (n : ℕ) (a' : List ℕ) → AnswersPut o a n a' → EntryOpened b a n b' a'
  unfolding entry_open
  open_made l o b' e n a' h = made_of (open_on b) b a l o b' e n a' h

-- ── of bringing over ──
module _ (old b a : List ℕ) where
  pub bring_short : length a ≢ 12 → EntryBroughtOver old b a 1 b a
  bring_short n = short_of (bring_on old b) b a n

  pub bring_made : length a ≡ 12 → (o : Answer) (b' : List ℕ) → BringMade old b o b' → (n : ℕ) (a' : List ℕ) → AnswersPut o a n a' → EntryBroughtOver old b a n b' a'
  bring_made l o b' e n a' h = made_of (bring_on old b) b a l o b' e n a' h

-- ── of a cut with a slip, and of taking it back ──
-- with a slip buffer or without
pub returned_of : (e : Effect) (b a s : List ℕ) → (effect_of e b a s).returned ≡ entry_of e.result b a
returned_of e b a s = go (eqb (length a) answers_size)
  where
    go : (x : Bool) → let o : EntryEffect = cond x record { returned = handed_out e.result a; slip = e.slip } record { returned = wrong_answers b a; slip = s } in o.returned ≡ cond x (handed_out e.result a) (wrong_answers b a)
    go true = refl
    go false = refl

-- an accepted entry point: the call was accepted, and the block and the slip buffer are the call's
pub entry_accepted : (o : Effect) (b a s : List ℕ) → (effect_of o b a s).returned.refusal ≡ 0 → (o.result.refusal ≡ 0) × ((effect_of o b a s).returned.block ≡ o.result.bytes) × ((effect_of o b a s).slip ≡ o.slip)
entry_accepted o b a s = go (eqb (length a) answers_size)
  where
    go : (x : Bool) → let e : EntryEffect = cond x record { returned = handed_out o.result a; slip = o.slip } record { returned = wrong_answers b a; slip = s } in e.returned.refusal ≡ 0 → (o.result.refusal ≡ 0) × (e.returned.block ≡ o.result.bytes) × (e.slip ≡ o.slip)
    go true = λ z. (z, refl, refl)
    go false = λ z. absurd (omega arith)

module _ (g : Given) (y : ℕ) (k : Cut) (b s a : List ℕ) where
  pub slip_short : length a ≢ 12 → EntrySlipMade g y k b s a 1 b s a
  slip_short n = record { outcome = rw (ne_eqb (length a) 12 n); leaves = λ c i z. absurd (omega arith) }

  pub slip_made : length a ≡ 12 → (o : Answer) (b' s' : List ℕ) → SlipMade g y k b s o b' s' → (n : ℕ) (a' : List ℕ) → AnswersPut o a n a' → EntrySlipMade g y k b s a n b' s' a'
  slip_made l o b' s' m n a' h = record {
    outcome =
        (λ i. record { returned = record { refusal = h.0 i; block = b'; answers = h.1 i }; slip = s' })
        ∙ ap (λ (e : Effect). record { returned = handed_out e.result a; slip = e.slip }) m.outcome
        ∙ rw (eq-eqb (length a) 12 l);
    leaves = λ c i z. let q = sym h.0 ∙ z in let (right, lifts) = m.leaves c i q in (cut_left g.steps (changed (decode b) c) o n b' a' q right (accepted_bytes o a n a' h z), lifts);
  }

module _ (g : Given) (y : ℕ) (s b a : List ℕ) where
  pub back_short : length a ≢ 12 → EntryTakeBackMade g y s b a 1 b a
  back_short n = short_of (take_back_on g b y s) b a n

  pub back_made : length a ≡ 12 → (o : Answer) (b' : List ℕ) → TakeBackMade g y s b o b' → (n : ℕ) (a' : List ℕ) → AnswersPut o a n a' → EntryTakeBackMade g y s b a n b' a'
  back_made l o b' e n a' h = made_of (take_back_on g b y s) b a l o b' e n a' h

-- ── of a read ──
module _ (text table b a : List ℕ) where
  pub read_short : length a ≢ 12 → EntryReadMade text table b a 1 b a
  read_short n = short_of (reading text table b) b a n

  pub read_made : length a ≡ 12 → (o : Answer) (b' : List ℕ) → ReadMade text table b o b' → (n : ℕ) (a' : List ℕ) → AnswersPut o a n a' → EntryReadMade text table b a n b' a'
  read_made l o b' e n a' h = made_of (reading text table b) b a l o b' e n a' h

-- ── of a call that fills the front of a lent buffer ──
module _ (m : ℕ) (Right : List ℕ → Type 0) (t a : List ℕ) where
  filled_short : length a ≢ 12 → EntryFilled m Right t a 1 t a
  filled_short n = record { refusal = rw (ne_eqb (length a) 12 n); refused = λ _. (refl, refl); filled = λ z. absurd (omega arith) }

  -- k bytes were filled, and the library call returned r
  filled_made : length a ≡ 12 → (r k : ℕ) (t' : List ℕ) → r ≡ m → (r ≢ 0 → t' ≡ t) → (r ≡ 0 → (s : List ℕ) × Right s × (length s ≡ k) × (t' ≡ s ++ drop k t))
      → (n : ℕ) (a' : List ℕ) → AnswersPut (told_by r (pos k)) a n a' → EntryFilled m Right t a n t' a'
  filled_made l r k t' e refused front n a' h = record {
    refusal = h.0 ∙ e ∙ rw (eq-eqb (length a) 12 l);
    refused = λ z. let q : r ≢ 0 = λ y. z (h.0 ∙ y) in (refused q, h.1 ∙ ap (λ (x : Bool). cond x (answer_bytes (pos k) (pos 0) (pos 0)) a) (ne_eqb r 0 q));
    filled = λ z.
        let (s, right, size, q) = front (sym h.0 ∙ z) in
        (s, right, q ∙ ap (λ (j : ℕ). s ++ drop j t) (sym size), accepted_bytes (told_by r (pos k)) a n a' h z ∙ ap (λ (j : ℕ). answer_bytes (pos j) (pos 0) (pos 0)) (sym size));
  }

-- what is told of a write and of an order, as numbers
told_write : (r : std.Result ℕ Refusal) → filled_told 1 r ≡ told_by (filled_of r).refusal (pos (filled_of r).length)
told_write (std.Ok n) = let e : 1 * n ≡ n = omega arith in ap (λ (k : ℕ). told_by 0 (pos k)) e
told_write (std.Err f) = refl

told_order : (r : std.Result ℕ Refusal) → filled_told 2 r ≡ told_by (listed_of r).refusal (pos (item_size * (listed_of r).subjects))
told_order (std.Ok n) = refl
told_order (std.Err f) = refl

-- and their bytes fit in an answer
pub order_fits : (r : std.Result ℕ Refusal) → item_size * (listed_of r).subjects < 2147483648 → std.IfOk r (λ n. 2 * n < 2147483648)
order_fits (std.Ok n) h = h
order_fits (std.Err f) h = tt

pub write_fits : (r : std.Result ℕ Refusal) → (filled_of r).length < 2147483648 → std.IfOk r (λ n. 1 * n < 2147483648)
write_fits (std.Ok n) h = omega arith
write_fits (std.Err f) h = tt

pub write_short : (b t a : List ℕ) → length a ≢ 12 → EntryWriteMade b t a 1 t a
write_short b t a = filled_short (write_refusal b t) (λ s. s ≡ file_text (decode b)) t a

pub write_made : (b t a : List ℕ) → length a ≡ 12 → (r : std.Result ℕ Refusal) (t' : List ℕ) → WriteMade b t (filled_of r) t' → (n : ℕ) (a' : List ℕ) → AnswersPut (filled_told 1 r) a n a' → EntryWriteMade b t a n t' a'
write_made b t a l r t' made n a' put =
    let o = filled_of r in
    filled_made (write_refusal b t) (λ s. s ≡ file_text (decode b)) t a l o.refusal o.length t' made.refusal (λ z. (made.refused z).1) (λ z. (file_text (decode b), refl, sym (made.text z).0, (made.text z).1)) n a' (subst (λ (x : Answer). AnswersPut x a n a') (told_write r) put)

pub order_short : (g : Given) (b : List ℕ) (v : ℕ) (t a : List ℕ) → length a ≢ 12 → EntryOrderMade g b v t a 1 t a
order_short g b v t a = filled_short (order_refusal_on g b v t) (IsOrderBytes g b v) t a

pub order_made : (g : Given) (b : List ℕ) (v : ℕ) (t a : List ℕ) → length a ≡ 12 → (r : std.Result ℕ Refusal) (t' : List ℕ) → OrderMade g b v t (listed_of r) t' → (n : ℕ) (a' : List ℕ) → AnswersPut (filled_told 2 r) a n a'
    → EntryOrderMade g b v t a n t' a'
order_made g b v t a l r t' made n a' put =
    let o = listed_of r in
    filled_made (order_refusal_on g b v t) (IsOrderBytes g b v) t a l o.refusal (item_size * o.subjects) t' made.refusal (λ z. (made.refused z).1)
    (λ z.
    let w = made.written z in
    let n = ap (λ (k : ℕ). item_size * k) w.count in
    (order_bytes g.steps (decode b) v w.subjects, (w.subjects, w.order, refl), order_length g.steps (decode b) v w.subjects ∙ sym n, w.bytes ∙ ap (λ (k : ℕ). order_bytes g.steps (decode b) v w.subjects ++ drop k t) (sym n)))
    n a' (subst (λ (x : Answer). AnswersPut x a n a') (told_order r) put)
