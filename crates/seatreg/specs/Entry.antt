-- What every C entry point promises: one relation of what is given with the step table's text, the call, both buffers before, the number returned and both buffers after (document 01, 'Calls'; document 02,
-- C-11 and C-13 to C-17). Assumes nothing.
use Rattle.std.specs.Prelude.{◌≡◌, ◌≢◌, cond, List, ◌++◌, ℕ, eqb, length, drop, ℤ, pos, ◌*◌}
use Rattle.rules.specs.Register.{Register}
use Rattle.rules.specs.Cut.{Cut, Change, changed}
use Rattle.rules.specs.Call.{Call, Makes, cut_call}
use Rattle.rules.specs.Remainder.{LiftsNothing}
use Rattle.rules.specs.CallStep.{answered}
use Rattle.rules.specs.Trace.{PlaceRight}
use Rattle.rules.specs.History.{CutRight}
use Rattle.block.specs.Block.{decode}
use Rattle.steptable.specs.TableText.{Given}
use Rattle.regfile.specs.FileText.{file_text}
use Rattle.register.specs.CallOn.{Result, call_on, open_on}
use Rattle.register.specs.Bring.{bring_on}
use Rattle.std.specs.Prelude as std
use Rattle.rules.specs.declared.refusal.Refusal.{Refusal}
use Rattle.rules.specs.Refused.{refusal_number}
use Rattle.register.specs.Answer.{Answer}
use Rattle.slips.specs.Slip.{Effect, slipped_on}
use Rattle.slips.specs.TakeBack.{take_back_on}
use Rattle.transfer.specs.FileOn.{write_refusal}
use Rattle.transfer.specs.RoundTrip.{reading}
use Rattle.order.specs.OrderOn.{order_refusal_on, IsOrderBytes}
use Rattle.seatreg.specs.Answers.{answers_size, answer_bytes}

-- the refusal number, 0 when accepted; the block and the answers buffer afterwards
pub record Returned : Type 0 where
  pub refusal : ℕ
  pub block : List ℕ
  pub answers : List ℕ

-- the answers buffer after a call that returned n: written only when accepted
abbrev pub answers_after : ℕ → ℤ → ℤ → ℤ → List ℕ → List ℕ
answers_after n first second third a = cond (eqb n 0) (answer_bytes first second third) a

-- what a library call results in, its answers handed out
abbrev pub handed_out : Result → List ℕ → Returned
handed_out r a = record { refusal = r.refusal; block = r.bytes; answers = answers_after r.refusal r.first r.second r.third a }

-- an answers buffer of another length than twelve: nothing changes
abbrev pub wrong_answers : List ℕ → List ℕ → Returned
wrong_answers b a = record { refusal = 1; block = b; answers = a }

-- the entry point of a library call that results in r: the length of the answers buffer comes before anything else
abbrev pub entry_of : Result → List ℕ → List ℕ → Returned
entry_of r b a = cond (eqb (length a) answers_size) (handed_out r a) (wrong_answers b a)

-- what was returned, and the slip buffer afterwards, empty where none was lent
pub record EntryEffect : Type 0 where
  pub returned : Returned
  pub slip : List ℕ

-- the entry point of a library call that comes to e, lent the slip buffer s
abbrev pub effect_of : Effect → (block answers slip : List ℕ) → EntryEffect
effect_of e b a s = cond (eqb (length a) answers_size) record { returned = handed_out e.result a; slip = e.slip } record { returned = wrong_answers b a; slip = s }

-- the calls of a list on any block and any answers buffer, and open
unfoldable pub entry_on : Given → (answers block : List ℕ) → Call → Returned
entry_on g a b c = entry_of (call_on g b c) b a

unfoldable pub entry_open : List ℕ → List ℕ → Returned
entry_open b a = entry_of (open_on b) b a

-- ── what is promised ──

-- n was returned; the buffers held b and a, and hold b' and a'
abbrev pub EntryMade : Given → Call → List ℕ → List ℕ → ℕ → List ℕ → List ℕ → Type 0
EntryMade g c b a n b' a' = record { refusal = n; block = b'; answers = a' } ≡ entry_on g a b c

abbrev pub EntryOpened : List ℕ → List ℕ → ℕ → List ℕ → List ℕ → Type 0
EntryOpened b a n b' a' = record { refusal = n; block = b'; answers = a' } ≡ entry_open b a

-- of bringing a block of the layout before over
abbrev pub EntryBroughtOver : (old b a : List ℕ) → ℕ → List ℕ → List ℕ → Type 0
EntryBroughtOver old b a n b' a' = record { refusal = n; block = b'; answers = a' } ≡ entry_of (bring_on old b) b a

-- of a read of a register's text with a step table's
abbrev pub EntryReadMade : (text table b a : List ℕ) → ℕ → List ℕ → List ℕ → Type 0
EntryReadMade text table b a n b' a' = record { refusal = n; block = b'; answers = a' } ≡ entry_of (reading text table b) b a

-- of a call that fills the front of a lent buffer, is refused with m where the answers buffer has its length, and fills in what is Right: n was returned; the lent buffer and the answers buffer held t and a, and hold t' and a'
pub record EntryFilled (m : ℕ) (Right : List ℕ → Type 0) (t a : List ℕ) (n : ℕ) (t' a' : List ℕ) : Type 0 where
  pub refusal : n ≡ cond (eqb (length a) answers_size) m 1
  pub refused : n ≢ 0 → (t' ≡ t) × (a' ≡ a)
  -- the front, the bytes past it as they were; the answers are its length, 0 and 0
  pub filled : n ≡ 0 → (s : List ℕ) × Right s × (t' ≡ s ++ drop (length s) t) × (a' ≡ answer_bytes (pos (length s)) (pos 0) (pos 0))

-- of a write of the block b: the text of its register
abbrev pub EntryWriteMade : (b t a : List ℕ) → ℕ → List ℕ → List ℕ → Type 0
EntryWriteMade b t a n t' a' = EntryFilled (write_refusal b t) (λ s. s ≡ file_text (decode b)) t a n t' a'

-- of an order for the receiver v by what is given with a step table's text: the bytes of the order
abbrev pub EntryOrderMade : Given → (b : List ℕ) → ℕ → (t a : List ℕ) → ℕ → List ℕ → List ℕ → Type 0
EntryOrderMade g b v t a n t' a' = EntryFilled (order_refusal_on g b v t) (IsOrderBytes g b v) t a n t' a'

-- what an accepted call that makes a change leaves in both buffers: C is the register after that change, and the bytes are those of three answers that are right for it
pub record EntryCutRight (t : List ℤ) (C : Register) (r : Returned) : Type 0 where
  pub first : ℤ
  pub second : ℤ
  pub third : ℤ
  pub bytes : r.answers ≡ answer_bytes first second third
  pub right : CutRight t C (answered first second third (decode r.block))

-- of a call on the block b: where it makes a change and is accepted, both buffers are right for that change of the register that b holds, and nothing of that register is lifted
abbrev pub EntryCutsRight : List ℤ → List ℕ → Call → Returned → Type 0
EntryCutsRight t b c r = (k : Change) → Makes c k → r.refusal ≡ 0 → EntryCutRight t (changed (decode b) k) r × LiftsNothing (decode b) (decode r.block)

-- `EntryMade`, and that: what demand 3 claims of a place, at the block that the call was handed
abbrev pub EntryCutMade : Given → Call → List ℕ → List ℕ → ℕ → List ℕ → List ℕ → Type 0
EntryCutMade g c b a n b' a' = PlaceRight (entry_on g a) (EntryCutsRight g.steps) b c record { refusal = n; block = b'; answers = a' }

-- so of a cut k by y that is lent a slip buffer: the buffers held b, s and a, and hold b', s' and a'
abbrev pub EntrySlipMade : Given → (by : ℕ) → Cut → (b s a : List ℕ) → ℕ → (b' s' a' : List ℕ) → Type 0
EntrySlipMade g y k b s a n b' s' a' = PlaceRight (λ c d. effect_of (slipped_on g s y c d) c a s) (λ c d e. EntryCutsRight g.steps c (cut_call y d) e.returned) b k
    record { returned = record { refusal = n; block = b'; answers = a' }; slip = s' }

-- of a slip s handed in by y
abbrev pub EntryTakeBackMade : Given → (by : ℕ) → (s b a : List ℕ) → ℕ → (b' a' : List ℕ) → Type 0
EntryTakeBackMade g y s b a n b' a' = record { refusal = n; block = b'; answers = a' } ≡ entry_of (take_back_on g b y s) b a

-- a number and one answer
abbrev pub told_by : ℕ → ℤ → Answer
told_by n first = record { refusal = n; first = first; second = pos 0; third = pos 0 }

-- so, of what such a call returned, n items of this size
abbrev pub filled_told : ℕ → std.Result ℕ Refusal → Answer
filled_told size (std.Ok n) = told_by 0 (pos (size * n))
filled_told size (std.Err r) = told_by (refusal_number r) (pos 0)

-- what the function that hands out an answer promises: its number is returned, its answers are put into the buffer when it is accepted
abbrev pub AnswersPut : Answer → List ℕ → ℕ → List ℕ → Type 0
AnswersPut o a n a' = (n ≡ o.refusal) × (a' ≡ answers_after o.refusal o.first o.second o.third a)
