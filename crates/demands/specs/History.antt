-- Demand 3 in its byte form: one claim about a whole list of calls on the block that open writes, each lent a step table as a text of its own, reads of a register's text, cuts that write slips and slips
-- handed in among them (document 01, 'Calls'; document 02, C-11, C-13 and C-15 to C-17). Assumes nothing.
use Rattle.std.specs.Prelude.{◌≡◌, Bool, true, false, cond, List, [], ℕ, ◌<◌, T, take, ℤ}
use Rattle.rules.specs.List.{◌∈◌, At}
use Rattle.rules.specs.Table.{TableRule, Below}
use Rattle.rules.specs.Support.{Supported}
use Rattle.rules.specs.Cut.{Cut}
use Rattle.rules.specs.Remainder.{Within}
use Rattle.rules.specs.Call.{Call, enrol, grant, revoke, downgrade, ask_reach, ask_use, set_marks, retire, fresh, cut_call}
use Rattle.rules.specs.Trace.{trace_from, state_from, AtEveryPlace, PlaceRight}
use Rattle.block.specs.Bytes.{IsBytes}
use Rattle.block.specs.Block.{decode, encode}
use Rattle.block.specs.WellFormed.{well_formed}
use Rattle.steptable.specs.TableText.{ours, given}
use Rattle.steptable.specs.TableText.{Given}
use Rattle.regfile.specs.FileText.{file_text, filed}
use Rattle.register.specs.CallOn.{Result, call_on}
use Rattle.register.specs.Made.{MadeOpen}
use Rattle.register.specs.Cuts.{CutsLeft}
use Rattle.register.specs.Answer.{Answer}
use Rattle.transfer.specs.FileOn.{read_on}
use Rattle.slips.specs.Slip.{slip_before, slip_after, Effect, slipped_on}
use Rattle.slips.specs.TakeBack.{genuine, take_back_on}

-- ── a call and what it is lent ──

-- any text, one that passes or not; the empty text where a call is lent none
pub data Asked : Type 0 where
  asks : (text : List ℕ) (call : Call) → Asked
  -- a read of a register's text, with a step table's
  reads : (text table : List ℕ) → Asked
  -- a cut by a subject that is lent a slip buffer of any length and content, with a step table's text
  slips : (text : List ℕ) (by : ℕ) (cut : Cut) (buffer : List ℕ) → Asked
  -- a slip handed in by a subject: any bytes, whoever wrote them; with a step table's text
  takes_back : (text : List ℕ) (by : ℕ) (slip : List ℕ) (bytes : IsBytes slip) → Asked

-- the calls that reckon reach, and so take a step table
abbrev pub reckons : Call → Bool
reckons (enrol m) = false
reckons (grant d) = true
reckons (revoke y g r) = true
reckons (downgrade y g r w) = true
reckons (ask_reach g r) = true
reckons (ask_use r) = false
reckons (set_marks y s m) = true
reckons (retire y s) = true

-- what a call is given with its text; one that takes no table looks at neither, and is given ours
abbrev pub lent_to : Call → List ℕ → Given
lent_to c text = cond (reckons c) (given text) ours

-- the result of a call that is lent no slip buffer
abbrev pub plain : Result → Effect
plain r = record { result = r; slip = [] }

abbrev pub asked_on : List ℕ → Asked → Effect
asked_on b (asks text c) = plain (call_on (lent_to c text) b c)
asked_on b (reads text table) = plain (read_on (given table) (filed text) b)
asked_on b (slips text y k s) = slipped_on (given text) s y b k
asked_on b (takes_back text y s h) = plain (take_back_on (given text) b y s)

-- of a call on the block b: where it makes a change and is accepted, with a slip or without, its result is right for that change by the table that its own text gives, and lifts nothing; an accepted read leaves the
-- register that has its text, supported by the table that it was given; an accepted taking back changes no subject, and leaves all that stood, at least as heavy
abbrev pub LeavesRight : List ℕ → Asked → Effect → Type 0
LeavesRight b (asks text c) e = CutsLeft (given text).steps b c e.result
LeavesRight b (reads text table) e = e.result.refusal ≡ 0 → (file_text (decode e.result.bytes) ≡ text) × Supported (given table).steps (decode e.result.bytes)
LeavesRight b (slips text y k s) e = CutsLeft (given text).steps b (cut_call y k) e.result
LeavesRight b (takes_back text y s h) e = e.result.refusal ≡ 0 → Within (decode b) (decode e.result.bytes)

-- ── the definitions followed down a list ──

abbrev pub bytes_left : Effect → List ℕ
bytes_left e = e.result.bytes

-- what the calls come to, from the block that open writes on
abbrev pub trace_on : List Asked → List Effect
trace_on qs = trace_from asked_on bytes_left (encode fresh) qs

-- S i: the block before call i, by the calls and what they are lent alone, never by a block or a slip that the module left
abbrev pub block_at : List Asked → ℕ → List ℕ
block_at qs i = state_from asked_on bytes_left (encode fresh) qs i

-- ── the demand ──

-- the table given to the call, if it takes one and its text passes, has no entry above that of m; ours is one, where no text was lent. Taking back reckons by its table and leaves nothing that was reckoned
abbrev pub GivenBelow : Asked → List ℤ → Type 0
GivenBelow (asks text c) m = T (reckons c) → (given text).refusal ≡ 0 → Below (given text).steps m
GivenBelow (reads text table) m = (given table).refusal ≡ 0 → Below (given table).steps m
GivenBelow (slips text y k s) m = (given text).refusal ≡ 0 → Below (given text).steps m
GivenBelow (takes_back text y s h) m = Unit {0}

-- so for each of the first i calls
abbrev pub AllBelow : List Asked → ℕ → List ℤ → Type 0
AllBelow qs i m = (q : Asked) → q ∈ take i qs → GivenBelow q m

-- a slip that is handed in holds a register that m supports, if it is genuine; another takes nothing away
abbrev pub SlipBears : Asked → List ℤ → Type 0
SlipBears (asks text c) m = Unit {0}
SlipBears (reads text table) m = Unit {0}
SlipBears (slips text y k s) m = Unit {0}
SlipBears (takes_back text y s h) m = T (genuine (given text) (slip_after s) s) → Supported m (decode (slip_before s))

abbrev pub Under : List Asked → ℕ → List ℤ → Type 0
Under qs i m = (q : Asked) → q ∈ take i qs → GivenBelow q m × SlipBears q m

-- of a list of any calls, among them those of `asked`: `number` is what a call returned, `slip` the slip buffer afterwards
module _ {A O : Type 0} (step : List ℕ → A → O) (left : O → List ℕ) (asked : A → Asked) (number : O → ℕ) (slip : O → List ℕ) where
  -- s is the slip that an accepted cut of the list wrote before call j
  pub record WrittenBefore (qs : List A) (j : ℕ) (s : List ℕ) : Type 0 where
    pub place : ℕ
    pub earlier : place < j
    pub call : A
    pub at : At qs place call
    pub text : List ℕ
    pub by : ℕ
    pub cut : Cut
    pub buffer : List ℕ
    pub slips : asked call ≡ slips text by cut buffer
    pub accepted : number (step (state_from step left (encode fresh) qs place) call) ≡ 0
    pub same : s ≡ slip (step (state_from step left (encode fresh) qs place) call)

  -- every slip that is handed in among the first i calls is one that the list itself wrote
  abbrev pub AllOwn : List A → ℕ → Type 0
  AllOwn qs i = (j : ℕ) → j < i → (q : A) → At qs j q → (text : List ℕ) (y : ℕ) (s : List ℕ) (h : IsBytes s) → asked q ≡ takes_back text y s h → WrittenBefore qs j s

abbrev pub OwnSlips : List Asked → ℕ → Type 0
OwnSlips qs i = AllOwn asked_on bytes_left (λ q. q) (λ e. e.result.refusal) (λ e. e.slip) qs i

pub record Demand3 : Type 0 where
  -- the list begins with the block that open writes
  pub opened : (before : List ℕ) (o : Answer) (after : List ℕ) → MadeOpen before o after → o.refusal ≡ 0 → after ≡ encode fresh
  pub places : AtEveryPlace asked_on bytes_left (encode fresh) (PlaceRight asked_on LeavesRight)
  pub formed : (qs : List Asked) (i : ℕ) → well_formed (block_at qs i) ≡ true
  -- a block need not be supported by the table of the next call; it is by every table that no table given so far exceeds, and that supports the register of every slip handed in
  pub supported : (qs : List Asked) (i : ℕ) (m : List ℤ) → TableRule m → Under qs i m → Supported m (decode (block_at qs i))
  -- nothing is asked of the slips where the list itself wrote them
  pub supported_own : (qs : List Asked) (i : ℕ) (m : List ℤ) → TableRule m → OwnSlips qs i → AllBelow qs i m → Supported m (decode (block_at qs i))
