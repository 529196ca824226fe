-- Demand 3 for the entry points: one claim about a whole list of calls, each with a step table's text and an answers buffer of any length and content, reads of a register's text, cuts that write slips
-- and slips handed in among them (document 01, 'Calls'; document 02, C-11, C-13 and C-15 to C-17). Assumes nothing.
use Rattle.std.specs.Prelude.{◌≡◌, true, List, [], ℕ, take, ℤ, pos}
use Rattle.rules.specs.List.{◌∈◌}
use Rattle.rules.specs.Table.{TableRule}
use Rattle.rules.specs.Support.{Supported}
use Rattle.rules.specs.Remainder.{Within}
use Rattle.rules.specs.Call.{fresh, cut_call}
use Rattle.rules.specs.Trace.{state_from, AtEveryPlace, PlaceRight}
use Rattle.block.specs.Block.{decode, encode}
use Rattle.block.specs.WellFormed.{well_formed}
use Rattle.steptable.specs.TableText.{given}
use Rattle.regfile.specs.FileText.{file_text}
use Rattle.demands.specs.History.{Asked, asks, reads, slips, takes_back, asked_on, GivenBelow, SlipBears, AllOwn}
use Rattle.seatreg.specs.Answers.{answer_bytes}
use Rattle.seatreg.specs.Entry.{Returned, EntryEffect, effect_of, EntryOpened, EntryCutsRight}

-- what an entry point is passed besides the block: a call with what it is lent, and the answers buffer
pub record EntryAsked : Type 0 where
  pub asked : Asked
  pub answers : List ℕ

-- the slip buffer that a call may write, empty where it is lent none
abbrev pub lent_slip : Asked → List ℕ
lent_slip (asks text c) = []
lent_slip (reads text table) = []
lent_slip (slips text y k s) = s
lent_slip (takes_back text y s h) = []

abbrev pub entry_asked_on : List ℕ → EntryAsked → EntryEffect
entry_asked_on b e = effect_of (asked_on b e.asked) b e.answers (lent_slip e.asked)

-- where a call makes a change and is accepted, with a slip or without, the block and the answers are right for that change by the table that its own text gives, and nothing is lifted; an accepted read leaves the
-- register that has its text, supported by the table that it was given, and an accepted taking back all that stood, at least as heavy; both answer 0, 0 and 0
abbrev pub BuffersRight : List ℕ → Asked → Returned → Type 0
BuffersRight b (asks text c) r = EntryCutsRight (given text).steps b c r
BuffersRight b (reads text table) r = r.refusal ≡ 0
    → (file_text (decode r.block) ≡ text) × Supported (given table).steps (decode r.block) × (r.answers ≡ answer_bytes (pos 0) (pos 0) (pos 0))
BuffersRight b (slips text y k s) r = EntryCutsRight (given text).steps b (cut_call y k) r
BuffersRight b (takes_back text y s h) r = r.refusal ≡ 0 → Within (decode b) (decode r.block) × (r.answers ≡ answer_bytes (pos 0) (pos 0) (pos 0))

abbrev pub EntryLeavesRight : List ℕ → EntryAsked → EntryEffect → Type 0
EntryLeavesRight b e o = BuffersRight b e.asked o.returned

abbrev pub block_left : EntryEffect → List ℕ
block_left o = o.returned.block

-- the block before call i, by what the calls were passed alone, never by a block or a slip that the module left
abbrev pub entry_block_at : List EntryAsked → ℕ → List ℕ
entry_block_at es i = state_from entry_asked_on block_left (encode fresh) es i

-- every slip that is handed in among the first i calls is one that an accepted cut of the list wrote
abbrev pub EntryOwnSlips : List EntryAsked → ℕ → Type 0
EntryOwnSlips es i = AllOwn entry_asked_on block_left (λ e. e.asked) (λ o. o.returned.refusal) (λ o. o.slip) es i

pub record EntryDemand3 : Type 0 where
  -- what an accepted open writes
  pub opened : (b a b' a' : List ℕ) → EntryOpened b a 0 b' a' → b' ≡ encode fresh
  pub places : AtEveryPlace entry_asked_on block_left (encode fresh) (PlaceRight entry_asked_on EntryLeavesRight)
  pub formed : (es : List EntryAsked) (i : ℕ) → well_formed (entry_block_at es i) ≡ true
  pub supported : (es : List EntryAsked) (i : ℕ) (m : List ℤ) → TableRule m → ((e : EntryAsked) → e ∈ take i es → GivenBelow e.asked m × SlipBears e.asked m) → Supported m (decode (entry_block_at es i))
  pub supported_own : (es : List EntryAsked) (i : ℕ) (m : List ℤ) → TableRule m → EntryOwnSlips es i → ((e : EntryAsked) → e ∈ take i es → GivenBelow e.asked m) → Supported m (decode (entry_block_at es i))
