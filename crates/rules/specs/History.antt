-- Demand 3 in its register form: one claim about a whole list of calls (document 01, 'Calls'). Assumes nothing.
use Rattle.std.specs.Prelude.{◌≡◌, List, ℕ, suc, ℤ, pos}
use Rattle.rules.specs.Register.{Register}
use Rattle.rules.specs.Support.{Supported}
use Rattle.rules.specs.Round.{SettlesIn}
use Rattle.rules.specs.Cut.{Change, changed, dropped, lowered}
use Rattle.rules.specs.Remainder.{LiftsNothing, Best}
use Rattle.rules.specs.WellFormed.{WellFormed}
use Rattle.rules.specs.Call.{Call, fresh, Makes}
use Rattle.rules.specs.CallStep.{Outcome, call_step}
use Rattle.rules.specs.Trace.{trace_from, state_from, AtEveryPlace, PlaceRight}

-- ── the definitions followed down a list of calls from the fresh register ──

abbrev pub left_by : Outcome → Register
left_by o = o.left

abbrev pub trace : List ℤ → List Call → List Outcome
trace t cs = trace_from (call_step t) left_by fresh cs

-- S i: the register before call i, by the calls alone
abbrev pub register_at : List ℤ → List Call → ℕ → Register
register_at t cs i = state_from (call_step t) left_by fresh cs i

-- ── the demand ──

-- what an accepted call that makes a change answers and leaves, from the register C after that change: the best remainder; dropped and lowered, counted against it; the rounds, as many as change
-- something and the one that changes nothing
pub record CutRight (t : List ℤ) (C : Register) (o : Outcome) : Type 0 where
  pub best : Best t C o.left
  pub dropped : o.first ≡ pos (dropped C o.left)
  pub lowered : o.second ≡ pos (lowered C o.left)
  pub rounds : (n : ℕ) × (o.third ≡ pos (suc n)) × SettlesIn t n C o.left

-- of a call on the register S: where it makes a change and is accepted, its outcome is right for that change, and nothing of S is lifted
abbrev pub CutsRight : List ℤ → Register → Call → Outcome → Type 0
CutsRight t S c o = (k : Change) → Makes c k → o.refusal ≡ 0 → CutRight t (changed S k) o × LiftsNothing S o.left

-- demand 3: at every place of every history; and every register that the definitions lead to is well formed and supported
pub record Demand3 (t : List ℤ) : Type 0 where
  pub places : AtEveryPlace (call_step t) left_by fresh (PlaceRight (call_step t) (CutsRight t))
  pub well_formed : (cs : List Call) (i : ℕ) → WellFormed (register_at t cs i)
  pub supported : (cs : List Call) (i : ℕ) → Supported t (register_at t cs i)
