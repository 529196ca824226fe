-- What the calls that rounds follow promise: the cuts, setting marks and retiring (document 01, 'Calls'; document 02, C-11, C-15 and C-16). An accepted one leaves the best remainder of its change on the block that it was handed, by the table that it was given, and lifts nothing. Assumes nothing.
use Rattle.std.specs.Prelude.{List, ℕ, ℤ}
use Rattle.rules.specs.Call.{Call}
use Rattle.rules.specs.CallStep.{Outcome}
use Rattle.rules.specs.Trace.{PlaceRight}
use Rattle.rules.specs.History.{CutsRight}
use Rattle.block.specs.Block.{decode}
use Rattle.steptable.specs.TableText.{Given}
use Rattle.register.specs.CallOn.{Result, call_on}
use Rattle.register.specs.Made.{result_of}
use Rattle.register.specs.Answer.{Answer}

-- a result as an outcome: what is left is the register that the bytes hold
abbrev pub on_register : Result → Outcome
on_register r = record { refusal = r.refusal; first = r.first; second = r.second; third = r.third; left = decode r.bytes }

-- of a call on the block b: where it makes a change and is accepted, its result is right for that change of the register that b holds
abbrev pub CutsLeft : List ℤ → List ℕ → Call → Result → Type 0
CutsLeft t b c r = CutsRight t (decode b) c (on_register r)

-- `Made`, and that: what demand 3 claims of a place, at the block that the call was handed
abbrev pub CutMade : Given → Call → List ℕ → Answer → List ℕ → Type 0
CutMade g c before o after = PlaceRight (call_on g) (CutsLeft g.steps) before c (result_of o after)
