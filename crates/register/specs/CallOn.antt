-- The calls on bytes (document 01, 'Calls' and the two lists of refusals; document 02, C-11): for every block of any length and content, what is returned and what is left. Assumes nothing.
use Rattle.std.specs.Prelude.{true, false, cond, List, ℕ, eqb, length, ℤ, pos}
use Rattle.rules.specs.Call.{Call, fresh}
use Rattle.rules.specs.Refusal.{first_of}
use Rattle.rules.specs.CallStep.{Outcome, call_step}
use Rattle.block.specs.Layout.{block_size}
use Rattle.block.specs.Block.{decode, encode}
use Rattle.steptable.specs.TableText.{Given}
use Rattle.refusals.specs.Early.{early}

-- the refusal number, 0 when accepted; the three answers; the bytes afterwards
pub record Result : Type 0 where
  pub refusal : ℕ
  pub first : ℤ
  pub second : ℤ
  pub third : ℤ
  pub bytes : List ℕ

-- a refused call answers 0 and changes no byte
abbrev pub turned : ℕ → List ℕ → Result
turned n b = record { refusal = n; first = pos 0; second = pos 0; third = pos 0; bytes = b }

-- an outcome on the register that the block holds: an accepted call writes the register left
abbrev pub written : List ℕ → Outcome → Result
written b o = record { refusal = o.refusal; first = o.first; second = o.second; third = o.third; bytes = cond (eqb o.refusal 0) (encode o.left) b }

-- with what is given with the text of a step table
unfoldable pub call_on : Given → List ℕ → Call → Result
call_on g b c = let n = first_of (early g.refusal b c) in elim (eqb n 0) [ true ↦ written b (call_step g.steps (decode b) c) | false ↦ turned n b ]

-- open overwrites any 2,188 bytes
unfoldable pub open_on : List ℕ → Result
open_on b = cond (eqb (length b) block_size) record { refusal = 0; first = pos 0; second = pos 0; third = pos 0; bytes = encode fresh } (turned 1 b)
