-- P1 to P8 of document 01, and the examples of raises, of marks, of retirements and of pass-only delegations, on bytes: the calls on bytes followed down a list from the block that open writes. Assumes nothing.
use Rattle.std.specs.Prelude.{◌≡◌, List, [], ◌∷◌, ◌++◌, map, ℕ, ◌+◌, length, take, drop}
use Rattle.rules.specs.Call.{Call, retire}
use Rattle.rules.specs.Examples.{Line, line, Example, leaving, leaving_idle, passing, Shown}
use Rattle.block.specs.Layout.{retired_at, retired_size, records_at, record_size, kind_byte}
use Rattle.block.specs.Block.{decode}
use Rattle.slips.specs.Slip.{Effect}
use Rattle.demands.specs.History.{asks, trace_on, block_at}

-- what a call came to as the program prints it: refusal and three answers
abbrev pub line_on : Effect → Line
line_on e = let r = e.result in line r.refusal r.first r.second r.third

-- what the calls on bytes make of an example; the delegations that stand afterwards are read from the last block
abbrev pub computed_on : Example → Shown
computed_on e =
    let qs = map (asks []) (e.given ++ e.calls) in
    let rs = trace_on qs in
    record {
      refusals = map (λ r. r.result.refusal) (take (length e.given) rs);
      printed = map line_on (drop (length e.given) rs);
      standing = (decode (block_at qs (length qs))).delegations;
    }

-- the bytes of the bits after the first n calls
abbrev pub bits_after : List Call → ℕ → List ℕ
bits_after cs n = take retired_size (drop retired_at (block_at (map (asks []) cs) n))

-- subject 1 is retired by the tenth call, subject 9 by another tenth: bit 1 of the first byte, bit 1 of the second
pub record RetiredBytes : Type 0 where
  pub one : bits_after (leaving.given ++ (retire 0 1 ∷ [])) 10 ≡ 2 ∷ 0 ∷ 0 ∷ 0 ∷ 0 ∷ 0 ∷ 0 ∷ 0 ∷ []
  pub nine : bits_after (leaving_idle.given ++ (retire 0 9 ∷ [])) 10 ≡ 0 ∷ 2 ∷ 0 ∷ 0 ∷ 0 ∷ 0 ∷ 0 ∷ 0 ∷ []

-- the bytes of the first record after the first n calls
abbrev pub first_record : List Call → ℕ → List ℕ
first_record cs n = take record_size (drop records_at (block_at (map (asks []) cs) n))

-- 0-1, pass-only, at 3 and then at 0: byte 143 of the block is 1
pub record PassBytes : Type 0 where
  pub place : records_at + kind_byte ≡ 143
  pub granted : first_record passing.given 4 ≡ 0 ∷ 1 ∷ 3 ∷ 1 ∷ 0 ∷ 0 ∷ 0 ∷ 0 ∷ []
  pub lowered : first_record (passing.given ++ passing.calls) 10 ≡ 0 ∷ 1 ∷ 0 ∷ 1 ∷ 0 ∷ 0 ∷ 0 ∷ 0 ∷ []
