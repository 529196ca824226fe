-- Registers whose numbers have room in a block, whatever rules they break (document 01, 'The block'; document 02, C-16 and C-18). Assumes nothing.
use Rattle.std.specs.Prelude.{◌≡◌, List, [], ℕ, ◌^◌, ◌≤◌, ◌<◌, length}
use Rattle.rules.specs.List.{◌∈◌}
use Rattle.rules.specs.Register.{Delegation, Register}
use Rattle.block.specs.Layout.{most_subjects, most_records}
use Rattle.block.specs.Block.{decode, encode}

-- each number has room in its byte, or its two bytes; each enrolled subject has a bit, and no other
pub record DelegationFits (d : Delegation) : Type 0 where
  pub giver : d.giver ≤ 255
  pub receiver : d.receiver ≤ 255
  pub weight : d.weight ≤ 255
  pub need : d.need ≤ 65535
  pub bar : d.bar ≤ 65535
  pub kind : d.kind ≤ 255

pub record Fits (R : Register) : Type 0 where
  pub most : R.subjects ≤ most_subjects
  pub marked : length R.marks ≡ R.subjects
  pub marks : (m : ℕ) → m ∈ R.marks → m ≤ 65535
  pub bits : R.retired < 2 ^ R.subjects
  pub few : length R.delegations ≤ most_records
  pub each : (d : Delegation) → d ∈ R.delegations → DelegationFits d

-- the bytes are such a register written
pub record Fitting (b : List ℕ) : Type 0 where
  pub fits : Fits (decode b)
  pub written : b ≡ encode (decode b)

-- no subject and no delegation: no well-formed register, but its numbers have room
abbrev pub empty : Register
empty = record { subjects = 0; marks = []; retired = 0; delegations = [] }
