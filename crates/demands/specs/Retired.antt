-- Retired subjects along every list of calls (document 02, C-16 and C-17). Assumes nothing.
use Rattle.std.specs.Prelude.{◌≡◌, ◌≢◌, not, List, ℕ, ◌+◌, T, pos, take, drop}
use Rattle.rules.specs.List.{◌∈◌}
use Rattle.rules.specs.Register.{Delegation, Register, marks_of, is_retired}
use Rattle.rules.specs.Call.{enrol}
use Rattle.block.specs.Block.{decode}
use Rattle.steptable.specs.TableText.{ours}
use Rattle.register.specs.CallOn.{call_on}
use Rattle.demands.specs.History.{Asked, asks, reads, slips, takes_back, block_at}

-- a call, and no read, which puts another register in place
abbrev pub NotRead : Asked → Type 0
NotRead (asks text c) = Unit {0}
NotRead (reads text table) = ⊥
NotRead (slips text y k s) = Unit {0}
NotRead (takes_back text y s h) = Unit {0}

-- no delegation is to or from s, and s has no marks
pub record Idle (R : Register) (s : ℕ) : Type 0 where
  pub giver : (d : Delegation) → d ∈ R.delegations → d.giver ≢ s
  pub receiver : (d : Delegation) → d ∈ R.delegations → d.receiver ≢ s
  pub unmarked : marks_of R s ≡ 0

pub record RetiredRight : Type 0 where
  -- whoever is retired before call i is so k calls later, where none of these is a read
  pub stays : (qs : List Asked) (i k s : ℕ) → ((q : Asked) → q ∈ take k (drop i qs) → NotRead q) → T (is_retired (decode (block_at qs i)) s) → T (is_retired (decode (block_at qs (i + k))) s)
  -- and is idle, at every place of every list
  pub idle : (qs : List Asked) (i s : ℕ) → T (is_retired (decode (block_at qs i)) s) → Idle (decode (block_at qs i)) s
  -- the number that an enrolment answers is not a retired subject's
  pub new : (qs : List Asked) (i m n : ℕ) → let r = call_on ours (block_at qs i) (enrol m) in r.refusal ≡ 0 → r.first ≡ pos n → T (not (is_retired (decode (block_at qs i)) n))
