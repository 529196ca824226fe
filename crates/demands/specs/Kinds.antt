-- Kinds along every list of calls (document 02, C-18). Assumes nothing.
use Rattle.std.specs.Prelude.{◌≡◌, List, ℕ}
use Rattle.rules.specs.List.{◌∈◌}
use Rattle.rules.specs.Register.{Delegation}
use Rattle.block.specs.Block.{decode}
use Rattle.demands.specs.History.{Asked, asked_on, bytes_left, block_at}
use Rattle.demands.specs.Retired.{NotRead}

-- whatever list of calls led to a block, a further call that is no read leaves every pair that stands before and after it its kind
abbrev pub KindsKept : Type 0
KindsKept = (qs : List Asked) (i : ℕ) (q : Asked) → NotRead q → let b = block_at qs i in
    (d e : Delegation) → d ∈ (decode b).delegations → e ∈ (decode (bytes_left (asked_on b q))).delegations → d.giver ≡ e.giver → d.receiver ≡ e.receiver → d.kind ≡ e.kind
