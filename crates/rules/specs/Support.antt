-- Support (document 01, 'Support chains and reach'; source 004, Definitions 1 and 5). Grants, rounds, the chain call and remainders all go by these definitions. Assumes nothing.
use Rattle.std.specs.Prelude.{List, ℕ, ℤ, pos}
use Rattle.rules.specs.List.{◌∈◌}
use Rattle.rules.specs.Limit.{◌≼◌}
use Rattle.rules.specs.Register.{Delegation, Register}
use Rattle.rules.specs.Chain.{limit, IsChain}
use Rattle.rules.specs.Reach.{reach}

-- the reach that counts for a delegation: that of its pair
unfoldable pub allowed : List ℤ → Register → Delegation → ℤ
allowed t R d = reach t R d.giver d.receiver

-- some chain of its pair carries the delegation's weight
unfoldable pub Carried : List ℤ → Register → Delegation → Type 0
Carried t R d = (ds : List Delegation) × IsChain t R d.giver d.receiver ds × (pos d.weight ≼ limit t ds)

-- every delegation is carried
abbrev pub Supported : List ℤ → Register → Type 0
Supported t R = (d : Delegation) → d ∈ R.delegations → Carried t R d

-- what the chain call may write for a pair whose weight stands at w: a chain of the pair that carries w
abbrev pub ChainFor : List ℤ → Register → ℕ → ℕ → ℤ → List Delegation → Type 0
ChainFor t R g r w ds = IsChain t R g r ds × (w ≼ limit t ds)
