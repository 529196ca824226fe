-- The weights that the records of a block keep where a subject's are removed. Assumes nothing.
use Rattle.std.specs.Prelude.{◌≡◌, cond, List, ℕ, ◌<◌, ℤ, pos, get_or}
use Rattle.rules.specs.Limit.{none}
use Rattle.rules.specs.Register.{Delegation}
use Rattle.rules.specs.Cut.{touches}
use Rattle.block.specs.Records.{delegation_at}

-- none where the delegation is to or from s
abbrev pub weight_without : ℕ → Delegation → ℤ
weight_without s d = cond (touches s d) none (pos d.weight)

-- the first n places of ws have the weights that the first n records of b keep without s
abbrev pub WeightsWithout : List ℕ → ℕ → ℕ → List ℤ → Type 0
WeightsWithout b s n ws = (k : ℕ) → k < n → get_or ws k (pos 0) ≡ weight_without s (delegation_at b k)
