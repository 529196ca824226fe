-- The place of a pair among the records. Assumes nothing.
use Rattle.std.specs.Prelude.{◌≡◌, not, List, ℕ}
use Rattle.rules.specs.Register.{granted}
use Rattle.rules.specs.CallStep.{before}
use Rattle.block.specs.Bytes.{leading}
use Rattle.block.specs.Block.{count_in}
use Rattle.block.specs.Records.{delegations_to}

-- how many records at the front the pair does not come before: where a delegation of it is put, and one past its own record where it stands
abbrev pub IsPlace : List ℕ → ℕ → ℕ → ℕ → Type 0
IsPlace b g r k = k ≡ leading (λ e. not (before (granted g r 0 0 0 0) e)) (delegations_to b (count_in b))
