-- What an accepted grant leaves (document 01, 'Calls'; document 02, C-12). Assumes nothing.
use Rattle.std.specs.Prelude.{◌≡◌, ◌⊎◌, ◌<◌}
use Rattle.rules.specs.List.{◌∈◌}
use Rattle.rules.specs.Register.{Delegation, Register, reweigh}
use Rattle.rules.specs.Remainder.{Within}

-- S is R with d granted: nothing is dropped, lighter or on other terms; d stands; all else stood before as it does now
pub record GrantedIn (R S : Register) (d : Delegation) : Type 0 where
  pub within : Within R S
  pub standing : d ∈ S.delegations
  pub only : (e : Delegation) → e ∈ S.delegations → (e ∈ R.delegations) ⊎ (e ≡ d)

-- d raises e: all but the weight is the same, and that is larger
pub record Raises (d e : Delegation) : Type 0 where
  pub same : d ≡ reweigh e d.weight
  pub larger : e.weight < d.weight
