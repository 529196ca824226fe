-- What one round on the register R answers and leaves, by the step table t (document 01, 'Calls', the cuts). Assumes nothing.
use Rattle.std.specs.Prelude.{◌≡◌, ◌≢◌, Bool, true, false, List, ℕ, ℤ}
use Rattle.rules.specs.Register.{Register}
use Rattle.rules.specs.Round.{round}
use Rattle.block.specs.Block.{encode}

-- whether it changed something, and the block afterwards
pub record RoundMade (t : List ℤ) (R : Register) (changed : Bool) (after : List ℕ) : Type 0 where
  pub left : after ≡ encode (round t R)
  pub same : changed ≡ false → round t R ≡ R
  pub change : changed ≡ true → round t R ≢ R
