-- The bits of a number. Assumes nothing.
use Rattle.std.specs.Prelude.{◌≡◌, ◌≢◌, Bool, ℕ, zero, suc, ◌/◌, ◌%◌, eqb}

-- bit y of n, the lowest is bit 0
abbrev pub bit : ℕ → ℕ → ℕ
bit n zero = n % 2
bit n (suc y) = bit (n / 2) y

abbrev pub is_set : ℕ → ℕ → Bool
is_set n y = eqb (bit n y) 1

-- m is n but for bit y, which is b
pub record BitPut (n y b m : ℕ) : Type 0 where
  pub here : bit m y ≡ b
  pub others : (w : ℕ) → y ≢ w → bit m w ≡ bit n w
