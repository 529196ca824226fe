-- Limits (document 01, 'Support chains and reach'): the small signed numbers -1 to 255. -1 is the sign for none, 255 is unlimited.
-- Source 004, Definition 3: the accumulated weight. Assumes nothing.
use Rattle.std.specs.Prelude.{Bool, true, false, cond, ℕ, zero, suc, ◌≤◌, min, leb, ℤ, pos, negsuc}

-- -1, the sign for none
abbrev pub none : ℤ
none = negsuc zero

-- a limit plus one: 0 for none, 1 for 0, 256 for 255. The order of limits is the order of these numbers
abbrev pub code : ℤ → ℕ
code (pos n) = suc n
code (negsuc n) = zero

-- at most, for two limits
infix 20 ◌≼◌
abbrev pub ◌≼◌ : ℤ → ℤ → Type 0
a ≼ b = code a ≤ code b

-- the smaller of two limits: none where either is none
abbrev pub smaller : ℤ → ℤ → ℤ
smaller (pos a) (pos b) = pos (min a b)
smaller (pos a) (negsuc n) = none
smaller (negsuc n) b = none

-- the larger of two limits
unfoldable pub larger : ℤ → ℤ → ℤ
larger a b = cond (leb (code a) (code b)) b a

-- a number from -1 on
unfoldable pub from_none : ℤ → Bool
from_none (pos n) = true
from_none (negsuc zero) = true
from_none (negsuc (suc n)) = false
