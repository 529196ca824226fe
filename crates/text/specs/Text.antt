-- Numbers and lines as text (document 01, 'The call file'): decimal, no leading zero, one space between values, each line ended by byte 10. Assumes nothing.
use Rattle.std.specs.Prelude.{Bool, true, false, List, [], ◌∷◌, ◌++◌, ℕ, zero, suc, ◌+◌, ◌/◌, ◌%◌, ◌≤◌, ltb, ℤ, pos, negsuc}

-- the decimal digits of n, the most significant first, in at most k steps; every k above n gives all of them
abbrev pub digits_below : ℕ → ℕ → List ℕ
digits_below zero n = []
digits_below (suc k) n = elim (ltb n 10) [ true ↦ (48 + n) ∷ [] | false ↦ digits_below k (n / 10) ++ ((48 + n % 10) ∷ []) ]

unfoldable pub digits : ℕ → List ℕ
digits n = digits_below (suc n) n

-- a minus sign before the digits of a negative number
abbrev pub number : ℤ → List ℕ
number (pos n) = digits n
number (negsuc n) = 45 ∷ digits (suc n)

-- what follows a value: a space where others come after it, byte 10 at the line's end
abbrev pub after : List ℤ → ℕ
after [] = 10
after (z ∷ zs) = 32

abbrev pub line : List ℤ → List ℕ
line [] = []
line (z ∷ zs) = number z ++ (after zs ∷ line zs)

-- the largest number
abbrev pub most : ℕ
most = 4294967295

-- the numbers of a text: up to the largest, and down to its negative where a sign is allowed
abbrev pub Allowed : Bool → ℤ → Type 0
Allowed signed (pos n) = n ≤ most
Allowed true (negsuc n) = suc n ≤ most
Allowed false (negsuc n) = ⊥

abbrev pub AllAllowed : Bool → List ℤ → Type 0
AllAllowed signed [] = Unit {0}
AllAllowed signed (z ∷ zs) = Allowed signed z × AllAllowed signed zs
