-- Three answers as twelve bytes, each signed, four bytes, low byte first (document 01, 'Calls'). Assumes nothing.
use Rattle.std.specs.Prelude.{cond, List, [], ◌∷◌, ◌++◌, ℕ, ◌+◌, ◌*◌, ◌-◌, ◌/◌, ◌%◌, ltb, get_or, ℤ, pos, negsuc}

-- the bytes of an answer, and of the three
abbrev pub answer_size : ℕ
answer_size = 4

abbrev pub answers_size : ℕ
answers_size = 12

-- the bits of a signed 32-bit number, two's complement: -1 is 4294967295. negsuc n is -1 - n
abbrev pub bits : ℤ → ℕ
bits (pos n) = n
bits (negsuc n) = 4294967295 - n

-- the four bytes of a number
abbrev pub four_bytes : ℕ → List ℕ
four_bytes n = (n % 256) ∷ (n / 256 % 256) ∷ (n / 65536 % 256) ∷ (n / 16777216 % 256) ∷ []

unfoldable pub answer_bytes : ℤ → ℤ → ℤ → List ℕ
answer_bytes a b c = four_bytes (bits a) ++ (four_bytes (bits b) ++ four_bytes (bits c))

-- ── read back ──

-- the four-byte number at i, low byte first
abbrev pub four : List ℕ → ℕ → ℕ
four s i = get_or s i 0 + get_or s (i + 1) 0 * 256 + get_or s (i + 2) 0 * 65536 + get_or s (i + 3) 0 * 16777216

-- the signed number that has these bits
abbrev pub signed : ℕ → ℤ
signed n = cond (ltb n 2147483648) (pos n) (negsuc (4294967295 - n))

-- answer k: 0 the first, 1 the second, 2 the third
abbrev pub answer_in : List ℕ → ℕ → ℤ
answer_in s k = signed (four s (answer_size * k))
