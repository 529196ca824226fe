-- Two-byte numbers, numbers of any width, and values of a fixed width one after another. Assumes nothing.
use Rattle.std.specs.Prelude.{Bool, true, cond, ◌&&◌, List, [], ◌∷◌, ◌++◌, ℕ, zero, suc, ◌+◌, ◌*◌, ◌-◌, ◌/◌, ◌%◌, ◌<◌, eqb, length, get_or, drop, replicate}
use Rattle.rules.specs.List.{tabulate}

-- every number of the list is a byte
abbrev pub IsBytes : List ℕ → Type 0
IsBytes s = (i : ℕ) → get_or s i 0 < 256

-- the two-byte number at i, low byte first
abbrev pub two : List ℕ → ℕ → ℕ
two s i = get_or s i 0 + get_or s (i + 1) 0 * 256

-- the two bytes of a number
abbrev pub two_bytes : ℕ → List ℕ
two_bytes n = (n % 256) ∷ (n / 256 % 256) ∷ []

-- the number of k bytes at i, low byte first, and its k bytes
abbrev pub wide : ℕ → List ℕ → ℕ → ℕ
wide zero s i = 0
wide (suc k) s i = get_or s i 0 + 256 * wide k s (suc i)

abbrev pub wide_bytes : ℕ → ℕ → List ℕ
wide_bytes zero n = []
wide_bytes (suc k) n = (n % 256) ∷ wide_bytes k (n / 256)

-- the first n values of width w, each read from where it begins
abbrev pub read_all : {A : Type 0} → (List ℕ → A) → ℕ → List ℕ → ℕ → List A
read_all f w s n = tabulate (λ k. f (drop (w * k) s)) 0 n

-- zeros after it, up to n bytes
abbrev pub padded : ℕ → List ℕ → List ℕ
padded n s = s ++ replicate (n - length s) 0

-- the test f at i, i + 1, and so on: n places
abbrev pub all_from : (ℕ → Bool) → ℕ → ℕ → Bool
all_from f i zero = true
all_from f i (suc n) = f i && all_from f (suc i) n

-- the n bytes from i on are zero
abbrev pub zeros : List ℕ → ℕ → ℕ → Bool
zeros s i n = all_from (λ k. eqb (get_or s k 0) 0) i n

-- how many elements at the front pass a test
abbrev pub leading : {A : Type 0} → (A → Bool) → List A → ℕ
leading f [] = zero
leading f (x ∷ xs) = cond (f x) (suc (leading f xs)) zero
