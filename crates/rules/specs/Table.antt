-- The step table (document 01, 'The step table'; source 004, section 3, the decrement): how much a right falls at each step, indexed by weight.
-- Every other definition takes the table as a parameter. Assumes nothing.
use Rattle.std.specs.Prelude.{◌≡◌, Bool, true, cond, ◌&&◌, List, [], ◌∷◌, ℕ, zero, suc, ◌≤◌, ◌<◌, T, eqb, leb, length, get_or, ℤ, pos, negsuc}
use Rattle.rules.specs.List.{tabulate}
use Rattle.rules.specs.Limit.{none, code, ◌≼◌, smaller, from_none}

-- the entry for a weight
abbrev pub entry : List ℤ → ℕ → ℤ
entry t w = get_or t w none

-- the entry for a limit; past none there is none
abbrev pub entry_at : List ℤ → ℤ → ℤ
entry_at t (pos n) = entry t n
entry_at t (negsuc n) = none

-- the limit after a delegation of weight w: the entry for the smaller of the limit and the weight
unfoldable pub next : List ℤ → ℤ → ℕ → ℤ
next t l w = entry_at t (smaller l (pos w))

-- what every table keeps to: 256 entries from -1 on, monotone, and falling except that 255 may stay 255
pub record TableRule (t : List ℤ) : Type 0 where
  pub size : length t ≡ 256
  pub low : (w : ℕ) → w < 256 → T (from_none (entry t w))
  pub rises : (w : ℕ) → w < 255 → entry t w ≼ entry t (suc w)
  pub falls : (w : ℕ) → w < 255 → code (entry t w) ≤ w
  pub last : entry t 255 ≼ pos 255

-- the test that decides the rule: x may stand at place i after p
abbrev pub fits : ℕ → ℤ → ℤ → Bool
fits i p x = from_none x && leb (code p) (code x) && leb (code x) (cond (eqb i 255) 256 i)

-- each entry may stand where it stands, counted from i, after p
abbrev pub ruled : ℕ → ℤ → List ℤ → Bool
ruled i p [] = true
ruled i p (x ∷ xs) = fits i p x && ruled (suc i) x xs

-- the test of a table
abbrev pub table_test : List ℤ → Bool
table_test t = eqb (length t) 256 && ruled 0 none t

-- m lets a right fall no faster than t
abbrev pub Below : List ℤ → List ℤ → Type 0
Below t m = (w : ℕ) → w < 256 → entry t w ≼ entry m w

-- document 01's own table: entry 0 is -1, entry n is n - 1 for 1 to 254, entry 255 is 255
unfoldable pub step : ℕ → ℤ
step zero = none
step (suc n) = cond (eqb n 254) (pos 255) (pos n)

unfoldable pub steps : List ℤ
steps = tabulate step 0 256
