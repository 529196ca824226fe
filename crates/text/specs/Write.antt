-- What is written into a buffer: bytes at a place, all others kept. Assumes nothing.
use Rattle.std.specs.Prelude.{◌≡◌, List, ◌++◌, ℕ, ◌+◌, ◌≤◌, length, take, drop}

-- the buffer with xs at `at`
unfoldable pub put : ℕ → List ℕ → List ℕ → List ℕ
put at xs buf = take at buf ++ (xs ++ drop (at + length xs) buf)

-- xs fits at `at`
abbrev pub Room : ℕ → List ℕ → List ℕ → Type 0
Room at xs buf = at + length xs ≤ length buf

-- xs was written at `at`; r is the place after it
pub record Written (at : ℕ) (xs before : List ℕ) (r : ℕ) (after : List ℕ) : Type 0 where
  pub next : r ≡ at + length xs
  pub bytes : after ≡ put at xs before
