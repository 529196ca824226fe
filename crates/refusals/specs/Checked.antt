-- What a call may rely on once some of its tests are passed. Assumes nothing.
use Rattle.std.specs.Prelude.{◌≡◌, true, List, [], ◌∷◌, ℕ, ◌≤◌, ◌<◌}
use Rattle.rules.specs.Call.{Call, enrol, grant, revoke, downgrade, ask_reach, ask_use, set_marks, retire}
use Rattle.block.specs.Block.{subjects_in}
use Rattle.block.specs.WellFormed.{well_formed}

-- each is a subject number
abbrev pub Subjects : List ℕ → Type 0
Subjects [] = Unit {0}
Subjects (x ∷ xs) = (x ≤ 63) × Subjects xs

-- the numbers of a call are within their ranges
abbrev pub InLimits : Call → Type 0
InLimits (enrol m) = m ≤ 65535
InLimits (grant d) = Subjects (d.giver ∷ d.receiver ∷ []) × (d.weight ≤ 255) × (d.need ≤ 65535) × (d.bar ≤ 65535) × (d.kind ≤ 1)
InLimits (revoke y g r) = Subjects (y ∷ g ∷ r ∷ [])
InLimits (downgrade y g r w) = Subjects (y ∷ g ∷ r ∷ []) × (w ≤ 255)
InLimits (ask_reach g r) = Subjects (g ∷ r ∷ [])
InLimits (ask_use r) = Subjects (r ∷ [])
InLimits (set_marks y s m) = Subjects (y ∷ s ∷ []) × (m ≤ 65535)
InLimits (retire y s) = Subjects (y ∷ s ∷ [])

-- past 1, the refusals by what was passed, and 8
pub record Checked (b : List ℕ) (c : Call) : Type 0 where
  pub formed : well_formed b ≡ true
  pub numbers : InLimits c

-- past 9: giver and receiver are enrolled
pub record BothEnrolled (b : List ℕ) (g r : ℕ) : Type 0 where
  pub formed : well_formed b ≡ true
  pub giver : g < subjects_in b
  pub receiver : r < subjects_in b

-- past all tests of the order call
pub record Receives (b : List ℕ) (v : ℕ) : Type 0 where
  pub formed : well_formed b ≡ true
  pub receiver : v < subjects_in b
