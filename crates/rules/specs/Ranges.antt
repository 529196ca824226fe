-- How large the answers of an accepted call can be (document 01, 'Calls'; document 02, C-15 and C-16). Assumes nothing.
use Rattle.std.specs.Prelude.{◌≡◌, ℕ, ◌+◌, ◌≤◌, T, ℤ, pos}
use Rattle.rules.specs.Limit.{◌≼◌, from_none}
use Rattle.rules.specs.Call.{Call, enrol, grant, revoke, downgrade, ask_reach, ask_use, set_marks, retire}

-- a number from low to high
abbrev pub FromTo : ℕ → ℕ → ℤ → Type 0
FromTo low high z = (n : ℕ) × (z ≡ pos n) × (low ≤ n) × (n ≤ high)

-- an answer that the call does not use
abbrev pub Unused : ℤ → Type 0
Unused z = z ≡ pos 0

-- where rounds follow: dropped and lowered together at most the delegations, and at most so many rounds
abbrev pub CutInRange : ℕ → ℤ → ℤ → ℤ → Type 0
CutInRange most a b c = ((m : ℕ) × (n : ℕ) × (a ≡ pos m) × (b ≡ pos n) × (m + n ≤ 256)) × FromTo 1 most c

-- the first, second and third answer
abbrev pub InRange : Call → ℤ → ℤ → ℤ → Type 0
InRange (enrol m) a b c = FromTo 1 63 a × Unused b × Unused c
InRange (grant d) a b c = FromTo 1 256 a × Unused b × Unused c
InRange (revoke y g r) a b c = CutInRange 511 a b c
InRange (downgrade y g r w) a b c = CutInRange 511 a b c
InRange (ask_reach g r) a b c = T (from_none a) × (a ≼ pos 255) × Unused b × Unused c
InRange (ask_use r) a b c = FromTo 0 1 a × Unused b × Unused c
InRange (set_marks y s m) a b c = CutInRange 512 a b c
InRange (retire y s) a b c = CutInRange 512 a b c
