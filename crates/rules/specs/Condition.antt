-- Conditions (document 01, 'Subjects, marks, weights'; source 004, section 5). Assumes nothing.
use Rattle.std.specs.Prelude.{Bool, ◌&&◌, ℕ, T, eqb}
use Rattle.std.specs.Int.Bits.{bit_and}
use Rattle.rules.specs.Register.{Delegation, Register, marks_of}

-- the marks include all of need and none of bar
unfoldable pub meets : ℕ → ℕ → ℕ → Bool
meets marks need bar = eqb (bit_and marks need) need && eqb (bit_and marks bar) 0

-- subject v meets the condition of the delegation d
abbrev pub Meets : Register → ℕ → Delegation → Type 0
Meets R v d = T (meets (marks_of R v) d.need d.bar)
