-- Registers (document 01, 'Subjects, marks, weights'; document 02, C-16 and C-18; source 004, section 3): one right of one owner, who is subject 0. Assumes nothing.
use Rattle.std.specs.Prelude.{Bool, List, [], ◌∷◌, ℕ, get_or}
use Rattle.rules.specs.Bits.{is_set}

-- weight: how many further steps the right may travel, 255 unlimited. need and bar (document 01's terms): the marks a receiver must and must not have. kind: 0 ordinary, 1 pass-only, whose receiver may pass the right on and not use it
pub record Delegation : Type 0 where
  pub giver : ℕ
  pub receiver : ℕ
  pub weight : ℕ
  pub need : ℕ
  pub bar : ℕ
  pub kind : ℕ

-- how many subjects are enrolled; the marks (document 01's term) of each, a number read as bits; those who are retired, subject s by bit s; the standing delegations
pub record Register : Type 0 where
  pub subjects : ℕ
  pub marks : List ℕ
  pub retired : ℕ
  pub delegations : List Delegation

abbrev pub marks_of : Register → ℕ → ℕ
marks_of R v = get_or R.marks v 0

abbrev pub is_retired : Register → ℕ → Bool
is_retired R s = is_set R.retired s

-- the delegation with these numbers
abbrev pub granted : (giver receiver weight need bar kind : ℕ) → Delegation
granted g r w n b k = record { giver = g; receiver = r; weight = w; need = n; bar = b; kind = k }

-- its numbers
abbrev pub fields : Delegation → List ℕ
fields d = d.giver ∷ d.receiver ∷ d.weight ∷ d.need ∷ d.bar ∷ d.kind ∷ []

-- the delegation at another weight
abbrev pub reweigh : Delegation → ℕ → Delegation
reweigh d w = record { giver = d.giver; receiver = d.receiver; weight = w; need = d.need; bar = d.bar; kind = d.kind }

-- the register with other delegations
abbrev pub with_delegations : Register → List Delegation → Register
with_delegations R ds = record { subjects = R.subjects; marks = R.marks; retired = R.retired; delegations = ds }

-- the register with other marks
abbrev pub with_marks : Register → List ℕ → Register
with_marks R ms = record { subjects = R.subjects; marks = ms; retired = R.retired; delegations = R.delegations }

-- the register with others retired
abbrev pub with_retired : Register → ℕ → Register
with_retired R n = record { subjects = R.subjects; marks = R.marks; retired = n; delegations = R.delegations }

-- what is read where no delegation is
abbrev pub no_delegation : Delegation
no_delegation = granted 0 0 0 0 0 0
