-- Well-formed registers: those that a block can hold (document 01, 'The block'; document 02, C-16 and C-18). Assumes nothing.
use Rattle.std.specs.Prelude.{◌≡◌, ◌≢◌, ◌⊎◌, not, List, [], ◌∷◌, ℕ, ◌≤◌, ◌<◌, T, length, get_or}
use Rattle.std.specs.Int.Bits.{bit_and}
use Rattle.rules.specs.List.{◌∈◌}
use Rattle.rules.specs.Register.{Delegation, Register, marks_of, is_retired}

-- by giver, then receiver
abbrev pub Before : Delegation → Delegation → Type 0
Before d e = (d.giver < e.giver) ⊎ ((d.giver ≡ e.giver) × (d.receiver < e.receiver))

-- strictly rising
abbrev pub Rising : List Delegation → Type 0
Rising [] = Unit {0}
Rising (d ∷ ds) = ((e : Delegation) → e ∈ ds → Before d e) × Rising ds

-- what each delegation keeps to, with n subjects enrolled
pub record DelegationFormed (n : ℕ) (d : Delegation) : Type 0 where
  pub giver : d.giver < n
  pub receiver : d.receiver < n
  pub differ : d.giver ≢ d.receiver
  pub not_owner : d.receiver ≢ 0
  pub weight : d.weight ≤ 255
  pub need : d.need ≤ 65535
  pub bar : d.bar ≤ 65535
  pub disjoint : bit_and d.need d.bar ≡ 0
  pub kind : d.kind ≤ 1

-- a retired subject is enrolled, is not the owner and has no marks; no delegation is to or from it
abbrev pub RetiredFormed : Register → ℕ → Type 0
RetiredFormed R s = (s < R.subjects) × (s ≢ 0) × (marks_of R s ≡ 0)

abbrev pub Apart : Register → Delegation → Type 0
Apart R d = T (not (is_retired R d.giver)) × T (not (is_retired R d.receiver))

pub record WellFormed (R : Register) : Type 0 where
  pub some : 1 ≤ R.subjects
  pub most : R.subjects ≤ 64
  pub marked : length R.marks ≡ R.subjects
  pub marks : (m : ℕ) → m ∈ R.marks → m ≤ 65535
  pub owner : get_or R.marks 0 0 ≡ 0
  pub few : length R.delegations ≤ 256
  pub rising : Rising R.delegations
  pub each : (d : Delegation) → d ∈ R.delegations → DelegationFormed R.subjects d
  pub retired : (s : ℕ) → T (is_retired R s) → RetiredFormed R s
  pub apart : (d : Delegation) → d ∈ R.delegations → Apart R d
