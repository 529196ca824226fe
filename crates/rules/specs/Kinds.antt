-- What takes notice of a delegation's kind, and what doesn't (document 02, C-18). Assumes nothing.
use Rattle.std.specs.Prelude.{◌≡◌, false, List, map, ℕ, ℤ}
use Rattle.rules.specs.List.{◌∈◌}
use Rattle.rules.specs.Table.{TableRule}
use Rattle.rules.specs.Register.{Delegation, Register, granted, with_delegations}
use Rattle.rules.specs.Reach.{reach}
use Rattle.rules.specs.Order.{IsOrder}
use Rattle.rules.specs.Support.{allowed, ChainFor}
use Rattle.rules.specs.Pair.{stands}
use Rattle.rules.specs.Round.{round}
use Rattle.rules.specs.WellFormed.{WellFormed}
use Rattle.rules.specs.Refusal.{unsupported, chain_held}
use Rattle.rules.specs.Call.{Call, enrol, grant, revoke, downgrade, ask_reach, ask_use, set_marks, retire}
use Rattle.rules.specs.CallStep.{Outcome, call_step}

-- the delegation made ordinary, the register with all made so, the outcome with its register so
abbrev pub ordinary : Delegation → Delegation
ordinary d = granted d.giver d.receiver d.weight d.need d.bar 0

abbrev pub all_ordinary : Register → Register
all_ordinary R = with_delegations R (map ordinary R.delegations)

abbrev pub ordinary_left : Outcome → Outcome
ordinary_left o = record { refusal = o.refusal; first = o.first; second = o.second; third = o.third; left = all_ordinary o.left }

-- the call does not ask for kinds: it is no use, and no grant for a pair that stands
abbrev pub NotByKind : Register → Call → Type 0
NotByKind R (enrol m) = Unit {0}
NotByKind R (grant d) = stands R d.giver d.receiver ≡ false
NotByKind R (revoke y g r) = Unit {0}
NotByKind R (downgrade y g r w) = Unit {0}
NotByKind R (ask_reach g r) = Unit {0}
NotByKind R (ask_use r) = ⊥
NotByKind R (set_marks y s m) = Unit {0}
NotByKind R (retire y s) = Unit {0}

-- what R and S have in common, where they differ in kinds alone
pub record SameButKinds (t : List ℤ) (R S : Register) : Type 0 where
  pub reach : (u v : ℕ) → reach t R u v ≡ reach t S u v
  pub allowed : (d : Delegation) → allowed t R d ≡ allowed t S d
  -- a round leaves the same weights
  pub round : all_ordinary (round t R) ≡ all_ordinary (round t S)
  -- 18, and what turns the chain call back
  pub unsupported : unsupported t R ≡ unsupported t S
  pub chain : (g r : ℕ) → chain_held t R g r ≡ chain_held t S g r
  -- what the order call may write
  pub order : (v : ℕ) (ws : List ℕ) → IsOrder t R v ws → IsOrder t S v ws
  -- what the chain call may write: the same links but for kinds
  pub chains : (g r : ℕ) (w : ℤ) (ds : List Delegation) → ChainFor t R g r w ds → (es : List Delegation) × ChainFor t S g r w es × (map ordinary ds ≡ map ordinary es)
  -- refusal, answers and all that is left but kinds
  pub call : (c : Call) → NotByKind R c → ordinary_left (call_step t R c) ≡ ordinary_left (call_step t S c)

abbrev pub KindsUnnoticed : Type 0
KindsUnnoticed = (t : List ℤ) (R S : Register) → all_ordinary R ≡ all_ordinary S → SameButKinds t R S

-- over any call, refused or not, a pair that stands before and after it keeps its kind
abbrev pub KindsStay : Type 0
KindsStay = (t : List ℤ) → TableRule t → (R : Register) → WellFormed R → (c : Call) (d e : Delegation) → d ∈ R.delegations → e ∈ (call_step t R c).left.delegations
    → d.giver ≡ e.giver → d.receiver ≡ e.receiver → d.kind ≡ e.kind
