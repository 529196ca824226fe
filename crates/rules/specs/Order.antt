-- The order of those from whom a right can come to a receiver, heaviest first (document 02, C-14): t is the step table, R the register, v the receiver. The limit of a subject is its reach for v; ws are the subjects already
-- written. Assumes nothing.
use Rattle.std.specs.Prelude.{◌≡◌, ◌≢◌, ◌⊎◌, List, [], ◌∷◌, ◌++◌, ℕ, ◌≤◌, ◌<◌, ℤ, nat_abs}
use Rattle.rules.specs.List.{◌∈◌, concat_map}
use Rattle.rules.specs.Limit.{none, code}
use Rattle.rules.specs.Table.{next}
use Rattle.rules.specs.Register.{Delegation, Register}
use Rattle.rules.specs.Condition.{Meets}
use Rattle.rules.specs.Reach.{reach}

-- the limit of s comes by one delegation from a subject already written
pub record Comes (t : List ℤ) (R : Register) (v : ℕ) (ws : List ℕ) (s : ℕ) : Type 0 where
  pub by : Delegation
  pub standing : by ∈ R.delegations
  pub from : by.giver ∈ ws
  pub to : by.receiver ≡ s
  pub met : Meets R v by
  pub limit : next t (reach t R by.giver v) by.weight ≡ reach t R s v

-- s is unwritten, its reach is not -1, and its limit comes so
pub record Due (t : List ℤ) (R : Register) (v : ℕ) (ws : List ℕ) (s : ℕ) : Type 0 where
  pub unwritten : (y : ℕ) → y ∈ ws → y ≢ s
  pub reached : reach t R s v ≢ none
  pub comes : Comes t R v ws s

-- s is heavier than y, or as heavy and of no higher number
abbrev pub Precedes : List ℤ → Register → ℕ → ℕ → ℕ → Type 0
Precedes t R v s y = (code (reach t R y v) < code (reach t R s v)) ⊎ ((reach t R y v ≡ reach t R s v) × (s ≤ y))

-- the owner first, then always the heaviest of those due, ties by lower number
pub data WrittenSo (t : List ℤ) (R : Register) (v : ℕ) : List ℕ → Type 0 where
  owner_first : WrittenSo t R v (0 ∷ [])
  heaviest_next : {ws : List ℕ} {s : ℕ} → WrittenSo t R v ws → Due t R v ws s → ((y : ℕ) → Due t R v ws y → Precedes t R v s y) → WrittenSo t R v (ws ++ (s ∷ []))

-- ws is the order for v: written so, and precisely the subjects whose reach is not -1
pub record IsOrder (t : List ℤ) (R : Register) (v : ℕ) (ws : List ℕ) : Type 0 where
  pub written : WrittenSo t R v ws
  pub reached : (s : ℕ) → s ∈ ws → reach t R s v ≢ none
  pub all : (s : ℕ) → reach t R s v ≢ none → s ∈ ws

-- two bytes for each: the subject and its limit
abbrev pub order_bytes : List ℤ → Register → ℕ → List ℕ → List ℕ
order_bytes t R v ws = concat_map (λ s. s ∷ nat_abs (reach t R s v) ∷ []) ws
