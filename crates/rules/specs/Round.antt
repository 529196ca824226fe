-- Rounds (document 01, 'Calls', the cuts; round is its term; source 004, Definition 4, the effective weight). Assumes nothing.
use Rattle.std.specs.Prelude.{◌≡◌, ◌≢◌, Bool, true, false, ◌&&◌, List, [], ◌∷◌, ℕ, zero, suc, ◌+◌, eqb, ℤ, pos, negsuc}
use Rattle.rules.specs.List.{concat_map}
use Rattle.rules.specs.Limit.{smaller}
use Rattle.rules.specs.Register.{Delegation, Register, fields, reweigh, with_delegations}
use Rattle.rules.specs.Support.{allowed}

-- the delegation at a weight; -1 removes it
abbrev pub placed : Delegation → ℤ → List Delegation
placed d (pos w) = reweigh d w ∷ []
placed d (negsuc n) = []

-- the delegation at the smaller of its weight and a reach
abbrev pub capped : Delegation → ℤ → List Delegation
capped d l = placed d (smaller (pos d.weight) l)

-- one round: all weights together, every reach from the register as the round began
abbrev pub round : List ℤ → Register → Register
round t R = with_delegations R (concat_map (λ d. capped d (allowed t R d)) R.delegations)

-- rounds up to the first that changes nothing, said without a bound: from C, n rounds change something one after another, and lead to F, which a round does not change
abbrev pub SettlesIn : List ℤ → ℕ → Register → Register → Type 0
SettlesIn t zero C F = (C ≡ F) × (round t C ≡ C)
SettlesIn t (suc n) C F = (round t C ≢ C) × SettlesIn t n (round t C) F

-- ── the same as a function ──

-- two lists of numbers are equal, as a test
abbrev pub equal : List ℕ → List ℕ → Bool
equal [] [] = true
equal [] (y ∷ ys) = false
equal (x ∷ xs) [] = false
equal (x ∷ xs) (y ∷ ys) = eqb x y && equal xs ys

-- two lists of delegations are equal, as a test
abbrev pub same : List Delegation → List Delegation → Bool
same [] [] = true
same [] (e ∷ es) = false
same (d ∷ ds) [] = false
same (d ∷ ds) (e ∷ es) = equal (fields d) (fields e) && same ds es

-- the register that the rounds leave, and how many of them changed something
pub record Settled : Type 0 where
  pub left : Register
  pub changed : ℕ

abbrev pub after : Settled → Settled
after s = record { left = s.left; changed = suc s.changed }

-- at most k rounds
abbrev pub settle_from : List ℤ → ℕ → Register → Settled
settle_from t zero R = record { left = R; changed = zero }
settle_from t (suc k) R =
    let S = round t R in
    elim (same S.delegations R.delegations) [ true ↦ record { left = R; changed = zero } | false ↦ after (settle_from t k S) ]

-- each round that changes something lowers this
abbrev pub total : List Delegation → ℕ
total [] = zero
total (d ∷ ds) = suc d.weight + total ds

unfoldable pub settle : List ℤ → Register → Settled
settle t R = settle_from t (suc (total R.delegations)) R

-- the first round that changes nothing counts too
abbrev pub rounds : Settled → ℕ
rounds s = suc s.changed
