-- What a call returns and leaves, on a register (document 01, 'Calls'; document 02, C-12, C-15, C-16 and C-18). Assumes nothing.
use Rattle.std.specs.Prelude.{Bool, true, false, cond, ◌&&◌, ◌||◌, List, [], ◌∷◌, ℕ, ltb, eqb, length, ℤ, pos}
use Rattle.rules.specs.Register.{Delegation, Register, with_delegations}
use Rattle.rules.specs.Reach.{reach}
use Rattle.rules.specs.Pair.{stands, reweighed, opens}
use Rattle.rules.specs.Round.{settle, rounds}
use Rattle.rules.specs.Cut.{removal, lowering, cutting, marking, retirement, changed, dropped, lowered}
use Rattle.rules.specs.Call.{Call, enrol, grant, revoke, downgrade, ask_reach, ask_use, set_marks, retire, enrolled}
use Rattle.rules.specs.Refusal.{refusal_of}

-- the refusal number, 0 when accepted; the three answers; the register left
pub record Outcome : Type 0 where
  pub refusal : ℕ
  pub first : ℤ
  pub second : ℤ
  pub third : ℤ
  pub left : Register

abbrev pub answered : ℤ → ℤ → ℤ → Register → Outcome
answered a b c R = record { refusal = 0; first = a; second = b; third = c; left = R }

-- a refused call answers 0 and leaves the register as it found it
abbrev pub refused : ℕ → Register → Outcome
refused n R = record { refusal = n; first = pos 0; second = pos 0; third = pos 0; left = R }

-- d before e: by giver, then receiver, as a test
abbrev pub before : Delegation → Delegation → Bool
before d e = ltb d.giver e.giver || (eqb d.giver e.giver && ltb d.receiver e.receiver)

-- d at its place
abbrev pub insert : Delegation → List Delegation → List Delegation
insert d [] = d ∷ []
insert d (e ∷ es) = cond (before d e) (d ∷ e ∷ es) (e ∷ insert d es)

-- the register with d granted: the weight of its pair raised to d's, or d added
abbrev pub after_grant : Register → Delegation → Register
after_grant R d = cond (stands R d.giver d.receiver) (reweighed R d.giver d.receiver d.weight) (with_delegations R (insert d R.delegations))

-- what rounds answer and leave, from the register C after the change that they follow
unfoldable pub cut : List ℤ → Register → Outcome
cut t C =
    let s = settle t C in
    answered (pos (dropped C s.left)) (pos (lowered C s.left)) (pos (rounds s)) s.left

-- a call that is not refused
unfoldable pub accepted : List ℤ → Register → Call → Outcome
accepted t R (enrol m) = answered (pos R.subjects) (pos 0) (pos 0) (enrolled R m)
accepted t R (grant d) =
    let S = after_grant R d in
    answered (pos (length S.delegations)) (pos 0) (pos 0) S
accepted t R (revoke y g r) = cut t (changed R (cutting (removal g r)))
accepted t R (downgrade y g r w) = cut t (changed R (cutting (lowering g r w)))
accepted t R (ask_reach g r) = answered (reach t R g r) (pos 0) (pos 0) R
accepted t R (ask_use r) = answered (pos (cond (eqb r 0 || opens r R.delegations) 1 0)) (pos 0) (pos 0) R
accepted t R (set_marks y s m) = cut t (changed R (marking s m))
accepted t R (retire y s) = cut t (changed R (retirement s))

unfoldable pub call_step : List ℤ → Register → Call → Outcome
call_step t R c = let n = refusal_of t R c in elim (eqb n 0) [ true ↦ accepted t R c | false ↦ refused n R ]
