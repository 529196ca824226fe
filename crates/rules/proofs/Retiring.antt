-- Every call leaves a retired subject retired. Assumes nothing.
use mathlib.Core.Path.{◌≡◌, refl, sym, ap, subst}
use mathlib.Core.Bool.{Bool, true, false, cond}
use mathlib.Core.List.{List}
use Prim.Native.Nat.{ℕ, zero, suc}
use lib.Dec.{T}
use lib.IntN.{ℤ}
use Rattle.rules.specs.Bits.{is_set}
use Rattle.rules.specs.Register.{Delegation, Register, is_retired, with_delegations}
use Rattle.rules.specs.Pair.{stands, reweighed}
use Rattle.rules.specs.Round.{round, settle, SettlesIn}
use Rattle.rules.specs.Cut.{cutting, marking, retirement, removal, lowering, named, changed}
use Rattle.rules.specs.Call.{Call, enrol, grant, revoke, downgrade, ask_reach, ask_use, set_marks, retire}
use Rattle.rules.specs.CallStep.{Outcome, insert, after_grant, cut, accepted, call_step}
use Rattle.rules.proofs.Rounds.{settle_right}
use Rattle.rules.proofs.Calls.{call_step_cases}
use Rattle.rules.proofs.Retired.{retired_still}

settles_retired : (t : List ℤ) (n : ℕ) (C F : Register) → SettlesIn t n C F → F.retired ≡ C.retired
settles_retired t zero C F s = ap (λ (R : Register). R.retired) (sym s.0)
settles_retired t (suc n) C F s = settles_retired t n (round t C) F s.1

cut_retired : (t : List ℤ) (C : Register) → (cut t C).left.retired ≡ C.retired
unfolding cut
cut_retired t C = settles_retired t (settle t C).changed C (settle t C).left (settle_right t C)

-- the rounds keep the bits of the register after the change
module _ (t : List ℤ) (R : Register) (s : ℕ) (h : T (is_retired R s)) where
  after_cut : (C : Register) → T (is_retired C s) → T (is_retired (cut t C).left s)
  after_cut C k = subst (λ (n : ℕ). T (is_set n s)) (sym (cut_retired t C)) k

  granted_retired : (d : Delegation) → (after_grant R d).retired ≡ R.retired
  granted_retired d = go (stands R d.giver d.receiver)
    where
      go : (b : Bool) → (cond b (reweighed R d.giver d.receiver d.weight) (with_delegations R (insert d R.delegations))).retired ≡ R.retired
      go true = refl
      go false = refl

  accepted_retired : (c : Call) → T (is_retired (accepted t R c).left s)
  unfolding accepted named
  accepted_retired (enrol m) = h
  accepted_retired (grant d) = subst (λ (n : ℕ). T (is_set n s)) (sym (granted_retired d)) h
  accepted_retired (revoke y g r) = after_cut (changed R (cutting (removal g r))) h
  accepted_retired (downgrade y g r w) = after_cut (changed R (cutting (lowering g r w))) h
  accepted_retired (ask_reach g r) = h
  accepted_retired (ask_use r) = h
  accepted_retired (set_marks y v m) = after_cut (changed R (marking v m)) h
  accepted_retired (retire y v) = after_cut (changed R (retirement v)) (retired_still R.retired v s h)

  pub retired_stays : (c : Call) → T (is_retired (call_step t R c).left s)
  retired_stays c = call_step_cases t R c (λ (o : Outcome). T (is_retired o.left s)) (λ z p. accepted_retired c) (λ n. h)
