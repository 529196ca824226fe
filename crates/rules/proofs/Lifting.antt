-- Nothing is lifted by a change that no test turns back, nor by the rounds that follow it. Assumes nothing.
use mathlib.Core.Path.{◌≡◌, refl, sym, ap, subst, ◌∙◌}
use mathlib.Core.Bool.{Bool, true, false, not, cond}
use mathlib.Core.List.{List, ◌++◌}
use Prim.Native.Nat.{ℕ, suc, ◌<◌}
use native.Mathlib.Omega.{arith}
use lib.Dec.{T, nleb→lt}
use lib.IntN.{ℤ}
use Rattle.rules.specs.List.{◌∈◌, filter}
use Rattle.rules.specs.Limit.{code}
use Rattle.rules.specs.Register.{Delegation, Register, reweigh, with_delegations}
use Rattle.rules.specs.Pair.{is_pair, weight_at, set_for}
use Rattle.rules.specs.Cut.{Change, removal, lowering, named, touches, changed}
use Rattle.rules.specs.Remainder.{AtMost, LiftsNothing}
use Rattle.rules.specs.WellFormed.{Rising, WellFormed}
use Rattle.rules.specs.Call.{Call, enrol, grant, revoke, downgrade, ask_reach, ask_use, set_marks, retire, Makes}
use Rattle.rules.specs.Refusal.{passed, held}
use Rattle.rules.proofs.Lists.{filter_mem, map_mem}
use Rattle.rules.proofs.AtMost.{AtMost_refl, AtMost_reweigh}
use Rattle.rules.proofs.Rounds.{lifts_refl}
use Rattle.rules.proofs.Refusals.{Passes}
use Rattle.rules.proofs.Pairs.{test_pair, weight_one}

-- some of the delegations
filtered_lifts : (R : Register) (p : Delegation → Bool) → LiftsNothing R (with_delegations R (filter p R.delegations))
filtered_lifts R p d m = (d, (filter_mem p R.delegations m).0, AtMost_refl d)

removed_lifts : (R : Register) (g r : ℕ) → LiftsNothing R (named R (removal g r))
unfolding named
removed_lifts R g r = filtered_lifts R (λ (x : Delegation). not (is_pair g r x))

-- a weight below the one that stands
lowered_lifts : (R : Register) (g r w : ℕ) → Rising R.delegations → suc w < code (weight_at R.delegations g r) → LiftsNothing R (named R (lowering g r w))
unfolding named
lowered_lifts R g r w rising l d m =
    let (e, n, q) = map_mem (set_for g r w) R.delegations m in
    (e, n, subst (λ (x : Delegation). AtMost x e) (sym q) (go e n (is_pair g r e) refl))
  where
    go : (e : Delegation) → e ∈ R.delegations → (b : Bool) → is_pair g r e ≡ b → AtMost (cond b (reweigh e w) e) e
    go e n false s = AtMost_refl e
    go e n true s =
        let (x, y) = test_pair g r e (subst T (sym s) tt) in
        let k = (λ j. weight_at R.delegations (sym x j) (sym y j)) ∙ weight_one rising n in
        AtMost_reweigh e w (omega (arith, ap code k))

-- the change that a call makes
pub changed_lifts : (t : List ℤ) (R : Register) (c : Call) (k : Change) → Makes c k → Passes (passed c ++ held t R c) → WellFormed R → LiftsNothing R (changed R k)
unfolding passed held
changed_lifts t R (enrol m) k i p f = absurd i
changed_lifts t R (grant d) k i p f = absurd i
changed_lifts t R (revoke y g r) k i p f = subst (λ (x : Change). LiftsNothing R (changed R x)) (sym i) (removed_lifts R g r)
changed_lifts t R (downgrade y g r w) k i p f =
    subst (λ (x : Change). LiftsNothing R (changed R x)) (sym i) (lowered_lifts R g r w f.rising (nleb→lt (code (weight_at R.delegations g r)) (suc w) (p 15)))
changed_lifts t R (ask_reach g r) k i p f = absurd i
changed_lifts t R (ask_use r) k i p f = absurd i
changed_lifts t R (set_marks y s m) k i p f = subst (λ (x : Change). LiftsNothing R (changed R x)) (sym i) (lifts_refl R)
changed_lifts t R (retire y s) k i p f = subst (λ (x : Change). LiftsNothing R (changed R x)) (sym i) (filtered_lifts R (λ (x : Delegation). not (touches s x)))
