-- A cut as a call: the change that it makes, what it keeps, who may make it; and that an accepted one changes its register. Assumes nothing.
use mathlib.Core.Path.{◌≡◌, refl, sym, ap, subst, ◌∙◌}
use mathlib.Core.Logic.{◌⊎◌, inl, inr}
use mathlib.Core.Bool.{Bool, true, false, not, cond, ◌||◌}
use mathlib.Core.List.{List, ◌++◌}
use Prim.Native.Nat.{ℕ, zero, suc, ◌<◌}
use native.Mathlib.Omega.{arith}
use lib.Dec.{T, leb, eqb, eqb→eq, nleb→lt, ltb→lt, T_not}
use lib.IntN.{ℤ}
use Rattle.rules.specs.Limit.{code}
use Rattle.rules.specs.Register.{Delegation, Register, is_retired, reweigh}
use Rattle.rules.specs.Pair.{is_pair, weight_at, stands, set_for}
use Rattle.rules.specs.Cut.{Cut, cutting, removal, lowering, giver_of, named}
use Rattle.rules.specs.Remainder.{AtMost, LiftsNothing, Within, Best}
use Rattle.rules.specs.Call.{cut_call, Makes}
use Rattle.rules.specs.Refusal.{passed, held}
use Rattle.rules.proofs.Lists.{either, not_not, not_or_left, not_or_right, filter_mem, map_mem}
use Rattle.rules.proofs.Refusals.{Passes}
use Rattle.rules.proofs.Pairs.{IsPair, pair_test, test_pair, pair_found}

pub cut_makes : (y : ℕ) (k : Cut) → Makes (cut_call y k) (cutting k)
cut_makes y (removal g r) = refl
cut_makes y (lowering g r w) = refl

-- the named change leaves subjects, marks and retired subjects
named_same : (R : Register) (k : Cut) → ((named R k).subjects ≡ R.subjects) × ((named R k).marks ≡ R.marks) × ((named R k).retired ≡ R.retired)
unfolding named
named_same R (removal g r) = (refl, refl, refl)
named_same R (lowering g r w) = (refl, refl, refl)

-- so what an accepted cut leaves is within the register that it found
pub cut_within : (t : List ℤ) (R F : Register) (k : Cut) → Best t (named R k) F → LiftsNothing R F → Within F R
cut_within t R F k best lifts =
    let w = best.remainder.within in
    let (s, m, e) = named_same R k in
    record { subjects = w.subjects ∙ s; marks = w.marks ∙ m; retired = w.retired ∙ e; held = lifts }

-- the second of three tests of which none applies
middle_not : (a b c : Bool) → T (not (a || (b || (c || false)))) → T (not b)
middle_not a b c h = not_or_left b (c || false) (not_or_right a (b || (c || false)) h)

-- by is the giver or the owner
pub giver_or_owner : (y g : ℕ) → T (not (not (eqb y g || eqb y 0))) → (y ≡ 0) ⊎ (y ≡ g)
giver_or_owner y g h = go (either (eqb y g))
  where
    other : (a b : Bool) → T (not a) → T (a || b) → T b
    other true b n q = absurd n
    other false b n q = q

    go : T (eqb y g) ⊎ T (not (eqb y g)) → (y ≡ 0) ⊎ (y ≡ g)
    go (inl e) = inr (eqb→eq y g e)
    go (inr n) = inl (eqb→eq y 0 (other (eqb y g) (eqb y 0) n (not_not (eqb y g || eqb y 0) h)))

-- ── a cut that no test turns back ──
module _ (t : List ℤ) (R : Register) (y : ℕ) where
  pub may_cut : (k : Cut) → Passes (passed (cut_call y k) ++ held t R (cut_call y k)) → (y ≡ 0) ⊎ (y ≡ giver_of k)
  unfolding passed held
  may_cut (removal g r) p = giver_or_owner y g (p 14)
  may_cut (lowering g r w) p = giver_or_owner y g (p 14)

  pub giver_enrolled_lem : (k : Cut) → Passes (passed (cut_call y k) ++ held t R (cut_call y k)) → giver_of k < R.subjects
  unfolding passed held
  giver_enrolled_lem (removal g r) p = nleb→lt R.subjects g (middle_not (leb R.subjects y) (leb R.subjects g) (leb R.subjects r) (p 9))
  giver_enrolled_lem (lowering g r w) p = nleb→lt R.subjects g (middle_not (leb R.subjects y) (leb R.subjects g) (leb R.subjects r) (p 9))

  pub giver_stays : (k : Cut) → Passes (passed (cut_call y k) ++ held t R (cut_call y k)) → T (not (is_retired R (giver_of k)))
  unfolding passed held
  giver_stays (removal g r) p = middle_not (is_retired R y) (is_retired R g) (is_retired R r) (p 19)
  giver_stays (lowering g r w) p = middle_not (is_retired R y) (is_retired R g) (is_retired R r) (p 19)

  -- the delegation that stands for its pair is lighter afterwards, or gone
  pub cut_differs : (k : Cut) → Passes (passed (cut_call y k) ++ held t R (cut_call y k)) → LiftsNothing (named R k) R → ⊥
  unfolding passed held named
  cut_differs (removal g r) p lifts =
      let (d, m, i, q) = pair_found g r R.delegations (ltb→lt zero (code (weight_at R.delegations g r)) (not_not (stands R g r) (p 13))) in
      let (e, n, a) = lifts d m in
      T_not (is_pair g r e) (filter_mem (λ (x : Delegation). not (is_pair g r x)) R.delegations n).1 (pair_test g r e (pair_of d e d.weight a.same i))
    where
      pair_of : (d e : Delegation) (w : ℕ) → d ≡ reweigh e w → T (is_pair g r d) → IsPair g r e
      pair_of d e w s i = let (a, b) = test_pair g r d i in (sym (ap (λ (x : Delegation). x.giver) s) ∙ a, sym (ap (λ (x : Delegation). x.receiver) s) ∙ b)
  cut_differs (lowering g r w) p lifts =
      let (d, m, i, q) = pair_found g r R.delegations (ltb→lt zero (code (weight_at R.delegations g r)) (not_not (stands R g r) (p 13))) in
      let (e, n, a) = lifts d m in
      let (x, l, z) = map_mem (set_for g r w) R.delegations n in
      heavier d x i (subst (λ (v : Delegation). AtMost d v) z a) (omega (arith, nleb→lt (code (weight_at R.delegations g r)) (suc w) (p 15), ap code q))
    where
      go : (d x : Delegation) → T (is_pair g r d) → (b : Bool) → is_pair g r x ≡ b → AtMost d (cond b (reweigh x w) x) → w < d.weight → ⊥
      go d x i true s a l = omega (arith, a.weight)
      go d x i false s a l =
          let (u, v) = test_pair g r d i in
          absurd (subst T s (pair_test g r x (sym (ap (λ (y : Delegation). y.giver) a.same) ∙ u, sym (ap (λ (y : Delegation). y.receiver) a.same) ∙ v)))

      heavier : (d x : Delegation) → T (is_pair g r d) → AtMost d (set_for g r w x) → w < d.weight → ⊥
      heavier d x i a l = go d x i (is_pair g r x) refl a l
