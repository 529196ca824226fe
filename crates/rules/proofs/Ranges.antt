-- The answers of an accepted call on a well-formed register are in range. Assumes nothing.
use mathlib.Core.Path.{◌≡◌, refl, sym, subst}
use mathlib.Core.Logic.{◌⊎◌, inl, inr}
use mathlib.Core.Bool.{Bool, true, false, not, cond, ◌&&◌, ◌||◌}
use mathlib.Core.List.Memᴰ
use mathlib.Core.List.{List, [], ◌∷◌, ◌++◌}
use Prim.Native.Nat.{ℕ, suc, ◌+◌, ◌*◌, ◌≤◌, zero-le}
use native.Mathlib.Nat.{le_refl}
use native.Mathlib.Omega.{arith}
use lib.Dec.{T, leb, eqb, nleb→lt}
use lib.ListN.{length}
use lib.IntN.{ℤ, pos, negsuc}
use Rattle.rules.specs.List.{◌∈◌, keep, filter}
use Rattle.rules.specs.Limit.{none, code, ◌≼◌, from_none}
use Rattle.rules.specs.Table.{TableRule}
use Rattle.rules.specs.Register.{Delegation, Register}
use Rattle.rules.specs.Chain.{limit, IsChain}
use Rattle.rules.specs.Reach.{reach}
use Rattle.rules.specs.Pair.{weight_at, stands, opens}
use Rattle.rules.specs.Round.{total, settle, rounds}
use Rattle.rules.specs.Cut.{cutting, marking, retirement, removal, lowering, named, changed, is_dropped, is_lowered, dropped, lowered}
use Rattle.rules.specs.WellFormed.{WellFormed}
use Rattle.rules.specs.Call.{Call, enrol, grant, revoke, downgrade, ask_reach, ask_use, set_marks, retire}
use Rattle.rules.specs.Refusal.{passed, held}
use Rattle.rules.specs.CallStep.{Outcome, after_grant, cut, accepted, call_step}
use Rattle.rules.specs.Ranges.{FromTo, CutInRange, InRange}
use Rattle.rules.proofs.Chains.{limit_from_top}
use Rattle.rules.proofs.Reach.{reach_attained}
use Rattle.rules.proofs.Refusals.{Passes}
use Rattle.rules.proofs.Granting.{grant_leaves}
use Rattle.rules.proofs.Calls.{changed_formed, accepted_formed, call_step_cases}
use Rattle.rules.proofs.Bound.{rounds_most, rounds_below}
use Rattle.rules.proofs.Lists.{mem_length, not_not}

-- ── two tests that no element passes together ──
module _ {A : Type 0} (f g : A → Bool) (apart : (x : A) → T (f x) → T (not (g x))) where
  filter_apart : (xs : List A) → length (filter f xs) + length (filter g xs) ≤ length xs
  filter_apart [] = zero-le
  filter_apart (x ∷ xs) = go (f x) (g x) (apart x) (filter_apart xs)
    where
      go : (a b : Bool) → (T a → T (not b)) → length (filter f xs) + length (filter g xs) ≤ length xs → length (keep a x (filter f xs)) + length (keep b x (filter g xs)) ≤ suc (length xs)
      go true true h l = absurd (h tt)
      go true false h l = omega arith
      go false true h l = omega arith
      go false false h l = omega arith

-- a delegation that does not stand is not lowered
dropped_lowered : (F : Register) (d : Delegation) → T (is_dropped F d) → T (not (is_lowered F d))
dropped_lowered F d = go (stands F d.giver d.receiver) (leb (code (weight_at F.delegations d.giver d.receiver)) d.weight)
  where
    go : (a b : Bool) → T (not a) → T (not (a && b))
    go true b h = absurd h
    go false b h = tt

pub both_few : (C F : Register) → dropped C F + lowered C F ≤ length C.delegations
both_few C F = filter_apart (is_dropped F) (is_lowered F) (dropped_lowered F) C.delegations

-- ── the sum of all weights ──

weights_most : (ds : List Delegation) → ((d : Delegation) → d ∈ ds → d.weight ≤ 255) → total ds ≤ 256 * length ds
weights_most [] h = zero-le
weights_most (d ∷ ds) h = omega (arith, h d (Memᴰ.head refl), weights_most ds (λ e m. h e (Memᴰ.tail m)))

pub total_most : (R : Register) → WellFormed R → total R.delegations ≤ 65536
total_most R f = omega (arith, weights_most R.delegations (λ d m. (f.each d m).weight), f.few)

-- ── each call ──
cut_range : (t : List ℤ) (C : Register) (most : ℕ) → WellFormed C → rounds (settle t C) ≤ most → let o = cut t C in CutInRange most o.first o.second o.third
unfolding cut
cut_range t C most f h =
    let s = settle t C in
    ((dropped C s.left, lowered C s.left, refl, refl, omega (arith, both_few C s.left, f.few)), (suc s.changed, refl, omega arith, omega arith))

-- after any change
any_range : (t : List ℤ) → TableRule t → (C : Register) → WellFormed C → let o = cut t C in CutInRange 512 o.first o.second o.third
any_range t rule C k = cut_range t C 512 k (rounds_most t rule C k).1

reach_range : (t : List ℤ) → TableRule t → (R : Register) (u v : ℕ) → T (from_none (reach t R u v)) × (reach t R u v ≼ pos 255)
unfolding from_none
reach_range t rule R u v = go (reach_attained t R u v)
  where
    live : (z : ℤ) → pos 0 ≼ z → T (from_none z)
    live (pos n) h = tt
    live (negsuc n) h = absurd (omega arith)

    go : (reach t R u v ≡ none) ⊎ ((ds : List Delegation) × IsChain t R u v ds × (reach t R u v ≡ limit t ds)) → T (from_none (reach t R u v)) × (reach t R u v ≼ pos 255)
    go (inl e) = subst (λ (z : ℤ). T (from_none z) × (z ≼ pos 255)) (sym e) (tt, zero-le)
    go (inr (ds, c, e)) = subst (λ (z : ℤ). T (from_none z) × (z ≼ pos 255)) (sym e) (live (limit t ds) c.live, limit_from_top t rule (pos 255) ds (le_refl 256))

use_range : (b : Bool) → FromTo 0 1 (pos (cond b 1 0))
use_range true = (1, refl, zero-le, le_refl 1)
use_range false = (0, refl, zero-le, zero-le)

accepted_range : (t : List ℤ) → TableRule t → (R : Register) (c : Call) → Passes (passed c ++ held t R c) → WellFormed R → let o = accepted t R c in InRange c o.first o.second o.third
unfolding accepted passed held
accepted_range t rule R (enrol m) p f = ((R.subjects, refl, f.some, omega (arith, nleb→lt 64 R.subjects (p 10))), refl, refl)
accepted_range t rule R (grant d) p f = ((length (after_grant R d).delegations, refl, mem_length (grant_leaves R d f.rising (p 11)).standing, (accepted_formed t R (grant d) p f).few), refl, refl)
accepted_range t rule R (revoke y g r) p f =
    let l = rounds_below t rule R (removal g r) f (not_not (stands R g r) (p 13)) in
    cut_range t (named R (removal g r)) 511 (changed_formed t R (revoke y g r) (cutting (removal g r)) refl p f) (omega arith)
accepted_range t rule R (downgrade y g r w) p f =
    let l = rounds_below t rule R (lowering g r w) f (nleb→lt (code (weight_at R.delegations g r)) (suc w) (p 15)) in
    cut_range t (named R (lowering g r w)) 511 (changed_formed t R (downgrade y g r w) (cutting (lowering g r w)) refl p f) (omega arith)
accepted_range t rule R (ask_reach g r) p f = let (a, b) = reach_range t rule R g r in (a, b, refl, refl)
accepted_range t rule R (ask_use r) p f = (use_range (eqb r 0 || opens r R.delegations), refl, refl)
accepted_range t rule R (set_marks y s m) p f = any_range t rule (changed R (marking s m)) (changed_formed t R (set_marks y s m) (marking s m) refl p f)
accepted_range t rule R (retire y s) p f = any_range t rule (changed R (retirement s)) (changed_formed t R (retire y s) (retirement s) refl p f)

pub call_step_range : (t : List ℤ) → TableRule t → (R : Register) (c : Call) → WellFormed R → (call_step t R c).refusal ≡ 0 → let o = call_step t R c in InRange c o.first o.second o.third
call_step_range t rule R c f = call_step_cases t R c (λ (o : Outcome). o.refusal ≡ 0 → InRange c o.first o.second o.third) (λ z p q. accepted_range t rule R c p f) (λ n q. absurd (n q))
