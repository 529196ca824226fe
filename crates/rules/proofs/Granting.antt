-- What a grant leaves, whether it raises what stands or adds a delegation. Assumes nothing.
use mathlib.Core.Path.{◌≡◌, refl, sym, ap, subst, ◌∙◌}
use mathlib.Core.Logic.{◌⊎◌, inl, inr}
use mathlib.Core.Bool.{Bool, true, false, not, cond, ◌&&◌}
use mathlib.Core.List.{map}
use Prim.Native.Nat.{ℕ}
use native.Mathlib.Omega.{arith}
use lib.Dec.{T, ltb, eqb, eqb→eq, ltb→lt, lt→ltb}
use Rattle.rules.specs.List.{◌∈◌}
use Rattle.rules.specs.Register.{Delegation, Register, reweigh, with_delegations}
use Rattle.rules.specs.Pair.{is_pair, stands, same_terms, is_raise, raises, set_for, reweighed}
use Rattle.rules.specs.Remainder.{AtMost}
use Rattle.rules.specs.WellFormed.{Rising}
use Rattle.rules.specs.Refusal.{pair_stands}
use Rattle.rules.specs.CallStep.{insert, after_grant}
use Rattle.rules.specs.Granted.{GrantedIn, Raises}
use Rattle.rules.proofs.Lists.{T_left, T_right, T_both, yes, no, eq_to_eqb, not_not, any_mem, mem_any, mem_map, map_mem}
use Rattle.rules.proofs.AtMost.{AtMost_refl}
use Rattle.rules.proofs.Pairs.{pair_test, test_pair, pair_one, insert_mem, mem_insert}

-- ── d raises e ──
test_raises : (d e : Delegation) → T (is_raise d e) → Raises d e
test_raises d e h =
    let terms = T_left (same_terms d e) (ltb e.weight d.weight) h in
    let marked = T_left (is_pair d.giver d.receiver e && eqb e.need d.need && eqb e.bar d.bar) (eqb e.kind d.kind) terms in
    let first = T_left (is_pair d.giver d.receiver e && eqb e.need d.need) (eqb e.bar d.bar) marked in
    let (g, r) = test_pair d.giver d.receiver e (T_left (is_pair d.giver d.receiver e) (eqb e.need d.need) first) in
    let n = eqb→eq e.need d.need (T_right (is_pair d.giver d.receiver e) (eqb e.need d.need) first) in
    let b = eqb→eq e.bar d.bar (T_right (is_pair d.giver d.receiver e && eqb e.need d.need) (eqb e.bar d.bar) marked) in
    let k = eqb→eq e.kind d.kind (T_right (is_pair d.giver d.receiver e && eqb e.need d.need && eqb e.bar d.bar) (eqb e.kind d.kind) terms) in
    record {
      same = λ j. record { giver = sym g j; receiver = sym r j; weight = d.weight; need = sym n j; bar = sym b j; kind = sym k j };
      larger = ltb→lt e.weight d.weight (T_right (same_terms d e) (ltb e.weight d.weight) h);
    }

pub raises_test : (d e : Delegation) → Raises d e → T (is_raise d e)
raises_test d e h =
    let at : (f : Delegation → ℕ) → f (reweigh e d.weight) ≡ f d = λ f. ap f (sym h.same) in
    T_both (same_terms d e) (ltb e.weight d.weight)
    (T_both (is_pair d.giver d.receiver e && eqb e.need d.need && eqb e.bar d.bar) (eqb e.kind d.kind)
    (T_both (is_pair d.giver d.receiver e && eqb e.need d.need) (eqb e.bar d.bar)
    (T_both (is_pair d.giver d.receiver e) (eqb e.need d.need) (pair_test d.giver d.receiver e (at (λ x. x.giver), at (λ x. x.receiver))) (eq_to_eqb (at (λ x. x.need))))
    (eq_to_eqb (at (λ x. x.bar))))
    (eq_to_eqb (at (λ x. x.kind))))
    (lt→ltb e.weight d.weight h.larger)

pub raised : (R : Register) (d : Delegation) → T (raises R d) → (e : Delegation) × (e ∈ R.delegations) × Raises d e
raised R d h = let (e, m, t) = mem_any (is_raise d) R.delegations h in (e, m, test_raises d e t)

pub raising : (R : Register) (d e : Delegation) → e ∈ R.delegations → Raises d e → T (raises R d)
raising R d e m h = any_mem (is_raise d) m (raises_test d e h)

-- the delegation of d's pair is the only one that d could raise
pub one_raised : (R : Register) → Rising R.delegations → (d e : Delegation) → e ∈ R.delegations → T (is_pair d.giver d.receiver e) → T (raises R d) → Raises d e
one_raised R rising d e m p h =
    let (x, n, k) = raised R d h in
    let (g, r) = test_pair d.giver d.receiver e p in
    let q = pair_one rising n m (g ∙ ap (λ (y : Delegation). y.giver) k.same, r ∙ ap (λ (y : Delegation). y.receiver) k.same) in
    subst (λ (y : Delegation). Raises d y) q k

-- ── what is left ──
module _ (R : Register) (d : Delegation) where
  abbrev set_to : Delegation → Delegation
  set_to = set_for d.giver d.receiver d.weight

  -- d raises y, which is left as d
  raise_leaves : Rising R.delegations → (y : Delegation) → y ∈ R.delegations → Raises d y → GrantedIn R (reweighed R d.giver d.receiver d.weight) d
  raise_leaves rising y m h = record {
    within = record { subjects = refl; marks = refl; retired = refl; held = λ x i. (set_to x, mem_map set_to i, heavier x i (is_pair d.giver d.receiver x) refl) };
    standing = subst (λ (x : Delegation). x ∈ map set_to R.delegations) (at_y (is_pair d.giver d.receiver y) refl) (mem_map set_to m);
    only = λ e i. let (x, n, q) = map_mem set_to R.delegations i in was e x n (is_pair d.giver d.receiver x) refl q;
  }
    where
      giver : d.giver ≡ y.giver
      giver = ap (λ (z : Delegation). z.giver) h.same

      receiver : d.receiver ≡ y.receiver
      receiver = ap (λ (z : Delegation). z.receiver) h.same

      is_y : (x : Delegation) → x ∈ R.delegations → is_pair d.giver d.receiver x ≡ true → x ≡ y
      is_y x i q = let p = test_pair d.giver d.receiver x (yes q) in pair_one rising i m (sym giver ∙ sym p.0, sym receiver ∙ sym p.1)

      heavier : (x : Delegation) → x ∈ R.delegations → (b : Bool) → is_pair d.giver d.receiver x ≡ b → AtMost x (cond b (reweigh x d.weight) x)
      heavier x i true q = record { same = refl; weight = omega (arith, h.larger, ap (λ (z : Delegation). z.weight) (is_y x i q)) }
      heavier x i false q = AtMost_refl x

      at_y : (b : Bool) → is_pair d.giver d.receiver y ≡ b → cond b (reweigh y d.weight) y ≡ d
      at_y true q = sym h.same
      at_y false q = absurd (no q (pair_test d.giver d.receiver y (sym giver, sym receiver)))

      was : (e x : Delegation) → x ∈ R.delegations → (b : Bool) → is_pair d.giver d.receiver x ≡ b → e ≡ cond b (reweigh x d.weight) x → (e ∈ R.delegations) ⊎ (e ≡ d)
      was e x n true q p = inr (p ∙ ap (λ (z : Delegation). reweigh z d.weight) (is_y x n q) ∙ sym h.same)
      was e x n false q p = inl (subst (λ (z : Delegation). z ∈ R.delegations) (sym p) n)

  insert_leaves : GrantedIn R (with_delegations R (insert d R.delegations)) d
  insert_leaves = record {
    within = record { subjects = refl; marks = refl; retired = refl; held = λ x i. (x, mem_insert d R.delegations (inr i), AtMost_refl x) };
    standing = mem_insert d R.delegations (inl refl);
    only = λ e i. other (insert_mem d R.delegations i);
  }
    where
      other : {e : Delegation} → (e ≡ d) ⊎ (e ∈ R.delegations) → (e ∈ R.delegations) ⊎ (e ≡ d)
      other (inl q) = inr q
      other (inr m) = inl m

  pub after_raise : stands R d.giver d.receiver ≡ true → after_grant R d ≡ reweighed R d.giver d.receiver d.weight
  after_raise s = rw s

  pub after_insert : stands R d.giver d.receiver ≡ false → after_grant R d ≡ with_delegations R (insert d R.delegations)
  after_insert s = rw s

  -- THE THEOREM: a grant that 11 does not refuse
  pub grant_leaves : Rising R.delegations → T (not (pair_stands R d).1) → GrantedIn R (after_grant R d) d
  grant_leaves rising h = go (stands R d.giver d.receiver) h
    where
      go : (b : Bool) → T (not (b && not (raises R d)))
          → GrantedIn R (cond b (reweighed R d.giver d.receiver d.weight) (with_delegations R (insert d R.delegations))) d
      go true k = let (e, m, x) = raised R d (not_not (raises R d) k) in raise_leaves rising e m x
      go false k = insert_leaves
