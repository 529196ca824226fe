-- Every call leaves a well-formed register well formed and a supported one supported. Assumes nothing.
use mathlib.Core.Path.{◌≡◌, refl, sym, ap, subst, ◌∙◌}
use mathlib.Core.Logic.{◌≢◌, ◌⊎◌, inl, inr}
use mathlib.Core.Bool.{Bool, true, false, not, cond, ◌&&◌, ◌||◌}
use mathlib.Core.List.Memᴰ
use mathlib.Core.List.{List, [], ◌∷◌, ◌++◌, map}
use Prim.Native.Nat.{ℕ, suc, ◌≤◌, ◌<◌, zero-le, suc-le-suc}
use native.Mathlib.Nat.{le_trans, le_refl}
use native.Mathlib.Omega.{arith}
use lib.Bits.{bit_and}
use lib.Dec.{T, leb, ltb, eqb, eqb→eq, nleb→lt, nltb→le, T_not}
use lib.ListN.{length, set, length-append, length-map, length-set, get_or-append}
use lib.Seq.{get_or-set_other}
use lib.IntN.{ℤ, pos}
use Rattle.rules.specs.List.{◌∈◌, filter}
use Rattle.rules.specs.Limit.{code, ◌≼◌}
use Rattle.rules.specs.Table.{TableRule, Below}
use Rattle.rules.specs.Register.{Delegation, Register, is_retired, reweigh, with_delegations, with_marks}
use Rattle.rules.specs.Support.{allowed, Carried, Supported}
use Rattle.rules.specs.Pair.{is_pair, stands, set_for, reweighed}
use Rattle.rules.specs.Round.{settle}
use Rattle.rules.specs.Granted.{GrantedIn}
use Rattle.rules.specs.Cut.{Change, cutting, marking, retirement, removal, lowering, named, touches, changed}
use Rattle.rules.specs.WellFormed.{DelegationFormed, Apart, WellFormed}
use Rattle.rules.specs.Call.{Call, enrol, grant, revoke, downgrade, ask_reach, ask_use, set_marks, retire, fresh, enrolled, Makes}
use Rattle.rules.specs.Refusal.{pair_stands, all_stand, passed, held, refusal_of}
use Rattle.rules.specs.CallStep.{Outcome, insert, after_grant, cut, accepted, refused, call_step}
use Rattle.rules.proofs.Lists.{filter_mem, filter_length, map_mem, set_mem, eq_to_eqb, not_or_left, second_not, not_or_right, not_not, test_ne}
use Rattle.rules.proofs.Chains.{mem_snoc}
use Rattle.rules.proofs.Tables.{Below_refl}
use Rattle.rules.proofs.Support.{carried_on, allowed_carried, carried_mono, carried_under, supported_under}
use Rattle.rules.proofs.Rounds.{settle_right, settle_best}
use Rattle.rules.proofs.WellFormed.{formed_reweigh, delegations_formed, settles_formed}
use Rattle.rules.proofs.Refusals.{Passes, passes}
use Rattle.rules.proofs.Retired.{none_retired, retired_each, retired_apart}
use Rattle.rules.proofs.Granting.{grant_leaves}
use Rattle.rules.proofs.Pairs.{IsPair, none_stands, insert_mem, insert_length, insert_rising, rising_filter, rising_map}

-- ── well formed ──
-- some of the delegations
pub filtered_formed : (R : Register) (p : Delegation → Bool) → WellFormed R → WellFormed (with_delegations R (filter p R.delegations))
filtered_formed R p f =
    delegations_formed R (filter p R.delegations) f (le_trans (filter_length p R.delegations) f.few) (rising_filter p R.delegations f.rising)
    (λ d m. let i = (filter_mem p R.delegations m).0 in (f.each d i, f.apart d i))

pub removed_formed : (R : Register) (g r : ℕ) → WellFormed R → WellFormed (named R (removal g r))
unfolding named
removed_formed R g r f = filtered_formed R (λ (d : Delegation). not (is_pair g r d)) f

reweighed_formed : (R : Register) (g r w : ℕ) → w ≤ 255 → WellFormed R → WellFormed (reweighed R g r w)
reweighed_formed R g r w h f =
    delegations_formed R (map (set_for g r w) R.delegations) f (subst (λ (n : ℕ). n ≤ 256) (sym (length-map R.delegations (set_for g r w))) f.few) (rising_map (set_for g r w) (λ d. pair d (is_pair g r d)) R.delegations f.rising)
    (λ e m.
    let (d, m', q) = map_mem (set_for g r w) R.delegations m in
    subst (λ (x : Delegation). DelegationFormed R.subjects x × Apart R x) (sym q) (formed d (is_pair g r d) (f.each d m', f.apart d m')))
  where
    pair : (d : Delegation) (b : Bool) → IsPair d.giver d.receiver (cond b (reweigh d w) d)
    pair d true = (refl, refl)
    pair d false = (refl, refl)

    formed : (d : Delegation) (b : Bool) → DelegationFormed R.subjects d × Apart R d → DelegationFormed R.subjects (cond b (reweigh d w) d) × Apart R (cond b (reweigh d w) d)
    formed d true k = (formed_reweigh h k.0, k.1)
    formed d false k = k

pub lowered_formed : (R : Register) (g r w : ℕ) → w ≤ 255 → WellFormed R → WellFormed (named R (lowering g r w))
unfolding named
lowered_formed R g r w h f = reweighed_formed R g r w h f

marked_formed : (R : Register) (s m : ℕ) → s ≢ 0 → m ≤ 65535 → T (not (is_retired R s)) → WellFormed R → WellFormed (with_marks R (set R.marks s m))
marked_formed R s m n h u f = record {
  some = f.some;
  most = f.most;
  marked = length-set R.marks s m ∙ f.marked;
  marks = λ x i. small x (set_mem R.marks s m i);
  owner = get_or-set_other R.marks s 0 m 0 (λ e. n (sym e)) ∙ f.owner;
  few = f.few;
  rising = f.rising;
  each = f.each;
  retired = λ v k. let (a, b, c) = f.retired v k in (a, b, get_or-set_other R.marks s v m 0 (λ e. T_not (is_retired R s) u (subst (λ (x : ℕ). T (is_retired R x)) e k)) ∙ c);
  apart = f.apart;
}
  where
    small : (x : ℕ) → (x ≡ m) ⊎ (x ∈ R.marks) → x ≤ 65535
    small x (inl q) = omega arith
    small x (inr i) = f.marks x i

-- a subject retired: its delegations, its marks and its bit
retired_formed_lem : (R : Register) (s : ℕ) → s < R.subjects → s ≢ 0 → WellFormed R → WellFormed (changed R (retirement s))
retired_formed_lem R s l n f = record {
  some = f.some;
  most = f.most;
  marked = length-set R.marks s 0 ∙ f.marked;
  marks = λ x i. small x (set_mem R.marks s 0 i);
  owner = get_or-set_other R.marks s 0 0 0 (λ e. n (sym e)) ∙ f.owner;
  few = k.few;
  rising = k.rising;
  each = k.each;
  retired = retired_each R s f l n;
  apart = retired_apart R s f;
}
  where
    k : WellFormed (with_delegations R (filter (λ (d : Delegation). not (touches s d)) R.delegations))
    k = filtered_formed R (λ (d : Delegation). not (touches s d)) f

    small : (x : ℕ) → (x ≡ 0) ⊎ (x ∈ R.marks) → x ≤ 65535
    small x (inl q) = omega arith
    small x (inr i) = f.marks x i

-- ── each call ──
pub fresh_formed : WellFormed fresh
fresh_formed = record {
  some = le_refl 1;
  most = suc-le-suc zero-le;
  marked = refl;
  marks = zeros;
  owner = refl;
  few = zero-le;
  rising = tt;
  each = λ d m. absurd (Memᴰ.not-nil m);
  retired = λ s h. absurd (none_retired s h);
  apart = λ d m. absurd (Memᴰ.not-nil m);
}
  where
    zeros : (m : ℕ) → m ∈ (0 ∷ []) → m ≤ 65535
    zeros m (Memᴰ.head q) = omega arith
    zeros m (Memᴰ.tail i) = absurd (Memᴰ.not-nil i)

enrol_formed : (R : Register) (m : ℕ) → m ≤ 65535 → R.subjects < 64 → WellFormed R → WellFormed (enrolled R m)
enrol_formed R m h l f = record {
  some = omega (arith, f.some);
  most = l;
  marked = length-append R.marks (m ∷ []) ∙ omega (arith, f.marked);
  marks = λ x i. small x (mem_snoc R.marks i);
  owner = get_or-append R.marks (m ∷ []) 0 0 (omega (arith, f.marked, f.some)) ∙ f.owner;
  few = f.few;
  rising = f.rising;
  each = λ d i. let k = f.each d i in record { giver = omega (arith, k.giver); receiver = omega (arith, k.receiver); differ = k.differ; not_owner = k.not_owner; weight = k.weight; need = k.need; bar = k.bar; disjoint = k.disjoint; kind = k.kind };
  retired = λ s k. let (a, b, c) = f.retired s k in (omega arith, b, get_or-append R.marks (m ∷ []) 0 s (omega (arith, f.marked)) ∙ c);
  apart = f.apart;
}
  where
    small : (x : ℕ) → (x ∈ R.marks) ⊎ (x ≡ m) → x ≤ 65535
    small x (inl i) = f.marks x i
    small x (inr q) = omega arith

insert_formed : (R : Register) (d : Delegation) → DelegationFormed R.subjects d → Apart R d → length R.delegations < 256 → ((e : Delegation) → e ∈ R.delegations → IsPair d.giver d.receiver e → ⊥)
    → WellFormed R → WellFormed (with_delegations R (insert d R.delegations))
insert_formed R d k a l n f = delegations_formed R (insert d R.delegations) f (omega (arith, insert_length d R.delegations)) (insert_rising d R.delegations f.rising n) (λ e m. good e (insert_mem d R.delegations m))
  where
    good : (e : Delegation) → (e ≡ d) ⊎ (e ∈ R.delegations) → DelegationFormed R.subjects e × Apart R e
    good e (inl q) = subst (λ (x : Delegation). DelegationFormed R.subjects x × Apart R x) (sym q) (k, a)
    good e (inr m) = (f.each e m, f.apart e m)

grant_formed : (R : Register) (d : Delegation) → DelegationFormed R.subjects d → Apart R d → T (not (pair_stands R d).1) → T (not (all_stand R d).1) → WellFormed R → WellFormed (after_grant R d)
grant_formed R d k a p q f = go (stands R d.giver d.receiver) refl q
  where
    go : (b : Bool) → stands R d.giver d.receiver ≡ b → T (not (not b && leb 256 (length R.delegations)))
        → WellFormed (cond b (reweighed R d.giver d.receiver d.weight) (with_delegations R (insert d R.delegations)))
    go true e x = reweighed_formed R d.giver d.receiver d.weight k.weight f
    go false e x = insert_formed R d k a (nleb→lt 256 (length R.delegations) x) (none_stands R d.giver d.receiver (subst (λ (y : Bool). T (not y)) (sym e) tt)) f

cut_formed : (t : List ℤ) (C : Register) → WellFormed C → WellFormed (cut t C).left
unfolding cut
cut_formed t C f = settles_formed t (settle t C).changed C (settle t C).left (settle_right t C) f

-- the register after the change that a call makes, where no test turns it back
pub changed_formed : (t : List ℤ) (R : Register) (c : Call) (k : Change) → Makes c k → Passes (passed c ++ held t R c) → WellFormed R → WellFormed (changed R k)
unfolding passed held
changed_formed t R (enrol m) k i p f = absurd i
changed_formed t R (grant d) k i p f = absurd i
changed_formed t R (revoke y g r) k i p f = subst (λ (x : Change). WellFormed (changed R x)) (sym i) (removed_formed R g r f)
changed_formed t R (downgrade y g r w) k i p f = subst (λ (x : Change). WellFormed (changed R x)) (sym i) (lowered_formed R g r w (nltb→le 255 w (p 3)) f)
changed_formed t R (ask_reach g r) k i p f = absurd i
changed_formed t R (ask_use r) k i p f = absurd i
changed_formed t R (set_marks y s m) k i p f = subst (λ (x : Change). WellFormed (changed R x)) (sym i) (marked_formed R s m (test_ne s 0 (p 6)) (nltb→le 65535 m (p 4)) (second_not (is_retired R y) (is_retired R s) (p 19)) f)
changed_formed t R (retire y s) k i p f = subst (λ (x : Change). WellFormed (changed R x)) (sym i) (retired_formed_lem R s (nleb→lt R.subjects s (second_not (leb R.subjects y) (leb R.subjects s) (p 9))) (test_ne s 0 (p 6)) f)

-- rounds follow it
pub accepted_change : (t : List ℤ) (R : Register) (c : Call) (k : Change) → Makes c k → accepted t R c ≡ cut t (changed R k)
unfolding accepted
accepted_change t R (enrol m) k i = absurd i
accepted_change t R (grant d) k i = absurd i
accepted_change t R (revoke y g r) k i = ap (λ (x : Change). cut t (changed R x)) (sym i)
accepted_change t R (downgrade y g r w) k i = ap (λ (x : Change). cut t (changed R x)) (sym i)
accepted_change t R (ask_reach g r) k i = absurd i
accepted_change t R (ask_use r) k i = absurd i
accepted_change t R (set_marks y s m) k i = ap (λ (x : Change). cut t (changed R x)) (sym i)
accepted_change t R (retire y s) k i = ap (λ (x : Change). cut t (changed R x)) (sym i)

pub accepted_formed : (t : List ℤ) (R : Register) (c : Call) → Passes (passed c ++ held t R c) → WellFormed R → WellFormed (accepted t R c).left
unfolding accepted passed held
accepted_formed t R (enrol m) p f = enrol_formed R m (nltb→le 65535 m (p 4)) (nleb→lt 64 R.subjects (p 10)) f
accepted_formed t R (grant d) p f =
    let g = d.giver in
    let r = d.receiver in
    let n = d.need in
    let b = d.bar in
    let masks = not_or_left (ltb 65535 n || ltb 65535 b) (not (eqb (bit_and n b) 0)) (p 4) in
    grant_formed R d record {
      giver = nleb→lt R.subjects g (not_or_left (leb R.subjects g) (leb R.subjects r || false) (p 9));
      receiver = nleb→lt R.subjects r (second_not (leb R.subjects g) (leb R.subjects r) (p 9));
      differ = test_ne g r (p 5);
      not_owner = test_ne r 0 (p 6);
      weight = nltb→le 255 d.weight (p 3);
      need = nltb→le 65535 n (not_or_left (ltb 65535 n) (ltb 65535 b) masks);
      bar = nltb→le 65535 b (not_or_right (ltb 65535 n) (ltb 65535 b) masks);
      disjoint = eqb→eq (bit_and n b) 0 (not_not (eqb (bit_and n b) 0) (not_or_right (ltb 65535 n || ltb 65535 b) (not (eqb (bit_and n b) 0)) (p 4)));
      kind = nltb→le 1 d.kind (not_or_left (ltb 1 d.kind) (eqb d.kind 1 && eqb d.weight 0) (p 21));
    }
    (not_or_left (is_retired R g) (is_retired R r || false) (p 19), second_not (is_retired R g) (is_retired R r) (p 19))
    (p 11) (p 12) f
accepted_formed t R (revoke y g r) p f = cut_formed t (named R (removal g r)) (changed_formed t R (revoke y g r) (cutting (removal g r)) refl p f)
accepted_formed t R (downgrade y g r w) p f = cut_formed t (named R (lowering g r w)) (changed_formed t R (downgrade y g r w) (cutting (lowering g r w)) refl p f)
accepted_formed t R (ask_reach g r) p f = f
accepted_formed t R (ask_use r) p f = f
accepted_formed t R (set_marks y s m) p f = cut_formed t (changed R (marking s m)) (changed_formed t R (set_marks y s m) (marking s m) refl p f)
accepted_formed t R (retire y s) p f = cut_formed t (changed R (retirement s)) (changed_formed t R (retire y s) (retirement s) refl p f)

-- ── supported under m, which lets a right fall no faster than the table t of the call ──
enrol_supported : (m : List ℤ) (R : Register) (x : ℕ) → WellFormed R → Supported m R → Supported m (enrolled R x)
enrol_supported m R x f s d i =
    carried_on m R (enrolled R x) d (sym (get_or-append R.marks (x ∷ []) 0 d.receiver (omega (arith, f.marked, (f.each d i).receiver)))) (λ ds c h. c.standing) (s d i)

module _ (t m : List ℤ) (rule : TableRule t) (rule' : TableRule m) (below : Below t m) where
  grant_under : (R S : Register) (d : Delegation) → GrantedIn R S d → pos d.weight ≼ allowed t R d → Supported m R → Supported m S
  grant_under R S d k h s e i = carried_mono m rule' R S e k.within (old (k.only e i))
    where
      old : (e ∈ R.delegations) ⊎ (e ≡ d) → Carried m R e
      old (inl j) = s e j
      old (inr q) = subst (λ (x : Delegation). Carried m R x) (sym q) (carried_under t m rule' below R d (allowed_carried t rule R d h))

  cut_under : (C : Register) → Supported m (cut t C).left
  unfolding cut
  cut_under C = supported_under t m rule' below (settle t C).left (settle_best t rule C).remainder.supported

  accepted_under : (R : Register) (c : Call) → Passes (passed c ++ held t R c) → WellFormed R → Supported m R → Supported m (accepted t R c).left
  unfolding accepted passed held
  accepted_under R (enrol x) p f s = enrol_supported m R x f s
  accepted_under R (grant d) p f s = grant_under R (after_grant R d) d (grant_leaves R d f.rising (p 11)) (nltb→le (code (allowed t R d)) (suc d.weight) (not_or_left (ltb (code (allowed t R d)) (suc d.weight)) false (p 16))) s
  accepted_under R (revoke y g r) p f s = cut_under (named R (removal g r))
  accepted_under R (downgrade y g r w) p f s = cut_under (named R (lowering g r w))
  accepted_under R (ask_reach g r) p f s = s
  accepted_under R (ask_use r) p f s = s
  accepted_under R (set_marks y x n) p f s = cut_under (changed R (marking x n))
  accepted_under R (retire y x) p f s = cut_under (changed R (retirement x))

-- ── a call, refused or not ──
cut_refusal : (t : List ℤ) (C : Register) → (cut t C).refusal ≡ 0
unfolding cut
cut_refusal t C = refl

-- an accepted call returns no refusal
pub accepted_refusal : (t : List ℤ) (R : Register) (c : Call) → (accepted t R c).refusal ≡ 0
unfolding accepted
accepted_refusal t R (enrol m) = refl
accepted_refusal t R (grant d) = refl
accepted_refusal t R (revoke y g r) = cut_refusal t (named R (removal g r))
accepted_refusal t R (downgrade y g r w) = cut_refusal t (named R (lowering g r w))
accepted_refusal t R (ask_reach g r) = refl
accepted_refusal t R (ask_use r) = refl
accepted_refusal t R (set_marks y s m) = cut_refusal t (changed R (marking s m))
accepted_refusal t R (retire y s) = cut_refusal t (changed R (retirement s))

-- what a call that is not refused does, where it passed every test; what a refused call does
pub call_step_cases : (t : List ℤ) (R : Register) (c : Call) (P : Outcome → Type 0) → (refusal_of t R c ≡ 0 → Passes (passed c ++ held t R c) → P (accepted t R c))
    → (refusal_of t R c ≢ 0 → P (refused (refusal_of t R c) R)) → P (call_step t R c)
unfolding call_step
call_step_cases t R c P done turned = go (eqb (refusal_of t R c) 0) refl
  where
    go : (b : Bool) → eqb (refusal_of t R c) 0 ≡ b → let o : Outcome = elim b [ true ↦ accepted t R c | false ↦ refused (refusal_of t R c) R ] in P o
    go true e = let z = eqb→eq (refusal_of t R c) 0 (subst T (sym e) tt) in done z (passes t R c z)
    go false e = turned (λ z. subst T e (eq_to_eqb z))

pub call_step_formed : (t : List ℤ) (R : Register) (c : Call) → WellFormed R → WellFormed (call_step t R c).left
call_step_formed t R c f = call_step_cases t R c (λ (o : Outcome). WellFormed o.left) (λ z p. accepted_formed t R c p f) (λ n. f)

-- a call by the table t leaves what is supported under m so
pub call_step_under : (t m : List ℤ) → TableRule t → TableRule m → Below t m → (R : Register) (c : Call) → WellFormed R → Supported m R → Supported m (call_step t R c).left
call_step_under t m rule rule' below R c f s =
    call_step_cases t R c (λ (o : Outcome). Supported m o.left) (λ z p. accepted_under t m rule rule' below R c p f s) (λ n. s)

pub call_step_supported : (t : List ℤ) → TableRule t → (R : Register) (c : Call) → WellFormed R → Supported t R → Supported t (call_step t R c).left
call_step_supported t rule = call_step_under t t rule rule (Below_refl t)

pub call_step_refused : (t : List ℤ) (R : Register) (c : Call) (n : ℕ) → refusal_of t R c ≡ n → n ≢ 0 → call_step t R c ≡ refused n R
call_step_refused t R c n e k = call_step_cases t R c (λ (o : Outcome). o ≡ refused n R) (λ z p. absurd (k (sym e ∙ z))) (λ m. ap (λ (x : ℕ). refused x R) e)
