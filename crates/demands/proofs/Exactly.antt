-- Demand 2, as theorems about the calls on bytes. Assumes nothing.
use mathlib.Core.Path.{◌≡◌, refl, sym, ap, subst, ◌∙◌}
use mathlib.Core.Logic.{◌≢◌, ◌⊎◌, inl, inr}
use mathlib.Core.Bool.{Bool, true, false, not, cond, ◌&&◌, ◌||◌}
use mathlib.Core.List.{List, [], ◌∷◌, ◌++◌}
use Prim.Native.Nat.{ℕ, suc}
use native.Mathlib.Omega.{arith}
use borrow.Author.Tests.{le-ltb}
use lib.Dec.{T, ltb, eqb, eqb→eq, nltb→le, not_T}
use lib.IntN.{ℤ, pos}
use Rattle.rules.specs.List.{◌∈◌}
use Rattle.rules.specs.Limit.{none, code, ◌≼◌}
use Rattle.rules.specs.Table.{TableRule}
use Rattle.rules.specs.Register.{Delegation, Register, marks_of}
use Rattle.rules.specs.Chain.{limit, IsChain}
use Rattle.rules.specs.Reach.{IsReach, reach}
use Rattle.rules.specs.Support.{allowed, Carried}
use Rattle.rules.specs.Pair.{is_pair, stands, raises, opens}
use Rattle.rules.specs.Call.{grant, ask_reach, ask_use, set_marks}
use Rattle.rules.specs.Refusal.{first_of, held, subjects_held, pair_stands, all_stand, overweight}
use Rattle.rules.specs.CallStep.{accepted}
use Rattle.rules.specs.Granted.{GrantedIn, Raises}
use Rattle.rules.proofs.Table.{steps_rule}
use Rattle.rules.proofs.Lists.{either, eq_to_eqb, T_true, unset, not_or_left, not_not}
use Rattle.rules.proofs.Refusals.{first_of_left, first_of_none, passes_of}
use Rattle.rules.proofs.Reach.{reach_is, reach_only}
use Rattle.rules.proofs.Support.{allowed_carried, carried_allowed}
use Rattle.rules.proofs.Pairs.{test_pair, pair_stands_lem, opens_right}
use Rattle.rules.proofs.Granting.{one_raised, raising, grant_leaves}
use Rattle.rules.proofs.Calls.{accepted_refusal}
use Rattle.rules.proofs.Still.{marks_still}
use Rattle.block.specs.Bytes.{IsBytes}
use Rattle.block.specs.Block.{decode}
use Rattle.block.specs.WellFormed.{well_formed}
use Rattle.block.proofs.Held.{held_formed, held_written}
use Rattle.steptable.specs.TableText.{ours, given}
use Rattle.steptable.specs.TableText.{Given}
use Rattle.steptable.proofs.Right.{given_keeps}
use Rattle.register.specs.CallOn.{Result, written, call_on}
use Rattle.demands.specs.Exactly.{Grantable, GrantExactly, Before11, Raisable, RaiseAnswer, RaiseExactly, GrantKeeps, RaiseByte, ReachAnswer, ReachExactly, MayUse, UseAnswer, UseExactly, MarksStill}
use Rattle.refusals.proofs.EarlyTests.{early_none, none_early, refused_held}
use Rattle.register.proofs.Made.{call_on_accepted, made_refused}
use Rattle.register.proofs.GrantWays.{grant_register, raise_left}
use Rattle.register.proofs.Through.{accepted_through}

-- ── grant ──
module _ (g : Given) (rule : TableRule g.steps) (b : List ℕ) (d : Delegation) where
  -- the tests before 16, and 16
  abbrev tests : List (ℕ × Bool)
  tests = subjects_held (decode b) (d.giver ∷ d.receiver ∷ []) ++ (pair_stands (decode b) d ∷ all_stand (decode b) d ∷ [])

  abbrev last : List (ℕ × Bool)
  last = overweight g.steps (decode b) (d ∷ []) ∷ []

  grant_only : (call_on g b (grant d)).refusal ≡ 0 → Grantable g b d
  unfolding held
  grant_only e =
      let h = accepted_through g b (grant d) e in
      let l = ltb (code (allowed g.steps (decode b) d)) (suc d.weight) in
      record {
        early = none_early g.refusal b (grant d) h.early;
        held = first_of_left tests last tt h.held;
        carried = allowed_carried g.steps rule (decode b) d (nltb→le (code (allowed g.steps (decode b) d)) (suc d.weight) (not_or_left l false (passes_of (tests ++ last) tt h.held 16)));
      }

  grant_whenever : Grantable g b d → (call_on g b (grant d)).refusal ≡ 0
  unfolding held
  grant_whenever k =
      let light = carried_allowed g.steps rule (decode b) d k.carried in
      let all : first_of (tests ++ last) ≡ 0 = first_of_none tests last tt k.held ∙ rw (le-ltb (code (allowed g.steps (decode b) d)) (suc d.weight) light) in
      ap (λ (x : Result). x.refusal) (call_on_accepted g (grant d) b (early_none g.refusal b (grant d) k.early) all) ∙ accepted_refusal g.steps (decode b) (grant d)

  pub grant_exactly : GrantExactly g b d
  grant_exactly = record { only = grant_only; whenever = grant_whenever }

  -- refused by what the register holds
  refused_with : Before11 g b d → (n : ℕ) → first_of (held g.steps (decode b) (grant d)) ≡ n → n ≢ 0 → (call_on g b (grant d)).refusal ≡ n
  refused_with k n e z =
      let h = early_none g.refusal b (grant d) k.early in
      sym (ap (λ (r : Result). r.refusal) (made_refused g (grant d) b n (sym (refused_held g b (grant d) h ∙ e)) z))

  -- ── e stands for the pair ──
  module _ (bytes : IsBytes b) (e : Delegation) (m : e ∈ (decode b).delegations) (p : T (is_pair d.giver d.receiver e)) where
    abbrev named : List (ℕ × Bool)
    named = subjects_held (decode b) (d.giver ∷ d.receiver ∷ [])

    pair : stands (decode b) d.giver d.receiver ≡ true
    pair = pair_stands_lem (decode b) d.giver d.receiver e m (test_pair d.giver d.receiver e p)

    -- what d raises is e
    raise_one : well_formed b ≡ true → T (raises (decode b) d) → Raises d e
    raise_one formed h = one_raised (decode b) (held_formed b bytes formed).rising d e m p h

    raise_only : (call_on g b (grant d)).refusal ≡ 0 → Raisable g b d e
    raise_only z =
        let k = grant_only z in
        let h = subst (λ (x : Bool). T (not (x && not (raises (decode b) d)))) pair (passes_of tests tt k.held 11) in
        record {
          before = record { early = k.early; named = first_of_left named (pair_stands (decode b) d ∷ all_stand (decode b) d ∷ []) tt k.held };
          raises = raise_one (accepted_through g b (grant d) z).early.formed (not_not (raises (decode b) d) h);
          carried = k.carried;
        }

    module _ (x : Raises d e) where
      raise_test : raises (decode b) d ≡ true
      raise_test = T_true (raises (decode b) d) (raising (decode b) d e m x)

      raise_whenever : Before11 g b d → Carried g.steps (decode b) d → (call_on g b (grant d)).refusal ≡ 0
      raise_whenever k c = grant_whenever record { early = k.early; held = first_of_none named (pair_stands (decode b) d ∷ all_stand (decode b) d ∷ []) tt k.named ∙ rw (pair, raise_test); carried = c }

      raise_sixteen : Before11 g b d → (Carried g.steps (decode b) d → ⊥) → (call_on g b (grant d)).refusal ≡ 16
      unfolding held
      raise_sixteen k c = refused_with k 16 (first_of_none named (pair_stands (decode b) d ∷ all_stand (decode b) d ∷ last) tt k.named ∙ rw (pair, raise_test, heavy (either over))) (λ z. omega arith)
        where
          over : Bool
          over = ltb (code (allowed g.steps (decode b) d)) (suc d.weight)

          heavy : T over ⊎ T (not over) → over ≡ true
          heavy (inl h) = T_true over h
          heavy (inr h) = absurd (c (allowed_carried g.steps rule (decode b) d (nltb→le (code (allowed g.steps (decode b) d)) (suc d.weight) h)))

    raise_eleven : Before11 g b d → (Raises d e → ⊥) → (call_on g b (grant d)).refusal ≡ 11
    unfolding held
    raise_eleven k n = refused_with k 11 (first_of_none named (pair_stands (decode b) d ∷ all_stand (decode b) d ∷ last) tt k.named ∙ rw (pair, other)) (λ z. omega arith)
      where
        other : raises (decode b) d ≡ false
        other = unset (raises (decode b) d) (not_T (raises (decode b) d) (λ h. n (raise_one (early_none g.refusal b (grant d) k.early).formed h)))

    raise_answer : RaiseAnswer g b d e
    raise_answer = record { only = raise_only; whenever = λ k. raise_whenever k.raises k.before k.carried; sixteen = λ k x c. raise_sixteen x k c; eleven = raise_eleven }

  pub raise_exactly : IsBytes b → RaiseExactly g b d
  raise_exactly bytes e m p = raise_answer bytes e m p

-- ── what a grant leaves ──
module _ (g : Given) (b : List ℕ) (bytes : IsBytes b) (d : Delegation) where
  pub grant_keeps : GrantKeeps g b d
  unfolding held
  grant_keeps z =
      let h = accepted_through g b (grant d) z in
      subst (λ (S : Register). GrantedIn (decode b) S d) (sym (grant_register g b bytes d h))
      (grant_leaves (decode b) d (held_formed b bytes h.early.formed).rising (passes_of (held g.steps (decode b) (grant d)) tt h.held 11))

  pub raise_byte : RaiseByte g b d
  raise_byte z = raise_left g b bytes d (accepted_through g b (grant d) z)

-- ── reach ──
module _ (o : Given) (b : List ℕ) (g r : ℕ) (e : (call_on o b (ask_reach g r)).refusal ≡ 0) where
  -- what is answered is the reach of the definition
  answer_reach : (call_on o b (ask_reach g r)).first ≡ reach o.steps (decode b) g r
  unfolding accepted
  answer_reach = let h = accepted_through o b (ask_reach g r) e in ap (λ (x : Result). x.first) (call_on_accepted o (ask_reach g r) b h.early h.held)

  answers_reach : ReachAnswer o b g r
  answers_reach = record {
    none_only = λ q ds c. let h = is.bounds ds c in omega (arith, c.live, ap code (sym answer_reach ∙ q));
    none_whenever = λ h. answer_reach ∙ no_chain h is.attained;
    some_only = λ k q. (attains k (sym answer_reach ∙ q) is.attained, λ ds c. subst (λ (z : ℤ). limit o.steps ds ≼ z) (sym answer_reach ∙ q) (is.bounds ds c));
    some_whenever = λ k ds c q h. answer_reach ∙ reach_only o.steps (decode b) g r (pos k) record { bounds = h; attained = inr (ds, c, sym q) };
  }
    where
      is : IsReach o.steps (decode b) g r (reach o.steps (decode b) g r)
      is = reach_is o.steps (decode b) g r

      no_chain : ((ds : List Delegation) → IsChain o.steps (decode b) g r ds → ⊥)
          → (reach o.steps (decode b) g r ≡ none) ⊎ ((ds : List Delegation) × IsChain o.steps (decode b) g r ds × (reach o.steps (decode b) g r ≡ limit o.steps ds)) → reach o.steps (decode b) g r ≡ none
      no_chain h (inl q) = q
      no_chain h (inr q) = absurd (h q.0 q.1)

      attains : (k : ℕ) → reach o.steps (decode b) g r ≡ pos k → (reach o.steps (decode b) g r ≡ none) ⊎ ((ds : List Delegation) × IsChain o.steps (decode b) g r ds × (reach o.steps (decode b) g r ≡ limit o.steps ds))
          → (ds : List Delegation) × IsChain o.steps (decode b) g r ds × (limit o.steps ds ≡ pos k)
      attains k q (inl z) = let y = ap code (sym q ∙ z) in absurd (omega arith)
      attains k q (inr z) = (z.0, z.1, sym z.2 ∙ q)

pub reach_exactly : (o : Given) (b : List ℕ) (g r : ℕ) → ReachExactly o b g r
reach_exactly o b g r e = answers_reach o b g r e

-- ── use ──
module _ (g : Given) (b : List ℕ) (r : ℕ) (e : (call_on g b (ask_use r)).refusal ≡ 0) where
  -- the test that decides the answer, and what it tests
  abbrev test : Bool
  test = eqb r 0 || opens r (decode b).delegations

  answer_use : (call_on g b (ask_use r)).first ≡ pos (cond test 1 0)
  unfolding accepted
  answer_use = let h = accepted_through g b (ask_use r) e in ap (λ (x : Result). x.first) (call_on_accepted g (ask_use r) b h.early h.held)

  test_may : T test → MayUse b r
  test_may h = go (eqb r 0) refl h
    where
      go : (x : Bool) → eqb r 0 ≡ x → T (x || opens r (decode b).delegations) → MayUse b r
      go true q h = inl (eqb→eq r 0 (subst T (sym q) tt))
      go false q h = inr ((opens_right r (decode b).delegations).0 h)

  may_test : MayUse b r → T test
  may_test (inl z) = subst (λ (x : Bool). T (x || opens r (decode b).delegations)) (sym (T_true (eqb r 0) (eq_to_eqb z))) tt
  may_test (inr d) = go (eqb r 0) ((opens_right r (decode b).delegations).1 d)
    where
      go : (x : Bool) → T (opens r (decode b).delegations) → T (x || opens r (decode b).delegations)
      go true h = tt
      go false h = h

  answers_use : UseAnswer g b r
  answers_use = record {
    only = λ q. test_may (one (either test) (sym answer_use ∙ q));
    whenever = λ m. answer_use ∙ ap (λ (x : Bool). pos (cond x 1 0)) (T_true test (may_test m));
    otherwise = λ n. answer_use ∙ ap (λ (x : Bool). pos (cond x 1 0)) (unset test (not_T test (λ h. n (test_may h))));
  }
    where
      one : T test ⊎ T (not test) → pos (cond test 1 0) ≡ pos 1 → T test
      one (inl h) q = h
      one (inr h) q = let z = ap code (ap (λ (x : Bool). pos (cond x 1 0)) (sym (unset test h)) ∙ q) in absurd (omega arith)

pub use_exactly : (g : Given) (b : List ℕ) (r : ℕ) → UseExactly g b r
use_exactly g b r e = answers_use g b r e

-- ── the marks that stand ──
pub marks_left : (g : Given) → TableRule g.steps → (b : List ℕ) → IsBytes b → (y s : ℕ) → MarksStill g b y s
marks_left g rule b bytes y s z p =
    let c = set_marks y s (marks_of (decode b) s) in
    let h = accepted_through g b c z in
    let formed = h.early.formed in
    call_on_accepted g c b h.early h.held
    ∙ ap (written b) (marks_still g.steps rule (decode b) (held_formed b bytes formed).rising p y s)
    ∙ (λ i. record { refusal = 0; first = pos 0; second = pos 0; third = pos 1; bytes = sym (held_written b bytes formed) i })

-- ── by the table of any text, and by document 01's own ──
pub grant_exactly_given : (text b : List ℕ) (d : Delegation) → GrantExactly (given text) b d
grant_exactly_given text b d = grant_exactly (given text) (given_keeps text) b d

pub grant_exactly_ours : (b : List ℕ) (d : Delegation) → GrantExactly ours b d
grant_exactly_ours b d = grant_exactly ours steps_rule b d

pub raise_exactly_given : (text b : List ℕ) (d : Delegation) → IsBytes b → RaiseExactly (given text) b d
raise_exactly_given text b d bytes = raise_exactly (given text) (given_keeps text) b d bytes

pub raise_exactly_ours : (b : List ℕ) (d : Delegation) → IsBytes b → RaiseExactly ours b d
raise_exactly_ours b d bytes = raise_exactly ours steps_rule b d bytes

pub marks_left_given : (text b : List ℕ) → IsBytes b → (y s : ℕ) → MarksStill (given text) b y s
marks_left_given text b bytes y s = marks_left (given text) (given_keeps text) b bytes y s
