-- Wrong outcomes that the definitions shut out: for each worthless program that document 01 names, and for each mistake named after P8, what it would return or leave, on the
-- registers of P1 to P8, does not satisfy the definition. Assumes nothing.
use mathlib.Core.Path.{◌≡◌, refl, sym, ap, subst, ◌∙◌}
use mathlib.Core.List.Memᴰ
use mathlib.Core.List.{List, [], ◌∷◌}
use Prim.Native.Nat.{ℕ, zero, suc}
use native.Mathlib.Omega.{arith}
use lib.Dec.{T, leb→le}
use lib.ListN.{length}
use lib.IntN.{pos}
use Rattle.rules.specs.List.{◌∈◌}
use Rattle.rules.specs.Limit.{none, code, ◌≼◌, larger}
use Rattle.rules.specs.Table.{next, step, steps}
use Rattle.rules.specs.Register.{Delegation, Register, granted}
use Rattle.rules.specs.Condition.{meets}
use Rattle.rules.specs.Chain.{limit_from, IsChain}
use Rattle.rules.specs.Reach.{IsReach, goes_on, chains, reach}
use Rattle.rules.specs.Support.{allowed, Supported}
use Rattle.rules.specs.Round.{round, settle, SettlesIn}
use Rattle.rules.specs.Cut.{removal, lowering, named}
use Rattle.rules.specs.Remainder.{AtMost, Within, Remainder, Best}
use Rattle.rules.specs.Call.{grant}
use Rattle.rules.specs.Refusal.{passed, held, refusal_of}
use Rattle.rules.specs.CallStep.{Outcome, answered, refused, cut, accepted, call_step}
use Rattle.rules.specs.Trace.{PlaceRight}
use Rattle.rules.specs.History.{register_at, CutRight, CutsRight}
use Rattle.rules.specs.Examples.{P1, P2, P3_with, P4, P5, P6, entry, needing, two, twos, twos_given}
use Rattle.rules.proofs.Table.{steps_rule}
use Rattle.rules.proofs.AtMost.{AtMost_refl, AtMost_reweigh}
use Rattle.rules.proofs.Chains.{chain_owner}
use Rattle.rules.proofs.Reach.{reach_only}
use Rattle.rules.proofs.Support.{carried_chain, carried_allowed, allowed_carried}
use Rattle.rules.proofs.History.{demand3_steps}
use Rattle.rules.proofs.Answers.{twos_rule}
use Rattle.rules.proofs.Wrong.{holds, found}

zero_one : ◌≡◌ {A = ℕ} 0 1 → ⊥
zero_one e = omega arith

-- ── a cut that removes the named record only; support judged by the delegations into the giver only: P1 keeps 1-2 and 2-1 ──
abbrev P1_cut : Register
P1_cut = record { subjects = 3; marks = 0 ∷ 0 ∷ 0 ∷ []; retired = 0; delegations = entry 1 2 255 ∷ entry 2 1 255 ∷ [] }

-- neither of the two comes from the owner
from_owner : {d : Delegation} → d ∈ P1_cut.delegations → d.giver ≡ 0 → ⊥
from_owner (Memᴰ.head e) g = let q = sym (ap (λ (d : Delegation). d.giver) e) ∙ g in omega arith
from_owner (Memᴰ.tail (Memᴰ.head e)) g = let q = sym (ap (λ (d : Delegation). d.giver) e) ∙ g in omega arith
from_owner (Memᴰ.tail (Memᴰ.tail m)) g = absurd (Memᴰ.not-nil m)

no_chain : (ds : List Delegation) → IsChain steps P1_cut 1 2 ds → ⊥
no_chain [] c = zero_one c.linked
no_chain (d ∷ ds) c = from_owner (c.standing d (Memᴰ.head refl)) c.linked.0

pub not_named_only : Remainder steps P1_cut P1_cut → ⊥
not_named_only r = let (ds, c, h) = carried_chain steps P1_cut (entry 1 2 255) (r.supported (entry 1 2 255) (Memᴰ.head refl)) in no_chain ds c

-- ── a cut that stops after one round: P5 keeps 5-4 at 3 ──
abbrev P5_left : List Delegation → Register
P5_left ds = record { subjects = 6; marks = 0 ∷ 0 ∷ 0 ∷ 1 ∷ 1 ∷ 0 ∷ []; retired = 0; delegations = ds }

abbrev P5_cut : Register
P5_cut = P5_left (needing 0 1 6 1 ∷ entry 0 2 2 ∷ entry 1 3 5 ∷ entry 2 3 6 ∷ entry 3 5 5 ∷ entry 5 4 4 ∷ [])

abbrev P5_one_round : Register
P5_one_round = P5_left (needing 0 1 6 1 ∷ entry 0 2 2 ∷ entry 1 3 5 ∷ entry 2 3 1 ∷ entry 3 5 0 ∷ entry 5 4 3 ∷ [])

pub P5_round : round steps P5_cut ≡ P5_one_round
unfolding larger next step steps meets limit_from goes_on chains reach allowed
P5_round = refl

P5_unsupported : allowed steps P5_one_round (entry 5 4 3) ≡ none
unfolding larger next step steps meets limit_from goes_on chains reach allowed
P5_unsupported = refl

last_of_six : {a b c d e f : Delegation} → f ∈ (a ∷ b ∷ c ∷ d ∷ e ∷ f ∷ [])
last_of_six = Memᴰ.tail (Memᴰ.tail (Memᴰ.tail (Memᴰ.tail (Memᴰ.tail (Memᴰ.head refl)))))

pub not_one_round : Remainder steps P5_cut P5_one_round → ⊥
not_one_round r =
    let h = carried_allowed steps steps_rule P5_one_round (entry 5 4 3) (r.supported (entry 5 4 3) last_of_six) in
    omega (arith, ap code P5_unsupported)

-- ── a cut that goes too deep: P2 ──
abbrev pub P2_left : List Delegation → Register
P2_left ds = record { subjects = 5; marks = 0 ∷ 0 ∷ 0 ∷ 0 ∷ 0 ∷ []; retired = 0; delegations = ds }

abbrev P2_cut : Register
P2_cut = P2_left (entry 0 2 3 ∷ entry 1 3 4 ∷ entry 2 3 2 ∷ entry 3 4 3 ∷ [])

-- what document 01 says is left
abbrev P2_best : Register
P2_best = P2_left P2.standing

P2_within : Within P2_best P2_cut
P2_within = record { subjects = refl; marks = refl; retired = refl; held = at }
  where
    at : (d : Delegation) → d ∈ P2_best.delegations → (e : Delegation) × (e ∈ P2_cut.delegations) × AtMost d e
    at d (Memᴰ.head q) = (entry 0 2 3, Memᴰ.head refl, subst (λ (x : Delegation). AtMost x (entry 0 2 3)) (sym q) (AtMost_refl (entry 0 2 3)))
    at d (Memᴰ.tail (Memᴰ.head q)) = (entry 2 3 2, Memᴰ.tail (Memᴰ.tail (Memᴰ.head refl)), subst (λ (x : Delegation). AtMost x (entry 2 3 2)) (sym q) (AtMost_refl (entry 2 3 2)))
    at d (Memᴰ.tail (Memᴰ.tail (Memᴰ.head q))) =
        (entry 3 4 3, Memᴰ.tail (Memᴰ.tail (Memᴰ.tail (Memᴰ.head refl))), subst (λ (x : Delegation). AtMost x (entry 3 4 3)) (sym q) (AtMost_reweigh (entry 3 4 3) 1 (leb→le 1 3 tt)))
    at d (Memᴰ.tail (Memᴰ.tail (Memᴰ.tail m))) = absurd (Memᴰ.not-nil m)

P2_supported : (d : Delegation) → d ∈ P2_best.delegations → pos d.weight ≼ allowed steps P2_best d
unfolding larger next step steps meets limit_from goes_on chains reach allowed
P2_supported d (Memᴰ.head q) = subst (λ (x : Delegation). pos x.weight ≼ allowed steps P2_best x) (sym q) (leb→le 4 256 tt)
P2_supported d (Memᴰ.tail (Memᴰ.head q)) = subst (λ (x : Delegation). pos x.weight ≼ allowed steps P2_best x) (sym q) (leb→le 3 3 tt)
P2_supported d (Memᴰ.tail (Memᴰ.tail (Memᴰ.head q))) = subst (λ (x : Delegation). pos x.weight ≼ allowed steps P2_best x) (sym q) (leb→le 2 2 tt)
P2_supported d (Memᴰ.tail (Memᴰ.tail (Memᴰ.tail m))) = absurd (Memᴰ.not-nil m)

P2_remainder : Remainder steps P2_cut P2_best
P2_remainder = record { within = P2_within; supported = λ d m. allowed_carried steps steps_rule P2_best d (P2_supported d m) }

-- a best remainder holds what document 01 says is left
best_holds : (F : Register) (d : Delegation) → d ∈ P2_best.delegations → Best steps P2_cut F → T (holds d F.delegations)
best_holds F d m b = let (e, i, a) = (b.best P2_best P2_remainder).held d m in found d i a

-- all that the owner did not give is dropped
pub not_owner's_only : Best steps P2_cut (P2_left (entry 0 2 3 ∷ [])) → ⊥
not_owner's_only b = best_holds (P2_left (entry 0 2 3 ∷ [])) (entry 2 3 2) (Memᴰ.tail (Memᴰ.head refl)) b

-- 3-4 is dropped, though it can stand at 1
pub not_without_3_4 : Best steps P2_cut (P2_left (entry 0 2 3 ∷ entry 2 3 2 ∷ [])) → ⊥
not_without_3_4 b = best_holds (P2_left (entry 0 2 3 ∷ entry 2 3 2 ∷ [])) (entry 3 4 1) (Memᴰ.tail (Memᴰ.tail (Memᴰ.head refl))) b

-- 3-4 is kept at 0, though it can stand at 1
pub not_lighter : Best steps P2_cut (P2_left (entry 0 2 3 ∷ entry 2 3 2 ∷ entry 3 4 0 ∷ [])) → ⊥
not_lighter b = best_holds (P2_left (entry 0 2 3 ∷ entry 2 3 2 ∷ entry 3 4 0 ∷ [])) (entry 3 4 1) (Memᴰ.tail (Memᴰ.tail (Memᴰ.head refl))) b

-- ── counts that are made up: P2 answers 1, 1, 2 ──
pos_inj : {m n : ℕ} → pos m ≡ pos n → m ≡ n
pos_inj e = cc

pub not_dropped_0 : CutRight steps P2_cut (answered (pos 0) (pos 1) (pos 2) P2_best) → ⊥
not_dropped_0 r = zero_one (pos_inj r.dropped)

pub not_lowered_0 : CutRight steps P2_cut (answered (pos 1) (pos 0) (pos 2) P2_best) → ⊥
not_lowered_0 r = zero_one (pos_inj r.lowered)

pub not_rounds_1 : CutRight steps P2_cut (answered (pos 1) (pos 1) (pos 1) P2_best) → ⊥
not_rounds_1 r = go r.rounds.0 r.rounds.1 r.rounds.2
  where
    go : (n : ℕ) → pos 1 ≡ pos (suc n) → SettlesIn steps n P2_cut P2_best → ⊥
    go zero e s = let q = ap (λ (R : Register). length R.delegations) s.0 in omega arith
    go (suc n) e s = let q = pos_inj e in omega arith

P2_rests : round steps (round steps P2_cut) ≡ round steps P2_cut
unfolding larger next step steps meets limit_from goes_on chains reach allowed
P2_rests = refl

pub not_rounds_3 : CutRight steps P2_cut (answered (pos 1) (pos 1) (pos 3) P2_best) → ⊥
not_rounds_3 r = go r.rounds.0 r.rounds.1 r.rounds.2
  where
    go : (n : ℕ) → pos 3 ≡ pos (suc n) → SettlesIn steps n P2_cut P2_best → ⊥
    go zero e s = let q = pos_inj e in omega arith
    go (suc zero) e s = let q = pos_inj e in omega arith
    go (suc (suc n)) e s = s.1.0 P2_rests

-- ── reach ──
abbrev P6_register : Register
P6_register = record { subjects = 2; marks = 0 ∷ 0 ∷ []; retired = 0; delegations = [] }

-- reach is always -1: P6
pub not_none : IsReach steps P6_register 0 1 none → ⊥
unfolding limit_from
not_none r = let h = r.bounds [] (chain_owner steps P6_register 1) in omega arith

-- grant returns 16 before looking for a chain: P6
pub not_sixteen : PlaceRight (call_step steps) (CutsRight steps) P6_register (grant (granted 0 1 255 0 0 0)) (refused 16 P6_register) → ⊥
unfolding larger next step steps meets limit_from goes_on chains reach allowed passed held refusal_of accepted call_step
not_sixteen r = let e : ◌≡◌ {A = ℕ} 16 0 = ap (λ (o : Outcome). o.refusal) r.outcome in omega arith

abbrev P4_register : Register
P4_register = record { subjects = 6; marks = 0 ∷ 0 ∷ 0 ∷ 1 ∷ 0 ∷ 1 ∷ []; retired = 0; delegations = P4.standing }

P4_reach : reach steps P4_register 5 4 ≡ pos 0
unfolding larger next step steps meets limit_from goes_on chains reach
P4_reach = refl

-- the last weight less one in place of the limit: P4 gives 3
pub not_last_weight : IsReach steps P4_register 5 4 (pos 3) → ⊥
not_last_weight r = let e = pos_inj (sym P4_reach ∙ reach_only steps P4_register 5 4 (pos 3) r) in omega arith

-- a subject visited once, on a chain that another receiver does not meet: P4 gives -1
pub not_other_receiver's : IsReach steps P4_register 5 4 none → ⊥
not_other_receiver's r = let e = ap code (sym P4_reach ∙ reach_only steps P4_register 5 4 none r) in omega arith

abbrev P3_register : Register
P3_register = record { subjects = 5; marks = 0 ∷ 0 ∷ 0 ∷ 1 ∷ 1 ∷ []; retired = 0; delegations = P3_with.standing }

P3_reach : reach steps P3_register 3 4 ≡ pos 4
unfolding larger next step steps meets limit_from goes_on chains reach
P3_reach = refl

-- a subject visited once, on a lighter chain: P3 gives 1
pub not_first_chain : IsReach steps P3_register 3 4 (pos 1) → ⊥
not_first_chain r = let e = pos_inj (sym P3_reach ∙ reach_only steps P3_register 3 4 (pos 1) r) in omega arith

-- ── support by one table claimed of another: what our table granted is not supported by twos 0 ──
abbrev pub twos_left : ℕ → Register
twos_left w = record { subjects = 5; marks = 0 ∷ 0 ∷ 0 ∷ 0 ∷ 0 ∷ []; retired = 0; delegations = entry 0 1 9 ∷ entry 0 4 1 ∷ entry 1 2 8 ∷ entry 2 3 w ∷ [] }

abbrev twos_register : Register
twos_register = twos_left 6

twos_granted : register_at steps twos_given 8 ≡ twos_register
unfolding larger next step steps meets limit_from goes_on chains reach allowed passed held refusal_of accepted call_step
twos_granted = refl

twos_allowed : allowed twos twos_register (entry 1 2 8) ≡ pos 7
unfolding larger next two twos meets limit_from goes_on chains reach allowed
twos_allowed = refl

pub not_supported_next : let R = register_at steps twos_given 8 in Supported steps R × (Supported twos R → ⊥)
not_supported_next = (
  demand3_steps.supported twos_given 8,
  λ p.
      let s = subst (λ (R : Register). Supported twos R) twos_granted p in
      let h = carried_allowed twos twos_rule twos_register (entry 1 2 8) (s (entry 1 2 8) (Memᴰ.tail (Memᴰ.tail (Memᴰ.head refl)))) in
      omega (arith, ap code twos_allowed),
)

-- ── the registers above are those that document 01's examples lead to ──
pub registers_hold : ◌≡◌ {A = List Register} (named (register_at steps P1.calls 5) (removal 0 1) ∷ named (register_at steps P5.given 11) (lowering 0 2 2) ∷ named (register_at steps P2.given 9) (removal 0 1) ∷ register_at steps P6.given 1 ∷ register_at steps P4.given 10 ∷ register_at steps P3_with.given 8 ∷ []) (P1_cut ∷ P5_cut ∷ P2_cut ∷ P6_register ∷ P4_register ∷ P3_register ∷ [])
unfolding larger next step steps meets limit_from goes_on chains reach allowed settle named passed held refusal_of cut accepted call_step
registers_hold = refl
