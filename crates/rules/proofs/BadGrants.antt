-- Wrong outcomes of a grant for a pair that stands, which the definitions shut out (document 02, C-12). Assumes nothing.
use mathlib.Core.Path.{◌≡◌, refl, sym, ap}
use mathlib.Core.Logic.{◌≢◌}
use mathlib.Core.Bool.{true, false}
use mathlib.Core.List.{List, [], ◌∷◌, ◌++◌}
use Prim.Native.Nat.{ℕ}
use native.Mathlib.Omega.{arith}
use lib.Dec.{T, not_T}
use lib.IntN.{ℤ, pos}
use Rattle.rules.specs.List.{◌∈◌, any}
use Rattle.rules.specs.Limit.{larger}
use Rattle.rules.specs.Table.{next, step, steps}
use Rattle.rules.specs.Register.{Delegation, Register, granted}
use Rattle.rules.specs.Condition.{meets}
use Rattle.rules.specs.Chain.{limit_from}
use Rattle.rules.specs.Reach.{goes_on, chains, reach}
use Rattle.rules.specs.Support.{allowed}
use Rattle.rules.specs.Pair.{stands, raises}
use Rattle.rules.specs.Call.{Call, grant}
use Rattle.rules.specs.Refusal.{passed, held, refusal_of}
use Rattle.rules.specs.CallStep.{Outcome, answered, refused, accepted, call_step}
use Rattle.rules.specs.Trace.{PlaceRight}
use Rattle.rules.specs.History.{register_at, CutsRight}
use Rattle.rules.specs.Examples.{P2, entry, needing, plain, two, twos}
use Rattle.rules.proofs.Lists.{T_true, no}
use Rattle.rules.proofs.Refusals.{applies, first_of_other}
use Rattle.rules.proofs.Pairs.{pair_stands_lem}
use Rattle.rules.proofs.Granting.{raised}
use Rattle.rules.proofs.Wrong.{Wrong, as_defined, not_right}
use Rattle.rules.proofs.BadOutcomes.{P2_left, twos_left}

-- ── on P2's register ──
abbrev others : List Delegation
others = entry 0 2 3 ∷ entry 1 3 4 ∷ entry 2 3 2 ∷ entry 3 4 3 ∷ []

abbrev P2_register : Register
P2_register = P2_left (entry 0 1 5 ∷ others)

abbrev on_p2 : Call → Outcome → Wrong
on_p2 c o = record { table = steps; register = P2_register; call = c; outcome = o }

abbrev count : ℕ → Register → Outcome
count n R = answered (pos n) (pos 0) (pos 0) R

-- a raise is refused as any grant for a pair that stands
abbrev eleven : Wrong
eleven = on_p2 (plain 0 1 9) (refused 11 P2_register)

-- a smaller weight is set
abbrev smaller_set : Wrong
smaller_set = on_p2 (plain 0 1 3) (count 5 (P2_left (entry 0 1 3 ∷ others)))

-- an equal weight is accepted
abbrev equal_accepted : Wrong
equal_accepted = on_p2 (plain 0 1 5) (count 5 P2_register)

-- another need is taken over, or passed over; another bar
abbrev need_taken : Wrong
need_taken = on_p2 (grant (needing 0 1 9 1)) (count 5 (P2_left (needing 0 1 9 1 ∷ others)))

abbrev need_ignored : Wrong
need_ignored = on_p2 (grant (needing 0 1 9 1)) (count 5 (P2_left (entry 0 1 9 ∷ others)))

abbrev bar_taken : Wrong
bar_taken = on_p2 (grant (granted 0 1 9 0 1 0)) (count 5 (P2_left (granted 0 1 9 0 1 0 ∷ others)))

-- 11 where the reach is too low
abbrev eleven_for_sixteen : Wrong
eleven_for_sixteen = on_p2 (plain 1 3 5) (refused 11 P2_register)

-- the reach is not asked
abbrev reach_unasked : Wrong
reach_unasked = on_p2 (plain 1 3 5) (count 5 (P2_left (entry 0 1 5 ∷ entry 0 2 3 ∷ entry 1 3 5 ∷ entry 2 3 2 ∷ entry 3 4 3 ∷ [])))

-- a second record for the pair
abbrev second_record : Wrong
second_record = on_p2 (plain 0 1 9) (count 6 (P2_left (entry 0 1 5 ∷ entry 0 1 9 ∷ others)))

-- the count is one more
abbrev one_more : Wrong
one_more = on_p2 (plain 0 1 9) (count 6 (P2_left (entry 0 1 9 ∷ others)))

-- what stood on the receiver is lifted too
abbrev others_lifted : Wrong
others_lifted = on_p2 (plain 0 1 9) (count 5 (P2_left (entry 0 1 9 ∷ entry 0 2 3 ∷ entry 1 3 8 ∷ entry 2 3 2 ∷ entry 3 4 7 ∷ [])))

-- ── on others ──

-- rounds follow the raise: 1-2, which stands above its reach, is lowered
abbrev unsupported : ℕ → ℕ → Register
unsupported w v = record { subjects = 3; marks = 0 ∷ 0 ∷ 0 ∷ []; retired = 0; delegations = entry 0 1 w ∷ entry 1 2 v ∷ [] }

abbrev rounds_follow : Wrong
rounds_follow = record { table = steps; register = unsupported 5 9; call = plain 0 1 6; outcome = count 2 (unsupported 6 5) }

-- the weight is compared with the reach, which is below it
abbrev reach_compared : Wrong
reach_compared = record { table = steps; register = unsupported 4 9; call = plain 1 2 5; outcome = refused 16 (unsupported 4 9) }

-- judged by our table in place of the one given
abbrev by_ours : Wrong
by_ours = record { table = twos; register = twos_left 6; call = plain 2 3 7; outcome = count 4 (twos_left 7) }

abbrev pub wrong_grants : List Wrong
wrong_grants =
    eleven ∷ smaller_set ∷ equal_accepted ∷ need_taken ∷ need_ignored ∷ bar_taken ∷ eleven_for_sixteen ∷ reach_unasked ∷ second_record ∷ one_more ∷ others_lifted ∷ rounds_follow ∷ reach_compared ∷ by_ours
    ∷ []

-- ── none of them is right ──
none_as_defined : any as_defined wrong_grants ≡ false
unfolding larger next step steps two twos meets limit_from goes_on chains reach allowed passed held refusal_of accepted call_step
none_as_defined = refl

pub not_granted_so : (w : Wrong) → w ∈ wrong_grants → PlaceRight (call_step w.table) (CutsRight w.table) w.register w.call w.outcome → ⊥
not_granted_so = not_right wrong_grants none_as_defined

-- the register is that of P2
pub grants_on : P2_register ≡ register_at steps P2.given 9
unfolding larger next step steps meets limit_from goes_on chains reach allowed passed held refusal_of accepted call_step
grants_on = refl

-- ── 11, and 12 in a full register: a raise gets neither, whatever the register ──
pub raise_never : (t : List ℤ) (R : Register) (d : Delegation) → T (raises R d) → (refusal_of t R (grant d) ≢ 11) × (refusal_of t R (grant d) ≢ 12)
unfolding refusal_of passed held
raise_never t R d h =
    let tests = passed (grant d) ++ held t R (grant d) in
    let no-11 : applies 11 tests ≡ false = rw (s, r) in
    let no-12 : applies 12 tests ≡ false = rw s in
    (first_of_other tests 11 (not_T (applies 11 tests) (no no-11)) (λ e. omega arith), first_of_other tests 12 (not_T (applies 12 tests) (no no-12)) (λ e. omega arith))
  where
    r : raises R d ≡ true
    r = T_true (raises R d) h

    s : stands R d.giver d.receiver ≡ true
    s =
        let (e, m, k) = raised R d h in
        pair_stands_lem R d.giver d.receiver e m (ap (λ (x : Delegation). x.giver) (sym k.same), ap (λ (x : Delegation). x.receiver) (sym k.same))
