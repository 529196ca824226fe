-- Wrong outcomes of setting a subject's marks, which the definitions shut out (document 02, C-15). Assumes nothing.
use mathlib.Core.Path.{◌≡◌, refl, ap}
use mathlib.Core.Bool.{false}
use mathlib.Core.List.Memᴰ
use mathlib.Core.List.{List, [], ◌∷◌}
use Prim.Native.Nat.{ℕ}
use native.Mathlib.Omega.{arith}
use lib.Dec.{T}
use lib.IntN.{pos}
use Rattle.rules.specs.List.{◌∈◌, any}
use Rattle.rules.specs.Limit.{none, code, larger}
use Rattle.rules.specs.Table.{next, step, steps}
use Rattle.rules.specs.Register.{Delegation, Register}
use Rattle.rules.specs.Condition.{meets}
use Rattle.rules.specs.Chain.{limit_from}
use Rattle.rules.specs.Reach.{goes_on, chains, reach}
use Rattle.rules.specs.Support.{allowed}
use Rattle.rules.specs.Round.{settle}
use Rattle.rules.specs.Cut.{marking, changed}
use Rattle.rules.specs.Remainder.{LiftsNothing, Remainder, Best}
use Rattle.rules.specs.Call.{Call, set_marks}
use Rattle.rules.specs.Refusal.{passed, held, refusal_of}
use Rattle.rules.specs.CallStep.{Outcome, refused, cut, accepted, call_step}
use Rattle.rules.specs.Trace.{PlaceRight}
use Rattle.rules.specs.History.{register_at, CutsRight}
use Rattle.rules.specs.Examples.{entry, needing, lapse, two, twos}
use Rattle.rules.proofs.Table.{steps_rule}
use Rattle.rules.proofs.Support.{carried_allowed}
use Rattle.rules.proofs.Wrong.{Wrong, as_defined, told, not_right, holds, found, best_holds}

-- ── the example's register, subject 2 and 3 with these marks ──
abbrev marked : ℕ → ℕ → List Delegation → Register
marked m n ds = record { subjects = 4; marks = 0 ∷ 0 ∷ m ∷ n ∷ []; retired = 0; delegations = ds }

abbrev four : List Delegation
four = needing 0 1 6 1 ∷ entry 0 2 2 ∷ entry 1 2 5 ∷ entry 2 3 4 ∷ []

-- what is left when 2 loses the mark
abbrev kept : List Delegation
kept = needing 0 1 6 1 ∷ entry 0 2 2 ∷ entry 2 3 1 ∷ []

abbrev before : Register
before = marked 1 1 four

-- after the change: 2 has no mark
abbrev lapsed : List Delegation → Register
lapsed ds = marked 0 1 ds

pub lapse_holds : ◌≡◌ {A = List Register} (register_at steps lapse.given 7 ∷ changed before (marking 2 0) ∷ (settle steps (lapsed four)).left ∷ []) (before ∷ lapsed four ∷ lapsed kept ∷ [])
unfolding larger next step steps meets limit_from goes_on chains reach allowed settle passed held refusal_of cut accepted call_step
lapse_holds = refl

-- ── no remainder ──

-- no round follows, or the rounds come first and judge by the old marks
unsupported_1_2 : allowed steps (lapsed four) (entry 1 2 5) ≡ none
unfolding larger next step steps meets limit_from goes_on chains reach allowed
unsupported_1_2 = refl

pub not_marks_alone : Remainder steps (lapsed four) (lapsed four) → ⊥
not_marks_alone r =
    let h = carried_allowed steps steps_rule (lapsed four) (entry 1 2 5) (r.supported (entry 1 2 5) (Memᴰ.tail (Memᴰ.tail (Memᴰ.head refl)))) in
    omega (arith, ap code unsupported_1_2)

-- one round only: 2-3 still stands at 4
abbrev once : Register
once = lapsed (needing 0 1 6 1 ∷ entry 0 2 2 ∷ entry 2 3 4 ∷ [])

lighter_2_3 : allowed steps once (entry 2 3 4) ≡ pos 1
unfolding larger next step steps meets limit_from goes_on chains reach allowed
lighter_2_3 = refl

pub not_one_round_of_marks : Remainder steps (lapsed four) once → ⊥
not_one_round_of_marks r =
    let h = carried_allowed steps steps_rule once (entry 2 3 4) (r.supported (entry 2 3 4) (Memᴰ.tail (Memᴰ.tail (Memᴰ.head refl)))) in
    omega (arith, ap code lighter_2_3)

-- ── a remainder, but not the best ──
holds_kept : (F : Register) (d : Delegation) → d ∈ kept → Best steps (lapsed four) F → T (holds d F.delegations)
unfolding larger next step steps meets limit_from goes_on chains reach allowed settle
holds_kept F d m b = best_holds steps steps_rule (lapsed four) F d m b

-- everything to or from 2 is dropped
pub not_all_of_2 : Best steps (lapsed four) (lapsed (needing 0 1 6 1 ∷ [])) → ⊥
not_all_of_2 b = holds_kept (lapsed (needing 0 1 6 1 ∷ [])) (entry 0 2 2) (Memᴰ.tail (Memᴰ.head refl)) b

-- everything with a condition is dropped
pub not_all_conditional : Best steps (lapsed four) (lapsed (entry 0 2 2 ∷ entry 2 3 1 ∷ [])) → ⊥
not_all_conditional b = holds_kept (lapsed (entry 0 2 2 ∷ entry 2 3 1 ∷ [])) (needing 0 1 6 1) (Memᴰ.head refl) b

-- 2-3 is dropped, though 0-2 carries it at 1
pub not_without_2_3 : Best steps (lapsed four) (lapsed (needing 0 1 6 1 ∷ entry 0 2 2 ∷ [])) → ⊥
not_without_2_3 b = holds_kept (lapsed (needing 0 1 6 1 ∷ entry 0 2 2 ∷ [])) (entry 2 3 1) (Memᴰ.tail (Memᴰ.tail (Memᴰ.head refl))) b

-- ── 2 has the mark again, and what was dropped is given back ──
pub not_given_back : LiftsNothing (lapsed kept) before → ⊥
not_given_back l = let (e, m, a) = l (entry 1 2 5) (Memᴰ.tail (Memᴰ.tail (Memᴰ.head refl))) in found (entry 1 2 5) m a

-- ── wrong outcomes ──
abbrev on : Call → Outcome → Wrong
on c o = record { table = steps; register = before; call = c; outcome = o }

abbrev pub wrong_marks : List Wrong
wrong_marks =
    -- no round follows
    on (set_marks 0 2 0) (told 0 0 1 (lapsed four))
    -- the marks of another subject
    ∷ on (set_marks 0 2 0) (told 0 1 2 (marked 1 0 (needing 0 1 6 1 ∷ entry 0 2 2 ∷ entry 1 2 5 ∷ entry 2 3 1 ∷ [])))
    -- the marks passed are added to those that stand; they are cleared from them
    ∷ on (set_marks 0 2 2) (told 0 0 1 (marked 3 1 four))
    ∷ on (set_marks 0 3 2) (told 0 0 1 (marked 1 1 four))
    -- the delegations are right, the marks are left as they were
    ∷ on (set_marks 0 2 0) (told 1 1 3 (marked 1 1 kept))
    -- the last round is not counted; the same marks make no round
    ∷ on (set_marks 0 2 0) (told 1 1 2 (lapsed kept))
    ∷ on (set_marks 0 2 1) (told 0 0 0 before)
    -- 1 must meet the condition of the delegation to it, or a condition is judged by the marks of those on the way
    ∷ on (set_marks 0 1 0) (told 2 1 3 (marked 1 1 (entry 0 2 2 ∷ entry 2 3 1 ∷ [])))
    -- the subject sets its own marks; 14 before 6, and before 9; 6 before 4; the owner's marks are set
    ∷ on (set_marks 2 2 1) (told 0 0 1 before)
    ∷ on (set_marks 1 0 1) (refused 14 before)
    ∷ on (set_marks 1 7 1) (refused 14 before)
    ∷ on (set_marks 0 0 65536) (refused 6 before)
    ∷ on (set_marks 0 0 0) (told 0 0 1 before)
    -- what was dropped is given back
    ∷ record { table = steps; register = lapsed kept; call = set_marks 0 2 1; outcome = told 0 0 1 before }
    -- chains are judged by our table in place of the one given
    ∷ record { table = twos; register = before; call = set_marks 0 1 0; outcome = told 0 0 1 before }
    ∷ []

none_as_defined : any as_defined wrong_marks ≡ false
unfolding larger next step steps two twos meets limit_from goes_on chains reach allowed settle passed held refusal_of cut accepted call_step
none_as_defined = refl

pub not_marked_so : (w : Wrong) → w ∈ wrong_marks → PlaceRight (call_step w.table) (CutsRight w.table) w.register w.call w.outcome → ⊥
not_marked_so = not_right wrong_marks none_as_defined
