-- Wrong outcomes where a pass-only delegation stands or is asked for, which the definitions shut out (document 02, C-18). Assumes nothing.
use mathlib.Core.Path.{◌≡◌, refl}
use mathlib.Core.Bool.{false}
use mathlib.Core.List.Memᴰ
use mathlib.Core.List.{List, [], ◌∷◌, ◌++◌}
use Prim.Native.Nat.{ℕ}
use lib.IntN.{pos}
use Rattle.rules.specs.List.{◌∈◌, any}
use Rattle.rules.specs.Limit.{none, larger}
use Rattle.rules.specs.Table.{next, step, steps}
use Rattle.rules.specs.Register.{Delegation, Register, granted}
use Rattle.rules.specs.Condition.{meets}
use Rattle.rules.specs.Chain.{limit_from}
use Rattle.rules.specs.Reach.{goes_on, chains, reach}
use Rattle.rules.specs.Support.{allowed}
use Rattle.rules.specs.Round.{settle}
use Rattle.rules.specs.Cut.{lowering, named}
use Rattle.rules.specs.Remainder.{Remainder, Best}
use Rattle.rules.specs.Call.{grant, downgrade, ask_reach, ask_use, set_marks, retire}
use Rattle.rules.specs.Refusal.{passed, held, refusal_of}
use Rattle.rules.specs.CallStep.{Outcome, answered, refused, cut, accepted, call_step}
use Rattle.rules.specs.Trace.{PlaceRight}
use Rattle.rules.specs.History.{register_at, CutsRight}
use Rattle.rules.specs.Examples.{entry, plain, pass_only, passing, passing_lowered}
use Rattle.rules.proofs.Table.{steps_rule}
use Rattle.rules.proofs.Wrong.{Wrong, as_defined, on, told, not_right, found, best_holds}

-- ── the registers of the examples ──
abbrev three : List Delegation → Register
three ds = record { subjects = 3; marks = 0 ∷ 0 ∷ 0 ∷ []; retired = 0; delegations = ds }

-- 0-1 is pass-only, and 1-2 stands on it: at 3, raised to 9, brought to 0 by the named change; and what the rounds leave then
abbrev over : ℕ → Register
over w = three (pass_only 0 1 w ∷ entry 1 2 2 ∷ [])

abbrev alone : Register
alone = three (pass_only 0 1 0 ∷ [])

-- 1-2 is pass-only and stands on 0-1; 0-1 is brought to 1; a delegation to 2 is added
abbrev under : Register
under = three (entry 0 1 5 ∷ pass_only 1 2 3 ∷ [])

abbrev lowered : Register
lowered = three (entry 0 1 1 ∷ pass_only 1 2 0 ∷ [])

abbrev between : Delegation → Register
between d = three (entry 0 1 1 ∷ d ∷ pass_only 1 2 0 ∷ [])

pub passing_holds : let R = register_at steps (passing.given ++ passing.calls) in let S = register_at steps (passing_lowered.given ++ passing_lowered.calls) in ◌≡◌ {A = List Register} (R 4 ∷ R 9 ∷ named (over 9) (lowering 0 1 0) ∷ R 10 ∷ S 4 ∷ S 5 ∷ S 8 ∷ []) (over 3 ∷ over 9 ∷ over 0 ∷ alone ∷ under ∷ lowered ∷ between (entry 0 2 0) ∷ [])
unfolding larger next step steps meets limit_from goes_on chains reach allowed settle named passed held refusal_of cut accepted call_step
passing_holds = refl

-- ── remainders of the register after the named change ──
-- 0-1 is made ordinary, whatever its weight: that is no remainder
pub not_made_ordinary : (w : ℕ) (ds : List Delegation) → Remainder steps (over 0) (three (entry 0 1 w ∷ ds)) → ⊥
not_made_ordinary w ds r = let (e, m, a) = r.within.held (entry 0 1 w) (Memᴰ.head refl) in found (entry 0 1 w) m a

-- 0-1 is dropped because it came to 0: that is a remainder, but not the best
pub dropped_remains : Remainder steps (over 0) (three [])
dropped_remains = record {
  within = record { subjects = refl; marks = refl; retired = refl; held = λ d m. absurd (Memᴰ.not-nil m) };
  supported = λ d m. absurd (Memᴰ.not-nil m);
}

pub not_dropped_at_zero : Best steps (over 0) (three []) → ⊥
unfolding larger next step steps meets limit_from goes_on chains reach allowed settle
not_dropped_at_zero b = best_holds steps steps_rule (over 0) (three []) (pass_only 0 1 0) (Memᴰ.head refl) b

-- ── wrong outcomes ──
abbrev one : ℕ → Register → Outcome
one n R = told n 0 0 R

-- what is left where marks set and a retirement make 0-1 ordinary
abbrev marked : Register
marked = record { subjects = 3; marks = 0 ∷ 7 ∷ 0 ∷ []; retired = 0; delegations = entry 0 1 3 ∷ entry 1 2 2 ∷ [] }

abbrev left_by_2 : Register
left_by_2 = record { subjects = 3; marks = 0 ∷ 0 ∷ 0 ∷ []; retired = 4; delegations = entry 0 1 3 ∷ [] }

-- one delegation to 2 is pass-only, the other ordinary
abbrev both : Register
both = three (entry 0 1 5 ∷ pass_only 0 2 1 ∷ entry 1 2 3 ∷ [])

abbrev pub wrong_kinds : List Wrong
wrong_kinds =
    -- use is 1 where only a pass-only delegation stands; it is 0 where one stands beside an ordinary one, first or last; it is 0 for the owner
    on (over 3) (ask_use 1) (one 1 (over 3))
    ∷ on alone (ask_use 1) (one 1 alone)
    ∷ on both (ask_use 2) (one 0 both)
    ∷ on (between (entry 0 2 0)) (ask_use 2) (one 0 (between (entry 0 2 0)))
    ∷ on (over 3) (ask_use 0) (one 0 (over 3))
    -- the kind is written as 0: by a grant, a raise, the named change, a round, marks set, a retirement
    ∷ on (three []) (grant (pass_only 0 1 3)) (one 1 (three (entry 0 1 3 ∷ [])))
    ∷ on (over 3) (grant (pass_only 0 1 9)) (one 2 (three (entry 0 1 9 ∷ entry 1 2 2 ∷ [])))
    ∷ on (over 9) (downgrade 0 0 1 0) (told 1 0 2 (three (entry 0 1 0 ∷ [])))
    ∷ on under (downgrade 0 0 1 1) (told 0 1 2 (three (entry 0 1 1 ∷ entry 1 2 0 ∷ [])))
    ∷ on (over 3) (set_marks 0 1 7) (told 0 0 1 marked)
    ∷ on (over 3) (retire 0 2) (told 0 0 1 left_by_2)
    -- what comes to 0 is dropped: by the named change, counted or not, and by a round
    ∷ on (over 9) (downgrade 0 0 1 0) (told 2 0 2 (three []))
    ∷ on (over 9) (downgrade 0 0 1 0) (told 1 0 2 (three []))
    ∷ on under (downgrade 0 0 1 1) (told 1 0 2 (three (entry 0 1 1 ∷ [])))
    -- chains pass over pass-only links: in reach, in a cut, in a grant
    ∷ on (over 3) (ask_reach 1 2) (answered none (pos 0) (pos 0) (over 3))
    ∷ on (over 9) (downgrade 0 0 1 5) (told 1 0 2 (three (pass_only 0 1 5 ∷ [])))
    ∷ on (three (pass_only 0 1 3 ∷ [])) (plain 1 2 2) (refused 16 (three (pass_only 0 1 3 ∷ [])))
    -- such a link takes one more, or nothing
    ∷ on (over 3) (ask_reach 1 2) (one 1 (over 3))
    ∷ on (over 3) (ask_reach 1 2) (one 3 (over 3))
    -- a grant with the other kind changes the kind, at a larger weight, at the same, at 0, and the other way; it raises and leaves the kind; it stands beside the first
    ∷ on (over 3) (plain 0 1 9) (one 2 (three (entry 0 1 9 ∷ entry 1 2 2 ∷ [])))
    ∷ on (over 3) (plain 0 1 3) (one 2 (three (entry 0 1 3 ∷ entry 1 2 2 ∷ [])))
    ∷ on alone (plain 0 1 0) (one 1 (three (entry 0 1 0 ∷ [])))
    ∷ on under (grant (pass_only 0 1 9)) (one 2 (three (pass_only 0 1 9 ∷ pass_only 1 2 3 ∷ [])))
    ∷ on (over 3) (plain 0 1 9) (one 2 (over 9))
    ∷ on (over 3) (plain 0 1 9) (one 3 (three (pass_only 0 1 3 ∷ entry 0 1 9 ∷ entry 1 2 2 ∷ [])))
    -- 11 for a raise of the same kind, and from 0
    ∷ on (over 3) (grant (pass_only 0 1 9)) (refused 11 (over 3))
    ∷ on alone (grant (pass_only 0 1 4)) (refused 11 alone)
    -- 21 for a downgrade to 0, and for an ordinary grant of weight 0
    ∷ on (over 9) (downgrade 0 0 1 0) (refused 21 (over 9))
    ∷ on lowered (plain 0 2 0) (refused 21 lowered)
    -- pass-only of weight 0 is accepted; kind 2 is taken as 1, or kept; 256 is taken as 0
    ∷ on lowered (grant (pass_only 0 2 0)) (one 3 (between (pass_only 0 2 0)))
    ∷ on lowered (grant (granted 0 2 1 0 0 2)) (one 3 (between (pass_only 0 2 1)))
    ∷ on lowered (grant (granted 0 2 1 0 0 2)) (one 3 (between (granted 0 2 1 0 0 2)))
    ∷ on lowered (grant (granted 0 2 1 0 0 256)) (one 3 (between (entry 0 2 1)))
    -- 21 after 9, and after 11; 21 before 6
    ∷ on (over 3) (grant (granted 0 7 5 0 0 2)) (refused 9 (over 3))
    ∷ on (over 3) (grant (pass_only 0 1 0)) (refused 11 (over 3))
    ∷ on (over 3) (grant (granted 1 0 5 0 0 2)) (refused 21 (over 3))
    ∷ []

none_as_defined : any as_defined wrong_kinds ≡ false
unfolding larger next step steps meets limit_from goes_on chains reach allowed settle named passed held refusal_of cut accepted call_step
none_as_defined = refl

pub not_passed_so : (w : Wrong) → w ∈ wrong_kinds → PlaceRight (call_step w.table) (CutsRight w.table) w.register w.call w.outcome → ⊥
not_passed_so = not_right wrong_kinds none_as_defined
