-- Wrong outcomes of retiring a subject, which the definitions shut out (document 02, C-16). Assumes nothing.
use mathlib.Core.Path.{◌≡◌, refl, ap}
use mathlib.Core.Bool.{false}
use mathlib.Core.List.Memᴰ
use mathlib.Core.List.{List, [], ◌∷◌}
use Prim.Native.Nat.{ℕ}
use native.Mathlib.Omega.{arith}
use lib.Dec.{T}
use lib.IntN.{pos}
use Rattle.rules.specs.List.{◌∈◌, any}
use Rattle.rules.specs.Limit.{code, larger}
use Rattle.rules.specs.Table.{next, step, steps}
use Rattle.rules.specs.Register.{Delegation, Register}
use Rattle.rules.specs.Condition.{meets}
use Rattle.rules.specs.Chain.{limit_from}
use Rattle.rules.specs.Reach.{goes_on, chains, reach}
use Rattle.rules.specs.Support.{allowed}
use Rattle.rules.specs.Round.{settle}
use Rattle.rules.specs.Cut.{named, retirement, changed}
use Rattle.rules.specs.Remainder.{Remainder, Best}
use Rattle.rules.specs.Call.{enrol, grant, revoke, ask_use, ask_reach, set_marks, retire}
use Rattle.rules.specs.Refusal.{passed, held, refusal_of}
use Rattle.rules.specs.CallStep.{refused, cut, accepted, call_step}
use Rattle.rules.specs.Trace.{PlaceRight}
use Rattle.rules.specs.History.{register_at, CutsRight}
use Rattle.rules.specs.Examples.{entry, leaving}
use Rattle.rules.proofs.Table.{steps_rule}
use Rattle.rules.proofs.Support.{carried_allowed}
use Rattle.rules.proofs.Wrong.{Wrong, as_defined, on, told, not_right, holds, found, best_holds}

-- ── the example's register, 1 with these marks, those of the number n retired ──
abbrev five : ℕ → ℕ → List Delegation → Register
five m n ds = record { subjects = 5; marks = 0 ∷ m ∷ 0 ∷ 0 ∷ 0 ∷ []; retired = n; delegations = ds }

abbrev before : Register
before = five 7 0 (entry 0 1 5 ∷ entry 0 3 2 ∷ entry 1 2 4 ∷ entry 2 4 3 ∷ entry 3 2 1 ∷ [])

-- after the change, and after the rounds: 1 is gone
abbrev gone : List Delegation → Register
gone ds = five 0 2 ds

abbrev others : List Delegation
others = entry 0 3 2 ∷ entry 2 4 3 ∷ entry 3 2 1 ∷ []

abbrev kept : List Delegation
kept = entry 0 3 2 ∷ entry 2 4 0 ∷ entry 3 2 1 ∷ []

pub leaving_holds : ◌≡◌ {A = List Register} (register_at steps leaving.given 9 ∷ changed before (retirement 1) ∷ (settle steps (gone others)).left ∷ []) (before ∷ gone others ∷ gone kept ∷ [])
unfolding larger next step steps meets limit_from goes_on chains reach allowed settle named passed held refusal_of cut accepted call_step
leaving_holds = refl

-- ── no remainder ──

-- no round follows: 2-4 still stands at 3
lighter_2_4 : allowed steps (gone others) (entry 2 4 3) ≡ pos 0
unfolding larger next step steps meets limit_from goes_on chains reach allowed
lighter_2_4 = refl

pub not_left_alone : Remainder steps (gone others) (gone others) → ⊥
not_left_alone r =
    let h = carried_allowed steps steps_rule (gone others) (entry 2 4 3) (r.supported (entry 2 4 3) (Memᴰ.tail (Memᴰ.head refl))) in
    omega (arith, ap code lighter_2_4)

-- another bit, none, or the marks kept
pub not_other_bits : (n : ℕ) (ds : List Delegation) → Remainder steps (gone others) (five 0 n ds) → n ≡ 2
not_other_bits n ds r = r.within.retired

pub not_with_marks : (n : ℕ) (ds : List Delegation) → Remainder steps (gone others) (five 7 n ds) → ⊥
not_with_marks n ds r = let e : ◌≡◌ {A = ℕ} 7 0 = ap (λ (ms : List ℕ). second ms) r.within.marks in omega arith
  where
    second : List ℕ → ℕ
    second [] = 0
    second (x ∷ []) = 0
    second (x ∷ y ∷ ms) = y

-- a delegation to 1 still stands
pub not_with_0_1 : Remainder steps (gone others) (gone (entry 0 1 5 ∷ kept)) → ⊥
not_with_0_1 r = let (e, m, a) = r.within.held (entry 0 1 5) (Memᴰ.head refl) in found (entry 0 1 5) m a

-- ── a remainder, but not the best ──
holds_kept : (F : Register) (d : Delegation) → d ∈ kept → Best steps (gone others) F → T (holds d F.delegations)
unfolding larger next step steps meets limit_from goes_on chains reach allowed settle
holds_kept F d m b = best_holds steps steps_rule (gone others) F d m b

-- 2-4 is dropped, though 3-2 carries it at 0; all that stood on 1 is dropped
pub not_without_2_4 : Best steps (gone others) (gone (entry 0 3 2 ∷ entry 3 2 1 ∷ [])) → ⊥
not_without_2_4 b = holds_kept (gone (entry 0 3 2 ∷ entry 3 2 1 ∷ [])) (entry 2 4 0) (Memᴰ.tail (Memᴰ.head refl)) b

pub not_all_behind_1 : Best steps (gone others) (gone (entry 0 3 2 ∷ [])) → ⊥
not_all_behind_1 b = holds_kept (gone (entry 0 3 2 ∷ [])) (entry 3 2 1) (Memᴰ.tail (Memᴰ.tail (Memᴰ.head refl))) b

-- ── wrong outcomes ──
abbrev now : Register
now = gone kept

abbrev pub wrong_retirements : List Wrong
wrong_retirements =
    -- only the delegations to 1 are removed, and the rounds drop the other and count it; only those from 1
    on before (retire 0 1) (told 1 1 2 now)
    ∷ on before (retire 0 1) (told 0 1 2 (gone (entry 0 1 5 ∷ kept)))
    -- its delegations are counted as dropped
    ∷ on before (retire 0 1) (told 2 1 2 now)
    -- the marks are left; no bit is set; that of the next subject, the mirrored one
    ∷ on before (retire 0 1) (told 0 1 2 (five 7 2 kept))
    ∷ on before (retire 0 1) (told 0 1 2 (five 0 0 kept))
    ∷ on before (retire 0 1) (told 0 1 2 (five 0 4 kept))
    ∷ on before (retire 0 1) (told 0 1 2 (five 0 64 kept))
    -- no round follows; the last is not counted; what 3 carries is dropped
    ∷ on before (retire 0 1) (told 0 0 1 (gone others))
    ∷ on before (retire 0 1) (told 0 1 1 now)
    ∷ on before (retire 0 1) (told 1 0 2 (gone (entry 0 3 2 ∷ entry 3 2 1 ∷ [])))
    -- the subject retires itself; 14 before 6, 19 and 9; the owner is retired
    ∷ on before (retire 1 1) (told 0 1 2 now)
    ∷ on before (retire 1 0) (refused 14 before)
    ∷ on now (retire 3 1) (refused 14 now)
    ∷ on before (retire 1 9) (refused 14 before)
    ∷ on before (retire 0 0) (told 1 0 1 before)
    -- one who is gone is retired again, uses, reaches, is granted to, gets marks, gives orders
    ∷ on now (retire 0 1) (told 0 0 1 now)
    ∷ on now (ask_use 1) (told 0 0 0 now)
    ∷ on now (ask_reach 0 1) (told 255 0 0 now)
    ∷ on now (grant (entry 0 1 5)) (refused 16 now)
    ∷ on now (set_marks 0 1 7) (told 0 0 1 (five 7 2 kept))
    ∷ on now (set_marks 1 2 7) (refused 14 now)
    ∷ on now (revoke 1 0 3) (refused 14 now)
    ∷ on now (revoke 0 0 1) (refused 13 now)
    -- 19 before 9
    ∷ on now (ask_reach 1 9) (refused 19 now)
    -- the number is given again
    ∷ on now (enrol 0) (told 1 0 0 now)
    ∷ []

none_as_defined : any as_defined wrong_retirements ≡ false
unfolding larger next step steps meets limit_from goes_on chains reach allowed settle named passed held refusal_of cut accepted call_step
none_as_defined = refl

pub not_retired_so : (w : Wrong) → w ∈ wrong_retirements → PlaceRight (call_step w.table) (CutsRight w.table) w.register w.call w.outcome → ⊥
not_retired_so = not_right wrong_retirements none_as_defined
