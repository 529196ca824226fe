-- What a wrong program returns and leaves, and how it is told from what the definitions make of the call. Assumes nothing.
use mathlib.Core.Path.{◌≡◌, subst}
use mathlib.Core.Bool.{Bool, false, ◌&&◌}
use mathlib.Core.List.{List, ◌∷◌, ◌++◌}
use Prim.Native.Nat.{ℕ}
use lib.Dec.{T, eqb, leb, le→leb}
use lib.IntN.{ℤ, pos}
use Rattle.rules.specs.List.{◌∈◌, any, concat_map}
use Rattle.rules.specs.Limit.{code}
use Rattle.rules.specs.Table.{TableRule, steps}
use Rattle.rules.specs.Register.{Delegation, Register, fields}
use Rattle.rules.specs.Round.{equal, settle}
use Rattle.rules.specs.Remainder.{AtMost, Best}
use Rattle.rules.specs.Call.{Call}
use Rattle.rules.specs.CallStep.{Outcome, answered, call_step}
use Rattle.rules.specs.Trace.{PlaceRight}
use Rattle.rules.specs.History.{CutsRight}
use Rattle.rules.proofs.Lists.{no, any_mem, T_both, eq_to_eqb}
use Rattle.rules.proofs.AtMost.{at_giver, at_receiver, at_kind}
use Rattle.rules.proofs.Rounds.{equal_refl, settle_best}

-- a call on a register by a table, and what a wrong program returns and leaves
pub record Wrong : Type 0 where
  pub table : List ℤ
  pub register : Register
  pub call : Call
  pub outcome : Outcome

-- a call by our table, and an accepted call's three answers
abbrev pub on : Register → Call → Outcome → Wrong
on R c o = record { table = steps; register = R; call = c; outcome = o }

abbrev pub told : ℕ → ℕ → ℕ → Register → Outcome
told a b c R = answered (pos a) (pos b) (pos c) R

abbrev numbers : Outcome → List ℕ
numbers o = o.refusal ∷ code o.first ∷ code o.second ∷ code o.third ∷ o.left.retired ∷ (o.left.marks ++ concat_map fields o.left.delegations)

abbrev pub as_defined : Wrong → Bool
as_defined w = equal (numbers (call_step w.table w.register w.call)) (numbers w.outcome)

pub not_right : (ws : List Wrong) → any as_defined ws ≡ false → (w : Wrong) → w ∈ ws → PlaceRight (call_step w.table) (CutsRight w.table) w.register w.call w.outcome → ⊥
not_right ws none w m r = no none (any_mem as_defined m (subst (λ (o : Outcome). T (equal (numbers o) (numbers w.outcome))) r.outcome (equal_refl (numbers w.outcome))))

-- d stands in the list, of the same kind and at least as heavy, as a test
abbrev pub stands_as : Delegation → Delegation → Bool
stands_as d e = eqb d.giver e.giver && eqb d.receiver e.receiver && eqb d.kind e.kind && leb d.weight e.weight

abbrev pub holds : Delegation → List Delegation → Bool
holds d es = any (stands_as d) es

pub found : (d : Delegation) {e : Delegation} {es : List Delegation} → e ∈ es → AtMost d e → T (holds d es)
found d {e} m a =
    let pair = T_both (eqb d.giver e.giver) (eqb d.receiver e.receiver) (eq_to_eqb (at_giver a)) (eq_to_eqb (at_receiver a)) in
    let kind = T_both (eqb d.giver e.giver && eqb d.receiver e.receiver) (eqb d.kind e.kind) pair (eq_to_eqb (at_kind a)) in
    any_mem (stands_as d) m (T_both (eqb d.giver e.giver && eqb d.receiver e.receiver && eqb d.kind e.kind) (leb d.weight e.weight) kind (le→leb d.weight e.weight a.weight))

-- a best remainder holds all that the rounds leave
pub best_holds : (t : List ℤ) → TableRule t → (C F : Register) (d : Delegation) → d ∈ (settle t C).left.delegations → Best t C F → T (holds d F.delegations)
best_holds t rule C F d m b = let (e, i, a) = (b.best (settle t C).left (settle_best t rule C).remainder).held d m in found d i a
