-- Demand 3 in its register form: at every place of every list of calls the outcome is that of the definitions followed down the list, and each accepted call that makes a change leaves
-- the best remainder and lifts nothing. Assumes nothing.
use mathlib.Core.Path.{◌≡◌, refl, sym, subst}
use mathlib.Core.List.Memᴰ
use mathlib.Core.List.{List, ◌++◌}
use Prim.Native.Nat.{ℕ}
use lib.IntN.{ℤ}
use Rattle.rules.specs.Table.{TableRule, steps}
use Rattle.rules.specs.Register.{Register}
use Rattle.rules.specs.Support.{Supported}
use Rattle.rules.specs.Round.{settle}
use Rattle.rules.specs.Cut.{cutting, marking, retirement, removal, lowering, changed}
use Rattle.rules.specs.Remainder.{LiftsNothing}
use Rattle.rules.specs.WellFormed.{WellFormed}
use Rattle.rules.specs.Call.{Call, revoke, downgrade, set_marks, retire, fresh, Makes}
use Rattle.rules.specs.Refusal.{passed, held}
use Rattle.rules.specs.CallStep.{Outcome, cut, accepted, call_step}
use Rattle.rules.specs.History.{left_by, CutRight, CutsRight, Demand3}
use Rattle.rules.proofs.Table.{steps_rule}
use Rattle.rules.proofs.Rounds.{lifts_trans, settle_right, settle_best}
use Rattle.rules.proofs.Refusals.{Passes}
use Rattle.rules.proofs.Calls.{fresh_formed, accepted_change, call_step_cases, call_step_formed, call_step_supported}
use Rattle.rules.proofs.Lifting.{changed_lifts}
use Rattle.rules.proofs.Trace.{stays, places}

-- each of the calls that rounds follow makes its change, so that what is claimed of a change is claimed of them
pub revoke_makes : (y g r : ℕ) → Makes (revoke y g r) (cutting (removal g r))
revoke_makes y g r = refl

pub downgrade_makes : (y g r w : ℕ) → Makes (downgrade y g r w) (cutting (lowering g r w))
downgrade_makes y g r w = refl

pub marks_makes : (y s m : ℕ) → Makes (set_marks y s m) (marking s m)
marks_makes y s m = refl

pub retire_makes : (y s : ℕ) → Makes (retire y s) (retirement s)
retire_makes y s = refl

module _ (t : List ℤ) (rule : TableRule t) where
  cut_right : (C : Register) → CutRight t C (cut t C)
  unfolding cut
  cut_right C = record {
    best = settle_best t rule C;
    dropped = refl;
    lowered = refl;
    rounds = ((settle t C).changed, refl, settle_right t C);
  }

  -- one call, on any well-formed register, supported or not: where it makes a change and is accepted it leaves the best remainder, and lifts nothing
  pub call_step_cut : (R : Register) → WellFormed R → (c : Call) → CutsRight t R c (call_step t R c)
  call_step_cut R f c k i = call_step_cases t R c (λ (o : Outcome). o.refusal ≡ 0 → CutRight t C o × LiftsNothing R o.left) (λ z p e. right p) (λ n e. absurd (n e))
    where
      C : Register
      C = changed R k

      right : Passes (passed c ++ held t R c) → CutRight t C (accepted t R c) × LiftsNothing R (accepted t R c).left
      right p =
          let lifts = lifts_trans R C (cut t C).left (changed_lifts t R c k i p f) (cut_right C).best.remainder.within.held in
          subst (λ (o : Outcome). CutRight t C o × LiftsNothing R o.left) (sym (accepted_change t R c k i)) (cut_right C, lifts)

  -- every call leaves a well-formed and supported register so
  abbrev Sound : Register → Type 0
  Sound R = WellFormed R × Supported t R

  sound : (R : Register) (c : Call) → Sound R → Sound (call_step t R c).left
  sound R c s = (call_step_formed t R c s.0, call_step_supported t rule R c s.0 s.1)

  fresh_sound : Sound fresh
  fresh_sound = (fresh_formed, λ d m. absurd (Memᴰ.not-nil m))

  -- THE WHOLE LIST
  pub demand3 : Demand3 t
  demand3 = record {
    places = places (call_step t) left_by Sound sound (CutsRight t) (λ R c s. call_step_cut R s.0 c) fresh fresh_sound;
    well_formed = λ cs i. (stays (call_step t) left_by Sound sound fresh cs i fresh_sound).0;
    supported = λ cs i. (stays (call_step t) left_by Sound sound fresh cs i fresh_sound).1;
  }

-- and for document 01's own table
pub demand3_steps : Demand3 steps
demand3_steps = demand3 steps steps_rule
