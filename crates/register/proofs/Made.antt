-- The ways of a public call: refused by 1, by what was passed, by the step table's text, by 8, by what the register holds; or done. Assumes nothing.
use mathlib.Core.Path.{◌≡◌, refl, sym, ap, subst, ◌∙◌}
use mathlib.Core.Logic.{◌≢◌, ◌⊎◌, inl, inr}
use mathlib.Core.Bool.{Bool, true, false}
use mathlib.Core.List.{List, ◌++◌}
use Prim.Native.Nat.{ℕ}
use borrow.Author.Tests.{eq-eqb, ne_eqb}
use lib.Dec.{T, eqb}
use lib.ListN.{length}
use lib.IntN.{pos}
use Rattle.rules.specs.Call.{Call, fresh}
use Rattle.rules.specs.Refusal.{first_of, passed, held, refusal_of}
use Rattle.rules.specs.CallStep.{Outcome, accepted, refused, call_step}
use Rattle.rules.proofs.Lists.{eq_or}
use Rattle.rules.proofs.Refusals.{Passes, passes, passed_numbered, first_of_none}
use Rattle.block.specs.Layout.{block_size}
use Rattle.block.specs.Block.{decode, encode}
use Rattle.steptable.specs.TableText.{Given}
use Rattle.refusals.specs.Early.{early, refusal_on}
use Rattle.refusals.proofs.EarlyTests.{Early, early_none, none_early, refused_early, refused_held}
use Rattle.register.specs.CallOn.{Result, turned, written, call_on, open_on}
use Rattle.register.specs.Made.{result_of, Made, MadeOpen}
use Rattle.register.specs.Answer.{Answer, refused_by, answered_by}

module _ (g : Given) (c : Call) (b : List ℕ) where
  -- refused by 1, by what was passed or by 8
  made_first : (n : ℕ) → first_of (early g.refusal b c) ≡ n → n ≢ 0 → Made g c b (refused_by n) b
  unfolding call_on
  made_first n f k = go f (eqb (first_of (early g.refusal b c)) 0) (ap (λ (m : ℕ). eqb m 0) f ∙ ne_eqb n 0 k)
    where
      go : first_of (early g.refusal b c) ≡ n → (x : Bool) → x ≡ false → let r : Result = elim x [ true ↦ written b (call_step g.steps (decode b) c) | false ↦ turned (first_of (early g.refusal b c)) b ] in result_of (refused_by n) b ≡ r
      go f true z = absurd (subst T z tt)
      go f false z = ap (λ (m : ℕ). turned m b) (sym f)

  module _ (h : Early g.refusal b c) where
    pub call_on_late : call_on g b c ≡ written b (call_step g.steps (decode b) c)
    unfolding call_on
    call_on_late = go (eqb (first_of (early g.refusal b c)) 0) (eq-eqb (first_of (early g.refusal b c)) 0 (none_early g.refusal b c h))
      where
        go : (x : Bool) → x ≡ true → let r : Result = elim x [ true ↦ written b (call_step g.steps (decode b) c) | false ↦ turned (first_of (early g.refusal b c)) b ] in r ≡ written b (call_step g.steps (decode b) c)
        go true q = refl
        go false q = absurd (subst T (sym q) tt)

    refusal_held : refusal_of g.steps (decode b) c ≡ first_of (held g.steps (decode b) c)
    unfolding refusal_of
    refusal_held = first_of_none (passed c) (held g.steps (decode b) c) (passed_numbered c) h.passed

    made_held : (n : ℕ) → n ≡ first_of (held g.steps (decode b) c) → n ≢ 0 → Made g c b (refused_by n) b
    unfolding call_step
    made_held n e k = sym (call_on_late ∙ go (eqb (refusal_of g.steps (decode b) c) 0) (ap (λ (m : ℕ). eqb m 0) (refusal_held ∙ sym e) ∙ ne_eqb n 0 k))
      where
        go : (x : Bool) → x ≡ false → let o : Outcome = elim x [ true ↦ accepted g.steps (decode b) c | false ↦ refused (refusal_of g.steps (decode b) c) (decode b) ] in written b o ≡ turned n b
        go true q = absurd (subst T q tt)
        go false q = ap (λ (m : ℕ). written b (refused m (decode b))) (refusal_held ∙ sym e) ∙ rw (ne_eqb n 0 k)

    module _ (e : first_of (held g.steps (decode b) c) ≡ 0) where
      pub call_on_accepted : call_on g b c ≡ written b (accepted g.steps (decode b) c)
      unfolding call_step
      call_on_accepted = call_on_late ∙ go (eqb (refusal_of g.steps (decode b) c) 0) (eq-eqb (refusal_of g.steps (decode b) c) 0 (refusal_held ∙ e))
        where
          go : (x : Bool) → x ≡ true → let o : Outcome = elim x [ true ↦ accepted g.steps (decode b) c | false ↦ refused (refusal_of g.steps (decode b) c) (decode b) ] in written b o ≡ written b (accepted g.steps (decode b) c)
          go true q = refl
          go false q = absurd (subst T (sym q) tt)

      pub accepted_passes : Passes (passed c ++ held g.steps (decode b) c)
      accepted_passes = passes g.steps (decode b) c (refusal_held ∙ e)

      -- accepted: the answers and the bytes are those of the definitions
      pub made_done : (o : Answer) (after : List ℕ) → result_of o after ≡ written b (accepted g.steps (decode b) c) → Made g c b o after
      made_done o after q = q ∙ sym call_on_accepted

  -- refused, by whatever test
  pub made_refused : (n : ℕ) → n ≡ refusal_on g b c → n ≢ 0 → Made g c b (refused_by n) b
  made_refused n e k = go (eq_or (first_of (early g.refusal b c)) 0)
    where
      go : (first_of (early g.refusal b c) ≡ 0) ⊎ (first_of (early g.refusal b c) ≢ 0) → Made g c b (refused_by n) b
      go (inl z) = let h = early_none g.refusal b c z in made_held h n (e ∙ refused_held g b c h) k
      go (inr q) = made_first n (refused_early g b c (first_of (early g.refusal b c)) refl q ∙ sym e) k

-- ── open ──
module _ (b : List ℕ) where
  pub open_refused : length b ≢ block_size → MadeOpen b (refused_by 1) b
  unfolding open_on
  open_refused h = rw (ne_eqb (length b) block_size h)

  pub open_done : length b ≡ block_size → (after : List ℕ) → after ≡ encode fresh → MadeOpen b (answered_by (pos 0) (pos 0) (pos 0)) after
  unfolding open_on
  open_done h after e = rw (eq-eqb (length b) block_size h) (λ j. record { refusal = 0; first = pos 0; second = pos 0; third = pos 0; bytes = e j })
