-- A call that is accepted on bytes passed every test, and is the accepted call on the register that the block holds. Assumes nothing.
use mathlib.Core.Path.{◌≡◌, refl, sym, ap, ◌∙◌}
use mathlib.Core.Logic.{◌≢◌, ◌⊎◌, inl, inr}
use mathlib.Core.Bool.{Bool, cond}
use mathlib.Core.List.{List}
use Prim.Native.Nat.{ℕ}
use borrow.Author.Tests.{eq-eqb}
use Rattle.rules.specs.Call.{Call}
use Rattle.rules.specs.CallStep.{call_step}
use Rattle.rules.proofs.Lists.{eq_or}
use Rattle.block.specs.Block.{decode, encode}
use Rattle.steptable.specs.TableText.{Given}
use Rattle.refusals.specs.Early.{refusal_on}
use Rattle.refusals.proofs.EarlyTests.{Through, through}
use Rattle.register.specs.CallOn.{Result, written, call_on}
use Rattle.register.proofs.Made.{call_on_late, made_refused}

pub accepted_through : (g : Given) (b : List ℕ) (c : Call) → (call_on g b c).refusal ≡ 0 → Through g b c
accepted_through g b c e = go (eq_or (refusal_on g b c) 0)
  where
    go : (refusal_on g b c ≡ 0) ⊎ (refusal_on g b c ≢ 0) → Through g b c
    go (inl z) = through g b c z
    go (inr k) = absurd (k (ap (λ (r : Result). r.refusal) (made_refused g c b (refusal_on g b c) refl k) ∙ e))

module _ (g : Given) (b : List ℕ) (c : Call) (e : (call_on g b c).refusal ≡ 0) where
  pub accepted_step : (call_on g b c ≡ written b (call_step g.steps (decode b) c)) × ((call_step g.steps (decode b) c).refusal ≡ 0)
  accepted_step = let q = call_on_late g c b (accepted_through g b c e).early in (q, sym (ap (λ (r : Result). r.refusal) q) ∙ e)

  -- it leaves the register that the definitions leave, written
  pub accepted_left : (call_on g b c).bytes ≡ encode (call_step g.steps (decode b) c).left
  accepted_left =
      let (q, z) = accepted_step in
      ap (λ (r : Result). r.bytes) q ∙ ap (λ (x : Bool). cond x (encode (call_step g.steps (decode b) c).left) b) (eq-eqb (call_step g.steps (decode b) c).refusal 0 z)
