-- The ways of use. Assumes nothing.
use mathlib.Core.Path.{◌≡◌, sym, ap, ◌∙◌}
use mathlib.Core.Bool.{Bool, cond, ◌||◌}
use mathlib.Core.List.{List}
use Prim.Native.Nat.{ℕ}
use lib.Dec.{eqb}
use lib.IntN.{pos}
use Rattle.rules.specs.Pair.{opens}
use Rattle.rules.specs.Call.{ask_use}
use Rattle.rules.specs.CallStep.{accepted}
use Rattle.block.specs.Bytes.{IsBytes}
use Rattle.block.specs.Block.{count_in, decode}
use Rattle.block.proofs.Held.{held_written, delegations_held}
use Rattle.block.specs.Records.{delegations_to}
use Rattle.steptable.specs.TableText.{Given}
use Rattle.register.specs.Answer.{answered_by}
use Rattle.register.specs.Made.{Made}
use Rattle.refusals.proofs.EarlyTests.{Through}
use Rattle.register.proofs.Made.{made_done}

-- x: the receiver is the owner, or some ordinary delegation to it stands
pub use_done : (g : Given) (r : ℕ) (b : List ℕ) (bytes : IsBytes b) (h : Through g b (ask_use r)) (x : Bool) → x ≡ (eqb r 0 || opens r (delegations_to b (count_in b)))
    → Made g (ask_use r) b (answered_by (pos (cond x 1 0)) (pos 0) (pos 0)) b
unfolding accepted
use_done g r b bytes h x e =
    made_done g (ask_use r) b h.early h.held (answered_by (pos (cond x 1 0)) (pos 0) (pos 0)) b
    (λ j. record { refusal = 0; first = pos (cond (q j) 1 0); second = pos 0; third = pos 0; bytes = held_written b bytes h.early.formed j })
  where
    q : x ≡ (eqb r 0 || opens r (decode b).delegations)
    q = e ∙ ap (λ ds. eqb r 0 || opens r ds) (sym (delegations_held b bytes h.early.formed))
