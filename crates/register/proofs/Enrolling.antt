-- The ways of enrol. Assumes nothing.
use mathlib.Core.Path.{◌≡◌, sym, subst}
use mathlib.Core.List.{List}
use Prim.Native.Nat.{ℕ, ◌<◌}
use lib.Dec.{nleb→lt}
use lib.IntN.{pos}
use Rattle.rules.specs.Call.{enrol, enrolled}
use Rattle.rules.specs.Refusal.{held}
use Rattle.rules.specs.CallStep.{accepted}
use Rattle.rules.proofs.Refusals.{passes_of}
use Rattle.block.specs.Bytes.{IsBytes}
use Rattle.block.specs.Block.{subjects_in, decode, encode}
use Rattle.block.proofs.Held.{subjects_held_lem}
use Rattle.steptable.specs.TableText.{Given}
use Rattle.register.specs.Answer.{answered_by}
use Rattle.register.specs.Made.{Made}
use Rattle.refusals.proofs.EarlyTests.{Through}
use Rattle.register.proofs.Made.{made_done}

pub enrol_done : (g : Given) (m : ℕ) (b : List ℕ) (bytes : IsBytes b) (h : Through g b (enrol m)) (after : List ℕ) → after ≡ encode (enrolled (decode b) m) → Made g (enrol m) b (answered_by (pos (subjects_in b)) (pos 0) (pos 0)) after
unfolding accepted
enrol_done g m b bytes h after e =
    made_done g (enrol m) b h.early h.held (answered_by (pos (subjects_in b)) (pos 0) (pos 0)) after (λ j. record { refusal = 0; first = pos (n j); second = pos 0; third = pos 0; bytes = e j })
  where
    n : subjects_in b ≡ (decode b).subjects
    n = sym (subjects_held_lem b bytes h.early.formed)

-- room is left for an enrolment that is not refused
pub enrol_room : (g : Given) (m : ℕ) (b : List ℕ) (bytes : IsBytes b) → Through g b (enrol m) → subjects_in b < 64
unfolding held
enrol_room g m b bytes h = subst (λ (k : ℕ). k < 64) (subjects_held_lem b bytes h.early.formed) (nleb→lt 64 (decode b).subjects (passes_of (held g.steps (decode b) (enrol m)) tt h.held 10))
