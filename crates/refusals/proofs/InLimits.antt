-- The numbers of a call that no refusal by what was passed turns back are within their ranges. Assumes nothing.
use mathlib.Core.Path.{◌≡◌}
use mathlib.Core.Bool.{not, ◌&&◌, ◌||◌}
use mathlib.Core.List.{List, [], ◌∷◌}
use Prim.Native.Nat.{ℕ}
use lib.Bits.{bit_and}
use lib.Dec.{T, eqb, ltb, nltb→le}
use Rattle.rules.specs.List.{any}
use Rattle.rules.specs.Call.{Call, enrol, grant, revoke, downgrade, ask_reach, ask_use, set_marks, retire}
use Rattle.rules.specs.Refusal.{first_of, passed}
use Rattle.rules.proofs.Lists.{not_or_left, not_or_right}
use Rattle.rules.proofs.Refusals.{Passes, passes_of, passed_numbered}
use Rattle.refusals.specs.Checked.{Subjects, InLimits}

subjects : (xs : List ℕ) → T (not (any (λ x. ltb 63 x) xs)) → Subjects xs
subjects [] h = tt
subjects (x ∷ xs) h = (nltb→le 63 x (not_or_left (ltb 63 x) (any (λ y. ltb 63 y) xs) h), subjects xs (not_or_right (ltb 63 x) (any (λ y. ltb 63 y) xs) h))

passes_in_limits : (c : Call) → Passes (passed c) → InLimits c
unfolding passed
passes_in_limits (enrol m) p = nltb→le 65535 m (p 4)
passes_in_limits (grant d) p =
    let n = d.need in
    let m = d.bar in
    let masks = not_or_left (ltb 65535 n || ltb 65535 m) (not (eqb (bit_and n m) 0)) (p 4) in
    (subjects (d.giver ∷ d.receiver ∷ []) (p 2), nltb→le 255 d.weight (p 3), nltb→le 65535 n (not_or_left (ltb 65535 n) (ltb 65535 m) masks), nltb→le 65535 m (not_or_right (ltb 65535 n) (ltb 65535 m) masks), nltb→le 1 d.kind (not_or_left (ltb 1 d.kind) (eqb d.kind 1 && eqb d.weight 0) (p 21)))
passes_in_limits (revoke y g r) p = subjects (y ∷ g ∷ r ∷ []) (p 2)
passes_in_limits (downgrade y g r w) p = (subjects (y ∷ g ∷ r ∷ []) (p 2), nltb→le 255 w (p 3))
passes_in_limits (ask_reach g r) p = subjects (g ∷ r ∷ []) (p 2)
passes_in_limits (ask_use r) p = subjects (r ∷ []) (p 2)
passes_in_limits (set_marks y s m) p = (subjects (y ∷ s ∷ []) (p 2), nltb→le 65535 m (p 4))
passes_in_limits (retire y s) p = subjects (y ∷ s ∷ []) (p 2)

pub in_limits : (c : Call) → first_of (passed c) ≡ 0 → InLimits c
in_limits c e = passes_in_limits c (passes_of (passed c) (passed_numbered c) e)
