-- `change::shift_up` moves the bytes up. Assumes nothing.
use mathlib.Core.Path.{◌≡◌, ap, ◌∙◌}
use mathlib.Core.List.{◌++◌, append_assoc}
use Prim.Native.Nat.{ℕ, ◌+◌, ◌-◌}
use native.Mathlib.Omega.{arith}
use lib.ListN.{take, drop}
use Rattle.block.specs.Layout.{record_size}
use Rattle.change.specs.Shift.{moved_up}
use Rattle.change.proofs.write.shift_up.Goals as goal

pub returns : goal.returns
unfolding moved_up
returns c =
    let a = c.args in
    let e : a.at + record_size + (a.end - a.at) ≡ a.end + record_size = omega arith in
    c.copy_within.ensures.after
    ∙ ap (λ (k : ℕ). take (a.at + record_size) a.b.now ++ take (a.end - a.at) (drop a.at a.b.now) ++ drop k a.b.now) e
    ∙ append_assoc (take (a.at + record_size) a.b.now) (take (a.end - a.at) (drop a.at a.b.now)) (drop (a.end + record_size) a.b.now)
