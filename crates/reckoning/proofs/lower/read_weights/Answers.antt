-- `reckoning::read_weights` reads the weights out. Assumes nothing.
use mathlib.Core.Path.{sym, ap, ◌∙◌}
use Prim.Native.Nat.{ℕ, ◌+◌, ◌<◌}
use native.Mathlib.Omega.{arith}
use mir.Syntax.{w16}
use mir.Facts.{to_z-of_z}
use lib.IntN.{ℤ, pos}
use lib.Signed.{lt_z}
use lib.ListN.{length, get_or, length-set}
use Rattle.block.specs.Records.{delegation_at}
use Rattle.rules.proofs.Signed.{kept}
use Rattle.reckoning.specs.Reckoned.{none_decoded}
use Rattle.reckoning.proofs.Lowering.{put_on}
use Rattle.reckoning.proofs.lower.read_weights.Goals as goal

pub loop-k-preserved : goal.loop-k-preserved
loop-k-preserved c =
    let a = c.args in
    let l = c.loop-k in
    let read : ℕ → ℤ = λ k. (get_or a.ds.now k none_decoded).weight in
    let e = to_z-of_z {w = w16} {z = read l.k} record { sfits = omega arith } in
    let room : a.first + l.k < length l.weights = omega (arith, l.invariant.0) in
    let b = to_z-of_z {w = w16} record { sfits = c.from.type_inv } ∙ c.from.ensures ∙ ap pos c.weight.ensures in
    (simp length-set l.invariant.0, put_on (delegation_at a.block.now) read a.first a.weights.now l.k l.changed l.weights l.invariant.1 room (kept (read l.k)) e _ (ap (lt_z (kept (read l.k))) (sym b)))
