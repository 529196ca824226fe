-- `change::weights_without` stores the weights that records keep. Assumes nothing.
use mathlib.Core.Path.{◌≡◌, ◌∙◌}
use native.Mathlib.Omega.{arith}
use mir.Syntax.{w16}
use mir.Facts.{to_z-of_z}
use lib.IntN.{pos}
use lib.ListN.{get_or-append, drop}
use lib.Seq.{length-take-le}
use Rattle.rules.proofs.Lists.{set_more}
use Rattle.rules.proofs.Signed.{kept}
use Rattle.block.specs.Records.{delegation_at}
use Rattle.change.specs.Without.{weight_without}
use Rattle.change.proofs.retiring.weights_without.Goals as goal

pub loop-k-preserved : goal.loop-k-preserved
loop-k-preserved c =
    let l = c.loop-k in
    let w = c.weight_without in
    set_more (λ j x. x ≡ weight_without c.args.subject (delegation_at c.args.b.now j)) l.weight-items l.k (kept w.result) (pos 0) (omega arith) l.invariant (to_z-of_z {w = w16} {z = w.result} record { sfits = w.type_inv } ∙ w.ensures)

pub returns : goal.returns
returns c = λ k h.
    let l = c.loop-k in
    let a = c.args in
    let long = length-take-le a.n a.weights.now (omega arith) in
    get_or-append l.weight-items (drop a.n a.weights.now) (pos 0) k (omega arith) ∙ l.invariant k (omega arith)
