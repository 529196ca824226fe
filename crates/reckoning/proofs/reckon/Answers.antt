-- `reckoning::reckon` leaves the weights of a round. Assumes nothing.
use mathlib.Core.Path.{subst, ◌∙◌}
use Prim.Native.Nat.{ℕ}
use native.Mathlib.Omega.{arith}
use Rattle.block.specs.Records.{delegation_at}
use Rattle.block.proofs.Bytes.{fits_bytes}
use Rattle.block.proofs.Held.{size_held, count_most}
use Rattle.reckoning.specs.Reckoned.{RunLowered}
use Rattle.reckoning.proofs.Rounding.{reckoned}
use Rattle.reckoning.proofs.reckon.Goals as goal

pub lower_all-requires : goal.lower_all-requires
lower_all-requires c =
    let b = c.args.block.now in
    let g = fits_bytes b c.type_inv.block in
    let e = c.requires.1.count in
    let m = count_most b g c.requires.0.formed in
    (omega (arith, e, m, size_held b g c.requires.0.formed), omega (arith, e, m), c.requires.3)

pub returns : goal.returns
returns c =
    let r = c.lower_all in
    let f = c.fill_reaches in
    let a = c.args in
    let b = a.block.now in
    let after = r.new.weights in
    let left = subst (λ (m : ℕ). RunLowered f.new.reaches (delegation_at b) 0 m r.result a.weights.now after) c.requires.1.count r.ensures in
    (reckoned a.table.now b (fits_bytes b c.type_inv.block) c.requires.0.formed f.new.reaches (f.auto.reaches ∙ c.requires.2.size) f.ensures.0 r.result a.weights.now after left, f.ensures.1)
