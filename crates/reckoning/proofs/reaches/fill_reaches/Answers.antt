-- `reckoning::fill_reaches` fills the table of reaches. Assumes nothing.
use mathlib.Core.Path.{◌≡◌, sym, ◌∙◌}
use native.Mathlib.Omega.{arith}
use Rattle.block.specs.Block.{decode}
use Rattle.block.proofs.Bytes.{fits_bytes}
use Rattle.block.proofs.Held.{size_held, held_formed, subjects_held_lem}
use Rattle.reckoning.proofs.Filling.{filling_on, filling_end, filled_tabled}
use Rattle.reckoning.proofs.reaches.fill_reaches.Goals as goal

pub subjects-requires : goal.subjects-requires
subjects-requires c =
    let b = c.args.block.now in
    let g = fits_bytes b c.type_inv.block in
    omega (arith, size_held b g c.requires.0.formed)

pub loop-receiver-preserved-then-receiver-n : goal.loop-receiver-preserved-then-receiver-n
loop-receiver-preserved-then-receiver-n c =
    let f = c.fill_row in (
      filling_on c.args.table.now (decode c.args.block.now) _ _ c.loop-receiver.receiver-iterator.0 c.loop-receiver.reaches c.loop-receiver.invariant.0 _ _ c.in-Some.ensures.steps.1 _ f.auto.reaches f.ensures.0,
      f.ensures.1,
    )

pub returns : goal.returns
returns c =
    let b = c.args.block.now in
    let g = fits_bytes b c.type_inv.block in
    let l = c.loop-receiver in
    let e : _ ≡ (decode b).subjects = c.from-n.ensures ∙ c.subjects.ensures ∙ sym (subjects_held_lem b g c.requires.0.formed) in
    (filled_tabled c.args.table.now (decode b) _ (held_formed b g c.requires.0.formed) c.requires.1.receivers _ e l.reaches (filling_end c.args.table.now (decode b) _ _ l.receiver-iterator.0 l.reaches l.invariant.0 c.in-None.ensures.steps.0), l.invariant.1)
