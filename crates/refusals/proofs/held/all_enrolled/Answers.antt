-- `refusals::all_enrolled` is the test of 10. Assumes nothing.
use Rattle.std.proofs.Common.{sym, ap, ◌∙◌, ℕ, cond, leb, arith}
use Rattle.block.proofs.Bytes.{fits_bytes}
use Rattle.block.proofs.Held.{size_held, subjects_held_lem}
use Rattle.refusals.proofs.held.all_enrolled.Goals as goal

pub subjects-requires : goal.subjects-requires
subjects-requires c = omega (arith, size_held c.args.block.now (fits_bytes c.args.block.now c.shared_slice_known-1.given) c.requires)

pub returns : goal.returns
returns c =
    let b = c.args.block.now in
    c.tested.ensures ∙ ap (λ (x : ℕ). cond (leb 64 x) 10 0) (c.subjects.ensures ∙ sym (subjects_held_lem b (fits_bytes b c.shared_slice_known-1.given) c.requires))
