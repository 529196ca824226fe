-- `refusals::not_below` is the test of 15. Assumes nothing.
use Rattle.std.proofs.Common.{sym, ap, ◌∙◌, Bool, cond, arith}
use Rattle.block.proofs.Bytes.{fits_bytes}
use Rattle.block.proofs.Held.{size_held, count_most}
use Rattle.refusals.proofs.CutHolding.{below_missing, below_found}
use Rattle.refusals.proofs.held.not_below.Goals as goal

pub count-count-requires : goal.count-count-requires
count-count-requires c = omega (arith, size_held c.args.block.now (fits_bytes c.args.block.now c.shared_slice_known-1.given) c.requires.0)

pub find-k-requires : goal.find-k-requires
find-k-requires c =
    let b = c.args.block.now in
    let bytes = fits_bytes b c.shared_slice_known-1.given in
    omega (arith, size_held b bytes c.requires.0, count_most b bytes c.requires.0, c.count-count.ensures)

pub returns-then-k-count : goal.returns-then-k-count
returns-then-k-count c =
    let b = c.args.block.now in
    ap (λ (x : Bool). cond x 15 0)
    (sym (below_missing b (fits_bytes b c.shared_slice_known-1.given) c.requires.0 c.args.giver c.args.receiver c.find-k.result (rw (← c.count-count.ensures) c.find-k.ensures) (rw (← c.count-count.ensures) c.if-k-count.true) c.args.weight))

pub weight-requires : goal.weight-requires
weight-requires c =
    let b = c.args.block.now in
    let bytes = fits_bytes b c.shared_slice_known-1.given in
    omega (arith, size_held b bytes c.requires.0, count_most b bytes c.requires.0, c.count-count.ensures, c.if-k-count.false)

pub returns : goal.returns
returns c =
    let b = c.args.block.now in
    c.tested.ensures
    ∙ ap (λ (x : Bool). cond x 15 0)
    (sym (below_found b (fits_bytes b c.shared_slice_known-1.given) c.requires.0 c.args.giver c.args.receiver c.find-k.result (rw (← c.count-count.ensures) c.find-k.ensures) (rw (← c.count-count.ensures) c.if-k-count.false) c.args.weight c.weight.result c.weight.ensures))
