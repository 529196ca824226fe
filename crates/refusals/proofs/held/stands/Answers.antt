-- `refusals::stands` tells whether the pair stands. Assumes nothing.
use native.Mathlib.Omega.{arith}
use Rattle.block.proofs.Bytes.{fits_bytes}
use Rattle.block.proofs.Held.{size_held, count_most}
use Rattle.refusals.proofs.Holding.{stands_test}
use Rattle.refusals.proofs.held.stands.Goals as goal

pub count-n-requires : goal.count-n-requires
count-n-requires c = omega (arith, size_held c.args.block.now (fits_bytes c.args.block.now c.shared_slice_known-1.given) c.requires.0)

pub find-requires : goal.find-requires
find-requires c =
    let b = c.args.block.now in
    let bytes = fits_bytes b c.shared_slice_known-1.given in
    omega (arith, size_held b bytes c.requires.0, count_most b bytes c.requires.0, c.count-n.ensures)

pub returns : goal.returns
returns c =
    let b = c.args.block.now in
    rw c.count-n.ensures (stands_test b (fits_bytes b c.shared_slice_known-1.given) c.requires.0 c.args.giver c.args.receiver c.find.result (rw (← c.count-n.ensures) c.find.ensures))
