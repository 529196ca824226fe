-- `change::stands_before` tells whether the pair stands. Assumes nothing.
use native.Mathlib.Omega.{arith}
use Rattle.block.proofs.Bytes.{fits_bytes}
use Rattle.block.proofs.Held.{size_held, count_most}
use Rattle.change.proofs.Changing.{place_most, none_before, pair_before}
use Rattle.change.proofs.stands_before.Goals as goal

pub returns-then-at-eq0 : goal.returns-then-at-eq0
returns-then-at-eq0 c =
    none_before c.args.b.now (fits_bytes c.args.b.now c.shared_slice_known-1.given) c.requires.0 c.args.giver c.args.receiver c.args.at c.requires.1 c.if-at-eq0.true

pub is_pair-requires : goal.is_pair-requires
is_pair-requires c =
    let b = c.args.b.now in
    omega (arith, size_held b (fits_bytes c.args.b.now c.shared_slice_known-1.given) c.requires.0, count_most b (fits_bytes c.args.b.now c.shared_slice_known-1.given) c.requires.0, place_most b (fits_bytes c.args.b.now c.shared_slice_known-1.given) c.requires.0 c.args.giver c.args.receiver c.args.at c.requires.1, c.if-at-eq0.false)

pub returns : goal.returns
returns c =
    rw c.is_pair.ensures (pair_before c.args.b.now (fits_bytes c.args.b.now c.shared_slice_known-1.given) c.requires.0 c.args.giver c.args.receiver c.args.at c.requires.1 c.if-at-eq0.false)
