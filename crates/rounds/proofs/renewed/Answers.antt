-- `rounds::renewed` has the index of the present block. Assumes nothing.
use native.Mathlib.Omega.{arith}
use Rattle.block.proofs.Bytes.{fits_bytes}
use Rattle.block.proofs.Held.{size_held}
use Rattle.rounds.proofs.renewed.Goals as goal

pub count-requires : goal.count-requires
count-requires c =
    omega (arith, size_held c.args.block.now (fits_bytes c.args.block.now c.type_inv.block) c.requires.0)
