-- `reckoning::index_of` makes the index of a block. Assumes nothing.
use mathlib.Core.Path.{◌≡◌}
use Prim.Native.Nat.{◌<◌}
use native.Mathlib.Omega.{arith}
use Rattle.block.proofs.Bytes.{fits_bytes}
use Rattle.block.proofs.Held.{size_held, count_most, held_formed}
use Rattle.rules.specs.Bits.{bit}
use Rattle.queue.specs.Queue.{set_bits}
use Rattle.search.specs.Named.{MarksAmong}
use Rattle.reckoning.proofs.Filling.{each_held, held_each}
use Rattle.reckoning.proofs.indexed.index_of.Goals as goal

pub count-n-requires : goal.count-n-requires
count-n-requires c =
    let b = c.args.block.now in
    omega (arith, size_held b (fits_bytes b c.type_inv.block) c.requires.0)

pub receivers-requires : goal.receivers-requires
receivers-requires c =
    let b = c.args.block.now in
    let g = fits_bytes b c.type_inv.block in
    let f = held_formed b g c.requires.0 in (
      omega (arith, size_held b g c.requires.0, count_most b g c.requires.0, c.count-n.ensures),
      held_each (λ d. d.receiver < set_bits) b g c.requires.0 _ c.count-n.ensures (λ d m. omega (arith, (f.each d m).receiver, f.most)),
    )

pub named_marks-requires : goal.named_marks-requires
named_marks-requires c =
    let b = c.args.block.now in
    let g = fits_bytes b c.type_inv.block in
    omega (arith, size_held b g c.requires.0, count_most b g c.requires.0, c.count-n.ensures)

pub returns : goal.returns
returns c =
    let b = c.args.block.now in
    let g = fits_bytes b c.type_inv.block in
    let n = c.count-n.ensures in
    record {
      count = n;
      starts = c.starts_of.ensures;
      receivers = each_held (λ d. bit _ d.receiver ≡ 1) b g c.requires.0 _ n c.receivers.ensures;
      names = each_held (λ d. MarksAmong d.need _ × MarksAmong d.bar _) b g c.requires.0 _ n c.named_marks.ensures;
    }
