-- `reckoning::fill_row` fills the row of one receiver. Assumes nothing.
use mathlib.Core.Path.{sym, ap, ◌∙◌}
use Prim.Native.Nat.{ℕ, ◌-◌, ◌<◌}
use native.Mathlib.Omega.{arith}
use lib.Bits.{bit_and}
use lib.ListN.{length}
use Rattle.block.specs.Block.{decode}
use Rattle.block.proofs.Bytes.{fits_bytes}
use Rattle.block.proofs.Held.{rules_of, marks_held}
use Rattle.reckoning.proofs.Filling.{bit_read, row_copied}
use Rattle.reckoning.proofs.reaches.fill_row.Goals as goal

pub marks-requires : goal.marks-requires
marks-requires c =
    let r = rules_of c.args.block.now (fits_bytes c.args.block.now c.type_inv.block) c.requires.block.block.formed in
    omega (arith, r.size, r.most, c.requires.receiver)

pub overflow_shr-set : goal.overflow_shr-set
overflow_shr-set c =
    let r = rules_of c.args.block.now (fits_bytes c.args.block.now c.type_inv.block) c.requires.block.block.formed in
    omega (arith, r.most, c.requires.receiver)

pub marks-requires-then-set-other-eq1 : goal.marks-requires-then-set-other-eq1
marks-requires-then-set-other-eq1 c =
    let r = rules_of c.args.block.now (fits_bytes c.args.block.now c.type_inv.block) c.requires.block.block.formed in
    omega (arith, r.size, r.most, c.requires.receiver)

pub copy_row-requires : goal.copy_row-requires
copy_row-requires c =
    let r = rules_of c.args.block.now (fits_bytes c.args.block.now c.type_inv.block) c.requires.block.block.formed in
    (omega (arith, c.loop-other-test.true), omega (arith, r.most, c.requires.receiver), ap length c.loop-other.invariant ∙ c.requires.filled.size)

pub returns-then-marks-named : goal.returns-then-marks-named
returns-then-marks-named c =
    let b = c.args.block.now in
    let g = fits_bytes b c.type_inv.block in
    let n = c.args.named in
    let j = c.loop-other.other - 1 in
    let v = c.args.receiver in
    let o : j < v = omega (arith, c.loop-other-test.true) in
    let other = sym (marks_held b g c.requires.block.block.formed j (omega (arith, o, c.requires.receiver))) ∙ sym c.marks-then-set-other-eq1.ensures in
    let own = c.marks.ensures ∙ marks_held b g c.requires.block.block.formed v c.requires.receiver in
    let e = ap (λ (x : ℕ). bit_and x n) other ∙ c.if-marks-named.true ∙ ap (λ (x : ℕ). bit_and x n) own in
    let h = sym (bit_read c.args.set j) ∙ c.if-set-other-eq1.true in
    (row_copied c.args.table.now (decode b) c.args.set n j v c.args.reaches.now c.copy_row.new.reaches c.requires.names (c.requires.filled.rows j o h) e (rw c.loop-other.invariant at c.copy_row.ensures), c.requires.queue)
