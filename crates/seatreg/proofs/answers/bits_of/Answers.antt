-- `seatreg::answers::bits_of` gives the bits of a signed number. Assumes nothing.
use native.Mathlib.Omega.{arith}
use Rattle.seatreg.proofs.Bits.{below_fits, below_read, below_bits, from_read, from_bits}
use Rattle.seatreg.proofs.answers.bits_of.Goals as goal

pub overflow_sub-k : goal.overflow_sub-k
overflow_sub-k c = below_fits c.args.v c.ranges.v c.if-v-lt0.true

pub overflow_cast-result : goal.overflow_cast-result
overflow_cast-result c = rw (below_read c.args.v c.ranges.v c.if-v-lt0.true) (tt, omega (arith, c.ranges.v.sfits))

pub overflow_sub-result : goal.overflow_sub-result
overflow_sub-result c = rw (below_read c.args.v c.ranges.v c.if-v-lt0.true) (omega (arith, c.ranges.v.sfits))

pub returns-then-v-lt0 : goal.returns-then-v-lt0
returns-then-v-lt0 c = rw (below_read c.args.v c.ranges.v c.if-v-lt0.true) (below_bits c.args.v c.ranges.v c.if-v-lt0.true)

pub overflow_cast-result-2 : goal.overflow_cast-result-2
overflow_cast-result-2 c = rw (from_read c.args.v c.ranges.v c.if-v-lt0.false) (tt, omega (arith, c.ranges.v.sfits))

pub returns : goal.returns
returns c = rw (from_read c.args.v c.ranges.v c.if-v-lt0.false) (from_bits c.args.v c.ranges.v c.if-v-lt0.false)
