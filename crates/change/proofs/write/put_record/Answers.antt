-- `change::put_record` writes the record of a delegation. Assumes nothing.
use native.Mathlib.Nat.{add-zero}
use native.Mathlib.Omega.{arith}
use lib.ListN.{length-set}
use Rattle.block.proofs.Bytes.{plus1, plus2, plus3, plus4, plus6}
use Rattle.change.proofs.write.put_record.Goals as goal

pub bounds-b-at-2 : goal.bounds-b-at-2
bounds-b-at-2 c = simp length-set (omega arith)

pub bounds-b-at-3 : goal.bounds-b-at-3
bounds-b-at-3 c = simp length-set (omega arith)

pub bounds-b-at-4 : goal.bounds-b-at-4
bounds-b-at-4 c = simp length-set (omega arith)

pub put_two-requires : goal.put_two-requires
put_two-requires c = simp length-set (omega arith)

pub put_two-requires-2 : goal.put_two-requires-2
put_two-requires-2 c = omega (arith, simp length-set at c.put_two.auto.b)

pub shape_of-b : goal.shape_of-b
shape_of-b c = omega (arith, c.put_two-2.auto.b, simp length-set at c.put_two.auto.b)

pub returns : goal.returns
returns c = rw (c.put_two-2.ensures, c.put_two.ensures, add-zero, plus1, plus2, plus3, plus4, plus6)
