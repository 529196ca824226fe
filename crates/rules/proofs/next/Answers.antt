-- `rules::next` is the definition's `next`, for every table of 256 entries and every limit. Assumes nothing.
use native.Mathlib.Omega.{arith}
use mir.Syntax.{w16}
use mir.Facts.{to_z-of_z, Fits-nat_abs}
use Rattle.rules.proofs.Signed.{not_negative, next_negative, next_by_limit, next_by_weight}
use Rattle.rules.proofs.next.Goals as goal

pub returns-then-limit-lt0 : goal.returns-then-limit-lt0
returns-then-limit-lt0 c = next_negative c.args.table.now c.args.limit c.args.weight (rw (to_z-of_z {w = w16} c.ranges.limit) at c.if-limit-lt0.true)

pub overflow_cast-l : goal.overflow_cast-l
overflow_cast-l c =
    rw (to_z-of_z {w = w16} c.ranges.limit)
    (not_negative c.args.limit (rw (to_z-of_z {w = w16} c.ranges.limit) at c.if-limit-lt0.false), Fits-nat_abs tt c.ranges.limit)

pub returns-then-l-w : goal.returns-then-l-w
returns-then-l-w c =
    next_by_limit c.args.table.now c.requires c.args.limit c.args.weight c.ranges.limit (omega arith) c.if-limit-lt0.false c.if-l-w.true c.result-1.given

pub returns : goal.returns
returns c =
    next_by_weight c.args.table.now c.requires c.args.limit c.args.weight c.ranges.limit (omega arith) c.if-limit-lt0.false c.if-l-w.false c.result-2-1.given
