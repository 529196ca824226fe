-- `order::order` hands back the front of the buffer that it filled. Assumes nothing.
use Rattle.std.proofs.Common.{◌≡◌, ◌≤◌, ◌*◌, length, sym, ap, subst, Ok, arith, rules}
use lib.Seq.{length-take-le}
use Rattle.steptable.specs.TableText.{given}
use Rattle.order.specs.Listed.{Listed, listed_of}
use Rattle.order.specs.OrderOn.{OrderMade}
use Rattle.order.proofs.OrderWays.{front_fits}
use Rattle.order.proofs.order.Goals as goal
use Rattle.order.proofs.order.Goals.{In_ok-subjects}

fits : (c : In_ok-subjects) → 2 * c.in_ok-subjects.subjects ≤ length c.write_order.new.buf
fits c =
    let a = c.args in
    let was : c.write_order.result ≡ Ok c.in_ok-subjects.subjects = search rules in
    let made = subst (λ (o : Listed). OrderMade (given a.table.now) a.block.now a.receiver a.buf.now o c.write_order.new.buf) (ap listed_of was) c.write_order.ensures in
    front_fits (given a.table.now) a.block.now a.receiver a.buf.now _ c.write_order.new.buf made

pub overflow_mul-buf : goal.overflow_mul-buf
overflow_mul-buf c = omega (arith, fits (goal.at.overflow_mul-buf c).In_ok-subjects)

pub slice_bounds-result-end : goal.slice_bounds-result-end
slice_bounds-result-end c = sym (length-take-le _ _ (omega (arith, fits (goal.at.slice_bounds-result-end c).In_ok-subjects)))
