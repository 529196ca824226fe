-- `order::write_items` writes subjects and their limits. Assumes nothing.
use Rattle.order.proofs.OrderWays.{Written}
use Rattle.order.proofs.write_items.Given as goal

abbrev pub invariant-loop-i : goal.invariant-loop-i
invariant-loop-i l = Written l.limits l.order l.initial.buf l.i l.buf
