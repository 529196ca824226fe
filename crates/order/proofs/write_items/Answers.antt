-- `order::write_items` writes subjects and their limits. Assumes nothing.
use mathlib.Core.Path.{◌≡◌, refl, ap, subst}
use Prim.Native.Nat.{ℕ, ◌<◌}
use native.Mathlib.Omega.{arith}
use lib.ListN.{length, get_or, take, length-set}
use lib.Seq.{get_or-take, length-take-le}
use lib.IntN.{nat_abs}
use Rattle.rules.specs.List.{◌∈◌}
use Rattle.rules.specs.Limit.{none}
use Rattle.rules.proofs.Signed.{read_limit, live_natural}
use Rattle.block.proofs.Bytes.{get_or_mem}
use Rattle.order.proofs.OrderWays.{Written, written_length, written_more}
use Rattle.order.proofs.write_items.Goals as goal
use Rattle.order.proofs.write_items.Goals.{In-loop-i}

-- ── one more ──
module _ (c : In-loop-i) where
  abbrev at : ℕ
  at = c.loop-i.i

  abbrev subject : ℕ
  subject = get_or c.args.order.now c.loop-i.i 0

  within : at < length c.args.order.now
  within = omega (arith, c.requires.within)

  -- it is one of those to be written
  among : subject ∈ take c.args.count c.args.order.now
  among =
      subst (λ (x : ℕ). x ∈ take c.args.count c.args.order.now) (get_or-take c.args.count c.args.order.now at 0 (omega arith))
      (get_or_mem (take c.args.count c.args.order.now) at 0 (omega (arith, length-take-le c.args.count c.args.order.now c.requires.within)))

  inside : subject < length c.args.limits.now
  inside = c.requires.places subject among

  room : length c.loop-i.buf ≡ length c.args.buf.now
  room = written_length c.args.limits.now c.args.order.now c.args.count c.args.buf.now c.requires at c.loop-i.buf (omega arith) c.loop-i.invariant

pub loop-i-init : goal.loop-i-init
loop-i-init c = refl

pub bounds-order-i : goal.bounds-order-i
bounds-order-i c = within (goal.at.bounds-order-i c).In-loop-i

pub overflow_cast-limit : goal.overflow_cast-limit
overflow_cast-limit c = omega (arith, c.shared_slice_known-1.given (at (goal.at.overflow_cast-limit c).In-loop-i))

pub offset_bounds-limits-subject : goal.offset_bounds-limits-subject
offset_bounds-limits-subject c = omega (arith, c.shared_slice_known-1.given (at (goal.at.offset_bounds-limits-subject c).In-loop-i))

pub bounds-limits-subject : goal.bounds-limits-subject
bounds-limits-subject c = inside (goal.at.bounds-limits-subject c).In-loop-i

pub overflow_mul-buf : goal.overflow_mul-buf
overflow_mul-buf c = omega (arith, c.requires.few)

pub bounds-buf-i : goal.bounds-buf-i
bounds-buf-i c = omega (arith, room (goal.at.bounds-buf-i c).In-loop-i, c.requires.room)

pub overflow_cast-buf : goal.overflow_cast-buf
overflow_cast-buf c =
    let h = c.requires.limits (subject (goal.at.overflow_cast-buf c).In-loop-i) (among (goal.at.overflow_cast-buf c).In-loop-i) in
    rw (read_limit c.args.limits.now (subject (goal.at.overflow_cast-buf c).In-loop-i) (inside (goal.at.overflow_cast-buf c).In-loop-i) c.limit-1.given) (let n = live_natural (get_or c.args.limits.now (subject (goal.at.overflow_cast-buf c).In-loop-i) none) h.0 h.1 in (n.0, omega (arith, n.1)))

pub overflow_mul-buf-in-loop-i : goal.overflow_mul-buf-in-loop-i
overflow_mul-buf-in-loop-i c = omega (arith, c.requires.few)

pub overflow_add-buf : goal.overflow_add-buf
overflow_add-buf c = omega (arith, c.requires.few)

pub bounds-buf-i-in-loop-i : goal.bounds-buf-i-in-loop-i
bounds-buf-i-in-loop-i c = simp length-set (omega (arith, room (goal.at.bounds-buf-i-in-loop-i c).In-loop-i, c.requires.room))

pub loop-i-preserved : goal.loop-i-preserved
loop-i-preserved c =
    written_more c.args.limits.now c.args.order.now c.args.count c.args.buf.now c.requires (at (goal.at.loop-i-preserved c).In-loop-i) c.loop-i.buf (subject (goal.at.loop-i-preserved c).In-loop-i) _ (omega arith) refl (ap nat_abs (read_limit c.args.limits.now (subject (goal.at.loop-i-preserved c).In-loop-i) (inside (goal.at.loop-i-preserved c).In-loop-i) c.limit-1.given)) c.loop-i.invariant

pub shape_of-buf : goal.shape_of-buf
shape_of-buf c = let v = c.loop-i in written_length c.args.limits.now c.args.order.now c.args.count c.args.buf.now c.requires v.i v.buf (omega arith) v.invariant

pub returns : goal.returns
returns c =
    let v = c.loop-i in
    let e : v.i ≡ c.args.count = omega arith in
    subst (λ (i : ℕ). Written c.args.limits.now c.args.order.now c.args.buf.now i v.buf) e v.invariant
