-- `change::keep_left` writes what is left of the first records. Assumes nothing.
use mathlib.Core.Path.{sym, ◌∙◌}
use native.Mathlib.Omega.{arith}
use lib.IntN.{pos}
use lib.ListN.{get_or}
use Rattle.change.proofs.Writing.{kept_is, left_none, left_few, left_length, left_one, left_same}
use Rattle.change.proofs.left.keep_left.Goals as goal
use Rattle.change.proofs.left.keep_left.Goals.{then-keep_at, else-keep_at}

pub loop-k-init : goal.loop-k-init
loop-k-init c = (omega arith, left_none c.args.block.now c.args.weights.now)

pub keep_at-requires : goal.keep_at-requires
keep_at-requires c =
    let v = c.loop-k in
    let b = c.args.block.now in
    let w = c.args.weights.now in
    let few = left_few b w v.k v.kept v.block v.invariant.1 (omega arith) in
    let long = left_length b w v.k v.kept v.block v.invariant.1 (omega arith) in
    record {
      down = few;
      few = omega arith;
      room = omega (arith, long);
      most = rw (kept_is (get_or w v.k (pos 0)) c.weight-1.given) (c.requires.most v.k c.loop-k-test.true);
    }

pub overflow_add-kept : goal.overflow_add-kept
overflow_add-kept c =
    let v = c.loop-k in
    omega (arith, left_few c.args.block.now c.args.weights.now v.k v.kept v.block v.invariant.1 (omega arith))

pub loop-k-preserved : goal.loop-k-preserved
loop-k-preserved c =
    let v = c.loop-k in
    let b = c.args.block.now in
    let w = c.args.weights.now in
    let r = c.keep_at in
    let h = c.weight-1.given in
    elim c.if-keep_at.branch [
      | then-keep_at t ↦ (omega arith, rw t.kept-is (left_one b w v.k v.kept v.block v.invariant.1 (omega arith) _ (omega arith) h r.ensures.1 (sym t.if-keep_at.true ∙ r.ensures.0)))
      | else-keep_at t ↦ (omega arith, rw t.kept-is (left_same b w v.k v.kept v.block v.invariant.1 (omega arith) _ (omega arith) h r.ensures.1 (sym t.if-keep_at.false ∙ r.ensures.0)))
    ]
