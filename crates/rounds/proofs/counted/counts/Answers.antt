-- `rounds::counts` compares two registers as `dropped` and `lowered` do. Assumes nothing.
use mathlib.Core.Path.{sym, ◌∙◌}
use Prim.Native.Nat.{◌<◌}
use native.Mathlib.Omega.{arith}
use Rattle.block.specs.Block.{count_in}
use Rattle.block.proofs.Bytes.{fits_bytes}
use Rattle.block.proofs.Held.{has_head, holds}
use Rattle.rounds.proofs.Counting.{compared_none, compared_most, compared_past, compared_other, compared_lowered, compared_kept, compared_all}
use Rattle.rounds.proofs.counted.counts.Goals as goal
use Rattle.rounds.proofs.counted.counts.Goals.{then-j-m+then-is_pair, then-weight, else-weight, else-j-m, else-j-m-via-then-j-m+else-is_pair, else-j-m-via-else-j-m}

pub count-n-requires : goal.count-n-requires
count-n-requires c =
    let b = fits_bytes c.args.before.now c.type_inv.before in
    has_head c.args.before.now b c.requires.0

pub count-m-requires : goal.count-m-requires
count-m-requires c =
    let b = fits_bytes c.args.after.now c.type_inv.after in
    has_head c.args.after.now b c.requires.1

pub loop-k-init : goal.loop-k-init
loop-k-init c =
    let b = c.args.before.now in
    let a = c.args.after.now in
    let p = fits_bytes b c.type_inv.before in
    let q = fits_bytes a c.type_inv.after in
    let (f, g, w) = c.requires in
    (holds b p f c.count-n.result c.count-n.ensures, holds a q g c.count-m.result c.count-m.ensures, compared_none b a p q f g w)

pub overflow_add-lowered : goal.overflow_add-lowered
overflow_add-lowered c =
    let v = c.loop-k in
    omega (arith, (compared_most c.args.before.now c.args.after.now v.j v.k v.dropped v.lowered v.invariant.2).1)

pub overflow_add-dropped : goal.overflow_add-dropped
overflow_add-dropped c =
    let v = c.loop-k in
    omega (arith, (compared_most c.args.before.now c.args.after.now v.j v.k v.dropped v.lowered v.invariant.2).0)

pub loop-k-preserved : goal.loop-k-preserved
loop-k-preserved c =
    let v = c.loop-k in
    let b = c.args.before.now in
    let a = c.args.after.now in
    let (n, m, h) = v.invariant in
    let l : v.k < count_in b = omega (arith, n.counted) in
    let g = c.giver-giver.ensures in
    let e = c.receiver-receiver.ensures in (
      n,
      m,
      elim c.if-j-m.branch [
        | then-j-m+then-is_pair w ↦
            let d : v.j < count_in a = omega (arith, m.counted, w.if-j-m.true) in
            let t = rw (g, e) at (sym w.is_pair.ensures ∙ w.if-is_pair.true) in
            rw (w.dropped-is, w.lowered-is, w.j-is) (elim w.if-weight.branch [
              | then-weight u ↦ rw u.lowered-is (compared_lowered b a v.j v.k v.dropped v.lowered h l d t (rw (← w.weight.ensures, ← w.weight-then-is_pair.ensures) u.if-weight.true))
              | else-weight u ↦ rw u.lowered-is (compared_kept b a v.j v.k v.dropped v.lowered h l d t (rw (← w.weight.ensures, ← w.weight-then-is_pair.ensures) u.if-weight.false))
            ])
        | else-j-m w ↦ rw (w.dropped-is, w.lowered-is, w.j-is) (elim w.else-j-m.branch [
          | else-j-m-via-then-j-m+else-is_pair u ↦ compared_other b a v.j v.k v.dropped v.lowered h l (omega (arith, m.counted, u.if-j-m.true)) (rw (g, e) at (sym u.is_pair.ensures ∙ u.if-is_pair.false))
          | else-j-m-via-else-j-m u ↦ compared_past b a v.j v.k v.dropped v.lowered h l (omega (arith, m.counted, u.if-j-m.false))
        ])
      ],
    )

pub returns : goal.returns
returns c =
    let v = c.loop-k in
    let b = c.args.before.now in
    compared_all b c.args.after.now (fits_bytes b c.type_inv.before) c.requires.0 v.j v.k v.dropped v.lowered v.invariant.2 (omega (arith, v.invariant.0.counted))
