-- `rounds::make_rounds` makes rounds until one changes nothing, or the first that changes something. Assumes nothing.
use borrow.Author.Rules.{rules}
use mathlib.Core.Path.{refl, sym, subst, ◌∙◌}
use mathlib.Core.Bool.{Bool}
use Prim.Native.Nat.{◌+◌}
use native.Mathlib.Omega.{arith}
use Rattle.block.specs.Block.{decode}
use Rattle.block.proofs.Bytes.{fits_bytes}
use Rattle.block.proofs.Held.{held_formed}
use Rattle.queue.specs.Queue.{groups}
use Rattle.queue.proofs.Buckets.{empty_waits}
use Rattle.rounds.specs.Settled.{RoundsMade}
use Rattle.rounds.proofs.Settling.{on_first, on_formed, on_few, on_more, on_falls, on_index, made_once, made_all}
use Rattle.rounds.proofs.make_rounds.Goals as goal

pub loop-starts-init : goal.loop-starts-init
loop-starts-init c =
    (refl, on_first c.args.table.now c.args.block.now (fits_bytes c.args.block.now (search rules)) c.requires.0, refl, record { size = refl; none = empty_waits groups }, refl, c.index_of-index.ensures)

pub round-requires : goal.round-requires
round-requires c =
    let l = c.loop-starts in
    (record { formed = on_formed c.args.table.now (decode c.args.block.now) l.changed l.block l.invariant.1; rule = c.requires.1 }, l.invariant.5, record { size = l.invariant.2; queue = l.invariant.3 }, l.invariant.4)

pub renewed-index-requires : goal.renewed-index-requires
renewed-index-requires c =
    let l = c.loop-starts in
    let o = c.round in
    let g = on_more c.args.table.now (decode c.args.block.now) l.changed l.block l.invariant.1 o.result o.new.block o.ensures.0 c.loop-starts-test.true in
    (on_formed c.args.table.now (decode c.args.block.now) (l.changed + 1) o.new.block g, l.invariant.5.starts.size, on_index c.args.table.now (decode c.args.block.now) l.changed l.block l.invariant.1 o.result o.new.block o.ensures.0 l.index l.starts l.invariant.5)

pub overflow_add-changed : goal.overflow_add-changed
overflow_add-changed c =
    let l = c.loop-starts in
    omega (arith, on_few c.args.table.now (decode c.args.block.now) l.changed l.block l.invariant.1 (held_formed c.args.block.now (fits_bytes c.args.block.now (search rules)) c.requires.0))

pub returns-then-once : goal.returns-then-once
returns-then-once c =
    let l = c.loop-starts in
    let o = c.round in
    let g = on_more c.args.table.now (decode c.args.block.now) l.changed l.block l.invariant.1 o.result o.new.block o.ensures.0 c.loop-starts-test.true in
    subst (λ (once : Bool). RoundsMade c.args.table.now (decode c.args.block.now) once (l.changed + 1) o.new.block) (sym c.if-once.true)
    (made_once c.args.table.now (decode c.args.block.now) (l.changed + 1) o.new.block g (λ z. absurd (omega (arith, z))))

pub loop-starts-smaller : goal.loop-starts-smaller
loop-starts-smaller c =
    let l = c.loop-starts in
    let o = c.round in
    on_falls c.args.table.now (decode c.args.block.now) l.changed l.block l.invariant.1 o.result o.new.block o.ensures.0 c.loop-starts-test.true

pub loop-starts-preserved : goal.loop-starts-preserved
loop-starts-preserved c =
    let l = c.loop-starts in
    let o = c.round in (
      o.auto.block ∙ l.invariant.0,
      on_more c.args.table.now (decode c.args.block.now) l.changed l.block l.invariant.1 o.result o.new.block o.ensures.0 c.loop-starts-test.true,
      o.auto.reaches ∙ l.invariant.2,
      o.ensures.1,
      o.auto.weights ∙ l.invariant.4,
      c.renewed-index.ensures,
    )

pub returns : goal.returns
returns c =
    let l = c.loop-starts in
    let o = c.round in
    made_all c.args.table.now (decode c.args.block.now) l.changed l.block l.invariant.1 c.args.once o.result o.new.block o.ensures.0 c.loop-starts-test.false
