-- `regfile::read_rows` reads the rows of a part, as many as there are, and stores them as long as all have room. Assumes nothing.
use Rattle.std.proofs.Common.{◌∙◌}
use Rattle.block.specs.Block.{decode}
use Rattle.regfile.specs.Parsed.{columns}
use Rattle.regfile.proofs.Rowing.{columns_some, row_less, row_passed, row_fitting, row_put}
use Rattle.regfile.proofs.read.read_rows.Goals as goal

pub put_row-kept-requires : goal.put_row-kept-requires
put_row-kept-requires c =
    let p = c.args.part in
    let l = c.loop-end in
    let long = c.read_line.auto.values ∙ l.invariant.0 in
    let m = c.in-Some.ensures in
    (row_fitting c.args.text.now (columns p) (columns_some p) (decode c.args.b.now) c.args.fits l.next l.kept l.b l.invariant.1 c.in-Some.end l.row c.read_line.new.values m long c.if-kept.true, long, m.read.0)

pub loop-end-smaller-then-kept : goal.loop-end-smaller-then-kept
loop-end-smaller-then-kept c =
    let p = c.args.part in
    let l = c.loop-end in
    row_less c.args.text.now (columns p) (columns_some p) (decode c.args.b.now) c.args.fits l.next l.kept l.b l.invariant.1 c.in-Some.end l.row c.read_line.new.values c.in-Some.ensures (c.read_line.auto.values ∙ l.invariant.0)

pub loop-end-preserved-then-kept : goal.loop-end-preserved-then-kept
loop-end-preserved-then-kept c =
    let p = c.args.part in
    let l = c.loop-end in
    let long = c.read_line.auto.values ∙ l.invariant.0 in
    let q = c.put_row-kept in
    (long, row_put c.args.text.now (columns p) (columns_some p) (decode c.args.b.now) c.args.fits l.next l.kept l.b l.invariant.1 c.in-Some.end l.row c.read_line.new.values c.in-Some.ensures long c.if-kept.true q.result q.new.b q.ensures)

pub loop-end-smaller : goal.loop-end-smaller
loop-end-smaller c =
    let p = c.args.part in
    let l = c.loop-end in
    row_less c.args.text.now (columns p) (columns_some p) (decode c.args.b.now) c.args.fits l.next l.kept l.b l.invariant.1 c.in-Some.end l.row c.read_line.new.values c.in-Some.ensures (c.read_line.auto.values ∙ l.invariant.0)

pub loop-end-preserved : goal.loop-end-preserved
loop-end-preserved c =
    let p = c.args.part in
    let l = c.loop-end in
    let long = c.read_line.auto.values ∙ l.invariant.0 in
    (long, row_passed c.args.text.now (columns p) (columns_some p) (decode c.args.b.now) c.args.fits l.next l.kept l.b l.invariant.1 c.in-Some.end l.row c.read_line.new.values c.in-Some.ensures long c.if-kept.false)
