-- `regfile::write_rows` writes row by row. Assumes nothing.
use Prim.Native.Nat.{◌<◌}
use native.Mathlib.Omega.{arith}
use lib.ListN.{length}
use Rattle.block.specs.Block.{decode}
use Rattle.regfile.specs.FileText.{rows_of}
use Rattle.regfile.specs.Parsed.{columns}
use Rattle.regfile.proofs.Writing.{rows_start, rows_room, rows_more, rows_end}
use Rattle.regfile.proofs.write.write_rows.Goals as goal

pub loop-k-init : goal.loop-k-init
loop-k-init c =
    rows_start (rows_of (columns c.args.part) (decode c.args.b.now)) c.args.at c.args.buf.now c.requires.2

pub write_row-next-requires : goal.write_row-next-requires
write_row-next-requires c =
    let l = c.loop-k in
    let m : l.k < length (rows_of (columns c.args.part) (decode c.args.b.now)) = omega (arith, c.requires.1) in
    (c.requires.0, m, rows_room (rows_of (columns c.args.part) (decode c.args.b.now)) c.args.at c.args.buf.now c.requires.2 l.k l.next l.buf l.invariant m)

pub loop-k-preserved : goal.loop-k-preserved
loop-k-preserved c =
    let l = c.loop-k in
    let w = c.write_row-next in
    rows_more (rows_of (columns c.args.part) (decode c.args.b.now)) c.args.at c.args.buf.now c.requires.2 l.k l.next l.buf l.invariant (omega (arith, c.requires.1)) w.result w.new.buf w.ensures

pub returns : goal.returns
returns c =
    let l = c.loop-k in
    rows_end (rows_of (columns c.args.part) (decode c.args.b.now)) c.args.at c.args.buf.now c.requires.2 l.k l.next l.buf l.invariant (omega (arith, c.requires.1))
