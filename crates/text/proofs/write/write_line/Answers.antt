-- `text::write_line` writes a line. The loop: with the values from i on written, the buffer is as it shall be. Assumes nothing.
use Rattle.std.proofs.Common.{true, arith, pos, get_or}
use Rattle.text.proofs.Signed.{kept, allowed_fits}
use Rattle.text.proofs.Lines.{allowed_at}
use Rattle.text.proofs.Writing.{pending_end, pending_room, pending_place, pending_more}
use Rattle.text.proofs.write.write_line.Goals as goal

pub write_number-end-requires : goal.write_number-end-requires
write_number-end-requires c =
    let l = c.loop-i in
    let z = get_or c.args.values.now l.i (pos 0) in
    let a = allowed_at true c.args.values.now l.i c.loop-i-test.true c.requires.0 in
    rw (kept z (allowed_fits true z a)) (a, pending_room c.args.at c.args.values.now c.args.buf.now c.requires.1 l.next l.i l.buf l.invariant c.loop-i-test.true)

pub overflow_add-next : goal.overflow_add-next
overflow_add-next c =
    let l = c.loop-i in
    let w = c.write_number-end in
    let z = get_or c.args.values.now l.i (pos 0) in
    let a = allowed_at true c.args.values.now l.i c.loop-i-test.true c.requires.0 in
    let g = pending_place c.args.at c.args.values.now c.args.buf.now c.requires.1 l.next l.i l.buf l.invariant c.loop-i-test.true w.result w.new.buf (rw (kept z (allowed_fits true z a)) at w.ensures) in
    omega (arith, g.0, g.1)

pub loop-i-preserved : goal.loop-i-preserved
loop-i-preserved c =
    let l = c.loop-i in
    let w = c.write_number-end in
    let z = get_or c.args.values.now l.i (pos 0) in
    let a = allowed_at true c.args.values.now l.i c.loop-i-test.true c.requires.0 in
    rw c.column_end.ensures (pending_more c.args.at c.args.values.now c.args.buf.now c.requires.1 l.next l.i l.buf l.invariant c.loop-i-test.true w.result w.new.buf (rw (kept z (allowed_fits true z a)) at w.ensures))

pub returns : goal.returns
returns c =
    let l = c.loop-i in
    pending_end c.args.at c.args.values.now c.args.buf.now c.requires.1 l.next l.i l.buf l.invariant (omega arith)
