-- `callfile::run_calls` goes over the lines call by call. Assumes nothing.
use Rattle.std.proofs.Common.{refl, ap, ◌∙◌, Bor, List, ℕ, arith}
use Rattle.callfile.proofs.Going.{going_start, going_stop, going_end, going_room, going_asks, going_more, line_inside}
use Rattle.callfile.proofs.run_calls.Goals as goal

pub loop-row-init : goal.loop-row-init
loop-row-init c =
    let a = c.args in
    record { same = refl; going = going_start a.lines.now a.block.now a.out.now a.to c.requires }

pub write_answer-end-requires : goal.write_answer-end-requires
write_answer-end-requires c =
    let a = c.args in
    let l = c.loop-row in
    let m = rw l.invariant.same at c.in-Some.ensures in
    going_asks a.lines.now a.block.now a.out.now a.to c.requires l.calls.at l.end l.number l.block l.out l.invariant.going c.in-Some.row c.read_next.new.self.at m.0

pub loop-row-preserved : goal.loop-row-preserved
loop-row-preserved c =
    let a = c.args in
    let l = c.loop-row in
    let w = c.write_answer-end in
    let m = rw l.invariant.same at c.in-Some.ensures in
    record {
      same = ap (λ (t : Bor (List ℕ)). t.now) c.read_next.ensures.1 ∙ l.invariant.same;
      going = going_more a.lines.now a.block.now a.out.now a.to c.requires l.calls.at l.end l.number l.block l.out l.invariant.going c.in-Some.row c.read_next.new.self.at m.0 w.result w.new.block w.new.out w.ensures w.auto.out;
    }

pub loop-row-smaller : goal.loop-row-smaller
loop-row-smaller c =
    let a = c.args in
    let l = c.loop-row in
    let m = rw l.invariant.same at c.in-Some.ensures in
    let i = line_inside a.lines.now a.block.now a.out.now a.to c.requires l.calls.at l.end l.number l.block l.out l.invariant.going c.in-Some.row c.read_next.new.self.at m.0 in
    omega (arith, i.0, i.1)

pub write_malformed-requires : goal.write_malformed-requires
write_malformed-requires c =
    let a = c.args in
    let l = c.loop-row in
    going_room a.lines.now a.block.now a.out.now a.to c.requires l.calls.at l.end l.number l.block l.out l.invariant.going

pub returns-then-calls-lines : goal.returns-then-calls-lines
returns-then-calls-lines c =
    let a = c.args in
    let l = c.loop-row in
    let m = rw l.invariant.same at c.in_default.ensures in
    let n = m.0.none refl in
    going_stop a.lines.now a.block.now a.out.now a.to c.requires l.calls.at l.end l.number l.block l.out l.invariant.going (omega (arith, n.1, c.if-calls-lines.true)) n.0 c.write_malformed.result c.write_malformed.new.out c.write_malformed.ensures

pub returns : goal.returns
returns c =
    let a = c.args in
    let l = c.loop-row in
    let m = rw l.invariant.same at c.in_default.ensures in
    let n = m.0.none refl in
    going_end a.lines.now a.block.now a.out.now a.to c.requires l.calls.at l.end l.number l.block l.out l.invariant.going (omega (arith, n.1, c.if-calls-lines.false))
