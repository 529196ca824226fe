-- `callfile::write_answer` makes a call and writes its answers. Assumes nothing.
use Rattle.std.proofs.Common.{sym, subst, [], arith, rules}
use mir.Syntax.{w32}
use mir.Val.{SFits}
use Rattle.demands.specs.History.{lent_to}
use Rattle.register.specs.Answer.{Answer, as_numbers}
use Rattle.register.specs.Made.{Made}
use Rattle.callfile.specs.Row.{made_of_row}
use Rattle.callfile.proofs.Answers.{machine_is, answer_room, answered}
use Rattle.callfile.proofs.write_answer.Goals as goal

pub write_line-requires : goal.write_line-requires
write_line-requires c =
    let (n, r) = c.told-refusal.result in
    let o = as_numbers n r in
    let f : SFits w32 o.first = search rules in
    let g : SFits w32 o.second = search rules in
    let h : SFits w32 o.third = search rules in
    let e = machine_is o (omega arith) f g h c.from.ensures c.from-2.ensures c.from-3.ensures c.from-4.ensures in
    answer_room o (omega arith) f g h _ e c.args.at c.args.out.now c.requires.1

pub returns : goal.returns
returns c =
    let (n, r) = c.told-refusal.result in
    let o = as_numbers n r in
    let d = made_of_row c.args.r in
    let f : SFits w32 o.first = search rules in
    let g : SFits w32 o.second = search rules in
    let h : SFits w32 o.third = search rules in
    let e = machine_is o (omega arith) f g h c.from.ensures c.from-2.ensures c.from-3.ensures c.from-4.ensures in
    answered o (omega arith) f g h _ e c.args.at c.args.out.now d c.args.block.now c.write_line.result c.call.new.block c.write_line.new.buf
    (subst (λ (x : Answer). Made (lent_to d []) d c.args.block.now x c.call.new.block) (sym c.told-refusal.ensures) (c.call.ensures.made c.requires.0)) c.write_line.ensures
