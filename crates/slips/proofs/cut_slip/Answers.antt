-- `slips::cut_slip` makes a cut and writes its slip, or refuses. Assumes nothing.
use mathlib.Core.Path.{sym, ap, subst, ◌∙◌}
use mathlib.Core.List.{◌++◌}
use Prim.Native.Nat.{◌≤◌}
use native.Mathlib.Omega.{arith}
use Rattle.rules.specs.Table.{TableRule}
use Rattle.rules.specs.Cut.{Cut}
use Rattle.rules.specs.Call.{cut_call}
use Rattle.steptable.specs.TableText.{given}
use Rattle.steptable.specs.TableText.{Given}
use Rattle.steptable.proofs.Right.{given_keeps}
use Rattle.register.specs.CallOn.{Result}
use Rattle.register.specs.Cuts.{CutMade}
use Rattle.register.proofs.Through.{accepted_through}
use Rattle.slips.specs.Slip.{cut_of}
use Rattle.slips.proofs.Parts.{cut_bytes_lem, cut_limits}
use Rattle.slips.proofs.SlipWays.{block_short, slip_short, slip_refused, slip_done}
use Rattle.slips.proofs.cut_slip.Goals as goal
use Rattle.slips.proofs.cut_slip.Goals.{After-cut_by, In_ok-answers, Start}
use Rattle.register.specs.Answer.{Answer, refused_by, answer_of}
use Rattle.register.specs.declared.Answers.{Answers}
use Rattle.rules.specs.declared.refusal.Refusal.{Refusal}
use Rattle.refusals.proofs.First.{number_some}
use Rattle.std.proofs.Common.{refl, rules}

abbrev cut : Start → Cut
cut s = cut_of s.args.number s.args.giver s.args.receiver s.args.weight

-- the cut by the table of the text
made : (c : After-cut_by) → CutMade (given c.args.table.now) (cut_call c.args.by (cut_of c.args.number c.args.giver c.args.receiver c.args.weight)) c.args.block.now (answer_of c.cut_by.result) c.cut_by.new.block
made c =
    subst (λ (g : Given). CutMade g (cut_call c.args.by (cut_of c.args.number c.args.giver c.args.receiver c.args.weight)) c.args.block.now (answer_of c.cut_by.result) c.cut_by.new.block) c.read_table-lent.ensures c.cut_by.ensures

-- where it was accepted its numbers are bytes
limits : (c : In_ok-answers) → (c.args.by ≤ 63) × (c.args.giver ≤ 63) × (c.args.receiver ≤ 63) × (c.args.weight ≤ 255)
limits c =
    let a = c.args in
    cut_limits a.number a.by a.giver a.receiver a.weight c.requires (accepted_through (given a.table.now) a.block.now (cut_call a.by (cut_of c.args.number c.args.giver c.args.receiver c.args.weight)) (sym (ap (λ (r : Result). r.refusal) (subst (λ (g : Given). CutMade g (cut_call c.args.by (cut_of c.args.number c.args.giver c.args.receiver c.args.weight)) c.args.block.now (answer_of c.cut_by.result) c.cut_by.new.block) c.read_table-lent.ensures c.cut_by.ensures).outcome) ∙ ap (λ (r : Rattle.std.specs.Prelude.Result Answers Refusal). (answer_of r).refusal) c.in_ok-answers.was)).numbers

pub returns-then-slip-ne-SLIP_SIZE : goal.returns-then-slip-ne-SLIP_SIZE
returns-then-slip-ne-SLIP_SIZE c =
    let a = c.args in
    (slip_short (given a.table.now) a.by (cut (goal.at.returns-then-slip-ne-SLIP_SIZE c).Start) a.block.now a.slip.now c.if-slip-ne-SLIP_SIZE.true)

pub returns-then-block-ne-BLOCK_SIZE : goal.returns-then-block-ne-BLOCK_SIZE
returns-then-block-ne-BLOCK_SIZE c =
    let a = c.args in
    let g = given a.table.now in
    (slip_refused g a.by (cut (goal.at.returns-then-block-ne-BLOCK_SIZE c).Start) a.block.now a.slip.now c.if-slip-ne-SLIP_SIZE.false (refused_by 1) a.block.now (block_short g (cut_call a.by (cut (goal.at.returns-then-block-ne-BLOCK_SIZE c).Start)) a.block.now c.if-block-ne-BLOCK_SIZE.true) (λ z. omega arith))

pub cut_by-requires : goal.cut_by-requires
cut_by-requires c =
    subst (λ (g : Given). TableRule g.steps) (sym c.read_table-lent.ensures) (given_keeps c.args.table.now)

pub returns-in_err-answers : goal.returns-in_err-answers
returns-in_err-answers c =
    let a = c.args in
    let w = ap answer_of c.in_err-answers.was in
    search (rules, slip_refused (given a.table.now) a.by (cut (goal.at.returns-in_err-answers c).Start) a.block.now a.slip.now c.if-slip-ne-SLIP_SIZE.false _ c.cut_by.new.block (subst (λ (o : Answer). CutMade (given a.table.now) (cut_call a.by (cut_of a.number a.giver a.receiver a.weight)) a.block.now o c.cut_by.new.block) w (made (goal.at.returns-in_err-answers c).After-cut_by)) (number_some _))

pub overflow_cast-cut : goal.overflow_cast-cut
overflow_cast-cut c = let (y, g, r, w) = limits c in omega (arith, y, g, r, w)

pub overflow_cast-cut-2 : goal.overflow_cast-cut-2
overflow_cast-cut-2 c = let (y, g, r, w) = limits c in omega (arith, y, g, r, w)

pub overflow_cast-cut-3 : goal.overflow_cast-cut-3
overflow_cast-cut-3 c = let (y, g, r, w) = limits c in omega (arith, y, g, r, w)

pub overflow_cast-cut-4 : goal.overflow_cast-cut-4
overflow_cast-cut-4 c = let (y, g, r, w) = limits c in omega (arith, y, g, r, w)

pub returns : goal.returns
returns c =
    let a = c.args in
    slip_done (given a.table.now) a.by (cut (goal.at.returns c).Start) a.block.now a.slip.now c.if-slip-ne-SLIP_SIZE.false _ c.cut_by.new.block (subst (λ (o : Answer). CutMade (given a.table.now) (cut_call a.by (cut_of a.number a.giver a.receiver a.weight)) a.block.now o c.cut_by.new.block) (ap answer_of c.in_ok-answers.was) (made (goal.at.returns c).After-cut_by)) refl c.write_slip.new.slip
    (c.write_slip.ensures
    ∙ (λ j. c.copy.ensures j ++ (sym (cut_bytes_lem a.number a.by a.giver a.receiver a.weight c.requires) j ++ c.cut_by.new.block)))
