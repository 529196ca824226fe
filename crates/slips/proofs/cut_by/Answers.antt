-- `slips::cut_by` makes the cut of a number. Assumes nothing.
use mathlib.Core.Path.{sym, subst}
use mathlib.Core.Bool.{Bool, cond}
use Prim.Native.Nat.{ℕ}
use borrow.Author.Tests.{ne_eqb}
use Rattle.rules.specs.Cut.{removal, lowering}
use Rattle.rules.specs.Call.{cut_call}
use Rattle.steptable.specs.Lent.{given_by}
use Rattle.register.specs.Answer.{answer_of}
use Rattle.register.specs.Cuts.{CutMade}
use Rattle.slips.specs.Slip.{cut_of}
use Rattle.slips.proofs.cut_by.Goals as goal

pub returns-then-number-eq-REVOKE : goal.returns-then-number-eq-REVOKE
returns-then-number-eq-REVOKE c =
    let o = c.revoke_lent in
    let a = c.args in
    subst (λ (n : ℕ). CutMade (given_by a.table.now) (cut_call a.by (cut_of n a.giver a.receiver a.weight)) a.block.now (answer_of o.result) o.new.block) (sym c.if-number-eq-REVOKE.true) o.ensures

pub returns : goal.returns
returns c =
    let o = c.downgrade_lent in
    let a = c.args in
    subst (λ (x : Bool). CutMade (given_by a.table.now) (cut_call a.by (cond x (removal a.giver a.receiver) (lowering a.giver a.receiver a.weight))) a.block.now (answer_of o.result) o.new.block) (sym (ne_eqb a.number 2 c.if-number-eq-REVOKE.false)) o.ensures
