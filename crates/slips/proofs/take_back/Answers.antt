-- `slips::take_back` puts the block before a slip's cut in place, or refuses. Assumes nothing.
use mathlib.Core.Path.{◌≡◌, sym, ap, subst, ◌∙◌}
use native.Mathlib.Omega.{arith}
use lib.ListN.{length}
use lib.Seq.{length-take-le}
use Rattle.rules.specs.Table.{TableRule}
use Rattle.block.specs.Layout.{block_size}
use Rattle.block.proofs.Bytes.{fits_bytes}
use Rattle.steptable.specs.TableText.{given}
use Rattle.steptable.specs.Lent.{given_by}
use Rattle.refusals.proofs.First.{number_some, told, told_none}
use Rattle.std.proofs.Common.{ℕ, rules}
use Rattle.steptable.specs.TableText.{Given}
use Rattle.steptable.proofs.Right.{given_keeps}
use Rattle.refusals.specs.Early.{back_refusal}
use Rattle.refusals.proofs.EarlyTests.{back_none}
use Rattle.slips.specs.Slip.{slip_giver}
use Rattle.slips.proofs.SlipWays.{back_short, back_refused, back_other, back_done}
use Rattle.slips.proofs.take_back.Goals as goal
use Rattle.slips.proofs.take_back.Goals.{After-read_table-given, In_ok-back_refusal}

-- what is given with the table's text, as it was read
abbrev table : After-read_table-given → Given
table c = given_by c.read_table-given.result

-- no test before 20 applies
none_applies : (c : In_ok-back_refusal) → let a = c.args in back_refusal (given_by c.read_table-given.result).refusal a.block.now a.by (slip_giver a.slip.now) ≡ 0
none_applies c = told_none (c.back_refusal.ensures ∙ ap (λ (n : ℕ). back_refusal n c.args.block.now c.args.by (slip_giver c.args.slip.now)) c.fault.ensures) c.in_ok-back_refusal.was

sized : (c : In_ok-back_refusal) → length c.args.block.now ≡ block_size
sized c =
    let a = c.args in
    (back_none (given_by c.read_table-given.result).refusal a.block.now a.by (slip_giver a.slip.now) (told_none (c.back_refusal.ensures ∙ ap (λ (n : ℕ). back_refusal n c.args.block.now c.args.by (slip_giver c.args.slip.now)) c.fault.ensures) c.in_ok-back_refusal.was)).0.size

pub returns-then-slip-ne-SLIP_SIZE : goal.returns-then-slip-ne-SLIP_SIZE
returns-then-slip-ne-SLIP_SIZE c =
    (back_short (given c.args.table.now) c.args.by c.args.slip.now c.args.block.now c.if-slip-ne-SLIP_SIZE.true)

pub overflow_cast-slip : goal.overflow_cast-slip
overflow_cast-slip c = omega (arith, fits_bytes c.args.slip.now c.shared_slice_known-3-1.given 2190)

pub returns-in_err-back_refusal : goal.returns-in_err-back_refusal
returns-in_err-back_refusal c =
    let a = c.args in
    search (rules, back_refused (given a.table.now) a.by a.slip.now a.block.now c.if-slip-ne-SLIP_SIZE.false _ (told (c.back_refusal.ensures ∙ ap (λ (n : ℕ). back_refusal n a.block.now a.by (slip_giver a.slip.now)) c.fault.ensures ∙ ap (λ (g : Given). back_refusal g.refusal a.block.now a.by (slip_giver a.slip.now)) c.read_table-given.ensures) c.in_err-back_refusal.was) (number_some _))

pub is_genuine-requires : goal.is_genuine-requires
is_genuine-requires c =
    (subst (λ (g : Given). TableRule g.steps) (sym c.read_table-given.ensures) (given_keeps c.args.table.now), sized (goal.at.is_genuine-requires c).In_ok-back_refusal, c.if-slip-ne-SLIP_SIZE.false)

pub returns-then-not-is_genuine : goal.returns-then-not-is_genuine
returns-then-not-is_genuine c =
    let a = c.args in
    rw (← c.read_table-given.ensures) (back_other (table (goal.at.returns-then-not-is_genuine c).After-read_table-given) a.by a.slip.now a.block.now c.if-slip-ne-SLIP_SIZE.false (none_applies (goal.at.returns-then-not-is_genuine c).In_ok-back_refusal) (sym c.is_genuine.ensures ∙ c.if-not-is_genuine.true))

pub slice_bounds-copy-end : goal.slice_bounds-copy-end
slice_bounds-copy-end c = sym (length-take-le block_size c.args.slip.now (omega (arith, c.if-slip-ne-SLIP_SIZE.false)))

pub copy-requires : goal.copy-requires
copy-requires c =
    length-take-le block_size c.args.slip.now (omega (arith, c.if-slip-ne-SLIP_SIZE.false)) ∙ sym (sized (goal.at.copy-requires c).In_ok-back_refusal)

pub returns : goal.returns
returns c =
    let a = c.args in
    rw (c.new.ensures, ← c.read_table-given.ensures) (back_done (table (goal.at.returns c).After-read_table-given) a.by a.slip.now a.block.now c.if-slip-ne-SLIP_SIZE.false (none_applies (goal.at.returns c).In_ok-back_refusal) (sym c.is_genuine.ensures ∙ c.if-not-is_genuine.false) c.copy.new.to c.copy.ensures)
