-- `order::write_order` writes the order or refuses. Assumes nothing.
use Rattle.std.proofs.Common.{◌≡◌, sym, ap, ◌∙◌, subst, List, ℤ, rules}
use Rattle.rules.specs.Table.{TableRule}
use Rattle.rules.specs.Refused.{refused_with}
use Rattle.block.specs.Block.{decode}
use Rattle.steptable.specs.TableText.{Given, given}
use Rattle.steptable.proofs.Right.{given_keeps}
use Rattle.refusals.specs.Early.{order_refusal}
use Rattle.refusals.proofs.First.{number_some, told, told_none}
use Rattle.refusals.proofs.EarlyTests.{receives}
use Rattle.order.specs.OrderOn.{OrderWritten}
use Rattle.order.proofs.OrderWays.{order_buffer, order_refused, order_made}
use Rattle.order.proofs.write_order.Goals as goal
use Rattle.order.proofs.write_order.Goals.{After-order_allowed, In_ok-steps}

number : (c : After-order_allowed) → refused_with c.order_allowed.result ≡ order_refusal (given c.args.table.now).refusal c.args.block.now c.args.receiver
number c = c.order_allowed.ensures.refusal ∙ ap (λ (g : Given). order_refusal g.refusal c.args.block.now c.args.receiver) c.read_table-table.ensures

-- the steps are those of the text
steps : (c : In_ok-steps) → c.in_ok-steps.steps.now ≡ (given c.args.table.now).steps
steps c = c.in_ok-steps.ensures.steps ∙ ap (λ (g : Given). g.steps) c.read_table-table.ensures

pub returns-then-buf-ne-ORDER_SIZE : goal.returns-then-buf-ne-ORDER_SIZE
returns-then-buf-ne-ORDER_SIZE c = let a = c.args in order_buffer (given a.table.now) a.block.now a.receiver a.buf.now c.if-buf-ne-ORDER_SIZE.true

pub returns-in_err-steps : goal.returns-in_err-steps
returns-in_err-steps c =
    let a = c.args in
    let n = (goal.at.returns-in_err-steps c).After-order_allowed in
    search (rules, order_refused (given a.table.now) a.block.now a.receiver a.buf.now c.if-buf-ne-ORDER_SIZE.false _ (told (number n) c.in_err-steps.was) (number_some _))

pub write_found-requires : goal.write_found-requires
write_found-requires c =
    let a = c.args in
    let n = (goal.at.write_found-requires c).After-order_allowed in
    (receives (given a.table.now).refusal a.block.now a.receiver (told_none (number n) c.in_ok-steps.was), subst TableRule (sym (steps (goal.at.write_found-requires c).In_ok-steps)) (given_keeps a.table.now), c.if-buf-ne-ORDER_SIZE.false)

pub returns : goal.returns
returns c =
    let a = c.args in
    let n = (goal.at.returns c).After-order_allowed in
    let o = c.write_found in
    order_made (given a.table.now) a.block.now a.receiver a.buf.now c.if-buf-ne-ORDER_SIZE.false _ (number n) (ap refused_with c.in_ok-steps.was) o.result _
    (subst (λ (t : List ℤ). OrderWritten t (decode a.block.now) a.receiver a.buf.now o.result o.new.buf) (steps (goal.at.returns c).In_ok-steps) o.ensures)
