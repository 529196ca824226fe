-- `register::use_right` answers or refuses. Assumes nothing.
use borrow.Author.Tests.{eq-eqb, ne_eqb}
use lib.Dec.{eqb}
use lib.IntN.{pos}
use mathlib.Core.Bool.{Bool, true, false, cond, ◌||◌}
use mathlib.Core.Path.{◌≡◌, sym, ◌∙◌}
use native.Mathlib.Omega.{arith}
use Rattle.rules.specs.Call.{Call, ask_use}
use Rattle.rules.specs.Pair.{opens}
use Rattle.block.specs.Block.{count_in}
use Rattle.block.specs.Records.{delegations_to}
use Rattle.block.proofs.Bytes.{fits_bytes}
use Rattle.block.proofs.Held.{count_most}
use Rattle.steptable.specs.TableText.{ours}
use Rattle.std.proofs.Common.{rules}
use Rattle.refusals.proofs.First.{number_some, told, told_none}
use Rattle.refusals.proofs.EarlyTests.{Through, through}
use Rattle.register.proofs.Made.{made_refused}
use Rattle.register.proofs.Using.{use_done}
use Rattle.register.specs.Answer.{answered_by}
use Rattle.register.specs.Made.{Made}
use Rattle.register.proofs.use_right.Goals as goal
use Rattle.register.proofs.use_right.Goals.{In_ok-use_refusal, Start}

abbrev call : Start → Call
call s = ask_use s.args.receiver

past : (c : In_ok-use_refusal) → Through ours c.args.block.now (ask_use c.args.receiver)
past c = through ours c.args.block.now (ask_use c.args.receiver) (told_none c.use_refusal.ensures c.in_ok-use_refusal.was)

-- x answers whether the receiver may use the right
done : (c : In_ok-use_refusal) (x : Bool) → let a = c.args in x ≡ (eqb a.receiver 0 || opens a.receiver (delegations_to a.block.now (count_in a.block.now)))
    → Made ours (ask_use a.receiver) a.block.now (answered_by (pos (cond x 1 0)) (pos 0) (pos 0)) a.block.now
done c x q = use_done ours c.args.receiver c.args.block.now (fits_bytes c.args.block.now c.shared_slice_known-1.given) (through ours c.args.block.now (ask_use c.args.receiver) (told_none c.use_refusal.ensures c.in_ok-use_refusal.was)) x q

pub returns-in_err-use_refusal : goal.returns-in_err-use_refusal
returns-in_err-use_refusal c =
    search (rules, made_refused ours (call (goal.at.returns-in_err-use_refusal c).Start) c.args.block.now _ (told c.use_refusal.ensures c.in_err-use_refusal.was) (number_some _))

pub returns-then-receiver-eq0 : goal.returns-then-receiver-eq0
returns-then-receiver-eq0 c = rw c.new.ensures (done (goal.at.returns-then-receiver-eq0 c).In_ok-use_refusal true (rw (eq-eqb _ _ c.if-receiver-eq0.true)))

pub count-requires : goal.count-requires
count-requires c = omega (arith, (past (goal.at.count-requires c).In_ok-use_refusal).early.size)

pub overflow_cast-receiver : goal.overflow_cast-receiver
overflow_cast-receiver c = omega (arith, (past (goal.at.overflow_cast-receiver c).In_ok-use_refusal).numbers.0)

pub opens-requires : goal.opens-requires
opens-requires c =
    omega (arith, (past (goal.at.opens-requires c).In_ok-use_refusal).early.size, count_most c.args.block.now (fits_bytes c.args.block.now c.shared_slice_known-1.given) (past (goal.at.opens-requires c).In_ok-use_refusal).early.formed, c.count.ensures)

pub returns-then-opens : goal.returns-then-opens
returns-then-opens c =
    rw c.new-then-opens.ensures (done (goal.at.returns-then-opens c).In_ok-use_refusal true (rw (ne_eqb _ _ c.if-receiver-eq0.false, ← c.count.ensures) (sym c.if-opens.true ∙ c.opens.ensures)))

pub returns : goal.returns
returns c =
    rw c.new-2.ensures (done (goal.at.returns c).In_ok-use_refusal false (rw (ne_eqb _ _ c.if-receiver-eq0.false, ← c.count.ensures) (sym c.if-opens.false ∙ c.opens.ensures)))
