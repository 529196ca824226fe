-- `register::reach_by` answers or refuses. Assumes nothing.
use Rattle.std.proofs.Common.{sym, ap, subst, ◌∙◌, List, ℤ, rules}
use Rattle.rules.specs.Table.{TableRule}
use Rattle.rules.specs.Reach.{reach}
use Rattle.block.specs.Block.{decode}
use Rattle.refusals.proofs.First.{number_some, told, told_none}
use mir.Facts.{to_z-of_z}
use mir.Syntax.{w16, w32}
use native.Mathlib.Omega.{arith}
use Rattle.rules.specs.Call.{Call, ask_reach}
use Rattle.block.proofs.Bytes.{fits_bytes}
use Rattle.steptable.specs.Lent.{given_by}
use Rattle.refusals.proofs.EarlyTests.{Through, through}
use Rattle.register.proofs.GrantWays.{reach_both, reach_done}
use Rattle.register.proofs.Made.{made_refused}
use Rattle.register.proofs.granting.reach_by.Goals as goal
use Rattle.register.proofs.granting.reach_by.Goals.{In_ok-steps, Start}

abbrev call : Start → Call
call s = ask_reach s.args.giver s.args.receiver

past : (c : In_ok-steps) → Through (given_by c.args.table.now) c.args.block.now (ask_reach c.args.giver c.args.receiver)
past c = through (given_by c.args.table.now) c.args.block.now (ask_reach c.args.giver c.args.receiver) (told_none (c.reach_allowed.ensures.refusal (given_by c.args.table.now).steps) c.in_ok-steps.was)

pub returns-in_err-steps : goal.returns-in_err-steps
returns-in_err-steps c =
    let g = given_by c.args.table.now in
    search (rules, made_refused g (call (goal.at.returns-in_err-steps c).Start) c.args.block.now _ (told (c.reach_allowed.ensures.refusal g.steps) c.in_err-steps.was) (number_some _))

pub reach_of-k-requires : goal.reach_of-k-requires
reach_of-k-requires c =
    let a = c.args in
    let e = reach_both (given_by a.table.now) a.block.now (fits_bytes c.args.block.now c.shared_slice_known-1.given) a.giver a.receiver (past (goal.at.reach_of-k-requires c).In_ok-steps) in
    (record { formed = e.formed; rule = subst TableRule (sym c.in_ok-steps.ensures.steps) c.requires }, e.giver, e.receiver)

pub overflow_cast-k : goal.overflow_cast-k
overflow_cast-k c = rw (to_z-of_z {w = w16} {z = c.reach_of-k.result} record { sfits = omega (arith, c.reach_of-k.type_inv) }) record { sfits = omega (arith, c.reach_of-k.type_inv) }

pub returns : goal.returns
returns c =
    let k = c.reach_of-k in
    let a = c.args in
    rw (c.new.ensures, to_z-of_z {w = w16} {z = k.result} record { sfits = omega (arith, k.type_inv) }, to_z-of_z {w = w32} {z = k.result} record { sfits = omega (arith, k.type_inv) })
    (reach_done (given_by a.table.now) a.block.now (fits_bytes c.args.block.now c.shared_slice_known-1.given) a.giver a.receiver (past (goal.at.returns c).In_ok-steps) k.result (k.ensures ∙ ap (λ (t : List ℤ). reach t (decode a.block.now) a.giver a.receiver) c.in_ok-steps.ensures.steps))
