-- `replay::call` makes the call that its numbers name. Assumes nothing.
use Rattle.std.proofs.Common.{◌≡◌, refl, false, rules}
use Prim.Native.Nat.{ℕ}
use Rattle.rules.specs.Call.{Call}
use Rattle.replay.specs.Replay.{is_call, call_of}
use Rattle.replay.proofs.Calling.{call_named, call_other}
use Rattle.replay.proofs.call.Goals as goal
use Rattle.replay.proofs.call.Goals.{Start}

-- the call that a number names with the columns that were passed
abbrev named : Start → ℕ → Call
named s n = let a = s.args in call_of n a.by a.giver a.receiver a.weight a.need a.bar

pub returns-in-0 : goal.returns-in-0
unfolding call_of
returns-in-0 c =
    call_named c.args.number (named (goal.at.returns-in-0 c).Start) c.args.table.now c.args.block.now _ _ 0 c.in-0.is tt c.enrol.ensures

pub returns-in-1 : goal.returns-in-1
unfolding call_of
returns-in-1 c =
    call_named c.args.number (named (goal.at.returns-in-1 c).Start) c.args.table.now c.args.block.now _ _ 1 c.in-1.is tt c.grant_table.ensures

pub returns-in-2 : goal.returns-in-2
unfolding call_of
returns-in-2 c =
    call_named c.args.number (named (goal.at.returns-in-2 c).Start) c.args.table.now c.args.block.now _ _ 2 c.in-2.is tt c.revoke_table.ensures.outcome

pub returns-in-3 : goal.returns-in-3
unfolding call_of
returns-in-3 c =
    call_named c.args.number (named (goal.at.returns-in-3 c).Start) c.args.table.now c.args.block.now _ _ 3 c.in-3.is tt c.downgrade_table.ensures.outcome

pub returns-in-4 : goal.returns-in-4
unfolding call_of
returns-in-4 c =
    call_named c.args.number (named (goal.at.returns-in-4 c).Start) c.args.table.now c.args.block.now _ _ 4 c.in-4.is tt c.reach_table.ensures

pub returns-in-5 : goal.returns-in-5
unfolding call_of
returns-in-5 c =
    call_named c.args.number (named (goal.at.returns-in-5 c).Start) c.args.table.now c.args.block.now _ _ 5 c.in-5.is tt c.use_right.ensures

pub returns-in-6 : goal.returns-in-6
unfolding call_of
returns-in-6 c =
    call_named c.args.number (named (goal.at.returns-in-6 c).Start) c.args.table.now c.args.block.now _ _ 6 c.in-6.is tt c.set_marks.ensures.outcome

pub returns-in-7 : goal.returns-in-7
unfolding call_of
returns-in-7 c =
    call_named c.args.number (named (goal.at.returns-in-7 c).Start) c.args.table.now c.args.block.now _ _ 7 c.in-7.is tt c.retire.ensures.outcome

pub returns-in_default : goal.returns-in_default
returns-in_default c =
    let n : is_call c.args.number ≡ false = search rules in
    call_other c.args.number (named (goal.at.returns-in_default c).Start) c.args.table.now c.args.block.now _ _ n refl refl
