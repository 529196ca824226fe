-- `runs::run::relax_at` takes the step of one record. Assumes nothing.
use mathlib.Core.Path.{sym, ◌∙◌}
use native.Mathlib.Omega.{arith}
use Prim.Native.Nat.{◌+◌, ◌<◌}
use lib.Dec.{T}
use lib.IntN.{nat_abs}
use lib.Signed.{non_neg}
use lib.ListN.{get_or, drop}
use mathlib.Core.List.{List}
use Prim.Native.Nat.{ℕ}
use lib.Seq.{get_or-drop}
use Rattle.rules.proofs.Signed.{kept}
use Rattle.block.specs.Layout.{most_subjects, receiver_byte, weight_byte, need_byte, bar_byte}
use Rattle.block.specs.Block.{delegation_in}
use Rattle.block.proofs.Fields.{two_in}
use Rattle.runs.specs.Lent.{RecordLent}
use Rattle.queue.specs.Queue.{levels}
use Rattle.runs.proofs.Ways.{limit_level, given_level, step_unmet, step_not_raised, step_raised}
use Rattle.runs.proofs.relax_at.Goals as goal
use Rattle.runs.proofs.relax_at.Goals.{Then-limits-receiver}

-- the receiver that is read is a subject
subject : (run : List ℕ) (at place : ℕ) → RecordLent run at place → get_or run (at + receiver_byte) 0 < most_subjects
subject run at place h = omega (arith, get_or-drop at run receiver_byte 0, h.receiver)

-- what it is given is a level
level : (c : Then-limits-receiver) → let given = kept c.next-given.result in T (non_neg given) × (nat_abs given < levels)
level c =
    let a = c.args in
    given_level a.by.table.now (delegation_in (drop a.at a.run.now)) a.place a.by.limit a.by.marks a.limits.now a.parents.now a.waiting.now a.sets.here a.sets.near a.sets.far
    _ _ _ (c.read_two-need.ensures ∙ two_in a.run.now a.at need_byte) (c.read_two-bar.ensures ∙ two_in a.run.now a.at bar_byte) c.meets.ensures c.requires.2.waiting
    _ _ (c.from-receiver.ensures ∙ sym (get_or-drop a.at a.run.now receiver_byte 0)) (sym (get_or-drop a.at a.run.now weight_byte 0)) _ (record { sfits = omega arith }) (omega (arith, c.from-receiver.ensures, subject a.run.now a.at a.place c.requires.1)) (omega arith) (record { sfits = c.next-given.type_inv }) c.next-given.ensures c.if-limits-receiver.true c.requires.0 c.requires.2.most

pub overflow_cast-given : goal.overflow_cast-given
overflow_cast-given c = let l = level (goal.at.overflow_cast-given c).Then-limits-receiver in (l.0, omega (arith, l.1))

pub join-requires : goal.join-requires
join-requires c =
    let a = c.args in
    (c.requires.2.waiting.queue, (limit_level a.by.limit (record { sfits = omega arith }) c.requires.2.live c.requires.2.most).1, (level (goal.at.join-requires c).Then-limits-receiver).1, omega (arith, c.from-receiver.ensures, subject a.run.now a.at a.place c.requires.1))

pub returns-then-limits-receiver : goal.returns-then-limits-receiver
returns-then-limits-receiver c =
    let a = c.args in
    step_raised a.by.table.now (delegation_in (drop a.at a.run.now)) a.place a.by.limit a.by.marks a.limits.now a.parents.now a.waiting.now a.sets.here a.sets.near a.sets.far
    _ _ _ (c.read_two-need.ensures ∙ two_in a.run.now a.at need_byte) (c.read_two-bar.ensures ∙ two_in a.run.now a.at bar_byte) c.meets.ensures c.requires.2.waiting
    _ _ (c.from-receiver.ensures ∙ sym (get_or-drop a.at a.run.now receiver_byte 0)) (sym (get_or-drop a.at a.run.now weight_byte 0)) _ (record { sfits = omega arith }) (omega (arith, c.from-receiver.ensures, subject a.run.now a.at a.place c.requires.1)) (omega arith) (record { sfits = c.next-given.type_inv }) c.next-given.ensures c.if-limits-receiver.true c.if-meets.true _ _ _ _ c.join.ensures.0 c.join.ensures.1

pub returns-else-limits-receiver : goal.returns-else-limits-receiver
returns-else-limits-receiver c =
    let a = c.args in
    step_not_raised a.by.table.now (delegation_in (drop a.at a.run.now)) a.place a.by.limit a.by.marks a.limits.now a.parents.now a.waiting.now a.sets.here a.sets.near a.sets.far
    _ _ _ (c.read_two-need.ensures ∙ two_in a.run.now a.at need_byte) (c.read_two-bar.ensures ∙ two_in a.run.now a.at bar_byte) c.meets.ensures c.requires.2.waiting
    _ _ (c.from-receiver.ensures ∙ sym (get_or-drop a.at a.run.now receiver_byte 0)) (sym (get_or-drop a.at a.run.now weight_byte 0)) _ (record { sfits = omega arith }) (omega (arith, c.from-receiver.ensures, subject a.run.now a.at a.place c.requires.1)) (omega arith) (record { sfits = c.next-given.type_inv }) c.next-given.ensures c.if-limits-receiver.false

pub returns-else-meets : goal.returns-else-meets
returns-else-meets c =
    let a = c.args in
    step_unmet a.by.table.now (delegation_in (drop a.at a.run.now)) a.place a.by.limit a.by.marks a.limits.now a.parents.now a.waiting.now a.sets.here a.sets.near a.sets.far
    _ _ _ (c.read_two-need.ensures ∙ two_in a.run.now a.at need_byte) (c.read_two-bar.ensures ∙ two_in a.run.now a.at bar_byte) c.meets.ensures c.requires.2.waiting c.if-meets.false
