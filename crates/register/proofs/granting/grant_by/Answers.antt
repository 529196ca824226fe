-- `register::grant_by` adds a delegation, raises one or refuses. Assumes nothing.
use Prim.Native.Nat.{◌≤◌}
use Rattle.std.proofs.Common.{rules}
use Rattle.refusals.proofs.First.{number_some, told, told_none}
use mir.Facts.{to_z_pos}
use mir.Syntax.{w32}
use native.Mathlib.Omega.{arith}
use Rattle.rules.specs.Register.{granted}
use Rattle.rules.specs.Call.{Call, grant}
use Rattle.block.specs.Block.{count_in}
use Rattle.block.proofs.Bytes.{fits_bytes}
use Rattle.steptable.specs.Lent.{given_by}
use Rattle.refusals.proofs.EarlyTests.{Through, through}
use Rattle.refusals.proofs.Holding.{grant_room}
use Rattle.register.proofs.GrantWays.{granted_few, grant_done}
use Rattle.register.proofs.Made.{made_refused}
use Rattle.register.proofs.granting.grant_by.Goals as goal
use Rattle.register.proofs.granting.grant_by.Goals.{After-put_granted, In_ok-grant_allowed, Start}

abbrev call : Start → Call
call s = grant (granted s.args.giver s.args.receiver s.args.weight s.args.need s.args.bar s.args.kind)

past : (c : In_ok-grant_allowed) → Through (given_by c.args.table.now) c.args.block.now (grant (granted c.args.giver c.args.receiver c.args.weight c.args.need c.args.bar c.args.kind))
past c = through (given_by c.args.table.now) c.args.block.now (grant (granted c.args.giver c.args.receiver c.args.weight c.args.need c.args.bar c.args.kind)) (told_none c.grant_allowed.ensures c.in_ok-grant_allowed.was)

few : (c : After-put_granted) → count_in c.put_granted.new.b ≤ 256
few c =
    let a = c.args in
    granted_few (given_by a.table.now) a.block.now (fits_bytes c.args.block.now c.slice_known-1.given) (granted a.giver a.receiver a.weight a.need a.bar a.kind) (through (given_by c.args.table.now) c.args.block.now (grant (granted c.args.giver c.args.receiver c.args.weight c.args.need c.args.bar c.args.kind)) (told_none c.grant_allowed.ensures c.in_ok-grant_allowed.was)) c.put_granted.new.b c.put_granted.ensures

-- ── the needs ──
pub grant_allowed-requires : goal.grant_allowed-requires
grant_allowed-requires c = c.requires

pub returns-in_err-grant_allowed : goal.returns-in_err-grant_allowed
returns-in_err-grant_allowed c =
    search (rules, made_refused (given_by c.args.table.now) (call (goal.at.returns-in_err-grant_allowed c).Start) c.args.block.now _ (told c.grant_allowed.ensures c.in_err-grant_allowed.was) (number_some _))

pub overflow_cast-giver : goal.overflow_cast-giver
overflow_cast-giver c = omega (arith, (past (goal.at.overflow_cast-giver c).In_ok-grant_allowed).numbers.0.0)

pub overflow_cast-receiver : goal.overflow_cast-receiver
overflow_cast-receiver c = omega (arith, (past (goal.at.overflow_cast-receiver c).In_ok-grant_allowed).numbers.0.1.0)

pub overflow_cast-weight : goal.overflow_cast-weight
overflow_cast-weight c = omega (arith, (past (goal.at.overflow_cast-weight c).In_ok-grant_allowed).numbers.1)

pub overflow_cast-need : goal.overflow_cast-need
overflow_cast-need c = omega (arith, (past (goal.at.overflow_cast-need c).In_ok-grant_allowed).numbers.2)

pub overflow_cast-bar : goal.overflow_cast-bar
overflow_cast-bar c = omega (arith, (past (goal.at.overflow_cast-bar c).In_ok-grant_allowed).numbers.3)

pub overflow_cast-kind : goal.overflow_cast-kind
overflow_cast-kind c = omega (arith, (past (goal.at.overflow_cast-kind c).In_ok-grant_allowed).numbers.4)

pub put_granted-requires : goal.put_granted-requires
put_granted-requires c =
    let a = c.args in
    ((past (goal.at.put_granted-requires c).In_ok-grant_allowed).early.formed, λ s. grant_room (given_by a.table.now).steps a.block.now (fits_bytes c.args.block.now c.slice_known-1.given) (past (goal.at.put_granted-requires c).In_ok-grant_allowed).early.formed (granted a.giver a.receiver a.weight a.need a.bar a.kind) (past (goal.at.put_granted-requires c).In_ok-grant_allowed).held s)

pub count-requires : goal.count-requires
count-requires c = omega (arith, (past (goal.at.count-requires c).In_ok-grant_allowed).early.size, c.put_granted.auto.b)

pub overflow_cast-count : goal.overflow_cast-count
overflow_cast-count c = omega (arith, few (goal.at.overflow_cast-count c).After-put_granted, c.count.ensures)

pub returns : goal.returns
returns c =
    let a = c.args in
    rw (c.new.ensures, to_z_pos w32 {n = c.count.result} (omega (arith, few (goal.at.returns c).After-put_granted, c.count.ensures)), c.count.ensures)
    (grant_done (given_by a.table.now) a.block.now (fits_bytes c.args.block.now c.slice_known-1.given) (granted a.giver a.receiver a.weight a.need a.bar a.kind) (past (goal.at.returns c).In_ok-grant_allowed) c.put_granted.new.b c.put_granted.ensures)
