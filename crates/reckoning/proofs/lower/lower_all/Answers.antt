-- `reckoning::lower_all` lowers all delegations, run by run. Assumes nothing.
use mathlib.Core.Path.{◌≡◌, ◌∙◌}
use Prim.Native.Nat.{◌*◌, ◌-◌, ◌%◌}
use native.Mathlib.Omega.{arith}
use Rattle.block.specs.Records.{delegation_at}
use Rattle.reckoning.specs.Reckoned.{run_size}
use Rattle.reckoning.proofs.Lowering.{then_run}
use Rattle.reckoning.proofs.lower.lower_all.Goals as goal

pub loop-run-preserved : goal.loop-run-preserved
loop-run-preserved c =
    let a = c.args in
    let l = c.loop-run in
    let r = c.lower_run-changed in
    (r.auto.weights ∙ l.invariant.0, then_run a.reaches.now (delegation_at a.block.now) (run_size * l.run) run_size a.weights.now l.weights _ l.changed _ _ (omega arith) l.invariant.1 r.ensures)

pub returns-then-rest-eq0 : goal.returns-then-rest-eq0
returns-then-rest-eq0 c =
    let l = c.loop-run in
    let e : run_size * l.run ≡ c.args.n = omega (arith, c.if-rest-eq0.true) in
    rw (← e) l.invariant.1

pub returns : goal.returns
returns c =
    let a = c.args in
    let l = c.loop-run in
    let e : run_size * l.run ≡ a.n - a.n % run_size = omega arith in
    then_run a.reaches.now (delegation_at a.block.now) (a.n - a.n % run_size) (a.n % run_size) a.weights.now l.weights _ l.changed _ _ (omega arith) (rw (← e) l.invariant.1) c.lower_run.ensures
