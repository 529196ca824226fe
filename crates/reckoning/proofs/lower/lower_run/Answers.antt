-- `reckoning::lower_run` lowers a run of delegations. Assumes nothing.
use native.Mathlib.Omega.{arith}
use Rattle.block.specs.Records.{delegation_at}
use Rattle.reckoning.proofs.Lowering.{run_lowered}
use Rattle.reckoning.proofs.lower.lower_run.Goals as goal

pub returns : goal.returns
returns c =
    let a = c.args in
    let d = c.decoded-ds in
    run_lowered a.reaches.now (delegation_at a.block.now) a.first a.n _ a.weights.now _ d.result _ (omega (arith, d.type_inv.1.0.1, c.requires.run)) d.ensures c.lower.ensures c.read_weights.ensures
