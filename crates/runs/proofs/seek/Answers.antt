-- `runs::run::seek` finds the first record whose giver is not below a bound: the givers rise, so none before it is left out. Assumes nothing.
use native.Mathlib.Omega.{arith}
use Rattle.runs.proofs.Records.{giver_at, records_rise_lem}
use Rattle.runs.proofs.seek.Goals as goal

pub returns-then-bound-giver : goal.returns-then-bound-giver
returns-then-bound-giver c =
    let k = c.loop-k.k in
    let inv = c.loop-k.invariant in
    record {
      within = omega arith;
      below = inv.1;
      above = λ j h l. omega (arith, giver_at c.args.records.now k, c.if-bound-giver.true, records_rise_lem c.args.records.now _ c.requires.2 k j h l);
    }
