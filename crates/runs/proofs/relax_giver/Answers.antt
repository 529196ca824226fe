-- `runs::run::relax_giver` takes the step of each of a giver's records, all of them and no others. Assumes nothing.
use mathlib.Core.Path.{sym, subst}
use mathlib.Core.List.{◌∷◌}
use Prim.Native.Nat.{◌+◌}
use native.Mathlib.Omega.{arith}
use lib.ListN.{get_or}
use lib.IntN.{ℤ, pos}
use Rattle.rules.specs.Limit.{◌≼◌}
use Rattle.rules.proofs.Signed.{read_limit}
use Rattle.runs.proofs.Givers.{part_count, part_receivers, Run, run_of, gave}
use Rattle.runs.proofs.relax_giver.Goals as goal
use Rattle.runs.proofs.relax_giver.Goals.{Start}

-- the run of the giver
run : (s : Start) → Run s.args.records.now s.args.giver (get_or s.args.starts.now s.args.giver 0) (get_or s.args.starts.now (s.args.giver + 1) 0)
run s = run_of s.args.table.now s.args.records.now s.args.starts.now s.args.giver s.requires.0 s.requires.1

pub slice_bounds-relax_run-count : goal.slice_bounds-relax_run-count
slice_bounds-relax_run-count c = let r = run (goal.at.slice_bounds-relax_run-count c).Start in omega (arith, r.order, r.within, r.few, r.size, c.from-a.ensures, c.from-e.ensures)

pub slice_bounds-relax_run-start : goal.slice_bounds-relax_run-start
slice_bounds-relax_run-start c = let r = run (goal.at.slice_bounds-relax_run-start c).Start in omega (arith, r.order, r.within, r.few, r.size, c.from-a.ensures, c.from-e.ensures)

pub relax_run-requires : goal.relax_run-requires
relax_run-requires c =
    let a = c.args in
    let g = a.giver in
    let from = get_or a.starts.now g 0 in
    let past = get_or a.starts.now (g + 1) 0 in
    let lent = c.requires.0.lent in
    let r = run (goal.at.relax_run-requires c).Start in rw (c.from-a.ensures, c.from-e.ensures) (
      lent.rule,
      record {
        few = omega (arith, part_count a.records.now from past r.order r.within, r.order, r.within, r.few);
        receivers = part_receivers a.records.now from past r.order r.within a.table.now lent;
      },
      record {
        live = subst (λ (z : ℤ). pos 0 ≼ z) (sym (read_limit a.limits.now g (omega (arith, c.requires.2.lists.limits)) (omega arith))) c.requires.2.live;
        most = subst (λ (z : ℤ). z ≼ pos 255) (sym (read_limit a.limits.now g (omega (arith, c.requires.2.lists.limits)) (omega arith))) c.requires.2.most;
        lists = c.requires.2.lists;
        waiting = c.requires.2.waiting;
      },
    )

pub returns : goal.returns
returns c =
    let a = c.args in
    let g = a.giver in
    let r = run (goal.at.returns c).Start in
    let f = c.relax_run in
    let e = read_limit a.limits.now g (omega (arith, c.requires.2.lists.limits)) (omega arith) in (
      gave a.table.now a.records.now a.marks g a.limits.now a.parents.now (a.sets.here ∷ a.sets.near ∷ a.waiting.now) _ _ _ _ _ _ r.low r.high r.order
          e (rw (c.from-a.ensures, c.from-e.ensures) at f.ensures.0),
      f.ensures.1,
    )
