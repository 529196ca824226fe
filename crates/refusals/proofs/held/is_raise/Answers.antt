-- `refusals::is_raise` tells whether a grant raises record k. Assumes nothing.
use borrow.Author.Tests.{eq-eqb, ne_eqb}
use mathlib.Core.Path.{◌≡◌, ◌∙◌}
use mathlib.Core.Bool.{Bool, ◌&&◌}
use lib.Dec.{eqb, ltb}
use Rattle.rules.specs.Register.{granted}
use Rattle.rules.specs.Pair.{is_raise}
use Rattle.block.specs.Records.{delegation_at}
use Rattle.refusals.proofs.Holding.{own_raise}
use Rattle.refusals.proofs.held.is_raise.Goals as goal
use Rattle.refusals.proofs.held.is_raise.Goals.{Start}

-- the four tests
own : (s : Start) (r : Bool) → let e = delegation_at s.args.block.now s.args.k in r ≡ (eqb e.need s.args.need && eqb e.bar s.args.bar && eqb e.kind s.args.kind && ltb e.weight s.args.weight)
    → r ≡ is_raise (granted e.giver e.receiver s.args.weight s.args.need s.args.bar s.args.kind) e
own s r h = h ∙ own_raise (delegation_at s.args.block.now s.args.k) s.args.weight s.args.need s.args.bar s.args.kind

pub returns-then-need : goal.returns-then-need
returns-then-need c = own (goal.at.returns-then-need c).Start _ (rw (← c.need.ensures, ne_eqb _ _ c.if-need.true))

pub returns-then-bar : goal.returns-then-bar
returns-then-bar c =
    own (goal.at.returns-then-bar c).Start _ (rw (← c.need.ensures, ← c.bar.ensures, eq-eqb _ _ c.if-need.false, ne_eqb _ _ c.if-bar.true))

pub returns-then-kind : goal.returns-then-kind
returns-then-kind c =
    own (goal.at.returns-then-kind c).Start _ (rw (← c.need.ensures, ← c.bar.ensures, ← c.kind.ensures, eq-eqb _ _ c.if-need.false, eq-eqb _ _ c.if-bar.false, ne_eqb _ _ c.if-kind.true))

pub returns : goal.returns
returns c =
    own (goal.at.returns c).Start _ (rw (← c.need.ensures, ← c.bar.ensures, ← c.kind.ensures, ← c.weight.ensures, eq-eqb _ _ c.if-need.false, eq-eqb _ _ c.if-bar.false, eq-eqb _ _ c.if-kind.false))
