-- `refusals::back_refusal` is the refusal of taking a cut back on a block, the slip's length and 20 aside. Assumes nothing.
use Rattle.std.proofs.Common.{◌≡◌, refl, sym, ap, ◌∙◌, ℕ, rules}
use Rattle.rules.specs.Call.{ask_use}
use Rattle.rules.specs.Refusal.{first_of, passed, back_passed}
use Rattle.rules.specs.Refused.{refused_with}
use Rattle.refusals.proofs.First.{number_some}
use Rattle.refusals.proofs.EarlyTests.{back_early, back_formed, back_held_lem}
use Rattle.refusals.proofs.back_refusal.Goals as goal

-- a use passes the same tests by what was passed
as_use : (y : ℕ) → first_of (passed (ask_use y)) ≡ first_of (back_passed y)
unfolding passed
as_use y = refl

pub returns-in_err-early_told : goal.returns-in_err-early_told
returns-in_err-early_told c =
    let a = c.args in
    let w = ap refused_with c.in_err-early_told.was in
    search (rules, sym w ∙ back_early a.fault a.block.now a.by a.giver (c.use_passed.ensures ∙ as_use a.by) c.early_told.ensures (λ z. number_some _ (sym w ∙ z)))

pub back_held-requires : goal.back_held-requires
back_held-requires c =
    let a = c.args in
    back_formed a.fault a.block.now a.by a.giver (c.use_passed.ensures ∙ as_use a.by) c.early_told.ensures (ap refused_with c.in_ok-early_told.was)

pub returns : goal.returns
returns c =
    let a = c.args in
    back_held_lem a.fault a.block.now a.by a.giver (c.use_passed.ensures ∙ as_use a.by) c.early_told.ensures (ap refused_with c.in_ok-early_told.was) c.back_held.ensures
