-- `refusals::revoke_held` makes the tests of a revocation by what the register holds in their order. Assumes nothing.
use Rattle.std.proofs.Common.{◌≡◌, sym, ap, ◌∙◌, List, [], ◌∷◌, ◌++◌, ℕ, Bool, not, cond, rules}
use Rattle.rules.specs.Refused.{refused_with}
use Rattle.rules.specs.Refusal.{first_of, subjects_held, no_pair, may_not, held}
use Rattle.rules.specs.Register.{Register}
use Rattle.block.specs.Block.{decode}
use Rattle.refusals.proofs.First.{refused_first, passed_first}
use Rattle.refusals.proofs.held.revoke_held.Goals as goal
use Rattle.refusals.proofs.held.revoke_held.Goals.{After-tested, Start}

module _ (s : Start) where
  abbrev R : Register
  R = decode s.args.block.now

  abbrev named : List (ℕ × Bool)
  named = subjects_held R (s.args.by ∷ s.args.giver ∷ s.args.receiver ∷ [])

  abbrev pair : List (ℕ × Bool)
  pair = no_pair R s.args.giver s.args.receiver ∷ []

  abbrev last : List (ℕ × Bool)
  last = may_not s.args.by s.args.giver ∷ []

pub returns-in_err-subjects_held : goal.returns-in_err-subjects_held
unfolding held
returns-in_err-subjects_held c t =
    let s = (goal.at.returns-in_err-subjects_held c).Start in
    search (rules, refused_first (named s) (pair s ++ last s) tt c.subjects_held.ensures c.in_err-subjects_held.was)

-- the second test, after the first
second : (c : After-tested) → refused_with c.tested.result ≡ first_of (no_pair (decode c.args.block.now) c.args.giver c.args.receiver ∷ [])
second c = c.tested.ensures ∙ ap (λ (x : Bool). cond (not x) 13 0) c.stands.ensures

pub returns-in_err-tested : goal.returns-in_err-tested
unfolding held
returns-in_err-tested c t =
    let s = (goal.at.returns-in_err-tested c).Start in
    let a = (goal.at.returns-in_err-tested c).After-tested in
    search (rules, refused_first (pair s) (last s) tt (second a) c.in_err-tested.was ∙ sym (passed_first (named s) (pair s ++ last s) tt c.subjects_held.ensures c.in_ok-subjects_held.was))

pub returns : goal.returns
unfolding held
returns c t =
    let s = (goal.at.returns c).Start in
    let a = (goal.at.returns c).After-tested in
    c.may_not.ensures ∙ sym (passed_first (pair s) (last s) tt (second a) c.in_ok-tested.was) ∙ sym (passed_first (named s) (pair s ++ last s) tt c.subjects_held.ensures c.in_ok-subjects_held.was)
