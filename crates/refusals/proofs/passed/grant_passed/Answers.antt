-- `refusals::grant_passed` makes the tests of `passed` in their order. Assumes nothing.
use Rattle.std.proofs.Common.{sym, ◌∙◌, List, [], ◌∷◌, ℕ, Bool, rules}
use Rattle.rules.specs.Refusal.{no_subject, no_weight, no_condition, equal_pair, to_owner, no_kind, passed}
use Rattle.refusals.proofs.First.{refused_first, passed_first}
use Rattle.refusals.proofs.passed.grant_passed.Goals as goal
use Rattle.refusals.proofs.passed.grant_passed.Goals.{Start}

-- the tests, from each on
module _ (s : Start) where
  abbrev from_kind : List (ℕ × Bool)
  from_kind = no_kind s.args.weight s.args.kind ∷ []

  abbrev from_owner : List (ℕ × Bool)
  from_owner = to_owner s.args.receiver ∷ from_kind

  abbrev from_pair : List (ℕ × Bool)
  from_pair = equal_pair s.args.giver s.args.receiver ∷ from_owner

  abbrev from_condition : List (ℕ × Bool)
  from_condition = no_condition s.args.need s.args.bar ∷ from_pair

  abbrev from_weight : List (ℕ × Bool)
  from_weight = no_weight s.args.weight ∷ from_condition

  abbrev all : List (ℕ × Bool)
  all = no_subject (s.args.giver ∷ s.args.receiver ∷ []) ∷ from_weight

pub returns-in_err-no_subject : goal.returns-in_err-no_subject
unfolding passed
returns-in_err-no_subject c = search rules

pub returns-in_err-no_weight : goal.returns-in_err-no_weight
unfolding passed
returns-in_err-no_weight c = search rules

pub returns-in_err-no_condition : goal.returns-in_err-no_condition
unfolding passed
returns-in_err-no_condition c =
    let s = (goal.at.returns-in_err-no_condition c).Start in
    search (
      rules,
      refused_first (no_condition c.args.need c.args.bar ∷ []) (from_pair s) tt c.no_condition.ensures c.in_err-no_condition.was
          ∙ sym (passed_first (no_weight c.args.weight ∷ []) (from_condition s) tt c.no_weight.ensures c.in_ok-no_weight.was)
          ∙ sym (passed_first (no_subject (c.args.giver ∷ c.args.receiver ∷ []) ∷ []) (from_weight s) tt c.no_subject.ensures c.in_ok-no_subject.was),
    )

pub returns-in_err-equal_pair : goal.returns-in_err-equal_pair
unfolding passed
returns-in_err-equal_pair c =
    let s = (goal.at.returns-in_err-equal_pair c).Start in
    search (
      rules,
      refused_first (equal_pair c.args.giver c.args.receiver ∷ []) (from_owner s) tt c.equal_pair.ensures c.in_err-equal_pair.was
          ∙ sym (passed_first (no_condition c.args.need c.args.bar ∷ []) (from_pair s) tt c.no_condition.ensures c.in_ok-no_condition.was)
          ∙ sym (passed_first (no_weight c.args.weight ∷ []) (from_condition s) tt c.no_weight.ensures c.in_ok-no_weight.was)
          ∙ sym (passed_first (no_subject (c.args.giver ∷ c.args.receiver ∷ []) ∷ []) (from_weight s) tt c.no_subject.ensures c.in_ok-no_subject.was),
    )

pub returns-in_err-to_owner : goal.returns-in_err-to_owner
unfolding passed
returns-in_err-to_owner c =
    let s = (goal.at.returns-in_err-to_owner c).Start in
    search (
      rules,
      refused_first (to_owner c.args.receiver ∷ []) (from_kind s) tt c.to_owner.ensures c.in_err-to_owner.was
          ∙ sym (passed_first (equal_pair c.args.giver c.args.receiver ∷ []) (from_owner s) tt c.equal_pair.ensures c.in_ok-equal_pair.was)
          ∙ sym (passed_first (no_condition c.args.need c.args.bar ∷ []) (from_pair s) tt c.no_condition.ensures c.in_ok-no_condition.was)
          ∙ sym (passed_first (no_weight c.args.weight ∷ []) (from_condition s) tt c.no_weight.ensures c.in_ok-no_weight.was)
          ∙ sym (passed_first (no_subject (c.args.giver ∷ c.args.receiver ∷ []) ∷ []) (from_weight s) tt c.no_subject.ensures c.in_ok-no_subject.was),
    )

pub returns : goal.returns
unfolding passed
returns c =
    let s = (goal.at.returns c).Start in
    c.no_kind.ensures
    ∙ sym (passed_first (to_owner c.args.receiver ∷ []) (from_kind s) tt c.to_owner.ensures c.in_ok-to_owner.was)
    ∙ sym (passed_first (equal_pair c.args.giver c.args.receiver ∷ []) (from_owner s) tt c.equal_pair.ensures c.in_ok-equal_pair.was)
    ∙ sym (passed_first (no_condition c.args.need c.args.bar ∷ []) (from_pair s) tt c.no_condition.ensures c.in_ok-no_condition.was)
    ∙ sym (passed_first (no_weight c.args.weight ∷ []) (from_condition s) tt c.no_weight.ensures c.in_ok-no_weight.was)
    ∙ sym (passed_first (no_subject (c.args.giver ∷ c.args.receiver ∷ []) ∷ []) (from_weight s) tt c.no_subject.ensures c.in_ok-no_subject.was)
