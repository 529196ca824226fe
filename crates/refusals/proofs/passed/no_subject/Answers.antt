-- `refusals::no_subject` is the test of 2. Assumes nothing.
use Rattle.std.proofs.Common.{ap, ◌∙◌, Bool, cond, ltb, rules, tests}
use Rattle.std.proofs.lemmas.Iterator.{YieldsList-from_slice}
use Rattle.std.proofs.lemmas.Iterator.Search.{any_from_yields_List}
use Rattle.rules.proofs.Lists.{list_any_any}
use Rattle.refusals.proofs.passed.no_subject.Goals as goal

pub returns : goal.returns
returns c =
    let xs = c.args.subjects.now in
    let found = any_from_yields_List (λ x. ltb 63 x) _ _ _ c.any.ensures.ran (YieldsList-from_slice xs cc) (λ x b q k. search (rules, tests)) in
    c.tested.ensures ∙ ap (λ (b : Bool). cond b 2 0) (found ∙ list_any_any (λ x. ltb 63 x) xs)
