-- `refusals::subjects_held` makes the tests of 9 and 19. Assumes nothing.
use Rattle.std.proofs.Common.{◌≡◌, sym, ap, ◌∙◌, ℕ, Bool, [], ◌∷◌, cond, leb, arith, rules, tests}
use Rattle.std.proofs.lemmas.Iterator.{YieldsList-from_slice}
use Rattle.std.proofs.lemmas.Iterator.Search.{any_from_yields_List}
use Rattle.rules.specs.Bits.{is_set}
use Rattle.rules.specs.List.{any}
use Rattle.rules.specs.Register.{Register}
use Rattle.rules.specs.Refusal.{not_enrolled, gone}
use Rattle.rules.specs.Refused.{refused_with}
use Rattle.rules.proofs.Lists.{list_any_any}
use Rattle.block.specs.Block.{decode}
use Rattle.block.proofs.Bytes.{fits_bytes}
use Rattle.block.proofs.Held.{size_held, subjects_held_lem, retired_held}
use Rattle.refusals.proofs.First.{refused_first, passed_first}
use Rattle.refusals.proofs.Holding.{held_unretired}
use Rattle.refusals.proofs.held.subjects_held.Goals as goal
use Rattle.refusals.proofs.held.subjects_held.Goals.{After-tested}

pub subjects-requires : goal.subjects-requires
subjects-requires c = omega (arith, size_held c.args.block.now (fits_bytes c.args.block.now c.shared_slice_known-1.given) c.requires)

module _ (c : After-tested) where
  abbrev R : Register
  R = decode c.args.block.now

  nine : Rattle.rules.specs.Refused.refused_with c.tested.result ≡ Rattle.rules.specs.Refusal.first_of (not_enrolled R c.args.subjects.now ∷ [])
  nine =
      let b = c.args.block.now in
      let xs = c.args.subjects.now in
      let found = any_from_yields_List (λ x. leb c.subjects.result x) _ _ _ c.any.ensures.ran (YieldsList-from_slice xs cc) (λ x r q k. search (rules, tests)) in
      c.tested.ensures
      ∙ ap (λ (r : Bool). cond r 9 0) (found ∙ list_any_any (λ x. leb c.subjects.result x) xs)
      ∙ ap (λ (n : ℕ). cond (any (λ x. leb n x) xs) 9 0) (c.subjects.ensures ∙ sym (subjects_held_lem b (fits_bytes b c.shared_slice_known-1.given) c.requires))

pub returns-in_err-tested : goal.returns-in_err-tested
returns-in_err-tested c =
    let a = (goal.at.returns-in_err-tested c).After-tested in
    search (rules, refused_first (not_enrolled (R a) c.args.subjects.now ∷ []) (gone (R a) c.args.subjects.now ∷ []) tt (nine a) c.in_err-tested.was)

pub retired-retired-requires : goal.retired-retired-requires
retired-retired-requires c = omega (arith, size_held c.args.block.now (fits_bytes c.args.block.now c.shared_slice_known-1.given) c.requires)

pub returns-then-retired-eq0 : goal.returns-then-retired-eq0
returns-then-retired-eq0 c =
    let a = (goal.at.returns-then-retired-eq0 c).After-tested in
    let b = c.args.block.now in
    let bits = c.retired-retired.ensures ∙ sym (retired_held b (fits_bytes b c.shared_slice_known-1.given) c.requires) in
    sym (ap refused_with c.in_ok-tested.was) ∙ nine a ∙ held_unretired (R a) c.args.subjects.now (sym bits ∙ c.if-retired-eq0.true)

pub returns : goal.returns
returns c =
    let a = (goal.at.returns c).After-tested in
    let b = c.args.block.now in
    let xs = c.args.subjects.now in
    let found = any_from_yields_List (λ x. is_set c.retired-retired.result x) _ _ _ c.any-2.ensures.ran (YieldsList-from_slice xs cc) (λ x r q k. search (rules, tests)) in
    c.tested-2.ensures
    ∙ ap (λ (r : Bool). cond r 19 0) (found ∙ list_any_any (λ x. is_set c.retired-retired.result x) xs)
    ∙ ap (λ (n : ℕ). cond (any (is_set n) xs) 19 0) (c.retired-retired.ensures ∙ sym (retired_held b (fits_bytes b c.shared_slice_known-1.given) c.requires))
    ∙ sym (passed_first (not_enrolled (R a) xs ∷ []) (gone (R a) xs ∷ []) tt (nine a) c.in_ok-tested.was)
