-- `refusals::grant_held` makes the tests of a grant by what the register holds in their order. Assumes nothing.
use Rattle.std.proofs.Common.{sym, ap, ◌∙◌, List, [], ◌∷◌, ◌++◌, ℕ, Bool, rules}
use Rattle.rules.specs.Refused.{refused_with}
use Rattle.rules.specs.Register.{Register, Delegation, granted}
use Rattle.rules.specs.Refusal.{subjects_held, pair_stands, all_stand, overweight, held}
use Rattle.rules.proofs.Refusals.{passes_of}
use Rattle.block.specs.Block.{decode}
use Rattle.block.proofs.Bytes.{fits_bytes}
use Rattle.refusals.proofs.First.{refused_first, passed_first}
use Rattle.refusals.proofs.Holding.{both_of}
use Rattle.refusals.proofs.held.grant_held.Goals as goal
use Rattle.refusals.proofs.held.grant_held.Goals.{Start}

module _ (s : Start) where
  abbrev R : Register
  R = decode s.args.block.now

  abbrev d : Delegation
  d = let a = s.args in granted a.giver a.receiver a.weight a.need a.bar a.kind

  abbrev named : List (ℕ × Bool)
  named = subjects_held R (s.args.giver ∷ s.args.receiver ∷ [])

  abbrev place : List (ℕ × Bool)
  place = pair_stands R d ∷ all_stand R d ∷ []

  abbrev last : List (ℕ × Bool)
  last = overweight s.args.table.now R (d ∷ []) ∷ []

pub returns-in_err-pair_held : goal.returns-in_err-pair_held
unfolding held
returns-in_err-pair_held c =
    let s = (goal.at.returns-in_err-pair_held c).Start in
    search (rules, refused_first (named s) (place s ++ last s) tt c.pair_held.ensures c.in_err-pair_held.was)

pub returns-in_err-no_place : goal.returns-in_err-no_place
unfolding held
returns-in_err-no_place c =
    let s = (goal.at.returns-in_err-no_place c).Start in
    search (rules, refused_first (place s) (last s) tt c.no_place.ensures c.in_err-no_place.was ∙ sym (passed_first (named s) (place s ++ last s) tt c.pair_held.ensures c.in_ok-pair_held.was))

pub overweight-requires : goal.overweight-requires
overweight-requires c =
    let a = c.args in
    let b = a.block.now in
    let s = (goal.at.overweight-requires c).Start in
    (c.requires.0, c.requires.1, both_of b (fits_bytes b c.shared_slice_known-1.given) c.requires.0.formed a.giver a.receiver (passes_of (named s) tt (sym c.pair_held.ensures ∙ ap refused_with c.in_ok-pair_held.was) 9))

pub returns : goal.returns
unfolding held
returns c =
    let s = (goal.at.returns c).Start in
    c.overweight.ensures ∙ sym (passed_first (place s) (last s) tt c.no_place.ensures c.in_ok-no_place.was) ∙ sym (passed_first (named s) (place s ++ last s) tt c.pair_held.ensures c.in_ok-pair_held.was)
