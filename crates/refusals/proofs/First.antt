-- What a call is refused with, test by test as the code makes them: the first that applies, or what the later ones tell. Assumes nothing.
use Rattle.std.proofs.Common.{◌≡◌, ◌≢◌, sym, ap, ◌∙◌, Bool, List, ◌++◌, ℕ, arith, Result, Ok, Err}
use lib.Dec.{T}
use Rattle.rules.specs.declared.refusal.Refusal.{Refusal}
use Rattle.rules.specs.declared.refusal.Refusal.TheVariants.{WrongLength, NoSubject, NoWeight, NoMarks, EqualPair, ToOwner, NoKind, Malformed, BadTable, NotWellFormed, NotEnrolled, Retired, AllEnrolled, PairStands, AllStand, NoPair, MayNot, OtherSlip, NotBelow, Overweight, Unsupported}
use Rattle.rules.specs.Refusal.{first_of}
use Rattle.rules.specs.Refused.{refusal_number, refused_with}
use Rattle.rules.proofs.Refusals.{numbered, first_of_none, first_of_some}

pub number_some : (r : Refusal) → refusal_number r ≢ 0
number_some WrongLength e = omega (arith, e)
number_some NoSubject e = omega (arith, e)
number_some NoWeight e = omega (arith, e)
number_some NoMarks e = omega (arith, e)
number_some EqualPair e = omega (arith, e)
number_some ToOwner e = omega (arith, e)
number_some NoKind e = omega (arith, e)
number_some Malformed e = omega (arith, e)
number_some BadTable e = omega (arith, e)
number_some NotWellFormed e = omega (arith, e)
number_some NotEnrolled e = omega (arith, e)
number_some Retired e = omega (arith, e)
number_some AllEnrolled e = omega (arith, e)
number_some PairStands e = omega (arith, e)
number_some AllStand e = omega (arith, e)
number_some NoPair e = omega (arith, e)
number_some MayNot e = omega (arith, e)
number_some OtherSlip e = omega (arith, e)
number_some NotBelow e = omega (arith, e)
number_some Overweight e = omega (arith, e)
number_some Unsupported e = omega (arith, e)

module _ {A : Type 0} {r : Result A Refusal} (ps qs : List (ℕ × Bool)) (all : T (numbered ps)) (e : refused_with r ≡ first_of ps) where
  -- refused by one of the first tests
  pub refused_first : {f : Refusal} → r ≡ Err f → refusal_number f ≡ first_of (ps ++ qs)
  refused_first {f} w = let z = sym e ∙ ap refused_with w in sym (first_of_some ps qs (refusal_number f) all z (number_some f))

  -- none of them applies
  pub passed_first : {a : A} → r ≡ Ok a → first_of (ps ++ qs) ≡ first_of qs
  passed_first w = first_of_none ps qs all (sym e ∙ ap refused_with w)

-- n is what the code finds
module _ {A : Type 0} {r : Result A Refusal} {n : ℕ} (e : refused_with r ≡ n) where
  pub told : {f : Refusal} → r ≡ Err f → refusal_number f ≡ n
  told w = sym (ap refused_with w) ∙ e

  pub told_none : {a : A} → r ≡ Ok a → n ≡ 0
  told_none w = sym e ∙ ap refused_with w
