-- The numbers of the refusals (documents 01 and 02), and the number that a call tells. Assumes nothing.
use Rattle.std.specs.Prelude.{ℕ, Result, Ok, Err}
use Rattle.rules.specs.declared.refusal.Refusal.{Refusal}
use Rattle.rules.specs.declared.refusal.Refusal.TheVariants.{WrongLength, NoSubject, NoWeight, NoMarks, EqualPair, ToOwner, NoKind, Malformed, BadTable, NotWellFormed, NotEnrolled, Retired, AllEnrolled, PairStands, AllStand, NoPair, MayNot, OtherSlip, NotBelow, Overweight, Unsupported}

abbrev pub refusal_number : Refusal → ℕ
refusal_number WrongLength = 1
refusal_number NoSubject = 2
refusal_number NoWeight = 3
refusal_number NoMarks = 4
refusal_number EqualPair = 5
refusal_number ToOwner = 6
refusal_number NoKind = 21
refusal_number Malformed = 7
refusal_number BadTable = 17
refusal_number NotWellFormed = 8
refusal_number NotEnrolled = 9
refusal_number Retired = 19
refusal_number AllEnrolled = 10
refusal_number PairStands = 11
refusal_number AllStand = 12
refusal_number NoPair = 13
refusal_number MayNot = 14
refusal_number OtherSlip = 20
refusal_number NotBelow = 15
refusal_number Overweight = 16
refusal_number Unsupported = 18

-- the number with which a call is refused, 0 where it is accepted
abbrev pub refused_with : {A : Type 0} → Result A Refusal → ℕ
refused_with (Ok a) = 0
refused_with (Err r) = refusal_number r
