-- Why a text gives no register, as refusals. Assumes nothing.
use Rattle.std.specs.Prelude.{ℕ, Result, Ok, Err}
use Rattle.rules.specs.declared.refusal.Refusal.{Refusal}
use Rattle.rules.specs.declared.refusal.Refusal.TheVariants.{Malformed, NotWellFormed}
use Rattle.rules.specs.Refused.{refusal_number}
use Rattle.regfile.specs.declared.FileFault.{FileFault}
use Rattle.regfile.specs.declared.FileFault.TheVariants as Fault

-- the refusal of a fault
abbrev pub fault_of : FileFault → Refusal
fault_of Fault.Malformed = Malformed
fault_of Fault.NotWellFormed = NotWellFormed

-- the number with which a text is refused, 0 where it is read
abbrev pub number_in : {A : Type 0} → Result A FileFault → ℕ
number_in (Ok a) = 0
number_in (Err f) = refusal_number (fault_of f)
