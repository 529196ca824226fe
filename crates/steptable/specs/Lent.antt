-- What a lent text gives: a table, or its fault. Assumes nothing.
use Rattle.std.specs.Prelude.{List, ℤ, Result, Ok, Err}
use Rattle.rules.specs.declared.refusal.Refusal.{Refusal}
use Rattle.rules.specs.declared.refusal.Refusal.TheVariants.{Malformed, BadTable}
use Rattle.rules.specs.Table.{TableRule}
use Rattle.rules.specs.Refused.{refusal_number}
use Rattle.steptable.specs.declared.TableFault.{TableFault}
use Rattle.steptable.specs.declared.TableFault.TheVariants as Fault
use Rattle.steptable.specs.TableText.{Given, passing, refused_text}

-- the refusal of a fault
abbrev pub fault_of : TableFault → Refusal
fault_of Fault.Malformed = Malformed
fault_of Fault.BadTable = BadTable

-- what is given with the text then
abbrev pub given_by : Result (List ℤ) TableFault → Given
given_by (Ok t) = passing t
given_by (Err f) = refused_text (refusal_number (fault_of f))

-- its steps keep the rule
abbrev pub KeepsRule : Result (List ℤ) TableFault → Type 0
KeepsRule r = TableRule (given_by r).steps
