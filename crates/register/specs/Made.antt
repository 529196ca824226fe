-- What every public call promises: one relation of what is given with the step table's text, the call, the block before, what was returned and the block after. Assumes nothing.
use Rattle.std.specs.Prelude.{◌≡◌, List, ℕ}
use Rattle.rules.specs.Call.{Call}
use Rattle.steptable.specs.TableText.{Given}
use Rattle.register.specs.CallOn.{Result, call_on, open_on}
use Rattle.register.specs.Answer.{Answer}

-- the answer of a library call and the bytes afterwards, as a result
abbrev pub result_of : Answer → List ℕ → Result
result_of o after = record { refusal = o.refusal; first = o.first; second = o.second; third = o.third; bytes = after }

abbrev pub Made : Given → Call → List ℕ → Answer → List ℕ → Type 0
Made g c before o after = result_of o after ≡ call_on g before c

abbrev pub MadeOpen : List ℕ → Answer → List ℕ → Type 0
MadeOpen before o after = result_of o after ≡ open_on before
