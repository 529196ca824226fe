-- What running a call file returns, as numbers: the refusal number, 0 where the text was run, and how many bytes were written. Assumes nothing.
use Rattle.std.specs.Prelude.{ℕ, Result, Ok, Err}
use Rattle.rules.specs.declared.refusal.Refusal.{Refusal}
use Rattle.rules.specs.Refused.{refusal_number}

pub record Printed : Type 0 where
  pub refusal : ℕ
  pub length : ℕ

-- where so many bytes were written
abbrev pub printed_to : ℕ → Printed
printed_to n = record { refusal = 0; length = n }

-- of what the function returns
abbrev pub printed_by : Result ℕ Refusal → Printed
printed_by (Ok n) = printed_to n
printed_by (Err r) = record { refusal = refusal_number r; length = 0 }
