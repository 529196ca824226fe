-- What a write returns, as numbers: the refusal number, 0 when accepted, and how many bytes were written. Assumes nothing.
use Rattle.std.specs.Prelude.{ℕ, Result, Ok, Err}
use Rattle.rules.specs.declared.refusal.Refusal.{Refusal}
use Rattle.rules.specs.Refused.{refusal_number}

pub record Filled : Type 0 where
  pub refusal : ℕ
  pub length : ℕ

-- of a refused call
abbrev pub unfilled_by : ℕ → Filled
unfilled_by n = record { refusal = n; length = 0 }

-- of what a function returns
abbrev pub filled_of : Result ℕ Refusal → Filled
filled_of (Ok n) = record { refusal = 0; length = n }
filled_of (Err r) = unfilled_by (refusal_number r)
