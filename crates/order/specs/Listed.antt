-- What the order call returns, as numbers: the refusal number, 0 when accepted, and how many subjects were written. Assumes nothing.
use Rattle.std.specs.Prelude.{ℕ, Result, Ok, Err}
use Rattle.rules.specs.declared.refusal.Refusal.{Refusal}
use Rattle.rules.specs.Refused.{refusal_number}

pub record Listed : Type 0 where
  pub refusal : ℕ
  pub subjects : ℕ

-- of a refused call
abbrev pub unlisted_by : ℕ → Listed
unlisted_by n = record { refusal = n; subjects = 0 }

-- of what a function returns
abbrev pub listed_of : Result ℕ Refusal → Listed
listed_of (Ok n) = record { refusal = 0; subjects = n }
listed_of (Err r) = unlisted_by (refusal_number r)
