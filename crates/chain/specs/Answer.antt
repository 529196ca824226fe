-- What the chain call returns, as numbers: the refusal number, 0 when accepted, and how many links were written. Assumes nothing.
use Rattle.std.specs.Prelude.{ℕ, Result, Ok, Err}
use Rattle.rules.specs.declared.refusal.Refusal.{Refusal}
use Rattle.rules.specs.Refused.{refusal_number}

pub record ChainAnswer : Type 0 where
  pub refusal : ℕ
  pub links : ℕ

-- of a refused call
abbrev pub unwritten_by : ℕ → ChainAnswer
unwritten_by n = record { refusal = n; links = 0 }

-- of what a function returns
abbrev pub chain_answer : Result ℕ Refusal → ChainAnswer
chain_answer (Ok n) = record { refusal = 0; links = n }
chain_answer (Err r) = unwritten_by (refusal_number r)
