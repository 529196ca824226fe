-- What a public call returns, as numbers: the refusal number, 0 when accepted, and the three answers, 0 where unused. Assumes nothing.
use Rattle.std.specs.Prelude.{ℕ, ℤ, pos, Result, Ok, Err}
use Rattle.rules.specs.declared.refusal.Refusal.{Refusal}
use Rattle.rules.specs.Refused.{refusal_number}
use Rattle.register.specs.declared.Answers.{Answers}

pub record Answer : Type 0 where
  pub refusal : ℕ
  pub first : ℤ
  pub second : ℤ
  pub third : ℤ

-- of a refused call, and of an accepted one
abbrev pub refused_by : ℕ → Answer
refused_by n = record { refusal = n; first = pos 0; second = pos 0; third = pos 0 }

abbrev pub answered_by : ℤ → ℤ → ℤ → Answer
answered_by a b c = record { refusal = 0; first = a; second = b; third = c }

-- the answers of an accepted call
abbrev pub answers : ℤ → ℤ → ℤ → Answers
answers a b c = record { first = a; second = b; third = c }

-- a refusal number and the answers beside it
abbrev pub as_numbers : ℕ → Answers → Answer
as_numbers n a = record { refusal = n; first = a.first; second = a.second; third = a.third }

-- of what a function returns
abbrev pub answer_of : Result Answers Refusal → Answer
answer_of (Ok a) = answered_by a.first a.second a.third
answer_of (Err r) = refused_by (refusal_number r)
