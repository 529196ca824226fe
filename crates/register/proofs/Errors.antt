-- What a call tells: it is refused exactly where it returns an error. Assumes nothing.
use Rattle.std.proofs.Common.{◌≡◌, ◌≢◌, refl, sym, ap, ◌∙◌, true, false, ℕ, List, length, Result, Ok, Err}
use borrow.Author.Tests.{eq-eqb}
use Rattle.std.specs.Prelude.{is_err}
use Rattle.std.proofs.lemmas.Bool.{false≢true}
use Rattle.rules.proofs.Lists.{clash}
use Rattle.rules.specs.declared.refusal.Refusal.{Refusal}
use Rattle.register.specs.declared.Answers.{Answers}
use Rattle.refusals.proofs.First.{number_some}
use Rattle.block.specs.Layout.{block_size}
use Rattle.rules.specs.Refused.{refusal_number}
use Rattle.register.specs.Answer.{refused_by, answer_of}
use Rattle.register.specs.CallOn as on
use Rattle.register.specs.CallOn.{open_on}
use Rattle.register.specs.Made.{MadeOpen}

pub error_refused : (r : Result Answers Refusal) → is_err r ≡ true → (answer_of r).refusal ≢ 0
error_refused (Ok a) e = absurd (false≢true e)
error_refused (Err f) e = number_some f

pub no_error_accepted : (r : Result Answers Refusal) → is_err r ≡ false → (answer_of r).refusal ≡ 0
no_error_accepted (Ok a) e = refl
no_error_accepted (Err f) e = clash e

-- a block of its length is opened
pub open_passes : (b after : List ℕ) (o : Result Answers Refusal) → length b ≡ block_size → MadeOpen b (answer_of o) after → {f : Refusal} → o ≡ Err f → ⊥
unfolding open_on
open_passes b after o long m {f} w =
    let z : (open_on b).refusal ≡ 0 = rw (eq-eqb (length b) block_size long) in
    number_some f (sym (ap (λ (r : Result Answers Refusal). (answer_of r).refusal) w) ∙ ap (λ (r : on.Result). r.refusal) m ∙ z)

-- a refusal's number is not 0
pub refused_some : (f : Refusal) → (refused_by (refusal_number f)).refusal ≢ 0
refused_some f = number_some f
