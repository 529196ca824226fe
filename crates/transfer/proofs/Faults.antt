-- The number of what a text is refused with, 7 or 8. Assumes nothing.
use Rattle.std.proofs.Common.{◌≡◌, ◌≢◌, refl, ap, sym, ◌∙◌, arith, Result, Ok, Err}
use Rattle.regfile.specs.declared.FileFault.{FileFault}
use Rattle.regfile.specs.declared.FileFault.TheVariants.{Malformed, NotWellFormed}
use Rattle.regfile.specs.Faults.{number_in}

module _ {A : Type 0} where
  pub not_seven : (r : Result A FileFault) → (r ≡ Err Malformed → ⊥) → number_in r ≢ 7
  not_seven (Ok a) n e = omega (arith, e)
  not_seven (Err Malformed) n e = n refl
  not_seven (Err NotWellFormed) n e = omega (arith, e)

  pub error_some : {r : Result A FileFault} {f : FileFault} → r ≡ Err f → number_in r ≢ 0
  error_some {f = Malformed} w e = let z = sym (ap number_in w) ∙ e in omega (arith, z)
  error_some {f = NotWellFormed} w e = let z = sym (ap number_in w) ∙ e in omega (arith, z)
