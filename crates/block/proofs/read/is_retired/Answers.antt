-- `block::is_retired` tests a subject's bit. Assumes nothing.
use mathlib.Core.Path.{sym, ap, ◌∙◌}
use Prim.Native.Nat.{ℕ}
use native.Mathlib.Nat.{add-zero}
use native.Mathlib.Omega.{arith}
use lib.Dec.{eqb}
use Rattle.rules.specs.Bits.{bit}
use Rattle.rules.proofs.Bits.{bit_shr, bit_high}
use Rattle.block.proofs.read.is_retired.Goals as goal

pub returns-then-subject : goal.returns-then-subject
returns-then-subject c = let a = c.args in sym (rw (bit_high a.retired 64 a.subject (omega arith) (omega arith)))

pub returns : goal.returns
returns c = let a = c.args in ap (λ (n : ℕ). eqb n 1) (bit_shr a.retired a.subject 0 ∙ ap (bit a.retired) (add-zero a.subject))
