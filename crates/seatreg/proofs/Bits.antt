-- The bits of a signed number, below 0 and from 0 on, as the machine holds it. Assumes nothing.
use mathlib.Core.Path.{◌≡◌, refl, ap, sym, ◌∙◌}
use mathlib.Core.Bool.{true, false}
use Prim.Native.Nat.{suc, ◌-◌, ◌<◌}
use native.Mathlib.Omega.{arith}
use borrow.Author.Tests.{ltb-true, le-ltb}
use lib.IntN.{ℤ, pos, negsuc, ◌-ℤ◌}
use lib.Signed.{lt_z, mag}
use mir.Syntax.{w32}
use mir.Val.{SFits, of_z, to_z}
use mir.Facts.{to_z-of_z}
use Rattle.seatreg.specs.Answers.{bits}

negative_sub : (z : ℤ) → lt_z z (pos 0) ≡ true → negsuc 0 -ℤ z ≡ pos (mag z)
negative_sub (pos n) t = let h : n < 0 = ltb-true n 0 t in absurd (omega arith)
negative_sub (negsuc k) t = rw (le-ltb (suc k) 1 (omega arith)) (ap pos (omega arith))

negative_bits : (z : ℤ) → lt_z z (pos 0) ≡ true → 4294967295 - mag z ≡ bits z
negative_bits (pos n) t = let h : n < 0 = ltb-true n 0 t in absurd (omega arith)
negative_bits (negsuc k) t = refl

positive_is : (z : ℤ) → lt_z z (pos 0) ≡ false → z ≡ pos (mag z)
positive_is (pos n) t = refl
positive_is (negsuc k) t = let q : false ≡ true = sym t in cc

positive_bits : (z : ℤ) → lt_z z (pos 0) ≡ false → mag z ≡ bits z
positive_bits (pos n) t = refl
positive_bits (negsuc k) t = let q : false ≡ true = sym t in cc

-- at a number as the machine holds it: its bits, read back
module _ (z : ℤ) (f : SFits w32 z) where
  back : to_z w32 (of_z w32 z) ≡ z
  back = to_z-of_z f

  mag_fits : SFits w32 (pos (mag z))
  mag_fits = record { sfits = f.sfits }

  -- z below 0: k is -1 - z
  module _ (t : lt_z (to_z w32 (of_z w32 z)) (pos 0) ≡ true) where
    below : negsuc 0 -ℤ to_z w32 (of_z w32 z) ≡ pos (mag z)
    below = rw back (negative_sub z (rw back at t))

    pub below_fits : SFits w32 (negsuc 0 -ℤ to_z w32 (of_z w32 z))
    below_fits = rw below mag_fits

    pub below_read : to_z w32 (of_z w32 (negsuc 0 -ℤ to_z w32 (of_z w32 z))) ≡ pos (mag z)
    below_read = rw below (to_z-of_z mag_fits)

    pub below_bits : 4294967295 - mag z ≡ bits z
    below_bits = negative_bits z (rw back at t)

  module _ (t : lt_z (to_z w32 (of_z w32 z)) (pos 0) ≡ false) where
    pub from_read : to_z w32 (of_z w32 z) ≡ pos (mag z)
    from_read = back ∙ positive_is z (rw back at t)

    pub from_bits : mag z ≡ bits z
    from_bits = positive_bits z (rw back at t)
