-- How many bytes a number and a line take. Assumes nothing.
use mathlib.Core.Path.{◌≡◌, refl, ap, ◌∙◌}
use mathlib.Core.Bool.{Bool, true, false}
use mathlib.Core.List.{List, [], ◌∷◌}
use Prim.Native.Nat.{ℕ, zero, suc, ◌+◌, ◌*◌, ◌/◌, ◌%◌, ◌≤◌, ◌<◌}
use native.Mathlib.Omega.{arith}
use borrow.Author.Tests.{ltb-true, ltb-false}
use lib.Dec.{ltb}
use lib.IntN.{ℤ, pos, negsuc}
use lib.ListN.{length, length-append}
use Rattle.text.specs.Text.{digits, number, after, line, most, Allowed, AllAllowed}
use Rattle.text.proofs.Digits.{digits_one, digits_more}
use Rattle.text.proofs.Writing.{number_some}

-- ten to the k
abbrev pub tens : ℕ → ℕ
tens zero = 1
tens (suc k) = 10 * tens k

pub digits_below_lem : (k n : ℕ) → n < tens (suc k) → length (digits n) ≤ suc k
digits_below_lem zero n h = let l : n < 10 = omega arith in rw (digits_one n l) (omega arith)
digits_below_lem (suc k) n h = go (ltb n 10) refl (λ m. digits_below_lem k (n / 10) m)
  where
    go : (x : Bool) → ltb n 10 ≡ x → (n / 10 < tens (suc k) → length (digits (n / 10)) ≤ suc k) → length (digits n) ≤ suc (suc k)
    go true e ih = let l : n < 10 = ltb-true n 10 e in rw (digits_one n l) (omega arith)
    go false e ih =
        let l : 10 ≤ n = ltb-false n 10 e in
        let m : n / 10 < tens (suc k) = omega arith in
        let q : length (digits n) ≡ length (digits (n / 10)) + 1 = ap length (digits_more n l) ∙ length-append (digits (n / 10)) ((48 + n % 10) ∷ []) in
        omega (arith, ih m)

digits_short : (n : ℕ) → n ≤ most → length (digits n) ≤ 10
digits_short n h = digits_below_lem 9 n (omega arith)

number_short : (z : ℤ) → Allowed true z → length (number z) ≤ 11
number_short (pos n) h = omega (arith, digits_short n h)
number_short (negsuc n) h = omega (arith, digits_short (suc n) h)

pub line_short : (zs : List ℤ) → AllAllowed true zs → length (line zs) ≤ 12 * length zs
line_short [] h = omega arith
line_short (z ∷ zs) h = omega (arith, length-append (number z) (after zs ∷ line zs), number_short z h.0, line_short zs h.1)

pub line_long : (zs : List ℤ) → 2 * length zs ≤ length (line zs)
line_long [] = omega arith
line_long (z ∷ zs) = omega (arith, length-append (number z) (after zs ∷ line zs), number_some z, line_long zs)
