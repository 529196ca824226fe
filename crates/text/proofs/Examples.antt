-- The examples of numbers as text hold. Assumes nothing.
use mathlib.Core.Path.{◌≡◌, refl, sym, ap, ◌∙◌}
use mathlib.Core.Logic.{◌≢◌}
use mathlib.Core.Bool.{true}
use mathlib.Core.List.{List, ◌∷◌, ◌++◌}
use Prim.Native.Nat.{ℕ, suc}
use native.Mathlib.Omega.{arith}
use lib.IntN.{ℤ, pos, negsuc}
use Rattle.text.specs.Text.{digits, number, Allowed}
use Rattle.text.specs.Examples.{Examples}
use Rattle.std.specs.Prelude.{None, Some}
use Rattle.std.proofs.lemmas.Option.{none-some}
use Rattle.text.proofs.Reading.{value_of, read_from, read_number}
use Rattle.text.proofs.Injective.{sign_apart}

-- what is not read without sign is no number's rendering
unread : (b : ℕ) (s : List ℕ) → b ≢ 45 → read_from 10 (b ∷ s) 0 ≡ None → (z : ℤ) (rest : List ℕ) → Allowed true z → b ∷ s ≢ number z ++ (10 ∷ rest)
unread b s n f (pos k) rest l e = none-some _ (sym f ∙ ap (λ (x : List ℕ). read_from 10 x 0) e ∙ read_number 10 (omega arith) k l rest 0)
unread b s n f (negsuc k) rest l e = absurd (n cc)

signed_zero : (s : List ℕ) (m : ℕ) → read_from 10 s 0 ≡ Some (record { value = 0; next = m }) → (z : ℤ) (rest : List ℕ) → Allowed true z → 45 ∷ s ≢ number z ++ (10 ∷ rest)
signed_zero s m f (pos k) rest l e = sign_apart 10 (omega arith) k rest s l (sym e)
signed_zero s m f (negsuc k) rest l e =
    let d : s ≡ digits (suc k) ++ (10 ∷ rest) = cc in
    let v : 0 ≡ suc k = ap value_of (sym f ∙ ap (λ (x : List ℕ). read_from 10 x 0) d ∙ read_number 10 (omega arith) (suc k) l rest 0) in
    absurd (omega arith)

pub examples_hold : Examples
unfolding digits
examples_hold = record {
  zero = refl;
  most = refl;
  none = refl;
  values = refl;
  leading = unread 48 _ (λ e. absurd (omega arith)) refl;
  leading_one = unread 48 _ (λ e. absurd (omega arith)) refl;
  large = unread 52 _ (λ e. absurd (omega arith)) refl;
  plus = unread 43 _ (λ e. absurd (omega arith)) refl;
  minus_zero = signed_zero _ _ refl;
  empty = unread 10 _ (λ e. absurd (omega arith)) refl;
  spaced = unread 49 _ (λ e. absurd (omega arith)) refl;
}
