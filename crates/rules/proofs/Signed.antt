-- Limits as 16-bit signed numbers: what the code reads and compares, in the terms of the definitions. Assumes nothing.
use mathlib.Core.Path.{◌≡◌, refl, ap, sym, subst, ◌∙◌}
use mathlib.Core.Logic.{◌⊎◌, inl, inr}
use mathlib.Core.Bool.{true, false}
use mathlib.Core.List.{List, [], ◌∷◌}
use Prim.Native.Nat.{ℕ, zero, suc, ◌<◌, ◌≤◌}
use native.Mathlib.Nat.{min-eq_left, min-eq_right, le_of_lt, le_of_suc-le-suc, not-suc-le-zero}
use native.Mathlib.Omega.{arith}
use borrow.Author.Tests.{ltb-true, lt-ltb}
use lib.IntN.{ℤ, pos, negsuc, nat_abs}
use lib.Signed.{non_neg, lt_z, mag}
use lib.Dec.{T, leb-suc-suc, ltb, ltb→lt, nltb→le, not_T}
use lib.ListN.{length, get_or}
use mir.Syntax.{w16}
use mir.Val.{SFits, of_z, to_z}
use mir.Facts.{to_z-of_z}
use Rattle.rules.specs.Limit.{none, code, ◌≼◌}
use Rattle.rules.specs.Table.{entry, next}
use Rattle.rules.proofs.Lists.{clash}

-- what stands in a list does not depend on what stands past its end
pub get_or_within : {A : Type 0} (xs : List A) (i : ℕ) (a b : A) → i < length xs → get_or xs i a ≡ get_or xs i b
get_or_within [] i a b l = absurd (not-suc-le-zero l)
get_or_within (x ∷ xs) zero a b l = refl
get_or_within (x ∷ xs) (suc i) a b l = get_or_within xs i a b (le_of_suc-le-suc l)

pub not_negative : (z : ℤ) → lt_z z (pos 0) ≡ false → T (non_neg z)
not_negative (pos n) e = tt
not_negative (negsuc k) e = clash e

-- a signed number as the machine holds it, read back
abbrev pub kept : ℤ → ℤ
kept z = to_z w16 (of_z w16 z)

pub read_limit : (l : List ℤ) (i : ℕ) → i < length l → mag (get_or l i (pos 0)) < 32768 → kept (get_or l i (pos 0)) ≡ get_or l i none
read_limit l i h f = to_z-of_z {w = w16} record { sfits = f } ∙ get_or_within l i (pos 0) none h

-- ── the three ways of `next` ──
pub next_negative : (t : List ℤ) (z : ℤ) (w : ℕ) → lt_z z (pos 0) ≡ true → none ≡ next t z w
unfolding next
next_negative t (pos n) w e = let h : n < 0 = ltb-true n 0 e in absurd (omega arith)
next_negative t (negsuc k) w e = refl

by_limit : (t : List ℤ) (z : ℤ) (w : ℕ) → lt_z z (pos 0) ≡ false → nat_abs z < w → entry t (nat_abs z) ≡ next t z w
unfolding next
by_limit t (pos n) w e h = ap (entry t) (sym (min-eq_left (le_of_lt h)))
by_limit t (negsuc k) w e h = let q : false ≡ true = sym e in cc

by_weight : (t : List ℤ) (z : ℤ) (w : ℕ) → lt_z z (pos 0) ≡ false → w ≤ nat_abs z → entry t w ≡ next t z w
unfolding next
by_weight t (pos n) w e h = ap (entry t) (sym (min-eq_right h))
by_weight t (negsuc k) w e h = let q : false ≡ true = sym e in cc

module _ (t : List ℤ) (size : length t ≡ 256) (z : ℤ) (w : ℕ) (f : SFits w16 z) (b : w < 256) (e : lt_z (to_z w16 (of_z w16 z)) (pos 0) ≡ false) where
  pub next_by_limit : nat_abs (to_z w16 (of_z w16 z)) < w → mag (get_or t (nat_abs (to_z w16 (of_z w16 z))) (pos 0)) < 32768 → to_z w16 (of_z w16 (get_or t (nat_abs (to_z w16 (of_z w16 z))) (pos 0))) ≡ next t z w
  next_by_limit h k =
      let q : to_z w16 (of_z w16 z) ≡ z = to_z-of_z {w = w16} f in
      let l : nat_abs z < w = rw q at h in
      rw q (read_limit t (nat_abs z) (omega arith) (rw q at k) ∙ by_limit t z w (rw q at e) l)

  pub next_by_weight : w ≤ nat_abs (to_z w16 (of_z w16 z)) → mag (get_or t w (pos 0)) < 32768 → to_z w16 (of_z w16 (get_or t w (pos 0))) ≡ next t z w
  next_by_weight h k =
      let q : to_z w16 (of_z w16 z) ≡ z = to_z-of_z {w = w16} f in
      read_limit t w (omega arith) k ∙ by_weight t z w (rw q at e) (rw q at h)

-- ── signed comparisons of limits ──
pub code_live : (z : ℤ) → pos 0 ≼ z → code z ≡ suc (nat_abs z)
code_live (pos n) h = refl
code_live (negsuc n) h = absurd (omega arith)

pub live_natural : (z : ℤ) → pos 0 ≼ z → z ≼ pos 255 → T (non_neg z) × (nat_abs z < 256)
live_natural (pos n) h k = (tt, omega arith)
live_natural (negsuc n) h k = absurd (omega arith)

pub code_pos : (z : ℤ) (n : ℕ) → code z ≡ suc n → z ≡ pos n
code_pos (pos m) n e = let i : m ≡ n = omega arith in ap pos i
code_pos (negsuc m) n e = absurd (omega arith)

-- the test of a limit against a weight, as the code and as the definition make it
pub below_weight : (z : ℤ) (w : ℕ) → lt_z z (pos w) ≡ ltb (code z) (suc w)
below_weight (pos n) w = sym (leb-suc-suc (suc n) w)
below_weight (negsuc n) w = sym (lt-ltb 0 (suc w) (omega arith))

pub more : (y z : ℤ) → (y ≡ none) ⊎ (pos 0 ≼ y) → T (lt_z y z) → code y < code z
more y z (inl e) h = go z (subst (λ (x : ℤ). T (lt_z x z)) e h)
  where
    go : (z : ℤ) → T (lt_z none z) → code y < code z
    go (pos m) h = omega (arith, ap code e)
    go (negsuc m) h = absurd (omega (arith, ltb→lt m 0 h))
more y z (inr l) h = go y z l h
  where
    go : (y z : ℤ) → pos 0 ≼ y → T (lt_z y z) → code y < code z
    go (pos k) (pos m) l h = omega (arith, ltb→lt k m h)
    go (pos k) (negsuc m) l h = absurd h
    go (negsuc k) z l h = absurd (omega arith)

pub not_more : (y z : ℤ) → (T (lt_z y z) → ⊥) → z ≼ y
not_more (pos k) (pos m) h = omega (arith, nltb→le k m (not_T (ltb k m) h))
not_more (pos k) (negsuc m) h = omega arith
not_more (negsuc k) (pos m) h = absurd (h tt)
not_more (negsuc k) (negsuc m) h = omega arith
