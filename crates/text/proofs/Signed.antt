-- Signed numbers of a text as the machine holds them. Assumes nothing.
use Rattle.std.proofs.lemmas.Bool.{false≢true}
use mathlib.Core.Path.{◌≡◌, sym, ap, ◌∙◌}
use mathlib.Core.List.{◌∷◌}
use mathlib.Core.Bool.{Bool, true, false}
use Prim.Native.Nat.{ℕ, zero, suc}
use native.Mathlib.Omega.{arith}
use borrow.Author.Tests.{le-leb}
use lib.Dec.{leb}
use lib.IntN.{ℤ, pos, negsuc, neg_ℤ, ◌-ℤ◌, +ℤ_idl}
use lib.Signed.{le_z}
use mir.Syntax.{w64}
use mir.Val.{SFits, of_z, to_z}
use mir.Facts.{to_z-of_z}
use Rattle.text.specs.Text.{digits, number, Allowed}

pub allowed_fits : (s : Bool) (z : ℤ) → Allowed s z → SFits w64 z
allowed_fits s (pos n) h = record { sfits = omega arith }
allowed_fits true (negsuc n) h = record { sfits = omega arith }
allowed_fits false (negsuc n) h = absurd h

pub neg_allowed : (z : ℤ) → Allowed true z → Allowed true (neg_ℤ z)
neg_allowed (pos zero) h = h
neg_allowed (pos (suc n)) h = h
neg_allowed (negsuc n) h = h

pub kept : (z : ℤ) → SFits w64 z → to_z w64 (of_z w64 z) ≡ z
kept z f = to_z-of_z f

-- a result as the machine holds it
pub held : {x y : ℤ} → x ≡ y → Allowed true y → to_z w64 (of_z w64 x) ≡ y
held {y} e h = ap (λ (z : ℤ). to_z w64 (of_z w64 z)) e ∙ kept y (allowed_fits true y h)

-- the negative of a result, as the machine computes it
pub negative_held : {x : ℤ} {n : ℕ} → x ≡ pos n → Allowed true (pos n) → to_z w64 (of_z w64 (pos 0 -ℤ to_z w64 (of_z w64 x))) ≡ neg_ℤ (pos n)
negative_held {n} e h = held (ap (λ (z : ℤ). pos 0 -ℤ z) (held e h) ∙ +ℤ_idl (neg_ℤ (pos n))) (neg_allowed (pos n) h)

-- ── a number to be written ──
module _ (z : ℤ) (n : ℕ) where
  pub negative_number : le_z (pos 0) z ≡ false → pos n ≡ to_z w64 (of_z w64 (pos 0 -ℤ to_z w64 (of_z w64 z))) → Allowed true z → number z ≡ 45 ∷ digits n
  negative_number l e h = go z l (e ∙ held (+ℤ_idl (neg_ℤ (to_z w64 (of_z w64 z))) ∙ ap neg_ℤ (kept z (allowed_fits true z h))) (neg_allowed z h))
    where
      go : (y : ℤ) → le_z (pos 0) y ≡ false → pos n ≡ neg_ℤ y → number y ≡ 45 ∷ digits n
      go (pos k) l e = let a : leb 0 k ≡ true = le-leb 0 k (omega arith) in absurd (false≢true (sym l ∙ a))
      go (negsuc k) l e = let m : suc k ≡ n = cc in ap (λ (j : ℕ). 45 ∷ digits j) m
