-- A rendering is that of one number, and of one line of so many values; what follows it is determined. Assumes nothing.
use mathlib.Core.Path.{◌≡◌, refl, sym, ap, ◌∙◌}
use mathlib.Core.Bool.{true}
use mathlib.Core.List.{List, [], ◌∷◌, ◌++◌}
use Prim.Native.Nat.{ℕ, suc, ◌≤◌, ◌<◌}
use native.Mathlib.Omega.{arith}
use lib.IntN.{ℤ, pos, negsuc}
use lib.ListN.{length, drop}
use Rattle.text.specs.Text.{digits, number, after, line, most, Allowed, AllAllowed}
use Rattle.std.proofs.lemmas.Option.{none-some}
use Rattle.text.proofs.Reading.{value_of, read_from, digit_low, from_other, read_number, drop_end}
use Rattle.text.proofs.Lines.{line_cons}

module _ (end : ℕ) (low : end < 48) where
  digits_inj : (n m : ℕ) (s t : List ℕ) → n ≤ most → m ≤ most → digits n ++ (end ∷ s) ≡ digits m ++ (end ∷ t) → (n ≡ m) × (s ≡ t)
  digits_inj n m s t h l e =
      let v : n ≡ m = ap value_of (sym (read_number end low n h s 0) ∙ ap (λ (x : List ℕ). read_from end x 0) e ∙ read_number end low m l t 0) in
      (v, sym (drop_end (digits n) end s) ∙ (λ p. drop (suc (length (digits (v p)))) (e p)) ∙ drop_end (digits m) end t)

  -- digits do not start with a sign
  pub sign_apart : (n : ℕ) (s t : List ℕ) → n ≤ most → digits n ++ (end ∷ s) ≡ 45 ∷ t → ⊥
  sign_apart n s t h e =
      let a = ap (λ (x : List ℕ). read_from end x 0) (sym e) ∙ read_number end low n h s 0 in
      none-some _ (sym (from_other end 45 t 0 (digit_low 45 (omega arith))) ∙ a)

  number_inj : (y z : ℤ) (s t : List ℕ) → Allowed true y → Allowed true z → number y ++ (end ∷ s) ≡ number z ++ (end ∷ t) → (y ≡ z) × (s ≡ t)
  number_inj (pos n) (pos m) s t h l e = let r = digits_inj n m s t h l e in (ap pos r.0, r.1)
  number_inj (pos n) (negsuc m) s t h l e = absurd (sign_apart n s (digits (suc m) ++ (end ∷ t)) h e)
  number_inj (negsuc n) (pos m) s t h l e = absurd (sign_apart m t (digits (suc n) ++ (end ∷ s)) l (sym e))
  number_inj (negsuc n) (negsuc m) s t h l e =
      let r = digits_inj (suc n) (suc m) s t h l cc in
      let q : n ≡ m = omega (arith, r.0) in
      (ap negsuc q, r.1)

after_same : (ys zs : List ℤ) → length ys ≡ length zs → after ys ≡ after zs
after_same [] [] e = refl
after_same [] (z ∷ zs) e = absurd (omega arith)
after_same (y ∷ ys) [] e = absurd (omega arith)
after_same (y ∷ ys) (z ∷ zs) e = refl

after_low : (zs : List ℤ) → after zs < 48
after_low [] = omega arith
after_low (z ∷ zs) = omega arith

pub line_inj : (ys zs : List ℤ) (s t : List ℕ) → length ys ≡ length zs → AllAllowed true ys → AllAllowed true zs → line ys ++ s ≡ line zs ++ t → (ys ≡ zs) × (s ≡ t)
line_inj [] [] s t k h l e = (refl, e)
line_inj [] (z ∷ zs) s t k h l e = absurd (omega arith)
line_inj (y ∷ ys) [] s t k h l e = absurd (omega arith)
line_inj (y ∷ ys) (z ∷ zs) s t k h l e =
    let m : length ys ≡ length zs = omega arith in
    let q : number y ++ (after ys ∷ (line ys ++ s)) ≡ number z ++ (after ys ∷ (line zs ++ t)) =
    sym (line_cons y ys s) ∙ e ∙ line_cons z zs t ∙ ap (λ (b : ℕ). number z ++ (b ∷ (line zs ++ t))) (sym (after_same ys zs m)) in
    let r = number_inj (after ys) (after_low ys) y z (line ys ++ s) (line zs ++ t) h.0 l.0 q in
    let f = line_inj ys zs s t m h.1 l.1 r.1 in
    (λ p. r.0 p ∷ f.0 p, f.1)
