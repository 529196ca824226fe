-- The decimal digits of a number: one of a number below 10, else those of its tenth and one more. Assumes nothing.
use mathlib.Core.Path.{◌≡◌, refl, sym, ap, ◌∙◌}
use mathlib.Core.Bool.{Bool, true, false}
use mathlib.Core.List.{List, [], ◌∷◌, ◌++◌}
use Prim.Native.Nat.{ℕ, zero, suc, ◌+◌, ◌*◌, ◌/◌, ◌%◌, ◌≤◌, ◌<◌}
use native.Mathlib.Omega.{arith}
use borrow.Author.Tests.{lt-ltb, le-ltb, ltb-true, ltb-false}
use lib.Dec.{ltb}
use lib.ListN.{length, length-append}
use Rattle.text.specs.Text.{digits_below, digits}

below_one : (k n : ℕ) → n < 10 → digits_below (suc k) n ≡ (48 + n) ∷ []
below_one k n h = rw (lt-ltb n 10 h, digits_below)

below_more : (k n : ℕ) → 10 ≤ n → digits_below (suc k) n ≡ digits_below k (n / 10) ++ ((48 + n % 10) ∷ [])
below_more k n h = rw (le-ltb n 10 h, digits_below)

-- any k above n will do
below_same : (k j n : ℕ) → n < k → n < j → digits_below k n ≡ digits_below j n
below_same zero j n h l = absurd (omega arith)
below_same (suc k) zero n h l = absurd (omega arith)
below_same (suc k) (suc j) n h l = go (ltb n 10) refl (λ m. below_same k j (n / 10) (omega arith) (omega arith))
  where
    go : (x : Bool) → ltb n 10 ≡ x → (10 ≤ n → digits_below k (n / 10) ≡ digits_below j (n / 10)) → digits_below (suc k) n ≡ digits_below (suc j) n
    go true e ih = let m : n < 10 = ltb-true n 10 e in below_one k n m ∙ sym (below_one j n m)
    go false e ih = let m : 10 ≤ n = ltb-false n 10 e in below_more k n m ∙ ap (λ (s : List ℕ). s ++ ((48 + n % 10) ∷ [])) (ih m) ∙ sym (below_more j n m)

pub digits_one : (n : ℕ) → n < 10 → digits n ≡ (48 + n) ∷ []
unfolding digits
digits_one n h = below_one n n h

pub digits_more : (n : ℕ) → 10 ≤ n → digits n ≡ digits (n / 10) ++ ((48 + n % 10) ∷ [])
unfolding digits
digits_more n h = below_more n n h ∙ ap (λ (s : List ℕ). s ++ ((48 + n % 10) ∷ [])) (below_same n (suc (n / 10)) (n / 10) (omega arith) (omega arith))

-- one digit more
pub digits_next : (v d : ℕ) → 1 ≤ v → d < 10 → digits (v * 10 + d) ≡ digits v ++ ((48 + d) ∷ [])
digits_next v d h l =
    let q : (v * 10 + d) / 10 ≡ v = omega arith in
    let r : (v * 10 + d) % 10 ≡ d = omega arith in
    digits_more (v * 10 + d) (omega arith) ∙ rw (q, r)

-- there is at least one digit, and at most k of a number below 10 ^ k
pub digits_some : (n : ℕ) → 1 ≤ length (digits n)
digits_some n = go (ltb n 10) refl
  where
    go : (x : Bool) → ltb n 10 ≡ x → 1 ≤ length (digits n)
    go true e = let l : n < 10 = omega (arith, ltb-true n 10 e) in rw (digits_one n l) (omega arith)
    go false e = let l : 10 ≤ n = omega (arith, ltb-false n 10 e) in rw (digits_more n l, length-append) (omega arith)
