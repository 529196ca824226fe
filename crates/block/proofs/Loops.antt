-- A loop over places: x is the whole answer, e says that it is the answer from place i on. Each form at its end, stopped at i, and gone on. Assumes nothing.
use mathlib.Core.Path.{◌≡◌, refl, sym, ap, ◌∙◌}
use mathlib.Core.Bool.{Bool, true, false, not, ◌&&◌}
use mathlib.Core.List.{[], ◌∷◌}
use Prim.Native.Nat.{ℕ, zero, suc, ◌+◌, ◌-◌, ◌≤◌, ◌<◌}
use native.Mathlib.Numerals.{add-one}
use native.Mathlib.Nat.{add-zero}
use native.Mathlib.Omega.{arith}
use borrow.Author.Tests.{ne_eqb}
use lib.Bits.{bit_or, and_le_r, or_zero_l, or_add_and}
use lib.Dec.{eqb}
use Rattle.rules.specs.List.{tabulate, any}
use Rattle.block.specs.Bytes.{all_from, leading}

-- a test of every place
module _ {x : Bool} (f : ℕ → Bool) (i n : ℕ) (e : x ≡ all_from f i (n - i)) where
  pub all_end : n ≤ i → true ≡ x
  all_end h = let z : n - i ≡ 0 = omega arith in sym (rw z at e)

  pub all_stop : i < n → f i ≡ false → false ≡ x
  all_stop h t = let z : n - i ≡ suc (n - (i + 1)) = omega arith in sym (rw (z, t) at e)

  pub all_on : i < n → f i ≡ true → x ≡ all_from f (i + 1) (n - (i + 1))
  all_on h t = let z : n - i ≡ suc (n - (i + 1)) = omega arith in rw (z, t, ← add-one i) at e

-- a test that every place passes
pub all_true : (f : ℕ → Bool) (i n : ℕ) → ((k : ℕ) → f k ≡ true) → true ≡ all_from f i n
all_true f i zero h = refl
all_true f i (suc n) h = rw (h i) (all_true f (suc i) n h)

-- a number that is 0 as long as every value is
pub or_none : (a b : ℕ) → eqb (bit_or a b) 0 ≡ (eqb a 0 && eqb b 0)
or_none zero b = ap (λ (n : ℕ). eqb n 0) (or_zero_l b)
or_none (suc a) b = ne_eqb (bit_or (suc a) b) 0 (λ e. omega (arith, or_add_and (suc a) b, and_le_r (suc a) b)) ∙ sym (ap (λ (x : Bool). x && eqb b 0) (ne_eqb (suc a) 0 (λ e. omega arith)))

pub none_on : {x : Bool} (g : ℕ → ℕ) (any i n : ℕ) → x ≡ (eqb any 0 && all_from (λ k. eqb (g k) 0) i (n - i)) → i < n → x ≡ (eqb (bit_or any (g i)) 0 && all_from (λ k. eqb (g k) 0) (i + 1) (n - (i + 1)))
none_on g any i n e h =
    let z : n - i ≡ suc (n - (i + 1)) = omega arith in
    (rw (z, ← add-one i) at e) ∙ assoc (eqb any 0) (eqb (g i) 0) (all_from (λ k. eqb (g k) 0) (i + 1) (n - (i + 1))) ∙ ap (λ (b : Bool). b && all_from (λ k. eqb (g k) 0) (i + 1) (n - (i + 1))) (sym (or_none any (g i)))
  where
    assoc : (a b c : Bool) → (a && (b && c)) ≡ ((a && b) && c)
    assoc true b c = refl
    assoc false b c = refl

pub none_end : {x : Bool} (g : ℕ → ℕ) (any i n : ℕ) → x ≡ (eqb any 0 && all_from (λ k. eqb (g k) 0) i (n - i)) → n ≤ i → eqb any 0 ≡ x
none_end g any i n e h = let z : n - i ≡ 0 = omega arith in sym ((rw z at e) ∙ true_right (eqb any 0))
  where
    true_right : (b : Bool) → (b && true) ≡ b
    true_right true = refl
    true_right false = refl

-- the values from place i on
module _ {A : Type 0} (f : ℕ → A) (i n : ℕ) where
  pub rest_end : n ≤ i → tabulate f i (n - i) ≡ []
  rest_end h = let z : n - i ≡ 0 = omega arith in rw z

  pub rest_on : i < n → tabulate f i (n - i) ≡ f i ∷ tabulate f (i + 1) (n - (i + 1))
  rest_on h = let z : n - i ≡ suc (n - (i + 1)) = omega arith in rw (z, add-one)

-- all values are those from place 0 on
pub rest_all : {A : Type 0} (f : ℕ → A) (n : ℕ) → tabulate f 0 n ≡ tabulate f 0 (n - 0)
rest_all f n = let z : n - 0 ≡ n = omega arith in rw z

-- how many at the front pass: i, and those from place i on
abbrev pub Counted : {A : Type 0} → (A → Bool) → (ℕ → A) → ℕ → ℕ → Type 0
Counted g f n i = leading g (tabulate f 0 n) ≡ i + leading g (tabulate f i (n - i))

module _ {A : Type 0} (g : A → Bool) (f : ℕ → A) (i n : ℕ) (e : Counted g f n i) where
  pub front_end : n ≤ i → i ≡ leading g (tabulate f 0 n)
  front_end h = sym (rw (rest_end f i n h, add-zero) at e)

  front_stop : i < n → g (f i) ≡ false → i ≡ leading g (tabulate f 0 n)
  front_stop h t = sym (rw (rest_on f i n h, t, add-zero) at e)

  front_on : i < n → g (f i) ≡ true → Counted g f n (i + 1)
  front_on h t = (rw (rest_on f i n h, t) at e) ∙ omega arith

pub front_all : {A : Type 0} (g : A → Bool) (f : ℕ → A) (n : ℕ) → Counted g f n 0
front_all g f n = rw (← rest_all f n) (omega arith)

-- how many stand before the first that passes the test t; r is the answer at place i
module _ {A : Type 0} (t : A → Bool) (f : ℕ → A) (i n : ℕ) (e : Counted (λ x. not (t x)) f n i) {r : Bool} (q : r ≡ t (f i)) (h : i < n) where
  pub first_here : r ≡ true → i ≡ leading (λ x. not (t x)) (tabulate f 0 n)
  first_here y = front_stop (λ x. not (t x)) f i n e h (ap not (sym q ∙ y))

  pub first_on : r ≡ false → Counted (λ x. not (t x)) f n (i + 1)
  first_on y = front_on (λ x. not (t x)) f i n e h (ap not (sym q ∙ y))

-- some value passes the test t
module _ {A : Type 0} {x : Bool} (t : A → Bool) (f : ℕ → A) (i n : ℕ) (e : x ≡ any t (tabulate f i (n - i))) where
  pub some_end : n ≤ i → false ≡ x
  some_end h = sym (rw (rest_end f i n h) at e)

  pub some_stop : i < n → t (f i) ≡ true → true ≡ x
  some_stop h p = sym (rw (rest_on f i n h, p) at e)

  pub some_on : i < n → t (f i) ≡ false → x ≡ any t (tabulate f (i + 1) (n - (i + 1)))
  some_on h p = rw (rest_on f i n h, p) at e
