-- The bits of a number: of operations that go digit by digit, of a power of 2, of what is left after a shift. Assumes nothing.
use mathlib.Core.Path.{◌≡◌, refl, sym, ap, ◌∙◌}
use mathlib.Core.Logic.{◌≢◌}
use Prim.Native.Nat.{ℕ, zero, suc, ◌+◌, ◌*◌, ◌/◌, ◌%◌, ◌^◌, ◌≤◌, ◌<◌, min, max, zero-le, suc-le-suc}
use native.Mathlib.Nat.{mod-lt, zero-lt-suc, add-zero, zero-add, suc-add, div-one, div-eq_of_lt, lt_of_lt_of_le, pow-suc}
use native.Mathlib.Omega.{arith}
use lib.Arith.{bin_ind, digits_div, digits_mod}
use lib.Bits.{bit_and, bit_or, bit_xor, differ, and_step, or_step, xor_step, shifted_half, shifted_even}
use lib.Pow.{pow_mono, shr-shr}
use Rattle.rules.specs.Bits.{bit, BitPut}

pub bit_zero : (y : ℕ) → bit 0 y ≡ 0
bit_zero zero = refl
bit_zero (suc y) = bit_zero y

pub bit_small : (n y : ℕ) → bit n y < 2
bit_small n zero = mod-lt n (zero-lt-suc 1)
bit_small n (suc y) = bit_small (n / 2) y

-- an operation that goes digit by digit
module _ (op f : ℕ → ℕ → ℕ) (step : (a b : ℕ) → op a b ≡ op (a / 2) (b / 2) * 2 + f (a % 2) (b % 2)) (small : (x y : ℕ) → x < 2 → y < 2 → f x y < 2) where
  digit : (a b : ℕ) → f (a % 2) (b % 2) < 2
  digit a b = small (a % 2) (b % 2) (bit_small a 0) (bit_small b 0)

  bit_by : (a b y : ℕ) → bit (op a b) y ≡ f (bit a y) (bit b y)
  bit_by a b zero = ap (λ (x : ℕ). x % 2) (step a b) ∙ digits_mod (op (a / 2) (b / 2)) (digit a b)
  bit_by a b (suc y) = ap (λ (x : ℕ). bit (x / 2) y) (step a b) ∙ ap (λ (x : ℕ). bit x y) (digits_div (op (a / 2) (b / 2)) (digit a b)) ∙ bit_by (a / 2) (b / 2) y

pub bit_or_lem : (a b y : ℕ) → bit (bit_or a b) y ≡ max (bit a y) (bit b y)
bit_or_lem = bit_by bit_or max or_step (λ x y h k. omega arith)

differ_small : (x y : ℕ) → x < 2 → y < 2 → differ x y < 2
differ_small zero y h k = k
differ_small (suc x) zero h k = h
differ_small (suc x) (suc y) h k = differ_small x y (omega arith) (omega arith)

pub bit_and_lem : (a b y : ℕ) → bit (bit_and a b) y ≡ min (bit a y) (bit b y)
bit_and_lem = bit_by bit_and min and_step (λ x y h k. omega arith)

pub bit_xor_lem : (a b y : ℕ) → bit (bit_xor a b) y ≡ differ (bit a y) (bit b y)
bit_xor_lem = bit_by bit_xor differ xor_step differ_small

-- numbers of the same bits are the same
pub bits_same : (a b : ℕ) → ((y : ℕ) → bit a y ≡ bit b y) → a ≡ b
bits_same = bin_ind (λ (a : ℕ). (b : ℕ) → ((y : ℕ) → bit a y ≡ bit b y) → a ≡ b) none (λ n more b h. omega (arith, more (b / 2) (λ y. h (suc y)), h 0))
  where
    none : (b : ℕ) → ((y : ℕ) → bit 0 y ≡ bit b y) → 0 ≡ b
    none = bin_ind (λ (b : ℕ). ((y : ℕ) → bit 0 y ≡ bit b y) → 0 ≡ b) (λ _. refl) (λ n more h. omega (arith, more (λ y. h (suc y)), h 0))

-- the bits of a power of 2
pub bit_here : (y : ℕ) → bit (1 * 2 ^ y) y ≡ 1
bit_here zero = refl
bit_here (suc y) = ap (λ (x : ℕ). bit x y) (shifted_half 1 y) ∙ bit_here y

bit_off : (x y : ℕ) → x ≢ y → bit (1 * 2 ^ x) y ≡ 0
bit_off zero zero n = absurd (n refl)
bit_off zero (suc y) n = bit_zero y
bit_off (suc x) zero n = shifted_even 1 x
bit_off (suc x) (suc y) n = ap (λ (z : ℕ). bit z y) (shifted_half 1 x) ∙ bit_off x y (λ e. n (ap suc e))

-- one bit set
module _ (y one : ℕ) (e : one ≡ 1 * 2 ^ y) where
  one_here : bit one y ≡ 1
  one_here = ap (λ (x : ℕ). bit x y) e ∙ bit_here y

  one_off : (w : ℕ) → y ≢ w → bit one w ≡ 0
  one_off w d = ap (λ (x : ℕ). bit x w) e ∙ bit_off y w d

  pub put_in : (n : ℕ) → BitPut n y 1 (bit_or n one)
  put_in n = record { here = bit_or_lem n one y ∙ omega (arith, one_here, bit_small n y); others = λ w d. bit_or_lem n one w ∙ omega (arith, one_off w d) }

-- a bit of what is left after a shift
pub bit_shr : (n k y : ℕ) → bit (n / 2 ^ k) y ≡ bit n (k + y)
bit_shr n zero y = rw (zero-add y) (ap (λ (m : ℕ). bit m y) (div-one n))
bit_shr n (suc k) y =
    let one_more : suc k ≡ 1 + k = omega arith in
    ap (λ (m : ℕ). bit m y) (ap (λ (m : ℕ). n / 2 ^ m) one_more ∙ sym (shr-shr n 1 k)) ∙ bit_shr (n / 2) k y ∙ ap (bit n) (sym (suc-add k y))

-- none is set above a number's width
pub bit_high : (n k y : ℕ) → n < 2 ^ k → k ≤ y → bit n y ≡ 0
bit_high n k y h l = ap (bit n) (sym (add-zero y)) ∙ sym (bit_shr n y 0) ∙ ap (λ (m : ℕ). m % 2) (div-eq_of_lt (lt_of_lt_of_le h (pow_mono l)))

-- a number without bits from k on is below 2 ^ k
pub bits_below : (k n : ℕ) → ((y : ℕ) → k ≤ y → bit n y ≡ 0) → n < 2 ^ k
bits_below zero n h = omega (arith, bits_same n 0 (λ y. h y zero-le ∙ sym (bit_zero y)))
bits_below (suc k) n h = omega (arith, bits_below k (n / 2) (λ y l. h (suc y) (suc-le-suc l)), pow-suc 2 k)
