-- Numbers of any width: read, written and read back. Assumes nothing.
use mathlib.Core.Path.{◌≡◌, refl, sym, ap, ◌∙◌}
use mathlib.Core.List.{List, [], ◌∷◌, ◌++◌}
use Prim.Native.Nat.{ℕ, zero, suc, ◌+◌, ◌*◌, ◌/◌, ◌%◌, ◌^◌, ◌≤◌, ◌<◌}
use native.Mathlib.Nat.{mod-lt, pow-suc, add-zero}
use native.Mathlib.Omega.{arith}
use lib.ListN.{length, get_or, take, drop}
use lib.Seq.{get_or-take, get_or-drop, drop-cons}
use Rattle.std.specs.Int.{w64, from_le_bytes, to_le_bytes}
use Rattle.block.specs.Bytes.{IsBytes, wide, wide_bytes}

-- the number at i is the first of what begins there
pub wide_drop : (k : ℕ) (s : List ℕ) (i j : ℕ) → wide k (drop i s) j ≡ wide k s (i + j)
wide_drop zero s i j = refl
wide_drop (suc k) s i j = let e : i + suc j ≡ suc (i + j) = omega arith in (λ x. get_or-drop i s j 0 x + 256 * wide_drop k s i (suc j) x) ∙ ap (λ (n : ℕ). get_or s (i + j) 0 + 256 * wide k s n) e

pub length_wide_bytes : (k n : ℕ) → length (wide_bytes k n) ≡ k
length_wide_bytes zero n = refl
length_wide_bytes (suc k) n = ap suc (length_wide_bytes k (n / 256))

pub bytes_wide_bytes : (k n : ℕ) → IsBytes (wide_bytes k n)
bytes_wide_bytes zero n i = omega arith
bytes_wide_bytes (suc k) n zero = mod-lt n (omega arith)
bytes_wide_bytes (suc k) n (suc i) = bytes_wide_bytes k (n / 256) i

-- a number has room in its bytes
pub wide_most : (k : ℕ) (s : List ℕ) → IsBytes s → (i : ℕ) → wide k s i < 256 ^ k
wide_most zero s h i = omega arith
wide_most (suc k) s h i = omega (arith, wide_most k s h (suc i), h i, pow-suc 256 k)

-- what was written is read back, whatever follows it
pub wide_bytes_lem : (k n : ℕ) (r : List ℕ) → n < 256 ^ k → wide k (wide_bytes k n ++ r) 0 ≡ n
wide_bytes_lem zero n r h = omega arith
wide_bytes_lem (suc k) n r h =
    let e : wide k ((n % 256) ∷ (wide_bytes k (n / 256) ++ r)) 1 ≡ n / 256 = sym (wide_drop k ((n % 256) ∷ (wide_bytes k (n / 256) ++ r)) 1 0) ∙ wide_bytes_lem k (n / 256) r (omega (arith, pow-suc 256 k)) in
    ap (λ (m : ℕ). n % 256 + 256 * m) e ∙ omega arith

-- what was read is written back
pub bytes_wide : (k : ℕ) (s : List ℕ) → IsBytes s → (i : ℕ) → i + k ≤ length s → wide_bytes k (wide k s i) ≡ take k (drop i s)
bytes_wide zero s h i l = refl
bytes_wide (suc k) s h i l =
    let x = get_or s i 0 in
    let m = wide k s (suc i) in
    let a : (x + 256 * m) % 256 ≡ x = omega (arith, h i) in
    let b : (x + 256 * m) / 256 ≡ m = omega (arith, h i) in
    let more : wide_bytes k ((x + 256 * m) / 256) ≡ take k (drop (suc i) s) = ap (wide_bytes k) b ∙ bytes_wide k s h (suc i) (omega arith) in
    (λ j. a j ∷ more j) ∙ ap (take (suc k)) (sym (drop-cons s i 0 (omega arith)))

-- no bytes but zeros
pub wide_zeros : (k : ℕ) (s : List ℕ) (i : ℕ) → ((j : ℕ) → get_or s (i + j) 0 ≡ 0) → wide k s i ≡ 0
wide_zeros zero s i h = refl
wide_zeros (suc k) s i h =
    let z = h 0 in
    let e : i + 0 ≡ i = omega arith in
    omega (arith, z, ap (λ (n : ℕ). get_or s n 0) e, wide_zeros k s (suc i) (λ j. ap (λ (n : ℕ). get_or s n 0) (next j) ∙ h (suc j)))
  where
    next : (j : ℕ) → suc i + j ≡ i + suc j
    next j = omega arith

-- eight bytes, read as one number
pub wide_eight : (s : List ℕ) (i : ℕ) → from_le_bytes w64 (take 8 (drop i s)) ≡ wide 8 s i
wide_eight s i =
    let r = drop i s in
    digits (λ j. get_or (take 8 r) j 0)
    ∙ (λ x. at 0 (omega arith) x + 256 * (at 1 (omega arith) x + 256 * (at 2 (omega arith) x + 256 * (at 3 (omega arith) x + 256 * (at 4 (omega arith) x + 256 * (at 5 (omega arith) x + 256 * (at 6 (omega arith) x + 256 * (at 7 (omega arith) x + 256 * 0))))))))
    ∙ wide_drop 8 s i 0 ∙ ap (wide 8 s) (add-zero i)
  where
    digits : (d : ℕ → ℕ) → d 0 + d 1 * 256 + d 2 * 65536 + d 3 * 16777216 + d 4 * 4294967296 + d 5 * 1099511627776 + d 6 * 281474976710656 + d 7 * 72057594037927936 ≡ d 0 + 256 * (d 1 + 256 * (d 2 + 256 * (d 3 + 256 * (d 4 + 256 * (d 5 + 256 * (d 6 + 256 * (d 7 + 256 * 0)))))))
    digits d = omega arith

    at : (j : ℕ) → j < 8 → get_or (take 8 (drop i s)) j 0 ≡ get_or (drop i s) j 0
    at j h = get_or-take 8 (drop i s) j 0 h

-- the eight bytes of a number
pub eight_bytes : (n : ℕ) → to_le_bytes w64 n ≡ wide_bytes 8 n
eight_bytes n =
    let b : n / 65536 ≡ n / 256 / 256 = omega arith in
    let c : n / 16777216 ≡ n / 256 / 256 / 256 = omega arith in
    let d : n / 4294967296 ≡ n / 256 / 256 / 256 / 256 = omega arith in
    let e : n / 1099511627776 ≡ n / 256 / 256 / 256 / 256 / 256 = omega arith in
    let f : n / 281474976710656 ≡ n / 256 / 256 / 256 / 256 / 256 / 256 = omega arith in
    let g : n / 72057594037927936 ≡ n / 256 / 256 / 256 / 256 / 256 / 256 / 256 = omega arith in
    λ x. (n % 256) ∷ (n / 256 % 256) ∷ (b x % 256) ∷ (c x % 256) ∷ (d x % 256) ∷ (e x % 256) ∷ (f x % 256) ∷ (g x % 256) ∷ []
