-- Twelve bytes stored four by four are the answers, and read back they are the same answers. Assumes nothing.
use mathlib.Core.Path.{◌≡◌, refl, sym, ap, ◌∙◌}
use mathlib.Core.List.{List, [], ◌++◌}
use Prim.Native.Nat.{ℕ, zero, suc, ◌+◌, ◌*◌, ◌-◌, ◌/◌, ◌%◌, ◌≤◌, ◌<◌}
use native.Mathlib.Nat.{div-div-eq-div-mul, mod-eq_of_lt}
use native.Mathlib.Omega.{arith}
use borrow.Author.Tests.{lt-ltb, le-ltb}
use lib.Signed.{mag}
use lib.IntN.{ℤ, pos, negsuc}
use lib.ListN.{length, drop_of_length-le}
use lib.Seq.{sets, sets-eq}
use Rattle.block.specs.Bytes.{IsBytes}
use Rattle.block.proofs.Bytes.{bytes_append}
use Rattle.seatreg.specs.Answers.{bits, four_bytes, answer_bytes, signed, answer_in}

whole : (s vs : List ℕ) → length vs ≡ length s → sets s 0 vs ≡ vs ++ []
whole s vs e =
    let h : 0 + length vs ≤ length s = omega arith in
    sets-eq vs s 0 h ∙ ap (λ (r : List ℕ). vs ++ r) (drop_of_length-le s {i = 0 + length vs} (omega arith))

pub stored : (s s1 s2 s3 : List ℕ) (first second third : ℤ) (x y z : ℕ) → length s ≡ 12
    → x ≡ bits first → s1 ≡ sets s 0 (four_bytes x)
    → y ≡ bits second → s2 ≡ sets s1 4 (four_bytes y)
    → z ≡ bits third → s3 ≡ sets s2 8 (four_bytes z)
    → s3 ≡ answer_bytes first second third
unfolding answer_bytes
stored s s1 s2 s3 first second third x y z n ex e1 ey e2 ez e3 =
    rw (e3, e2, e1, ex, ey, ez) (whole s (four_bytes (bits first) ++ four_bytes (bits second) ++ four_bytes (bits third)) (sym n))

-- ── what the twelve bytes are ──
four_bytes_lem : (n : ℕ) → IsBytes (four_bytes n)
four_bytes_lem n zero = omega arith
four_bytes_lem n (suc zero) = omega arith
four_bytes_lem n (suc (suc zero)) = omega arith
four_bytes_lem n (suc (suc (suc zero))) = omega arith
four_bytes_lem n (suc (suc (suc (suc i)))) = omega arith

module _ (a b c : ℤ) where
  pub length_answers : length (answer_bytes a b c) ≡ 12
  unfolding answer_bytes
  length_answers = refl

  pub bytes_answers : IsBytes (answer_bytes a b c)
  unfolding answer_bytes
  bytes_answers =
      bytes_append (four_bytes (bits a)) (four_bytes (bits b) ++ four_bytes (bits c)) (four_bytes_lem (bits a)) (bytes_append (four_bytes (bits b)) (four_bytes (bits c)) (four_bytes_lem (bits b)) (four_bytes_lem (bits c)))

-- ── read back ──

-- a signed number of 32 bits
abbrev pub Fits32 : ℤ → Type 0
Fits32 z = mag z < 2147483648

split : (n : ℕ) → n ≡ n % 256 + (n / 256) * 256
split n = omega arith

joined : (n a m b p c q d : ℕ) → n ≡ a + m * 256 → m ≡ b + p * 256 → p ≡ c + q * 256 → q ≡ d → a + b * 256 + c * 65536 + d * 16777216 ≡ n
joined n a m b p c q d e f g h = omega arith

four_back : (n : ℕ) → n ≤ 4294967295 → n % 256 + (n / 256 % 256) * 256 + (n / 65536 % 256) * 65536 + (n / 16777216 % 256) * 16777216 ≡ n
four_back n h =
    let p : n / 256 / 256 ≡ n / 65536 = div-div-eq-div-mul n 256 256 in
    let q : n / 65536 / 256 ≡ n / 16777216 = div-div-eq-div-mul n 65536 256 in
    let l : n / 16777216 < 256 = omega (arith, h) in
    joined n (n % 256) (n / 256) (n / 256 % 256) (n / 65536) (n / 65536 % 256) (n / 16777216) (n / 16777216 % 256)
    (split n) (rw p at (split (n / 256))) (rw q at (split (n / 65536))) (sym (mod-eq_of_lt l))

signed_back : (z : ℤ) → Fits32 z → signed (bits z) ≡ z
signed_back (pos n) h = rw (lt-ltb n 2147483648 h)
signed_back (negsuc n) h = rw (le-ltb (4294967295 - n) 2147483648 (omega arith)) (ap negsuc (omega arith))

bits_most : (z : ℤ) → Fits32 z → bits z ≤ 4294967295
bits_most (pos n) h = omega arith
bits_most (negsuc n) h = omega arith

back : (z : ℤ) → Fits32 z → signed (bits z % 256 + (bits z / 256 % 256) * 256 + (bits z / 65536 % 256) * 65536 + (bits z / 16777216 % 256) * 16777216) ≡ z
back z h = ap signed (four_back (bits z) (bits_most z h)) ∙ signed_back z h

module _ (a b c : ℤ) where
  pub first_back : Fits32 a → answer_in (answer_bytes a b c) 0 ≡ a
  unfolding answer_bytes
  first_back h = back a h

  pub second_back : Fits32 b → answer_in (answer_bytes a b c) 1 ≡ b
  unfolding answer_bytes
  second_back h = back b h

  pub third_back : Fits32 c → answer_in (answer_bytes a b c) 2 ≡ c
  unfolding answer_bytes
  third_back h = back c h
