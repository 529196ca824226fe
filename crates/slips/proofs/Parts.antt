-- The parts of a slip: its five bytes, written and read back. Assumes nothing.
use mathlib.Core.Path.{◌≡◌, refl, sym, ap, subst, ◌∙◌}
use mathlib.Core.Logic.{◌≢◌, ◌⊎◌, inl, inr}
use mathlib.Core.Bool.{Bool, true, false, cond, not, ◌&&◌, ◌||◌}
use mathlib.Core.List.{List, [], ◌∷◌, ◌++◌, append_assoc}
use Prim.Native.Nat.{ℕ, ◌+◌, ◌-◌, ◌≤◌}
use native.Mathlib.Omega.{arith}
use borrow.Author.Tests.{ne_eqb}
use borrow.Rule.Slice.PartMut.{put_mid}
use lib.Dec.{T, eqb, eqb→eq}
use lib.ListN.{length, get_or, drop, length-append, take-append-drop}
use lib.Seq.{drop-cons, take_at, drop_at, get_or-append-add}
use Rattle.rules.specs.Round.{equal}
use Rattle.rules.specs.Cut.{Cut, removal, lowering, giver_of}
use Rattle.rules.specs.Call.{cut_call}
use Rattle.rules.proofs.Lists.{T_true, either, unset, eq_to_eqb}
use Rattle.block.specs.Layout.{block_size}
use Rattle.change.proofs.Bringing.{three_stored}
use Rattle.refusals.specs.Checked.{InLimits}
use Rattle.slips.specs.Slip.{cut_bytes, slip, after_at, slip_size, slip_before, slip_after, slip_byte, cut_of, slip_by, slip_giver, slip_cut, is_cut}
use Rattle.slips.proofs.Equal.{equal_self, equal_differ}

-- ── the test of the number and the weight ──
pub cut_revoke : (n w : ℕ) → n ≡ 2 → is_cut n w ≡ eqb w 0
cut_revoke n w e = (λ j. eqb (e j) 2 && eqb w 0 || eqb (e j) 3) ∙ or_false (eqb w 0)
  where
    or_false : (x : Bool) → (x || false) ≡ x
    or_false true = refl
    or_false false = refl

pub cut_other : (n w : ℕ) → n ≢ 2 → is_cut n w ≡ eqb n 3
cut_other n w k = ap (λ (x : Bool). x && eqb w 0 || eqb n 3) (ne_eqb n 2 k)

-- 2 and no weight, or 3
cut_numbers : (n w : ℕ) → T (is_cut n w) → ((n ≡ 2) × (w ≡ 0)) ⊎ (n ≡ 3)
cut_numbers n w h = go (either (eqb n 2))
  where
    three : (x : Bool) → T (not x) → T (x && eqb w 0 || eqb n 3) → T (eqb n 3)
    three true k i = absurd k
    three false k i = i

    go : T (eqb n 2) ⊎ T (not (eqb n 2)) → ((n ≡ 2) × (w ≡ 0)) ⊎ (n ≡ 3)
    go (inl k) = let e = eqb→eq n 2 k in inl (e, eqb→eq w 0 (subst T (cut_revoke n w e) h))
    go (inr k) = inr (eqb→eq n 3 (three (eqb n 2) k h))

module _ (n y g r w : ℕ) where
  abbrev five : List ℕ
  five = n ∷ y ∷ g ∷ r ∷ w ∷ []

  -- a cut of such a number has these bytes, and no other cut has
  pub cut_bytes_lem : T (is_cut n w) → cut_bytes y (cut_of n g r w) ≡ five
  cut_bytes_lem h = go (cut_numbers n w h)
    where
      go : ((n ≡ 2) × (w ≡ 0)) ⊎ (n ≡ 3) → cut_bytes y (cut_of n g r w) ≡ five
      go (inl (e, z)) = (λ j. cut_bytes y (cut_of (e j) g r w)) ∙ (λ j. sym e j ∷ y ∷ g ∷ r ∷ sym z j ∷ [])
      go (inr e) = (λ j. cut_bytes y (cut_of (e j) g r w)) ∙ (λ j. sym e j ∷ y ∷ g ∷ r ∷ w ∷ [])

  bytes_cut : cut_bytes y (cut_of n g r w) ≡ five → T (is_cut n w)
  bytes_cut q = go (eqb n 2) refl q
    where
      go : (x : Bool) → eqb n 2 ≡ x → cut_bytes y (cond x (removal g r) (lowering g r w)) ≡ five → T (x && eqb w 0 || eqb n 3)
      go true e p = subst (λ (z : ℕ). T (eqb z 0 || eqb n 3)) (ap (λ (s : List ℕ). get_or s 4 0) p) tt
      go false e p = eq_to_eqb (sym (ap (λ (s : List ℕ). get_or s 0 0) p))

  pub bytes_test : equal (cut_bytes y (cut_of n g r w)) five ≡ is_cut n w
  bytes_test = go (either (is_cut n w))
    where
      go : T (is_cut n w) ⊎ T (not (is_cut n w)) → equal (cut_bytes y (cut_of n g r w)) five ≡ is_cut n w
      go (inl h) = ap (λ (s : List ℕ). equal s five) (cut_bytes_lem h) ∙ equal_self five ∙ sym (T_true (is_cut n w) h)
      go (inr h) = let z = unset (is_cut n w) h in equal_differ (cut_bytes y (cut_of n g r w)) five (λ p. subst T z (bytes_cut p)) ∙ sym z

  -- the numbers of an accepted one are bytes
  pub cut_limits : T (is_cut n w) → InLimits (cut_call y (cut_of n g r w)) → (y ≤ 63) × (g ≤ 63) × (r ≤ 63) × (w ≤ 255)
  cut_limits h i = go (cut_numbers n w h)
    where
      go : ((n ≡ 2) × (w ≡ 0)) ⊎ (n ≡ 3) → (y ≤ 63) × (g ≤ 63) × (r ≤ 63) × (w ≤ 255)
      go (inl (e, z)) = let k = subst (λ (m : ℕ). InLimits (cut_call y (cut_of m g r w))) e i in (k.0, k.1.0, k.1.1.0, omega (arith, z))
      go (inr e) = let k = subst (λ (m : ℕ). InLimits (cut_call y (cut_of m g r w))) e i in (k.0.0, k.0.1.0, k.0.1.1.0, k.1)

-- ── written part by part over any bytes ──
pub slip_stored : (s b z b' : List ℕ) → length s ≡ slip_size → length b ≡ block_size → length z ≡ 5 → {u v w : List ℕ} → u ≡ b → v ≡ z → w ≡ b'
    → (let r = put_mid block_size (after_at - block_size) (u ++ drop block_size s) v in put_mid after_at (length r - after_at) r w) ≡ b ++ (z ++ b')
slip_stored s b z b' e h k p q t =
    (λ j. let r = put_mid block_size (after_at - block_size) (p j ++ drop block_size s) (q j) in put_mid after_at (length r - after_at) r (t j))
    ∙ three_stored s b z b' block_size after_at h (omega (arith, k)) (omega arith) (omega (arith, e))

-- ── any bytes of a slip's length are its parts ──
pub slip_parts : (s : List ℕ) → length s ≡ slip_size → s ≡ slip_before s ++ ((slip_byte s 0 ∷ slip_byte s 1 ∷ slip_byte s 2 ∷ slip_byte s 3 ∷ slip_byte s 4 ∷ []) ++ slip_after s)
slip_parts s l =
    sym (take-append-drop block_size s)
    ∙ ap (λ (r : List ℕ). slip_before s ++ r) (drop-cons s 2188 0 (omega (arith, l)))
    ∙ ap (λ (r : List ℕ). slip_before s ++ (slip_byte s 0 ∷ r)) (drop-cons s 2189 0 (omega (arith, l)))
    ∙ ap (λ (r : List ℕ). slip_before s ++ (slip_byte s 0 ∷ slip_byte s 1 ∷ r)) (drop-cons s 2190 0 (omega (arith, l)))
    ∙ ap (λ (r : List ℕ). slip_before s ++ (slip_byte s 0 ∷ slip_byte s 1 ∷ slip_byte s 2 ∷ r)) (drop-cons s 2191 0 (omega (arith, l)))
    ∙ ap (λ (r : List ℕ). slip_before s ++ (slip_byte s 0 ∷ slip_byte s 1 ∷ slip_byte s 2 ∷ slip_byte s 3 ∷ r)) (drop-cons s 2192 0 (omega (arith, l)))

-- ── what was written is read back ──
pub five_long : (y : ℕ) (k : Cut) → length (cut_bytes y k) ≡ 5
five_long y (removal g r) = refl
five_long y (lowering g r w) = refl

-- z are the five bytes
module _ (b z b' : List ℕ) (h : length b ≡ block_size) where
  pub parts_long : length z ≡ 5 → length b' ≡ block_size → length (b ++ (z ++ b')) ≡ slip_size
  parts_long l h' = length-append b (z ++ b') ∙ omega (arith, h, h', length-append z b', l)

  pub parts_byte : (i : ℕ) → slip_byte (b ++ (z ++ b')) i ≡ get_or (z ++ b') i 0
  parts_byte i = let e : block_size + i ≡ length b + i = omega (arith, h) in ap (λ (m : ℕ). get_or (b ++ (z ++ b')) m 0) e ∙ get_or-append-add b (z ++ b') i 0

  pub parts_after : length z ≡ 5 → slip_after (b ++ (z ++ b')) ≡ b'
  parts_after l = ap (drop after_at) (sym (append_assoc b z b')) ∙ drop_at (b ++ z) b' after_at (length-append b z ∙ omega (arith, h, l))

module _ (b : List ℕ) (y : ℕ) (k : Cut) (b' : List ℕ) (h : length b ≡ block_size) where
  pub slip_before_lem : slip_before (slip b y k b') ≡ b
  slip_before_lem = take_at b (cut_bytes y k ++ b') block_size h

  pub slip_after_lem : slip_after (slip b y k b') ≡ b'
  slip_after_lem = parts_after b (cut_bytes y k) b' h (five_long y k)

  pub slip_long : length b' ≡ block_size → length (slip b y k b') ≡ slip_size
  slip_long h' = parts_long b (cut_bytes y k) b' h (five_long y k) h'

  byte : (i : ℕ) → slip_byte (slip b y k b') i ≡ get_or (cut_bytes y k ++ b') i 0
  byte = parts_byte b (cut_bytes y k) b' h

pub slip_by_lem : (b : List ℕ) (y : ℕ) (k : Cut) (b' : List ℕ) → length b ≡ block_size → slip_by (slip b y k b') ≡ y
slip_by_lem b y (removal g r) b' h = byte b y (removal g r) b' h 1
slip_by_lem b y (lowering g r w) b' h = byte b y (lowering g r w) b' h 1

pub slip_giver_lem : (b : List ℕ) (y : ℕ) (k : Cut) (b' : List ℕ) → length b ≡ block_size → slip_giver (slip b y k b') ≡ giver_of k
slip_giver_lem b y (removal g r) b' h = byte b y (removal g r) b' h 2
slip_giver_lem b y (lowering g r w) b' h = byte b y (lowering g r w) b' h 2

pub slip_cut_lem : (b : List ℕ) (y : ℕ) (k : Cut) (b' : List ℕ) → length b ≡ block_size → slip_cut (slip b y k b') ≡ k
slip_cut_lem b y (removal g r) b' h = let k = removal g r in λ j. cut_of (byte b y k b' h 0 j) (byte b y k b' h 2 j) (byte b y k b' h 3 j) (byte b y k b' h 4 j)
slip_cut_lem b y (lowering g r w) b' h = let k = lowering g r w in λ j. cut_of (byte b y k b' h 0 j) (byte b y k b' h 2 j) (byte b y k b' h 3 j) (byte b y k b' h 4 j)
