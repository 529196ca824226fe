-- Sets as the bits of a number, and the bucket queue: one subject put in, a group taken out, and how many are in a set. Assumes nothing.
use mathlib.Core.Path.{◌≡◌, refl, sym, ap, subst, ◌∙◌}
use mathlib.Core.Logic.{◌≢◌, ◌⊎◌, inl, inr}
use mathlib.Core.Bool.{Bool, true, false, not, cond}
use mathlib.Core.List.{List}
use Prim.Native.Nat.{ℕ, zero, suc, ◌-◌, ◌/◌, ◌%◌, ◌^◌, ◌≤◌, ◌<◌, min}
use native.Mathlib.Nat.{zero-lt-suc, pow-suc}
use native.Mathlib.Omega.{arith}
use lib.Bits.{bit_and}
use mir.Syntax.{w64}
use Rattle.std.specs.Int.{bit_at, bit_not}
use Rattle.std.proofs.lemmas.Nat.Bits.{bit_at_lowest, bit_at-suc, bit_at_not}
use lib.Count.{under, count_trailing_zeros}
use lib.Dec.{T, eqb, eqb→eq, ltb, ltb→lt, nltb→le}
use lib.ListN.{length, get_or, set, replicate, length-set, length-replicate, get_or-replicate, get_or-eq_default}
use lib.Seq.{get_or-set_same, get_or-set_other}
use Rattle.rules.proofs.Lists.{T_true, unset, either, eq_to_eqb, eq_or}
use Rattle.rules.specs.Bits.{bit, BitPut}
use Rattle.rules.proofs.Bits.{bit_zero, bit_small, bit_high, bit_and_lem}
use Rattle.queue.specs.Queue.{set_bits, Without, Lowest, left, members, waits, group_of, place_of, Covered, Taken}

-- what is left of a set without the members of another
pub bits_without : (n m : ℕ) → n < 2 ^ set_bits → m < 2 ^ set_bits → Without n m (bit_and n (bit_not w64 m))
bits_without n m h k y = bit_and_lem n (bit_not w64 m) y ∙ go (either (ltb y set_bits))
  where
    at : (x i : ℕ) → bit x i ≡ bit_at x i
    at x zero = sym (bit_at_lowest x)
    at x (suc i) = at (x / 2) i ∙ sym (bit_at-suc x i)

    go : T (ltb y set_bits) ⊎ T (not (ltb y set_bits)) → min (bit n y) (bit (bit_not w64 m) y) ≡ bit n y - bit m y
    go (inl q) = omega (arith, at (bit_not w64 m) y, bit_at_not w64 m y k (ltb→lt y set_bits q), at m y, bit_small n y, bit_small m y)
    go (inr q) = omega (arith, bit_high n set_bits y h (nltb→le y set_bits q))

-- a member less
pub put_out : (n y one m : ℕ) → BitPut 0 y 1 one → Without n one m → BitPut n y 0 m
put_out n y one m put w = record {
  here = w y ∙ omega (arith, bit_small n y, put.here);
  others = λ x d. w x ∙ omega (arith, put.others x d ∙ bit_zero x);
}

-- ── one who waits more or less ──
-- a group in which none waits needs no cover
pub covered_take : (q q' : List ℕ) (g settled r far far' : ℕ) → Covered q far → Taken q g settled r q' → BitPut far g 0 far' → Covered q' far'
covered_take q q' g settled r far far' c t put x w h = go (eq_or g x)
  where
    go : (g ≡ x) ⊎ (g ≢ x) → waits q' x w ≡ 0
    go (inl e) = subst (λ (i : ℕ). waits q' i w ≡ 0) e (t.none w)
    go (inr n) = t.others x w n ∙ c x w (sym (put.others x n) ∙ h)

-- all who wait in a group taken
pub taken : (q : List ℕ) (g settled r : ℕ) → g < length q → Without (get_or q g 0) settled r → Taken q g settled r (set q g 0)
taken q g settled r h w = record {
  size = length-set q g 0;
  each = w;
  none = λ y. ap (λ (m : ℕ). bit m y) (get_or-set_same q g 0 0 h) ∙ bit_zero y;
  others = λ x y n. ap (λ (m : ℕ). bit m y) (get_or-set_other q g x 0 0 (λ e. n (sym e)));
}

-- none waits in an empty queue
pub empty_waits : (n x y : ℕ) → waits (replicate n 0) x y ≡ 0
empty_waits n x y = go (either (ltb x n))
  where
    go : T (ltb x n) ⊎ T (not (ltb x n)) → waits (replicate n 0) x y ≡ 0
    go (inl l) = ap (λ (m : ℕ). bit m y) (get_or-replicate n x 0 0 (ltb→lt x n l)) ∙ bit_zero y
    go (inr l) = ap (λ (m : ℕ). bit m y) (get_or-eq_default (replicate n 0) 0 (omega (arith, length-replicate n (zero), nltb→le x n l))) ∙ bit_zero y

-- the lowest member
pub trailing_bit : (k n : ℕ) → count_trailing_zeros k n < k → bit n (count_trailing_zeros k n) ≡ 1
unfolding count_trailing_zeros
trailing_bit zero n h = absurd (omega arith)
trailing_bit (suc k) n h = go (n % 2) refl (trailing_bit k (n / 2)) h
  where
    go : (d : ℕ) → n % 2 ≡ d → (count_trailing_zeros k (n / 2) < k → bit (n / 2) (count_trailing_zeros k (n / 2)) ≡ 1) → under d (count_trailing_zeros k (n / 2)) < suc k → bit n (under d (count_trailing_zeros k (n / 2))) ≡ 1
    go zero e more b = more (omega arith)
    go (suc d) e more b = omega (arith, bit_small n 0)

pub trailing_few : (k n : ℕ) → n ≢ 0 → n < 2 ^ k → count_trailing_zeros k n < k
unfolding count_trailing_zeros
trailing_few zero n h l = absurd (h (omega arith))
trailing_few (suc k) n h l = go (n % 2) refl (trailing_few k (n / 2))
  where
    go : (d : ℕ) → n % 2 ≡ d → (n / 2 ≢ 0 → n / 2 < 2 ^ k → count_trailing_zeros k (n / 2) < k) → under d (count_trailing_zeros k (n / 2)) < suc k
    go zero e more = omega (arith, more (λ z. h (omega arith)) (omega (arith, l, pow-suc 2 k)))
    go (suc d) e more = zero-lt-suc k

-- and none below it
pub trailing_least : (k n i : ℕ) → i < count_trailing_zeros k n → bit n i ≡ 0
unfolding count_trailing_zeros
trailing_least zero n i h = absurd (omega arith)
trailing_least (suc k) n i h = go (n % 2) refl i (trailing_least k (n / 2)) h
  where
    go : (d : ℕ) → n % 2 ≡ d → (j : ℕ) → ((y : ℕ) → y < count_trailing_zeros k (n / 2) → bit (n / 2) y ≡ 0) → j < under d (count_trailing_zeros k (n / 2)) → bit n j ≡ 0
    go zero e zero more b = e
    go zero e (suc j) more b = more j (omega arith)
    go (suc d) e j more b = absurd (omega arith)

pub lowest_of : (n : ℕ) → n ≢ 0 → n < 2 ^ set_bits → Lowest n (count_trailing_zeros set_bits n)
lowest_of n some h = let few = trailing_few set_bits n some h in record { small = few; member = trailing_bit set_bits n few; least = trailing_least set_bits n }

same_test : (m n : ℕ) → m ≡ n → eqb m n ≡ true
same_test m n e = T_true (eqb m n) (eq_to_eqb e)

other_test : (m n : ℕ) → m ≢ n → eqb m n ≡ false
other_test m n d = go (either (eqb m n))
  where
    go : T (eqb m n) ⊎ T (not (eqb m n)) → eqb m n ≡ false
    go (inl h) = absurd (d (eqb→eq m n h))
    go (inr h) = unset (eqb m n) h

-- ── how many are open ──
pub left_few : (f : ℕ → Bool) (n : ℕ) → left f n ≤ n
unfolding left
left_few f zero = omega arith
left_few f (suc n) = go (f n) (left_few f n)
  where
    go : (b : Bool) → left f n ≤ n → cond b (left f n) (suc (left f n)) ≤ suc n
    go true h = omega arith
    go false h = omega arith

-- no more of them where g holds wherever f does
left_most : (f g : ℕ → Bool) (n : ℕ) → ((y : ℕ) → T (f y) → T (g y)) → left g n ≤ left f n
unfolding left
left_most f g zero o = omega arith
left_most f g (suc n) o = go (f n) (g n) (o n) (left_most f g n o)
  where
    go : (x y : Bool) → (T x → T y) → left g n ≤ left f n → cond y (left g n) (suc (left g n)) ≤ cond x (left f n) (suc (left f n))
    go true true i h = h
    go true false i h = absurd (i tt)
    go false true i h = omega arith
    go false false i h = omega arith

-- and fewer where it also holds for another
pub left_falls : (f g : ℕ → Bool) (n u : ℕ) → u < n → T (not (f u)) → T (g u) → ((y : ℕ) → T (f y) → T (g y)) → left g n < left f n
unfolding left
left_falls f g zero u h a b o = absurd (omega arith)
left_falls f g (suc n) u h a b o = go (eq_or u n) (left_falls f g n u)
  where
    here : (x y : Bool) → T (not x) → T y → left g n ≤ left f n → cond y (left g n) (suc (left g n)) < cond x (left f n) (suc (left f n))
    here false true a b k = omega arith
    here true y a b k = absurd a
    here false false a b k = absurd b

    both : (x y : Bool) → (T x → T y) → left g n < left f n → cond y (left g n) (suc (left g n)) < cond x (left f n) (suc (left f n))
    both true true i k = k
    both true false i k = absurd (i tt)
    both false true i k = omega arith
    both false false i k = omega arith

    go : (u ≡ n) ⊎ (u ≢ n) → (u < n → T (not (f u)) → T (g u) → ((y : ℕ) → T (f y) → T (g y)) → left g n < left f n)
        → cond (g n) (left g n) (suc (left g n)) < cond (f n) (left f n) (suc (left f n))
    go (inl e) more = here (f n) (g n) (subst (λ (i : ℕ). T (not (f i))) e a) (subst (λ (i : ℕ). T (g i)) e b) (left_most f g n o)
    go (inr d) more = both (f n) (g n) (o n) (more (omega (arith, d)) a b o)

pub members_few : (n : ℕ) → members n ≤ set_bits
members_few n = left_few (λ y. eqb (bit n y) 0) set_bits

-- fewer where one is missing and none is new
pub members_fall : (n m y : ℕ) → y < set_bits → bit n y ≡ 1 → bit m y ≡ 0 → ((x : ℕ) → bit n x ≡ 0 → bit m x ≡ 0) → members m < members n
members_fall n m y h w out part =
    left_falls (λ x. eqb (bit n x) 0) (λ x. eqb (bit m x) 0) set_bits y h (subst (λ (b : Bool). T (not b)) (sym (other_test (bit n y) 0 (λ e. omega (arith, sym w ∙ e)))) tt) (eq_to_eqb out)
    (λ x k. eq_to_eqb (part x (eqb→eq (bit n x) 0 k)))

-- as where one member is taken out
pub part_put : (n m y : ℕ) → BitPut n y 0 m → (x : ℕ) → bit n x ≡ 0 → bit m x ≡ 0
part_put n m y put x e = go (eq_or y x)
  where
    go : (y ≡ x) ⊎ (y ≢ x) → bit m x ≡ 0
    go (inl i) = ap (bit m) (sym i) ∙ put.here
    go (inr d) = put.others x d ∙ e

-- the entry of a level
place_by : (a b : Bool) (g : ℕ) {x y : Bool} → x ≡ a → y ≡ b → cond x 0 (cond y 1 (suc (suc g))) ≡ cond a 0 (cond b 1 (suc (suc g)))
place_by a b g e f i = cond (e i) 0 (cond (f i) 1 (suc (suc g)))

pub place_here : (at z : ℕ) → z ≡ at → place_of at z ≡ 0
place_here at z e = place_by true true (group_of z) (same_test z at e) (same_test (group_of z) (group_of at) (ap group_of e))

pub place_near : (at z : ℕ) → z ≢ at → group_of z ≡ group_of at → place_of at z ≡ 1
place_near at z d e = place_by false true (group_of z) (other_test z at d) (same_test (group_of z) (group_of at) e)

pub place_far : (at z : ℕ) → group_of z ≢ group_of at → place_of at z ≡ suc (suc (group_of z))
place_far at z d = place_by false false (group_of z) (other_test z at (λ e. d (ap group_of e))) (other_test (group_of z) (group_of at) d)
