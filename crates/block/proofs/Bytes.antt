-- Laws of two-byte numbers, of bytes stored after a front, of values of a fixed width written and read back, and of tests over places. Assumes nothing.
use mathlib.Core.Path.{◌≡◌, refl, sym, ap, subst, ◌∙◌}
use mathlib.Core.Logic.{◌⊎◌, inl, inr}
use mathlib.Core.Bool.{Bool, not}
use mathlib.Core.List.Memᴰ
use mathlib.Core.List.{List, [], ◌∷◌, ◌++◌, append_assoc}
use Prim.Native.Nat.{ℕ, zero, suc, ◌+◌, ◌*◌, ◌-◌, ◌/◌, ◌%◌, ◌≤◌, ◌<◌}
use native.Mathlib.Nat.{add-zero, add-suc, suc-add, mul-zero, mul-suc, add-mul-mod_self_right, add-mul-div_right, mod-eq_of_lt, div-eq_of_lt, le_of_suc-le-suc, not-suc-le-zero}
use native.Mathlib.Omega.{arith}
use mir.Syntax.{w8}
use mir.Val.{Fits}
use lib.Dec.{T, ltb, ltb→lt, nltb→le}
use lib.ListN.{length, get_or, set, take, drop, replicate, length-append, length-take, length-drop, get_or-append, get_or-eq_default}
use lib.Seq.{get_or-take, get_or-drop, get_or-append-add, set_at, append_snoc, drop-cons, drop_at, take-add, drop-drop}
use Rattle.rules.specs.List.{◌∈◌, tabulate, concat_map}
use Rattle.rules.proofs.Lists.{T_left, T_right, T_both, either}
use Rattle.block.specs.Bytes.{IsBytes, two, two_bytes, read_all, padded, all_from}

-- ── two-byte numbers ──
pub two_bytes_two : (a b : ℕ) → a < 256 → b < 256 → two_bytes (a + b * 256) ≡ (a ∷ b ∷ [])
two_bytes_two a b h k =
    let p : (a + b * 256) % 256 ≡ a = add-mul-mod_self_right a b 256 ∙ mod-eq_of_lt h in
    let d : (a + b * 256) / 256 ≡ b = omega (arith, add-mul-div_right a b {z = 256} (omega arith), div-eq_of_lt h) in
    let q : (a + b * 256) / 256 % 256 ≡ b = ap (λ (n : ℕ). n % 256) d ∙ mod-eq_of_lt k in
    λ i. p i ∷ q i ∷ []

pub two_two_bytes : (n : ℕ) → n ≤ 65535 → n % 256 + (n / 256 % 256) * 256 ≡ n
two_two_bytes n h = omega arith

pub two_most : (s : List ℕ) → IsBytes s → (i : ℕ) → two s i ≤ 65535
two_most s h i = omega (arith, h i, h (i + 1))

-- ── bytes ──

-- what a slice of bytes holds
pub fits_bytes : (s : List ℕ) → ((i : ℕ) → Fits w8 (get_or s i 0)) → IsBytes s
fits_bytes s h i = omega (arith, h i)

pub bytes_drop : (n : ℕ) (s : List ℕ) → IsBytes s → IsBytes (drop n s)
bytes_drop n s h i = subst (λ (x : ℕ). x < 256) (sym (get_or-drop n s i 0)) (h (n + i))

pub bytes_take : (n : ℕ) (s : List ℕ) → IsBytes s → IsBytes (take n s)
bytes_take n s h i = go (either (ltb i n))
  where
    go : T (ltb i n) ⊎ T (not (ltb i n)) → get_or (take n s) i 0 < 256
    go (inl l) = subst (λ (x : ℕ). x < 256) (sym (get_or-take n s i 0 (ltb→lt i n l))) (h i)
    go (inr l) = subst (λ (x : ℕ). x < 256) (sym (get_or-eq_default (take n s) 0 (omega (arith, nltb→le i n l, length-take n s)))) (omega arith)

pub bytes_append : (xs ys : List ℕ) → IsBytes xs → IsBytes ys → IsBytes (xs ++ ys)
bytes_append xs ys h k i = go (either (ltb i (length xs)))
  where
    go : T (ltb i (length xs)) ⊎ T (not (ltb i (length xs))) → get_or (xs ++ ys) i 0 < 256
    go (inl q) = subst (λ (x : ℕ). x < 256) (sym (get_or-append xs ys 0 i (ltb→lt i (length xs) q))) (h i)
    go (inr q) =
        let l = nltb→le i (length xs) q in
        let e : length xs + (i - length xs) ≡ i = omega arith in
        subst (λ (x : ℕ). x < 256) (sym (get_or-append-add xs ys (i - length xs) 0) ∙ ap (λ (j : ℕ). get_or (xs ++ ys) j 0) e) (k (i - length xs))

pub bytes_zeros : (n : ℕ) → IsBytes (replicate n 0)
bytes_zeros zero i = omega arith
bytes_zeros (suc n) zero = omega arith
bytes_zeros (suc n) (suc i) = bytes_zeros n i

-- two bytes stored after a front of length n
pub two_stored : (front buf : List ℕ) (n a b : ℕ) → length front ≡ n → suc (suc n) ≤ length buf → set (set (front ++ drop n buf) n a) (n + 1) b ≡ (front ++ (a ∷ b ∷ [])) ++ drop (suc (suc n)) buf
two_stored front buf n a b e room =
    ap (λ (l : List ℕ). set (set (front ++ l) n a) (n + 1) b) two
    ∙ ap (λ (z : List ℕ). set z (n + 1) b) (set_at front (get_or buf n 0) (get_or buf (suc n) 0 ∷ drop (suc (suc n)) buf) a n e ∙ sym (append_snoc front a (get_or buf (suc n) 0 ∷ drop (suc (suc n)) buf)))
    ∙ set_at (front ++ (a ∷ [])) (get_or buf (suc n) 0) (drop (suc (suc n)) buf) b (n + 1) (length-append front (a ∷ []) ∙ omega (arith, e))
    ∙ simp append_assoc
  where
    two : drop n buf ≡ get_or buf n 0 ∷ get_or buf (suc n) 0 ∷ drop (suc (suc n)) buf
    two = drop-cons buf n 0 (omega (arith, room)) ∙ ap (λ (z : List ℕ). get_or buf n 0 ∷ z) (drop-cons buf (suc n) 0 (omega (arith, room)))

-- ── the values of a function, one place on ──
pub tabulate_suc : {A : Type 0} (f : ℕ → A) (i n : ℕ) → tabulate f (suc i) n ≡ tabulate (λ k. f (suc k)) i n
tabulate_suc f i zero = refl
tabulate_suc f i (suc n) = λ j. f (suc i) ∷ tabulate_suc f (suc i) n j

pub length_tabulate : {A : Type 0} (f : ℕ → A) (i n : ℕ) → length (tabulate f i n) ≡ n
length_tabulate f i zero = refl
length_tabulate f i (suc n) = ap suc (length_tabulate f (suc i) n)

pub tabulate_mem : {A : Type 0} (f : ℕ → A) (i n : ℕ) {x : A} → x ∈ tabulate f i n → (k : ℕ) × (k < n) × (x ≡ f (i + k))
tabulate_mem f i zero m = absurd (Memᴰ.not-nil m)
tabulate_mem f i (suc n) (Memᴰ.head e) = (zero, omega arith, e ∙ ap f (sym (add-zero i)))
tabulate_mem f i (suc n) (Memᴰ.tail m) = let (k, l, e) = tabulate_mem f (suc i) n m in (suc k, omega arith, e ∙ ap f (suc-add i k ∙ sym (add-suc i k)))

pub mem_tabulate : {A : Type 0} (f : ℕ → A) (i n k : ℕ) → k < n → f (i + k) ∈ tabulate f i n
mem_tabulate f i zero k l = absurd (not-suc-le-zero l)
mem_tabulate f i (suc n) zero l = Memᴰ.head (ap f (add-zero i))
mem_tabulate f i (suc n) (suc k) l = Memᴰ.tail (subst (λ (m : ℕ). f m ∈ tabulate f (suc i) n) (suc-add i k ∙ sym (add-suc i k)) (mem_tabulate f (suc i) n k (le_of_suc-le-suc l)))

pub get_or_mem : {A : Type 0} (xs : List A) (k : ℕ) (d : A) → k < length xs → get_or xs k d ∈ xs
get_or_mem [] k d l = absurd (not-suc-le-zero l)
get_or_mem (x ∷ xs) zero d l = Memᴰ.head refl
get_or_mem (x ∷ xs) (suc k) d l = Memᴰ.tail (get_or_mem xs k d (le_of_suc-le-suc l))

-- ── values of a fixed width ──
module _ {A : Type 0} (f : List ℕ → A) (w : ℕ) where
  -- the first value, and the others from the next place on
  read_all_suc : (s : List ℕ) (n : ℕ) → read_all f w s (suc n) ≡ (f s ∷ read_all f w (drop w s) n)
  read_all_suc s n = λ j. f (drop (mul-zero w j) s) ∷ rest j
    where
      place : (k : ℕ) → f (drop (w * suc k) s) ≡ f (drop (w * k) (drop w s))
      place k = let e : w * suc k ≡ w + w * k = omega (arith, mul-suc w k) in ap (λ (m : ℕ). f (drop m s)) e ∙ ap f (sym (drop-drop (w * k) w s))

      rest : tabulate (λ k. f (drop (w * k) s)) 1 n ≡ tabulate (λ k. f (drop (w * k) (drop w s))) 0 n
      rest = tabulate_suc (λ k. f (drop (w * k) s)) 0 n ∙ (λ j. tabulate (λ k. place k j) 0 n)

module _ {A : Type 0} (enc : A → List ℕ) (w : ℕ) (wide : (x : A) → length (enc x) ≡ w) where
  pub length_written : (xs : List A) → length (concat_map enc xs) ≡ w * length xs
  length_written [] = sym (mul-zero w)
  length_written (x ∷ xs) = length-append (enc x) (concat_map enc xs) ∙ omega (arith, wide x, length_written xs, mul-suc w (length xs))

  module _ (dec : List ℕ → A) where
    -- what was written is read back
    pub read_written : (xs : List A) (rest : List ℕ) → ((x : A) → x ∈ xs → (r : List ℕ) → dec (enc x ++ r) ≡ x) → read_all dec w (concat_map enc xs ++ rest) (length xs) ≡ xs
    read_written [] rest h = refl
    read_written (x ∷ xs) rest h =
        let e = append_assoc (enc x) (concat_map enc xs) rest in
        let one : dec ((enc x ++ concat_map enc xs) ++ rest) ≡ x = ap dec e ∙ h x (Memᴰ.head refl) (concat_map enc xs ++ rest) in
        let two : drop w ((enc x ++ concat_map enc xs) ++ rest) ≡ concat_map enc xs ++ rest = ap (drop w) e ∙ drop_at (enc x) (concat_map enc xs ++ rest) w (wide x) in
        let more : read_all dec w (drop w ((enc x ++ concat_map enc xs) ++ rest)) (length xs) ≡ xs =
        ap (λ (s : List ℕ). read_all dec w s (length xs)) two ∙ read_written xs rest (λ y m. h y (Memᴰ.tail m)) in
        read_all_suc dec w ((enc x ++ concat_map enc xs) ++ rest) (length xs) ∙ (λ j. one j ∷ more j)

    -- what was read is written back
    pub written_read : (n : ℕ) (s : List ℕ) → ((k : ℕ) → k < n → enc (dec (drop (w * k) s)) ≡ take w (drop (w * k) s)) → concat_map enc (read_all dec w s n) ≡ take (w * n) s
    written_read zero s h = ap (λ (m : ℕ). take m s) (sym (mul-zero w))
    written_read (suc n) s h =
        let here : enc (dec s) ≡ take w s = subst (λ (m : ℕ). enc (dec (drop m s)) ≡ take w (drop m s)) (mul-zero w) (h 0 (omega arith)) in
        let there = written_read n (drop w s) later in
        ap (concat_map enc) (read_all_suc dec w s n) ∙ (λ j. here j ++ there j) ∙ sym (take-add w (w * n) s) ∙ ap (λ (m : ℕ). take m s) (sum n)
      where
        sum : (k : ℕ) → w + w * k ≡ w * suc k
        sum k = omega (arith, mul-suc w k)

        later : (k : ℕ) → k < n → enc (dec (drop (w * k) (drop w s))) ≡ take w (drop (w * k) (drop w s))
        later k l = subst (λ (x : List ℕ). enc (dec x) ≡ take w x) (ap (λ (m : ℕ). drop m s) (sym (sum k)) ∙ sym (drop-drop (w * k) w s)) (h (suc k) (omega arith))

-- ── tests over places ──
module _ (f : ℕ → Bool) where
  pub all_from_at : (i n : ℕ) → T (all_from f i n) → (k : ℕ) → k < n → T (f (i + k))
  all_from_at i zero h k l = absurd (not-suc-le-zero l)
  all_from_at i (suc n) h zero l = subst (λ (m : ℕ). T (f m)) (sym (add-zero i)) (T_left (f i) (all_from f (suc i) n) h)
  all_from_at i (suc n) h (suc k) l = subst (λ (m : ℕ). T (f m)) (suc-add i k ∙ sym (add-suc i k)) (all_from_at (suc i) n (T_right (f i) (all_from f (suc i) n) h) k (le_of_suc-le-suc l))

  pub all_from_all : (i n : ℕ) → ((k : ℕ) → k < n → T (f (i + k))) → T (all_from f i n)
  all_from_all i zero h = tt
  all_from_all i (suc n) h =
      T_both (f i) (all_from f (suc i) n) (subst (λ (m : ℕ). T (f m)) (add-zero i) (h 0 (omega arith)))
      (all_from_all (suc i) n (λ k l. subst (λ (m : ℕ). T (f m)) (add-suc i k ∙ sym (suc-add i k)) (h (suc k) (omega arith))))

-- a front, with zeros up to n, is the front of n bytes where zeros stand
pub padded_zeros : (s : List ℕ) (m n : ℕ) → m ≤ n → n ≤ length s → ((k : ℕ) → m ≤ k → k < n → get_or s k 0 ≡ 0) → padded n (take m s) ≡ take n s
padded_zeros s m n h l z =
    let e : length (take m s) ≡ m = omega (arith, length-take m s) in
    let whole : m + (n - m) ≡ n = omega arith in
    ap (λ (k : ℕ). take m s ++ replicate (n - k) 0) e
    ∙ ap (λ (r : List ℕ). take m s ++ r) (sym (zero_take (n - m) (drop m s) (simp length-drop (omega arith)) (λ k q. get_or-drop m s k 0 ∙ z (m + k) (omega arith) (omega arith))))
    ∙ sym (take-add m (n - m) s) ∙ ap (λ (k : ℕ). take k s) whole
  where
    zero_take : (k : ℕ) (r : List ℕ) → k ≤ length r → ((i : ℕ) → i < k → get_or r i 0 ≡ 0) → take k r ≡ replicate k 0
    zero_take zero r h z = refl
    zero_take (suc k) [] h z = absurd (not-suc-le-zero h)
    zero_take (suc k) (x ∷ xs) h z = let e = z 0 (omega arith) in let ih = zero_take k xs (le_of_suc-le-suc h) (λ i q. z (suc i) (omega arith)) in λ j. e j ∷ ih j

-- ── a place some bytes on, as the code and as the laws write it ──
pub plus1 : (i : ℕ) → i + 1 ≡ suc i
plus1 i = omega arith

pub plus2 : (i : ℕ) → i + 2 ≡ suc (suc i)
plus2 i = omega arith

pub plus3 : (i : ℕ) → i + 3 ≡ suc (suc (suc i))
plus3 i = omega arith

pub plus4 : (i : ℕ) → i + 4 ≡ suc (suc (suc (suc i)))
plus4 i = omega arith

pub plus6 : (i : ℕ) → i + 6 ≡ suc (suc (suc (suc (suc (suc i)))))
plus6 i = omega arith
