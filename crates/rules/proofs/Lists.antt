-- Laws of lists and of tests. Assumes nothing.
use mathlib.Core.Path.{◌≡◌, refl, sym, ap, subst, ◌∙◌}
use mathlib.Core.Logic.{◌≢◌, ◌⊎◌, inl, inr}
use mathlib.Core.Bool.{Bool, true, false, not, ◌&&◌, ◌||◌}
use mathlib.Core.List.Memᴰ
use mathlib.Core.List.{List, [], ◌∷◌, ◌++◌, map, map-append}
use Prim.Native.Nat.{ℕ, zero, suc, ◌+◌, ◌≤◌, ◌<◌, suc-le-suc}
use native.Mathlib.Nat.{le_trans, le_refl, add-zero, add-suc, suc-add, le_of_suc-le-suc, not-suc-le-zero}
use native.Mathlib.Omega.{arith}
use borrow.Author.Count.{below_more}
use lib.Dec.{T, eqb, eqb→eq, eqb_refl, T_not}
use lib.ListN.{length, get_or, set, length-map}
use lib.Seq.{get_or-set_same, get_or-set_other}
use Rattle.std.specs.List.{list_any}
use Rattle.rules.specs.List.{◌∈◌, keep, filter, any, tabulate, concat_map}

pub T_left : (a b : Bool) → T (a && b) → T a
T_left true b h = tt
T_left false b h = h

pub T_right : (a b : Bool) → T (a && b) → T b
T_right true b h = h
T_right false b h = absurd h

pub T_both : (a b : Bool) → T a → T b → T (a && b)
T_both true b h k = k
T_both false b h k = absurd h

pub T_or_left : (a b : Bool) → T a → T (a || b)
T_or_left true b h = tt
T_or_left false b h = absurd h

pub T_or_right : (a b : Bool) → T b → T (a || b)
T_or_right true b h = tt
T_or_right false b h = h

pub T_not_not : (b : Bool) → T b → T (not (not b))
T_not_not true h = tt
T_not_not false h = h

-- true and false differ
pub clash : {A : Type 0} → true ≡ false → A
clash e = absurd (subst T e tt)

pub T_true : (b : Bool) → T b → b ≡ true
T_true true h = refl
T_true false h = absurd h

pub yes : {b : Bool} → b ≡ true → T b
yes e = subst T (sym e) tt

pub no : {b : Bool} → b ≡ false → T b → ⊥
no e h = subst T e h

pub unset : (b : Bool) → T (not b) → b ≡ false
unset true h = absurd h
unset false h = refl

-- a test that the code asks the other way round
pub not_true : (x : Bool) → not x ≡ true → x ≡ false
not_true true e = clash (sym e)
not_true false e = refl

pub not_false : (x : Bool) → not x ≡ false → x ≡ true
not_false true e = refl
not_false false e = clash e

-- a test holds, or its negation does
pub either : (b : Bool) → T b ⊎ T (not b)
either true = inl tt
either false = inr tt

pub eq_to_eqb : {m n : ℕ} → m ≡ n → T (eqb m n)
eq_to_eqb {m} e = subst (λ (x : ℕ). T (eqb m x)) e (eqb_refl m)

pub not_or_left : (a b : Bool) → T (not (a || b)) → T (not a)
not_or_left true b h = h
not_or_left false b h = tt

pub not_or_right : (a b : Bool) → T (not (a || b)) → T (not b)
not_or_right true b h = absurd h
not_or_right false b h = h

-- the second of two tests of which none applies
pub second_not : (a b : Bool) → T (not (a || (b || false))) → T (not b)
second_not a b h = not_or_left b false (not_or_right a (b || false) h)

pub not_not : (b : Bool) → T (not (not b)) → T b
not_not true h = tt
not_not false h = h

pub test_ne : (x y : ℕ) → T (not (eqb x y)) → x ≢ y
test_ne x y h e = T_not (eqb x y) h (eq_to_eqb e)

module _ {A : Type 0} where
  pub mem_length : {x : A} {xs : List A} → x ∈ xs → zero < length xs
  mem_length (Memᴰ.head e) = omega arith
  mem_length (Memᴰ.tail m) = omega arith

  mem_keep_head : (b : Bool) {y x : A} (xs : List A) → y ≡ x → T b → y ∈ keep b x xs
  mem_keep_head true xs e h = Memᴰ.head e
  mem_keep_head false xs e h = absurd h

  mem_keep_tail : (b : Bool) {y : A} (x : A) {xs : List A} → y ∈ xs → y ∈ keep b x xs
  mem_keep_tail true x m = Memᴰ.tail m
  mem_keep_tail false x m = m

  keep_mem : (b : Bool) {y x : A} {xs : List A} → y ∈ keep b x xs → ((y ≡ x) × T b) ⊎ (y ∈ xs)
  keep_mem true (Memᴰ.head e) = inl (e, tt)
  keep_mem true (Memᴰ.tail m) = inr m
  keep_mem false m = inr m

  keep_length : (b : Bool) (x : A) (xs : List A) → length (keep b x xs) ≤ suc (length xs)
  keep_length true x xs = le_refl (suc (length xs))
  keep_length false x xs = omega arith

  keep_shorter : (b : Bool) (x : A) (xs : List A) → T (not b) → length (keep b x xs) ≡ length xs
  keep_shorter true x xs h = absurd h
  keep_shorter false x xs h = refl

  module _ (f : A → Bool) where
    pub mem_filter : {x : A} {xs : List A} → T (f x) → x ∈ xs → x ∈ filter f xs
    mem_filter h (Memᴰ.head {x = y} {xs = ys} e) = mem_keep_head (f y) (filter f ys) e (subst (λ (z : A). T (f z)) e h)
    mem_filter h (Memᴰ.tail {x = y} {xs = ys} m) = mem_keep_tail (f y) y (mem_filter h m)

    -- none passes
    pub filter_none : (xs : List A) → ((x : A) → x ∈ xs → f x ≡ false) → filter f xs ≡ []
    filter_none [] h = refl
    filter_none (x ∷ xs) h = (λ j. keep (h x (Memᴰ.head refl) j) x (filter f xs)) ∙ filter_none xs (λ y m. h y (Memᴰ.tail m))

    pub filter_mem : {x : A} (xs : List A) → x ∈ filter f xs → (x ∈ xs) × T (f x)
    filter_mem [] m = absurd (Memᴰ.not-nil m)
    filter_mem {x} (y ∷ ys) m = go (filter_mem ys) (keep_mem (f y) m)
      where
        go : (x ∈ filter f ys → (x ∈ ys) × T (f x)) → ((x ≡ y) × T (f y)) ⊎ (x ∈ filter f ys) → (x ∈ (y ∷ ys)) × T (f x)
        go ih (inl p) = (Memᴰ.head p.0, subst (λ (z : A). T (f z)) (sym p.0) p.1)
        go ih (inr m') = (Memᴰ.tail (ih m').0, (ih m').1)

    pub any_mem : {x : A} {xs : List A} → x ∈ xs → T (f x) → T (any f xs)
    any_mem (Memᴰ.head {x = y} {xs = ys} e) h = T_or_left (f y) (any f ys) (subst (λ (z : A). T (f z)) e h)
    any_mem (Memᴰ.tail {x = y} {xs = ys} m) h = T_or_right (f y) (any f ys) (any_mem m h)

    pub mem_any : (xs : List A) → T (any f xs) → (x : A) × (x ∈ xs) × T (f x)
    mem_any [] h = absurd h
    mem_any (x ∷ xs) h = go (f x) refl (mem_any xs) h
      where
        go : (b : Bool) → f x ≡ b → (T (any f xs) → (y : A) × (y ∈ xs) × T (f y)) → T (b || any f xs) → (y : A) × (y ∈ (x ∷ xs)) × T (f y)
        go true e ih k = (x, Memᴰ.head refl, subst T (sym e) tt)
        go false e ih k = let (y, m, t) = ih k in (y, Memᴰ.tail m, t)

    pub filter_length : (xs : List A) → length (filter f xs) ≤ length xs
    filter_length [] = le_refl zero
    filter_length (x ∷ xs) = le_trans (keep_length (f x) x (filter f xs)) (suc-le-suc (filter_length xs))

    pub filter_shorter : {x : A} {xs : List A} → x ∈ xs → T (not (f x)) → length (filter f xs) < length xs
    filter_shorter (Memᴰ.head {x = y} {xs = ys} e) h =
        omega (arith, keep_shorter (f y) y (filter f ys) (subst (λ (z : A). T (not (f z))) e h), filter_length ys)
    filter_shorter (Memᴰ.tail {x = y} {xs = ys} m) h = omega (arith, keep_length (f y) y (filter f ys), filter_shorter m h)

module _ {A B : Type 0} where
  pub mem_concat_map : (f : A → List B) {x : A} {xs : List A} {y : B} → x ∈ xs → y ∈ f x → y ∈ concat_map f xs
  mem_concat_map f {y} (Memᴰ.head {xs = xs} e) h = Memᴰ.append_left (concat_map f xs) (subst (λ (z : A). y ∈ f z) e h)
  mem_concat_map f (Memᴰ.tail {x = z} m) h = Memᴰ.append_right (f z) (mem_concat_map f m h)

  pub concat_map_mem : (f : A → List B) (xs : List A) {y : B} → y ∈ concat_map f xs → (x : A) × (x ∈ xs) × (y ∈ f x)
  concat_map_mem f [] m = absurd (Memᴰ.not-nil m)
  concat_map_mem f (x ∷ xs) {y} m = go (concat_map_mem f xs) (Memᴰ.append_cases (f x) m)
    where
      go : (y ∈ concat_map f xs → (z : A) × (z ∈ xs) × (y ∈ f z)) → (y ∈ f x) ⊎ (y ∈ concat_map f xs) → (z : A) × (z ∈ (x ∷ xs)) × (y ∈ f z)
      go ih (inl h) = (x, Memᴰ.head refl, h)
      go ih (inr h) = let r = ih h in (r.0, Memᴰ.tail r.1, r.2)

  pub mem_map : (f : A → B) {x : A} {xs : List A} → x ∈ xs → f x ∈ map f xs
  mem_map f (Memᴰ.head e) = Memᴰ.head (ap f e)
  mem_map f (Memᴰ.tail m) = Memᴰ.tail (mem_map f m)

  pub map_mem : (f : A → B) (xs : List A) {y : B} → y ∈ map f xs → (x : A) × (x ∈ xs) × (y ≡ f x)
  map_mem f [] m = absurd (Memᴰ.not-nil m)
  map_mem f (x ∷ xs) (Memᴰ.head e) = (x, Memᴰ.head refl, e)
  map_mem f (x ∷ xs) (Memᴰ.tail m) = let r = map_mem f xs m in (r.0, Memᴰ.tail r.1, r.2)

  -- where each value of xs is one of ys, a list of elements of ys has the values of xs
  pub map_onto : (f : A → B) (xs ys : List A) → ((x : A) → x ∈ xs → f x ∈ map f ys) → (zs : List A) × ((z : A) → z ∈ zs → z ∈ ys) × (map f xs ≡ map f zs)
  map_onto f [] ys h = ([], λ z m. absurd (Memᴰ.not-nil m), refl)
  map_onto f (x ∷ xs) ys h =
      let (y, i, e) = map_mem f ys (h x (Memᴰ.head refl)) in
      let (zs, at, es) = map_onto f xs ys (λ z m. h z (Memᴰ.tail m)) in
      (y ∷ zs, among y zs i at, λ j. e j ∷ es j)
    where
      among : (y : A) (zs : List A) → y ∈ ys → ((z : A) → z ∈ zs → z ∈ ys) → (z : A) → z ∈ (y ∷ zs) → z ∈ ys
      among y zs i at z (Memᴰ.head q) = subst (λ (u : A). u ∈ ys) (sym q) i
      among y zs i at z (Memᴰ.tail m) = at z m

  -- a test of the values of a function
  keep_map : (f : A → B) (b : Bool) (x : A) (xs : List A) → keep b (f x) (map f xs) ≡ map f (keep b x xs)
  keep_map f true x xs = refl
  keep_map f false x xs = refl

  pub filter_map : (p : B → Bool) (f : A → B) (xs : List A) → filter p (map f xs) ≡ map f (filter (λ x. p (f x)) xs)
  filter_map p f [] = refl
  filter_map p f (x ∷ xs) = ap (keep (p (f x)) (f x)) (filter_map p f xs) ∙ keep_map f (p (f x)) x (filter (λ y. p (f y)) xs)

  pub any_map : (p : B → Bool) (f : A → B) (xs : List A) → any p (map f xs) ≡ any (λ x. p (f x)) xs
  any_map p f [] = refl
  any_map p f (x ∷ xs) = ap (λ (b : Bool). p (f x) || b) (any_map p f xs)

  -- how many pass
  pub count_map : (p : B → Bool) (f : A → B) (xs : List A) → length (filter p (map f xs)) ≡ length (filter (λ x. p (f x)) xs)
  count_map p f xs = ap length (filter_map p f xs) ∙ length-map (filter (λ x. p (f x)) xs) f

module _ {A B C : Type 0} where
  pub concat_map_map : (g : B → List C) (f : A → B) (xs : List A) → concat_map g (map f xs) ≡ concat_map (λ x. g (f x)) xs
  concat_map_map g f [] = refl
  concat_map_map g f (x ∷ xs) = ap (λ (l : List C). g (f x) ++ l) (concat_map_map g f xs)

  pub map_concat_map : (f : B → C) (g : A → List B) (xs : List A) → map f (concat_map g xs) ≡ concat_map (λ x. map f (g x)) xs
  map_concat_map f g [] = refl
  map_concat_map f g (x ∷ xs) = map-append f (g x) (concat_map g xs) ∙ ap (λ (l : List C). map f (g x) ++ l) (map_concat_map f g xs)

-- ── equal or not, in a list or not ──
-- an element of a list with one place set
pub set_mem : {A : Type 0} (xs : List A) (k : ℕ) (v : A) {x : A} → x ∈ set xs k v → (x ≡ v) ⊎ (x ∈ xs)
set_mem [] k v m = inr m
set_mem (y ∷ ys) zero v (Memᴰ.head e) = inl e
set_mem (y ∷ ys) zero v (Memᴰ.tail m) = inr (Memᴰ.tail m)
set_mem (y ∷ ys) (suc k) v (Memᴰ.head e) = inr (Memᴰ.head e)
set_mem {A} (y ∷ ys) (suc k) v {x} (Memᴰ.tail m) = go (set_mem ys k v m)
  where
    go : (x ≡ v) ⊎ (x ∈ ys) → (x ≡ v) ⊎ (x ∈ (y ∷ ys))
    go (inl e) = inl e
    go (inr i) = inr (Memᴰ.tail i)

pub eq_or : (x y : ℕ) → (x ≡ y) ⊎ (x ≢ y)
eq_or x y = go (either (eqb x y))
  where
    go : T (eqb x y) ⊎ T (not (eqb x y)) → (x ≡ y) ⊎ (x ≢ y)
    go (inl q) = inl (eqb→eq x y q)
    go (inr q) = inr (test_ne x y q)

pub mem_or : (x : ℕ) (ys : List ℕ) → (x ∈ ys) ⊎ ((y : ℕ) → y ∈ ys → y ≢ x)
mem_or x [] = inr (λ y m. absurd (Memᴰ.not-nil m))
mem_or x (z ∷ zs) = go (eq_or x z) (mem_or x zs)
  where
    neither : x ≢ z → ((y : ℕ) → y ∈ zs → y ≢ x) → (y : ℕ) → y ∈ (z ∷ zs) → y ≢ x
    neither n h y (Memᴰ.head e) = λ q. n (sym q ∙ e)
    neither n h y (Memᴰ.tail m) = h y m

    go : (x ≡ z) ⊎ (x ≢ z) → (x ∈ zs) ⊎ ((y : ℕ) → y ∈ zs → y ≢ x) → (x ∈ (z ∷ zs)) ⊎ ((y : ℕ) → y ∈ (z ∷ zs) → y ≢ x)
    go (inl e) h = inl (Memᴰ.head e)
    go (inr n) (inl m) = inl (Memᴰ.tail m)
    go (inr n) (inr h) = inr (neither n h)

-- ── the values of a function ──
pub get_d_tabulate : {A : Type 0} (f : ℕ → A) (d : A) (i n k : ℕ) → k < n → get_or (tabulate f i n) k d ≡ f (i + k)
get_d_tabulate f d i zero k l = absurd (not-suc-le-zero l)
get_d_tabulate f d i (suc n) zero l = ap f (sym (add-zero i))
get_d_tabulate f d i (suc n) (suc k) l = get_d_tabulate f d (suc i) n k (le_of_suc-le-suc l) ∙ ap f (suc-add i k ∙ sym (add-suc i k))

-- ── a list that is set place by place ──
-- P holds of each of the first i places, and of one place more once it is set
pub set_more : {A : Type 0} (P : ℕ → A → Type 0) (l : List A) (i : ℕ) (v d : A) → i < length l → ((y : ℕ) → y < i → P y (get_or l y d)) → P i v → (y : ℕ) → y < i + 1 → P y (get_or (set l i v) y d)
set_more P l i v d h all new =
    below_more (λ y. P y (get_or (set l i v) y d)) i
    (λ y b. let n : y ≢ i = λ e. omega arith in subst (P y) (sym (get_or-set_other l i y v d n)) (all y b))
    (subst (P i) (sym (get_or-set_same l i v d h)) new)

-- the library's test of a list is `any`
pub list_any_any : {A : Type 0} (f : A → Bool) (xs : List A) → list_any f xs ≡ any f xs
list_any_any f [] = refl
list_any_any f (x ∷ xs) = ap (λ (b : Bool). f x || b) (list_any_any f xs)
