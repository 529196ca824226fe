-- A chain over the places from 0 up to n whose closure is a test of the place, in the words of the definitions. Assumes nothing.
use mathlib.Core.Path.{◌≡◌, refl, sym, ap, subst, ◌∙◌}
use mathlib.Core.Logic.{◌⊎◌, inl, inr}
use mathlib.Core.Bool.{Bool, true, false, not, cond, ◌&&◌, and-true, and_assoc}
use mathlib.Core.List.{List}
use Prim.Native.Nat.{ℕ, zero, suc, ◌+◌, ◌≤◌, ◌<◌}
use native.Mathlib.Numerals.{add-one}
use native.Mathlib.Omega.{arith}
use denote.Param.Members.{Mut}
use lib.Bits.{bit_or}
use lib.Dec.{T, eqb}
use lib.ListN.{length, get_or, take, drop}
use lib.Seq.{drop-cons}
use Rattle.std.specs.Bool.{MatchBool}
use Rattle.std.specs.Fn.{Called}
use Rattle.std.specs.Iterator.{ChecksAll, ChecksAny, FindsPosition}
use Rattle.std.specs.List.{fold, range_with_len, AllWithin, HoldsAt}
use Rattle.std.specs.Option.{MatchOption, unwrap_or}
use Rattle.std.proofs.Common.{Option}
use Rattle.std.specs.declared.ops.Range.{Range}
use Rattle.std.proofs.iter.Yields.{nat_range_steps}
use Rattle.std.proofs.lemmas.Iterator.{YieldsList-from_range, cases_from_all, cases_from_any, IsFirst-from_position, index_from_first}
use Rattle.std.proofs.lemmas.List.FromFn.{length-range_with_len, get_or-range_with_len}
use Rattle.rules.specs.List.{tabulate, any}
use Rattle.rules.proofs.Lists.{T_true, yes, no, unset, either, any_mem, mem_any}
use Rattle.block.specs.Bytes.{all_from, zeros, leading}
use Rattle.block.proofs.Bytes.{all_from_at, all_from_all, mem_tabulate, tabulate_mem}
use Rattle.block.proofs.Loops.{or_none}

-- the places from 0 up to n
module _ (n : ℕ) where
  abbrev places : List ℕ
  places = range_with_len 0 n

  many : length places ≡ n
  many = length-range_with_len 0 n

  here : (P : ℕ → Type 0) (k : ℕ) → k < length places → P (get_or places k 0) → P (0 + k)
  here P k l = subst P (get_or-range_with_len 0 n k 0 (omega (arith, many)))

  there : (P : ℕ → Type 0) (k : ℕ) → k < n → AllWithin P places 0 (length places) → P (0 + k)
  there P k l h = here P k (omega (arith, many)) (h k 0 (omega arith) (omega (arith, many)))

  -- a test of every place
  all_is : (p : ℕ → Bool) (r : Bool) → MatchBool r (AllWithin (λ k. p k ≡ true) places 0 (length places)) ((k : ℕ) × (k < length places) × HoldsAt (λ k. p k ≡ false) places k) → r ≡ all_from p 0 n
  all_is p true h = sym (T_true (all_from p 0 n) (all_from_all p 0 n (λ k l. yes (there (λ j. p j ≡ true) k l h))))
  all_is p false (k, l, e) = go (either (all_from p 0 n))
    where
      go : T (all_from p 0 n) ⊎ T (not (all_from p 0 n)) → false ≡ all_from p 0 n
      go (inl t) = absurd (no (here (λ j. p j ≡ false) k l (e 0)) (all_from_at p 0 n t k (omega (arith, many))))
      go (inr t) = sym (unset (all_from p 0 n) t)

  module _ {A : Type 0} (t : A → Bool) (f : ℕ → A) where
    -- some value passes
    any_is : (r : Bool) → MatchBool r ((k : ℕ) × (k < length places) × HoldsAt (λ k. t (f k) ≡ true) places k) (AllWithin (λ k. t (f k) ≡ false) places 0 (length places)) → r ≡ any t (tabulate f 0 n)
    any_is true (k, l, e) = sym (T_true (any t (tabulate f 0 n)) (any_mem t (mem_tabulate f 0 n k (omega (arith, many))) (yes (here (λ j. t (f j) ≡ true) k l (e 0)))))
    any_is false h = go (either (any t (tabulate f 0 n)))
      where
        go : T (any t (tabulate f 0 n)) ⊎ T (not (any t (tabulate f 0 n))) → false ≡ any t (tabulate f 0 n)
        go (inl s) =
            let (x, m, p) = mem_any t (tabulate f 0 n) s in
            let (k, l, e) = tabulate_mem f 0 n m in
            absurd (no (there (λ j. t (f j) ≡ false) k l h) (subst (λ y. T (t y)) e p))
        go (inr s) = sym (unset (any t (tabulate f 0 n)) s)

    -- how many stand before the first that passes
    before : List ℕ → ℕ
    before ks = leading (λ k. not (t (f k))) ks

    listed : (i m : ℕ) → leading (λ k. not (t (f k))) (range_with_len i m) ≡ leading (λ x. not (t x)) (tabulate f i m)
    listed i zero = refl
    listed i (suc m) =
        ap (λ (j : ℕ). cond (not (t (f i))) (suc j) 0) (ap (λ (j : ℕ). leading (λ k. not (t (f k))) (range_with_len j m)) (add-one i) ∙ listed (suc i) m)

    first_is : (r : Option ℕ)
        → MatchOption r (AllWithin (λ k. t (f k) ≡ false) places 0 (length places)) (λ i. (i < length places) × HoldsAt (λ k. t (f k) ≡ true) places i × AllWithin (λ k. t (f k) ≡ false) places 0 i)
        → unwrap_or r n ≡ leading (λ x. not (t x)) (tabulate f 0 n)
    first_is r h =
        sym (index_from_first (leading (λ k. not (t (f k)))) (λ k. t (f k) ≡ true) (λ k. t (f k) ≡ false) refl (λ k ks e. rw e) (λ k ks e. rw e (omega arith)) places r h ∙ ap (unwrap_or r) many)
        ∙ listed 0 n

module _ {F : Type 0} {g : Mut F (ℕ × Unit {0}) Bool} {n : ℕ} {s u : Range ℕ} {c : F} (from : s ≡ record { start = 0; end = n }) where
  pub all_places : {r : Bool} (p : ℕ → Bool) → ChecksAll nat_range_steps g s c r u
      → ((x : ℕ) (q : F) → Called g c (x, tt) true q → (q ≡ c) × (p x ≡ true)) → ((x : ℕ) (q : F) → Called g c (x, tt) false q → p x ≡ false) → r ≡ all_from p 0 n
  all_places {r} p ran h k = all_is n p r (cases_from_all u c r (λ x. p x ≡ true) (λ x. p x ≡ false) ran (YieldsList-from_range 0 n n from (omega arith)) h k)

  module _ {A : Type 0} (t : A → Bool) (f : ℕ → A) where
    pub any_place : {r : Bool} → ChecksAny nat_range_steps g s c r u
        → ((x : ℕ) (q : F) → Called g c (x, tt) true q → t (f x) ≡ true) → ((x : ℕ) (q : F) → Called g c (x, tt) false q → (q ≡ c) × (t (f x) ≡ false)) → r ≡ any t (tabulate f 0 n)
    any_place {r} ran h k = any_is n t f r (cases_from_any u c r (λ x. t (f x) ≡ true) (λ x. t (f x) ≡ false) ran (YieldsList-from_range 0 n n from (omega arith)) h k)

    pub first_place : {r : Option ℕ} → FindsPosition nat_range_steps g s c r u
        → ((x : ℕ) (q : F) → Called g c (x, tt) true q → t (f x) ≡ true) → ((x : ℕ) (q : F) → Called g c (x, tt) false q → (q ≡ c) × (t (f x) ≡ false))
        → unwrap_or r n ≡ leading (λ x. not (t x)) (tabulate f 0 n)
    first_place {r} ran h k = first_is n t f r (IsFirst-from_position u c r (λ x. t (f x) ≡ true) (λ x. t (f x) ≡ false) ran (YieldsList-from_range 0 n n from (omega arith)) h k)

-- bytes joined are zero where each is
pub joined_zeros : (any i n : ℕ) (s : List ℕ) → i + n ≤ length s → eqb (fold bit_or any (take n (drop i s))) 0 ≡ (eqb any 0 && zeros s i n)
joined_zeros any i zero s h = sym (and-true (eqb any 0))
joined_zeros any i (suc n) s h =
    ap (λ (r : List ℕ). eqb (fold bit_or any (take (suc n) r)) 0) (drop-cons s i 0 (omega arith))
    ∙ joined_zeros (bit_or any (get_or s i 0)) (suc i) n s (omega arith)
    ∙ ap (λ (x : Bool). x && zeros s (suc i) n) (or_none any (get_or s i 0))
    ∙ and_assoc (eqb any 0) (eqb (get_or s i 0) 0) (zeros s (suc i) n)
