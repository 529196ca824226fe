-- The subjects that a search has settled so far, listed in the order in which it does. Assumes nothing.
use mathlib.Core.Path.{◌≡◌, sym, ap, subst, ◌∙◌}
use mathlib.Core.Logic.{◌⊎◌, inl, inr}
use mathlib.Core.Bool.{not}
use mathlib.Core.List.{List, [], ◌∷◌, ◌++◌}
use Prim.Native.Nat.{ℕ, suc, ◌+◌, ◌≤◌, ◌<◌}
use native.Mathlib.Omega.{arith}
use lib.Bits.{bit_or}
use lib.Dec.{T, ltb, ltb→lt, nltb→le}
use lib.ListN.{length, set, take, length-set}
use lib.Seq.{take-suc-set}
use lib.IntN.{ℤ}
use Rattle.rules.specs.Limit.{none, code}
use Rattle.rules.proofs.Lists.{either, eq_to_eqb}
use Rattle.rules.proofs.Order.{Ordered, ordered_start, ordered_next, ordered_end}
use Rattle.block.specs.Layout.{most_subjects}
use Rattle.rules.specs.Bits.{BitPut}
use Rattle.queue.specs.Queue.{Lowest}
use Rattle.queue.specs.declared.Sets.{Sets}
use Rattle.rules.proofs.Bits.{bit_zero}
use Rattle.queue.proofs.Buckets.{left_few}
use Rattle.runs.specs.Lent.{record_count, delegations_in, Lent}
use Rattle.search.specs.Search.{under_marks, parent_in}
use Rattle.search.specs.Found.{SettledSo}
use Rattle.search.proofs.State.{limit_of, is_settled}
use Rattle.search.proofs.Whole.{unsettled, bit_open, others, fewer_open}
use Rattle.search.proofs.Midway.{Midway, midway_none}

-- the first `count` of xs are those settled, and there is room for all who are open
pub record Listing (t : List ℤ) (s : List ℕ) (marks n : ℕ) (xs : List ℕ) (count : ℕ) : Type 0 where
  pub size : length xs ≡ most_subjects
  pub ordered : Ordered t (under_marks (delegations_in s) marks) 0 (is_settled n) (take count xs)
  pub room : count + unsettled n ≤ most_subjects

module _ (t : List ℤ) (s : List ℕ) (lent : Lent t s (record_count s)) (marks : ℕ) where
  pub listing_start : (xs : List ℕ) → length xs ≡ most_subjects → Listing t s marks 0 xs 0
  listing_start xs e = record {
    size = e;
    ordered = ordered_start t lent.rule (under_marks (delegations_in s) marks) 0 (is_settled 0) (λ x. bit_open 0 x (bit_zero x));
    room = omega (arith, left_few (is_settled 0) most_subjects);
  }

  module _ (l : List ℤ) (p q : List ℕ) (sets : Sets) (n : ℕ) (now : Midway t s marks l p q sets n) (xs : List ℕ) (count : ℕ) (list : Listing t s marks n xs count) where
    -- ── the lowest of those who wait here is settled ──
    module _ (u : ℕ) (low : Lowest sets.here u) where
      open_still : T (not (is_settled n u))
      open_still = (now.state.here u low.member).0

      at_hand : code (limit_of l u) ≡ suc now.at
      at_hand = (now.state.here u low.member).1

      -- of the open ones of its limit none is lower
      lowest : (y : ℕ) → T (not (is_settled n y)) → limit_of l y ≡ limit_of l u → u ≤ y
      lowest y o e = go (either (ltb y u))
        where
          go : T (ltb y u) ⊎ T (not (ltb y u)) → u ≤ y
          go (inl h) = absurd (omega (arith, low.least y (ltb→lt y u h), now.all u low.member y o (ap code e ∙ at_hand)))
          go (inr h) = nltb→le y u h

      module _ (n₁ : ℕ) (put : BitPut n u 1 n₁) where
        fewer : unsettled n₁ < unsettled n
        fewer = fewer_open n n₁ u put low.small open_still

        pub listing_room : count < length xs
        listing_room = omega (arith, list.room, list.size, fewer)

        pub listing_next : Listing t s marks n₁ (set xs count u) (count + 1)
        listing_next = record {
          size = simp length-set list.size;
          ordered = subst (Ordered t (under_marks (delegations_in s) marks) 0 (is_settled n₁)) front
              (ordered_next t lent.rule (under_marks (delegations_in s) marks) 0 (limit_of l) (is_settled n) (parent_in (delegations_in s) p) now.state.search (take count xs) list.ordered u open_still
              (λ y o. omega (arith, now.state.most y o, at_hand)) (omega (arith, at_hand)) lowest (is_settled n₁) (eq_to_eqb put.here) (others n n₁ u put));
          room = omega (arith, list.room, fewer);
        }
          where
            front : take count xs ++ (u ∷ []) ≡ take (count + 1) (set xs count u)
            front = let e : suc count ≡ count + 1 = omega arith in sym (take-suc-set xs count u listing_room) ∙ ap (λ (m : ℕ). take m (set xs count u)) e

    -- ── none waits ──
    pub listing_end : bit_or (bit_or sets.here sets.near) sets.far ≡ 0 → SettledSo t s marks xs count
    listing_end none = record {
      within = omega (arith, list.room, list.size);
      order = ordered_end t lent.rule (under_marks (delegations_in s) marks) 0 (limit_of l) (is_settled n) (parent_in (delegations_in s) p) now.state.search (take count xs) list.ordered
          (midway_none t s lent marks l p q sets n now none);
    }
