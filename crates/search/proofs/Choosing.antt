-- The choice of the heaviest of a set, member by member. Assumes nothing.
use mathlib.Core.Path.{◌≡◌, sym, ap, subst, ◌∙◌}
use mathlib.Core.Logic.{◌≢◌, ◌⊎◌, inl, inr}
use mathlib.Core.Bool.{true, false, not}
use mathlib.Core.List.{List}
use Prim.Native.Nat.{ℕ, ◌≤◌, ◌<◌}
use native.Mathlib.Omega.{arith}
use lib.Dec.{T, ltb, ltb→lt, nltb→le}
use lib.ListN.{length, get_or}
use lib.IntN.{ℤ, pos, nat_abs}
use lib.Signed.{lt_z, mag}
use mir.Syntax.{w16}
use mir.Val.{of_z, to_z}
use Rattle.rules.specs.Limit.{none, code, ◌≼◌}
use Rattle.rules.proofs.Lists.{yes, no, either, eq_or}
use Rattle.rules.proofs.Signed.{kept, get_or_within, read_limit, more, not_more, code_live, code_pos}
use Rattle.block.specs.Layout.{most_subjects}
use Rattle.rules.specs.Bits.{bit, BitPut}
use Rattle.queue.specs.Queue.{Lowest}
use Rattle.rules.proofs.Bits.{bit_zero}
use Rattle.search.specs.Turns.{Heaviest}

-- limits of one code are the same
code_same : (y z : ℤ) → (y ≡ none) ⊎ (pos 0 ≼ y) → (z ≡ none) ⊎ (pos 0 ≼ z) → code y ≡ code z → y ≡ z
code_same y z (inl f) (inl g) e = f ∙ sym g
code_same y z (inl f) (inr g) e = absurd (omega (arith, ap code f, g, e))
code_same y z (inr f) (inl g) e = absurd (omega (arith, ap code g, f, e))
code_same y z (inr f) (inr g) e = code_pos y (nat_abs z) (e ∙ code_live z g) ∙ sym (code_pos z (nat_abs z) (code_live z g))

-- two limits that the code reads and compares
module _ (l : List ℤ) (i j : ℕ) (h : i < length l) (k : j < length l) where
  -- they are the same limit where the code finds them equal
  pub same_read : mag (get_or l i (pos 0)) < 32768 → mag (get_or l j (pos 0)) < 32768 → of_z w16 (get_or l i (pos 0)) ≡ of_z w16 (get_or l j (pos 0)) → get_or l i none ≡ get_or l j none
  same_read f g e = sym (read_limit l i h f) ∙ ap (to_z w16) e ∙ read_limit l j k g

  module _ (f : mag (get_or l i (pos 0)) < 32768) (g : mag (get_or l j (pos 0)) < 32768) where
    test : lt_z (kept (get_or l i (pos 0))) (kept (get_or l j (pos 0))) ≡ lt_z (get_or l i none) (get_or l j none)
    test n = lt_z (read_limit l i h f n) (read_limit l j k g n)

    pub less_read : (get_or l i none ≡ none) ⊎ (pos 0 ≼ get_or l i none) → lt_z (kept (get_or l i (pos 0))) (kept (get_or l j (pos 0))) ≡ true → code (get_or l i none) < code (get_or l j none)
    less_read h e = more (get_or l i none) (get_or l j none) h (yes (sym test ∙ e))

    -- neither smaller nor equal
    pub more_read : (get_or l i none ≡ none) ⊎ (pos 0 ≼ get_or l i none) → (get_or l j none ≡ none) ⊎ (pos 0 ≼ get_or l j none) → lt_z (kept (get_or l i (pos 0))) (kept (get_or l j (pos 0))) ≡ false → of_z w16 (get_or l i (pos 0)) ≢ of_z w16 (get_or l j (pos 0))
        → code (get_or l j none) < code (get_or l i none)
    more_read a b e d = omega (arith, not_more (get_or l i none) (get_or l j none) (no (sym test ∙ e)), differ)
      where
        differ : code (get_or l i none) ≢ code (get_or l j none)
        differ e = d (ap (of_z w16) (get_or_within l i (pos 0) none h ∙ code_same (get_or l i none) (get_or l j none) a b e ∙ get_or_within l j none (pos 0) k))

-- `best` has those of the set whose limit is the largest, that of `first`, which is the lowest of them, but perhaps some of `rest`, all of which are above `first`
pub record Chosen (l : List ℤ) (set first best rest : ℕ) : Type 0 where
  pub small : first < most_subjects
  pub member : bit best first ≡ 1
  pub least : (y : ℕ) → bit best y ≡ 1 → first ≤ y
  pub above : (y : ℕ) → bit rest y ≡ 1 → first ≤ y
  pub each : (y : ℕ) → bit best y ≡ 1 → (bit set y ≡ 1) × (get_or l y none ≡ get_or l first none)
  pub among : (y : ℕ) → bit rest y ≡ 1 → bit set y ≡ 1
  pub past : (y : ℕ) → bit set y ≡ 1 → (bit rest y ≡ 1) ⊎ ((bit best y ≡ 1) ⊎ (code (get_or l y none) < code (get_or l first none)))

-- a set with one member
only : (y one : ℕ) → BitPut 0 y 1 one → (x : ℕ) → bit one x ≡ 1 → x ≡ y
only y one put x w = go (eq_or y x)
  where
    go : (y ≡ x) ⊎ (y ≢ x) → x ≡ y
    go (inl e) = sym e
    go (inr d) = absurd (omega (arith, sym (put.others x d ∙ bit_zero x) ∙ w))

-- one of those left is looked at: it is that one, or it is still left
looked : (rest rest' other : ℕ) → BitPut rest other 0 rest' → (y : ℕ) → bit rest y ≡ 1 → (y ≡ other) ⊎ (bit rest' y ≡ 1)
looked rest rest' other out y w = go (eq_or other y)
  where
    go : (other ≡ y) ⊎ (other ≢ y) → (y ≡ other) ⊎ (bit rest' y ≡ 1)
    go (inl e) = inl (sym e)
    go (inr d) = inr (out.others y d ∙ w)

left_over : (rest rest' other : ℕ) → BitPut rest other 0 rest' → (y : ℕ) → bit rest' y ≡ 1 → bit rest y ≡ 1
left_over rest rest' other out y w = go (eq_or other y)
  where
    go : (other ≡ y) ⊎ (other ≢ y) → bit rest y ≡ 1
    go (inl e) = absurd (omega (arith, sym out.here ∙ ap (bit rest') e ∙ w))
    go (inr d) = sym (out.others y d) ∙ w

-- no member of a set is below its lowest
not_below_lem : (set first : ℕ) → Lowest set first → (y : ℕ) → bit set y ≡ 1 → first ≤ y
not_below_lem set first low y w = go (either (ltb y first))
  where
    go : T (ltb y first) ⊎ T (not (ltb y first)) → first ≤ y
    go (inl h) = absurd (omega (arith, w, low.least y (ltb→lt y first h)))
    go (inr h) = nltb→le y first h

module _ (l : List ℤ) (set : ℕ) where
  pub chosen_first : (first best rest : ℕ) → Lowest set first → BitPut 0 first 1 best → BitPut set first 0 rest → Chosen l set first best rest
  chosen_first first best rest low one out = record {
    small = low.small;
    member = one.here;
    least = λ y w. omega (arith, only first best one y w);
    above = λ y w. not_below_lem set first low y (left_over set rest first out y w);
    each = λ y w. let e = only first best one y w in (ap (bit set) e ∙ low.member, ap (λ (x : ℕ). get_or l x none) e);
    among = left_over set rest first out;
    past = λ y w. go y (looked set rest first out y w);
  }
    where
      go : (y : ℕ) → (y ≡ first) ⊎ (bit rest y ≡ 1) → (bit rest y ≡ 1) ⊎ ((bit best y ≡ 1) ⊎ (code (get_or l y none) < code (get_or l first none)))
      go y (inl e) = inr (inl (ap (bit best) e ∙ one.here))
      go y (inr w) = inl w

  module _ (first best rest : ℕ) (chosen : Chosen l set first best rest) where
    pub chosen_last : rest ≡ 0 → Heaviest l set first best
    chosen_last e = record { small = chosen.small; member = chosen.member; least = chosen.least; each = chosen.each; rest = λ y w. go y (chosen.past y w) }
      where
        go : (y : ℕ) → (bit rest y ≡ 1) ⊎ ((bit best y ≡ 1) ⊎ (code (get_or l y none) < code (get_or l first none))) → (bit best y ≡ 1) ⊎ (code (get_or l y none) < code (get_or l first none))
        go y (inl w) = absurd (omega (arith, sym (ap (λ (n : ℕ). bit n y) e ∙ bit_zero y) ∙ w))
        go y (inr h) = h

    module _ (other rest' : ℕ) (low : Lowest rest other) (out : BitPut rest other 0 rest') where
      abbrev in_set : bit set other ≡ 1
      in_set = chosen.among other low.member

      among : (y : ℕ) → bit rest' y ≡ 1 → bit set y ≡ 1
      among y w = chosen.among y (left_over rest rest' other out y w)

      -- those past, once the other is looked at
      past_by : {A : ℕ → Type 0} → A other → ((y : ℕ) → bit best y ≡ 1 → A y) → ((y : ℕ) → code (get_or l y none) < code (get_or l first none) → A y) → (y : ℕ) → bit set y ≡ 1 → (bit rest' y ≡ 1) ⊎ A y
      past_by {A} a b c y w = go (chosen.past y w)
        where
          left : (y ≡ other) ⊎ (bit rest' y ≡ 1) → (bit rest' y ≡ 1) ⊎ A y
          left (inl e) = inr (subst A (sym e) a)
          left (inr v) = inl v

          go : (bit rest y ≡ 1) ⊎ ((bit best y ≡ 1) ⊎ (code (get_or l y none) < code (get_or l first none))) → (bit rest' y ≡ 1) ⊎ A y
          go (inl v) = left (looked rest rest' other out y v)
          go (inr (inl v)) = inr (b y v)
          go (inr (inr v)) = inr (c y v)

      pub chosen_heavier : (one : ℕ) → code (get_or l first none) < code (get_or l other none) → BitPut 0 other 1 one → Chosen l set other one rest'
      chosen_heavier one h put = record {
        small = low.small;
        member = put.here;
        least = λ y w. omega (arith, only other one put y w);
        above = λ y w. not_below_lem rest other low y (left_over rest rest' other out y w);
        each = λ y w. let e = only other one put y w in (ap (bit set) e ∙ in_set, ap (λ (x : ℕ). get_or l x none) e);
        among = among;
        past = past_by (inl put.here) (λ y w. inr (omega (arith, ap code (chosen.each y w).1, h))) (λ y k. inr (omega (arith, k, h)));
      }

      pub chosen_equal : (more : ℕ) → get_or l first none ≡ get_or l other none → BitPut best other 1 more → Chosen l set first more rest'
      chosen_equal more e put = record {
        small = chosen.small;
        member = kept_member first chosen.member;
        least = λ y w. lowest y w (eq_or other y);
        above = λ y w. chosen.above y (left_over rest rest' other out y w);
        each = λ y w. each y w (eq_or other y);
        among = among;
        past = past_by (inl put.here) (λ y w. inl (kept_member y w)) (λ y k. inr k);
      }
        where
          kept_member : (y : ℕ) → bit best y ≡ 1 → bit more y ≡ 1
          kept_member y w = go (eq_or other y)
            where
              go : (other ≡ y) ⊎ (other ≢ y) → bit more y ≡ 1
              go (inl i) = ap (bit more) (sym i) ∙ put.here
              go (inr d) = put.others y d ∙ w

          lowest : (y : ℕ) → bit more y ≡ 1 → (other ≡ y) ⊎ (other ≢ y) → first ≤ y
          lowest y w (inl i) = omega (arith, i, chosen.above other low.member)
          lowest y w (inr d) = chosen.least y (sym (put.others y d) ∙ w)

          each : (y : ℕ) → bit more y ≡ 1 → (other ≡ y) ⊎ (other ≢ y) → (bit set y ≡ 1) × (get_or l y none ≡ get_or l first none)
          each y w (inl i) = (ap (bit set) (sym i) ∙ in_set, ap (λ (x : ℕ). get_or l x none) (sym i) ∙ sym e)
          each y w (inr d) = chosen.each y (sym (put.others y d) ∙ w)

      pub chosen_lighter : code (get_or l other none) < code (get_or l first none) → Chosen l set first best rest'
      chosen_lighter h = record { small = chosen.small; member = chosen.member; least = chosen.least; above = λ y w. chosen.above y (left_over rest rest' other out y w); each = chosen.each; among = among; past = past_by (inr h) (λ y w. inl w) (λ y k. inr k) }
