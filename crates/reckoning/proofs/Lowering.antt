-- The delegations decoded, lowered and read out, place by place. Assumes nothing.
use mathlib.Core.Path.{◌≡◌, refl, sym, ap, subst, ◌∙◌}
use mathlib.Core.Logic.{◌⊎◌, inl, inr}
use mathlib.Core.Bool.{Bool, true, false, not, ◌||◌}
use Rattle.std.proofs.lemmas.Bool.{or_parts}
use mathlib.Core.List.{List, map}
use Prim.Native.Nat.{ℕ, ◌+◌, ◌-◌, ◌≤◌, ◌<◌}
use native.Mathlib.Nat.{zero-add}
use native.Mathlib.Omega.{arith}
use borrow.Author.Count.{below_more}
use lib.Dec.{T, ltb, ltb→lt, nltb→le}
use lib.IntN.{ℤ, pos}
use lib.Signed.{lt_z}
use lib.ListN.{length, get_or, set, take, length-map}
use lib.Seq.{length-take-le, get_or-take, get_or-set_same, get_or-set_other}
use Rattle.std.proofs.lemmas.List.{get_or-map}
use Rattle.rules.specs.Register.{Delegation}
use Rattle.rules.proofs.Lists.{either}
use Rattle.reckoning.specs.Reckoned.{none_decoded, Decoded, lower_one, WeightsPut, WeightsRead, weight_left, RunLowered}
use Rattle.reckoning.specs.declared.Delegation.{Delegation as DecodedDelegation}

or_some : (a b : Bool) → (a || b) ≡ true → (a ≡ true) ⊎ (b ≡ true)
or_some true b e = inl refl
or_some false b e = inr e

-- ── the weights put in their places ──
module _ (f : ℕ → Delegation) (w : ℕ → ℤ) (first : ℕ) (l : List ℤ) where
  module _ (k : ℕ) (c : Bool) (m : List ℤ) (s : WeightsPut f w first k c l m) (room : first + k < length m) (v : ℤ) (e : v ≡ w k) where
    each_on : (j : ℕ) → j < k + 1 → get_or (set m (first + k) v) (first + j) (pos 0) ≡ w j
    each_on = below_more (λ j. get_or (set m (first + k) v) (first + j) (pos 0) ≡ w j) k
        (λ j h. get_or-set_other m (first + k) (first + j) v (pos 0) (λ q. omega arith) ∙ s.each j h)
        (get_or-set_same m (first + k) v (pos 0) room ∙ e)

    before_on : (j : ℕ) → j < first → get_or (set m (first + k) v) j (pos 0) ≡ get_or l j (pos 0)
    before_on j h = get_or-set_other m (first + k) j v (pos 0) (λ q. omega arith) ∙ s.before j h

    -- the weight at place k is below the one before, or is not
    pub put_on : (x : Bool) → lt_z v (pos (f (first + k)).weight) ≡ x → WeightsPut f w first (k + 1) (c || x) l (set m (first + k) v)
    put_on x q = record {
      each = each_on;
      before = before_on;
      same = λ z. let (a, b) = or_parts c x z in below_more (λ j. lt_z (w j) (pos (f (first + j)).weight) ≡ false) k (s.same a) (here ∙ b);
      less = λ z. go (or_some c x z);
    }
      where
        here : lt_z (w k) (pos (f (first + k)).weight) ≡ x
        here = ap (λ (y : ℤ). lt_z y (pos (f (first + k)).weight)) (sym e) ∙ q

        go : (c ≡ true) ⊎ (x ≡ true) → (j : ℕ) × (j < k + 1) × (lt_z (w j) (pos (f (first + j)).weight) ≡ true)
        go (inl a) = let (j, h, r) = s.less a in (j, omega arith, r)
        go (inr b) = (k, omega arith, here ∙ b)

-- a run as it was decoded, lowered and read out
pub run_lowered : (reaches : List ℤ) (f : ℕ → Delegation) (first n : ℕ) (c : Bool) (l m : List ℤ) (ds left : List DecodedDelegation) → n ≤ length ds → Decoded (λ k. f (first + k)) n ds
    → left ≡ map (lower_one reaches) (take n ds) → WeightsRead f left first (length left) c l m → RunLowered reaches f first n c l m
run_lowered reaches f first n c l m ds left room dec e r = record {
  each = λ k h. r.each k (omega (arith, size)) ∙ at k h;
  before = r.before;
  same = λ z k h. ap (λ (x : ℤ). lt_z x (pos (f (first + k)).weight)) (sym (at k h)) ∙ r.same z k (omega (arith, size));
  less = λ z. let (k, h, q) = r.less z in
      let b : k < n = omega (arith, size) in
      (k, b, ap (λ (x : ℤ). lt_z x (pos (f (first + k)).weight)) (sym (at k b)) ∙ q);
}
  where
    whole : length (take n ds) ≡ n
    whole = length-take-le n ds room

    size : length left ≡ n
    size = ap length e ∙ length-map (take n ds) (lower_one reaches) ∙ whole

    at : (k : ℕ) → k < n → (get_or left k none_decoded).weight ≡ weight_left reaches (f (first + k))
    at k h = ap (λ (d : DecodedDelegation). d.weight) (
        ap (λ (ys : List DecodedDelegation). get_or ys k none_decoded) e ∙ get_or-map (lower_one reaches) (take n ds) k none_decoded none_decoded (omega (arith, whole))
        ∙ ap (lower_one reaches) (get_or-take n ds k none_decoded h ∙ dec k h))

-- one run after another
module _ (reaches : List ℤ) (f : ℕ → Delegation) (a n : ℕ) (l m p : List ℤ) where
  each_then : (c d : Bool) → RunLowered reaches f 0 a c l m → RunLowered reaches f a n d m p → (k : ℕ) → k < a + n → get_or p (0 + k) (pos 0) ≡ weight_left reaches (f (0 + k))
  each_then c d r s k h = go (either (ltb k a))
    where
      go : T (ltb k a) ⊎ T (not (ltb k a)) → get_or p (0 + k) (pos 0) ≡ weight_left reaches (f (0 + k))
      go (inl q) = rw (zero-add k) (s.before k (ltb→lt k a q) ∙ (rw (zero-add k) at (r.each k (ltb→lt k a q))))
      go (inr q) =
          let i : 0 + k ≡ a + (k - a) = omega (arith, nltb→le k a q) in
          subst (λ (x : ℕ). get_or p x (pos 0) ≡ weight_left reaches (f x)) (sym i) (s.each (k - a) (omega (arith, nltb→le k a q)))

  same_then : (c d : Bool) → RunLowered reaches f 0 a c l m → RunLowered reaches f a n d m p → c ≡ false → d ≡ false → (k : ℕ) → k < a + n → lt_z (weight_left reaches (f (0 + k))) (pos (f (0 + k)).weight) ≡ false
  same_then c d r s x y k h = go (either (ltb k a))
    where
      go : T (ltb k a) ⊎ T (not (ltb k a)) → lt_z (weight_left reaches (f (0 + k))) (pos (f (0 + k)).weight) ≡ false
      go (inl q) = r.same x k (ltb→lt k a q)
      go (inr q) =
          let i : 0 + k ≡ a + (k - a) = omega (arith, nltb→le k a q) in
          subst (λ (j : ℕ). lt_z (weight_left reaches (f j)) (pos (f j).weight) ≡ false) (sym i) (s.same y (k - a) (omega (arith, nltb→le k a q)))

  less_then : (c d : Bool) → RunLowered reaches f 0 a c l m → RunLowered reaches f a n d m p → (c ≡ true) ⊎ (d ≡ true) → (k : ℕ) × (k < a + n) × (lt_z (weight_left reaches (f (0 + k))) (pos (f (0 + k)).weight) ≡ true)
  less_then c d r s (inl x) = let (k, h, q) = r.less x in (k, omega arith, q)
  less_then c d r s (inr y) =
      let (k, h, q) = s.less y in
      let i : a + k ≡ 0 + (a + k) = omega arith in
      (a + k, omega arith, subst (λ (j : ℕ). lt_z (weight_left reaches (f j)) (pos (f j).weight) ≡ true) i q)

  pub then_run : (c d : Bool) (t : ℕ) → a + n ≡ t → RunLowered reaches f 0 a c l m → RunLowered reaches f a n d m p → RunLowered reaches f 0 t (c || d) l p
  then_run c d t e r s = subst (λ (x : ℕ). RunLowered reaches f 0 x (c || d) l p) e record {
    each = each_then c d r s;
    before = λ k h. absurd (omega arith);
    same = λ z. let (x, y) = or_parts c d z in same_then c d r s x y;
    less = λ z. less_then c d r s (or_some c d z);
  }
