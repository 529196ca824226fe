-- Laws of limits and of the step of a limit, from the rule of the table alone. Assumes nothing.
use mathlib.Core.Path.{◌≡◌, refl, sym, ap, subst}
use mathlib.Core.Logic.{◌≢◌, ◌⊎◌, inl, inr}
use mathlib.Core.Bool.{Bool, true, false, cond, not}
use mathlib.Core.List.{List}
use Prim.Native.Nat.{ℕ, zero, suc, ◌+◌, ◌-◌, ◌≤◌, ◌<◌, min, zero-le}
use native.Mathlib.Nat.{le_trans, le_refl, add-zero, add-suc}
use native.Mathlib.Omega.{arith}
use lib.Dec.{T, leb, eqb, eqb→eq, leb→le, nleb→lt, T_not}
use lib.IntN.{ℤ, pos, negsuc}
use Rattle.rules.specs.Limit.{none, code, ◌≼◌, larger}
use Rattle.rules.specs.Table.{entry, next, TableRule}
use Rattle.rules.proofs.Lists.{either, eq_to_eqb}

pub code_inj : (a b : ℤ) → code a ≡ code b → zero < code a → a ≡ b
code_inj (pos m) (pos n) e h = ap pos (omega arith)
code_inj (pos m) (negsuc n) e h = absurd (omega arith)
code_inj (negsuc m) b e h = absurd (omega arith)

pub larger_left : (a b : ℤ) → a ≼ larger a b
unfolding larger
larger_left a b = go (leb (code a) (code b)) (leb→le (code a) (code b))
  where
    go : (x : Bool) → (T x → code a ≤ code b) → a ≼ cond x b a
    go true f = f tt
    go false f = le_refl (code a)

pub larger_right : (a b : ℤ) → b ≼ larger a b
unfolding larger
larger_right a b = go (leb (code a) (code b)) (nleb→lt (code a) (code b))
  where
    go : (x : Bool) → (T (not x) → code b < code a) → b ≼ cond x b a
    go true f = le_refl (code b)
    go false f = omega (arith, f tt)

pub larger_either : (a b : ℤ) → (larger a b ≡ a) ⊎ (larger a b ≡ b)
unfolding larger
larger_either a b = go (leb (code a) (code b))
  where
    go : (x : Bool) → (cond x b a ≡ a) ⊎ (cond x b a ≡ b)
    go true = inr refl
    go false = inl refl

module _ (t : List ℤ) (rule : TableRule t) where
  entry_mono_add : (k w : ℕ) → w + k ≤ 255 → entry t w ≼ entry t (w + k)
  entry_mono_add zero w h = subst (λ (x : ℕ). entry t w ≼ entry t x) (sym (add-zero w)) (le_refl (code (entry t w)))
  entry_mono_add (suc k) w h =
      subst (λ (x : ℕ). entry t w ≼ entry t x) (sym (add-suc w k))
      (le_trans (entry_mono_add k w (omega arith)) (rule.rises (w + k) (omega arith)))

  entry_mono : (v w : ℕ) → v ≤ w → w ≤ 255 → entry t v ≼ entry t w
  entry_mono v w h h' =
      subst (λ (x : ℕ). entry t v ≼ entry t x) (omega arith) (entry_mono_add (w - v) v (omega arith))

  entry_top : (w : ℕ) → w ≤ 255 → code (entry t w) ≤ 256
  entry_top w h = le_trans (entry_mono w 255 h (le_refl 255)) rule.last

  -- a table step is monotone in the limit and in the weight
  pub next_mono : (l m : ℤ) (v w : ℕ) → l ≼ m → m ≼ pos 255 → v ≤ w → next t l v ≼ next t m w
  unfolding next
  next_mono (pos a) (pos b) v w h k e = entry_mono (min a v) (min b w) (omega arith) (omega arith)
  next_mono (pos a) (negsuc b) v w h k e = absurd (omega arith)
  next_mono (negsuc a) m v w h k e = zero-le

  pub next_top : (l : ℤ) (w : ℕ) → l ≼ pos 255 → next t l w ≼ pos 255
  unfolding next
  next_top (pos a) w h = entry_top (min a w) (omega arith)
  next_top (negsuc a) w h = zero-le

-- a step never raises a limit
pub next_below : (t : List ℤ) → TableRule t → (l : ℤ) (w : ℕ) → l ≼ pos 255 → next t l w ≼ l
unfolding next
next_below t rule (negsuc n) w h = zero-le
next_below t rule (pos a) w h = go (either (eqb (min a w) 255))
  where
    go : T (eqb (min a w) 255) ⊎ T (not (eqb (min a w) 255)) → entry t (min a w) ≼ pos a
    go (inl q) = let e = eqb→eq (min a w) 255 q in omega (arith, entry_top t rule (min a w) (omega arith))
    go (inr q) =
        let n : min a w ≢ 255 = λ e. T_not (eqb (min a w) 255) q (eq_to_eqb e) in
        omega (arith, rule.falls (min a w) (omega arith))

-- past none there is none
pub next_none : (t : List ℤ) (w : ℕ) → next t none w ≼ none
unfolding next
next_none t w = le_refl zero

pub next_live : (t : List ℤ) (l : ℤ) (w : ℕ) → zero < code (next t l w) → zero < code l
unfolding next
next_live t (pos n) w h = omega arith
next_live t (negsuc n) w h = h
