-- Retired subjects: by bits, and those of a register that a change leaves. Assumes nothing.
use mathlib.Core.Path.{◌≡◌, sym, ap, subst, ◌∙◌}
use mathlib.Core.Logic.{◌≢◌, ◌⊎◌, inl, inr}
use mathlib.Core.Bool.{not}
use Prim.Native.Nat.{ℕ, ◌^◌, ◌<◌}
use native.Mathlib.Nat.{one-mul}
use native.Mathlib.Omega.{arith}
use lib.Bits.{bit_or, or_lt}
use lib.Dec.{T, eqb, eqb→eq, not_T}
use lib.Pow.{pow-lt}
use lib.Seq.{get_or-set_same, get_or-set_other}
use Rattle.rules.specs.List.{◌∈◌, filter}
use Rattle.rules.specs.Bits.{bit, is_set, BitPut}
use Rattle.rules.specs.Register.{Delegation, Register, is_retired}
use Rattle.rules.specs.Cut.{retirement, touches, changed}
use Rattle.rules.specs.WellFormed.{RetiredFormed, Apart, WellFormed}
use Rattle.rules.proofs.Lists.{filter_mem, eq_to_eqb, not_or_left, not_or_right, test_ne, eq_or}
use Rattle.rules.proofs.Bits.{bit_zero, bit_small, bits_below, put_in}

-- ── a bit that is set, and one that is not ──
pub bit_set : (n s : ℕ) → T (is_set n s) → bit n s ≡ 1
bit_set n s h = eqb→eq (bit n s) 1 h

pub bit_unset : (n s : ℕ) → T (not (is_set n s)) → bit n s ≡ 0
bit_unset n s h = omega (arith, test_ne (bit n s) 1 h, bit_small n s)

pub unset_bit : (n s : ℕ) → bit n s ≡ 0 → T (not (is_set n s))
unset_bit n s e = not_T (is_set n s) (λ h. omega (arith, bit_set n s h))

pub none_retired : (s : ℕ) → T (is_set 0 s) → ⊥
none_retired s h = omega (arith, bit_zero s, bit_set 0 s h)

-- ── one subject more ──
pub retired_put : (n s : ℕ) → BitPut n s 1 (bit_or n (2 ^ s))
retired_put n s = put_in s (2 ^ s) (sym (one-mul (2 ^ s))) n

pub retired_few : (k n s : ℕ) → n < 2 ^ k → s < k → bit_or n (2 ^ s) < 2 ^ k
retired_few k n s h l = or_lt k n (2 ^ s) h (pow-lt l)

-- who is retired after it: the subject, and all who were before
pub retired_after : (n s v : ℕ) → T (is_set (bit_or n (2 ^ s)) v) → (s ≡ v) ⊎ (T (is_set n v) × (s ≢ v))
retired_after n s v h = go (eq_or s v)
  where
    go : (s ≡ v) ⊎ (s ≢ v) → (s ≡ v) ⊎ (T (is_set n v) × (s ≢ v))
    go (inl e) = inl e
    go (inr d) = inr (eq_to_eqb (sym ((retired_put n s).others v d) ∙ bit_set (bit_or n (2 ^ s)) v h), d)

pub retired_still : (n s v : ℕ) → T (is_set n v) → T (is_set (bit_or n (2 ^ s)) v)
retired_still n s v h = go (eq_or s v)
  where
    go : (s ≡ v) ⊎ (s ≢ v) → T (is_set (bit_or n (2 ^ s)) v)
    go (inl e) = eq_to_eqb (ap (bit (bit_or n (2 ^ s))) (sym e) ∙ (retired_put n s).here)
    go (inr d) = eq_to_eqb ((retired_put n s).others v d ∙ bit_set n v h)

pub others_unretired : (n s v : ℕ) → T (not (is_set n v)) → s ≢ v → T (not (is_set (bit_or n (2 ^ s)) v))
others_unretired n s v h d = unset_bit (bit_or n (2 ^ s)) v ((retired_put n s).others v d ∙ bit_unset n v h)

-- a bit for each enrolled subject is enough
pub retired_room : (R : Register) → WellFormed R → R.retired < 2 ^ R.subjects
retired_room R f = bits_below R.subjects R.retired (λ y l. bit_unset R.retired y (not_T (is_retired R y) (λ h. let (s, n, m) = f.retired y h in omega arith)))

-- ── the register after a retirement ──
module _ (R : Register) (s : ℕ) (f : WellFormed R) where
  pub retired_each : s < R.subjects → s ≢ 0 → (v : ℕ) → T (is_retired (changed R (retirement s)) v) → RetiredFormed (changed R (retirement s)) v
  retired_each l n v h = go (retired_after R.retired s v h)
    where
      go : (s ≡ v) ⊎ (T (is_retired R v) × (s ≢ v)) → RetiredFormed (changed R (retirement s)) v
      go (inl e) = subst (RetiredFormed (changed R (retirement s))) e (l, n, get_or-set_same R.marks s 0 0 (omega (arith, f.marked)))
      go (inr (k, d)) = let (a, b, c) = f.retired v k in (a, b, get_or-set_other R.marks s v 0 0 (λ e. d (sym e)) ∙ c)

  pub retired_apart : (d : Delegation) → d ∈ filter (λ x. not (touches s x)) R.delegations → Apart (changed R (retirement s)) d
  retired_apart d m =
      let (i, h) = filter_mem (λ x. not (touches s x)) R.delegations m in
      let (g, r) = f.apart d i in
      let a = test_ne d.giver s (not_or_left (eqb d.giver s) (eqb d.receiver s) h) in
      let b = test_ne d.receiver s (not_or_right (eqb d.giver s) (eqb d.receiver s) h) in
      (others_unretired R.retired s d.giver g (λ e. a (sym e)), others_unretired R.retired s d.receiver r (λ e. b (sym e)))
