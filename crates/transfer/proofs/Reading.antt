-- The refusals of a read, in order, and what an accepted one leaves. Assumes nothing.
use mathlib.Core.Path.{◌≡◌, refl, sym, ap, subst, ◌∙◌}
use mathlib.Core.Logic.{◌≢◌, ◌⊎◌, inl, inr}
use mathlib.Core.Bool.{Bool, true, false, cond, not, ◌||◌}
use mathlib.Core.List.{List}
use Prim.Native.Nat.{ℕ}
use native.Mathlib.Omega.{arith}
use borrow.Author.Tests.{eq-eqb, ne_eqb}
use lib.Dec.{T, eqb, eqb→eq}
use lib.ListN.{length}
use Rattle.rules.specs.Refusal.{too_heavy}
use Rattle.rules.proofs.Lists.{yes, no, eq_or}
use Rattle.block.specs.Layout.{block_size}
use Rattle.steptable.specs.TableText.{Given}
use Rattle.regfile.specs.FileText.{Filed}
use Rattle.register.specs.CallOn.{Result, turned}
use Rattle.transfer.specs.FileOn.{read_refusal, holding, read_on}

-- the numbers in order: the length is right, a text is malformed, the table is broken, the lines make no block, a delegation is too heavy
abbrev ladder : Bool → Bool → Bool → Bool → Bool → ℕ
ladder long malformed broken unformed heavy = cond (not long) 1 (cond malformed 7 (cond broken 17 (cond unformed 8 (cond heavy 18 0))))

-- the refusal is one of these
abbrev pub ReadNumber : ℕ → Type 0
ReadNumber n = (n ≡ 0) ⊎ ((n ≡ 1) ⊎ ((n ≡ 7) ⊎ ((n ≡ 17) ⊎ ((n ≡ 8) ⊎ (n ≡ 18)))))

ladder_number : (l m t u h : Bool) → ReadNumber (ladder l m t u h)
ladder_number false m t u h = inr (inl refl)
ladder_number true true t u h = inr (inr (inl refl))
ladder_number true false true u h = inr (inr (inr (inl refl)))
ladder_number true false false true h = inr (inr (inr (inr (inl refl))))
ladder_number true false false false true = inr (inr (inr (inr (inr refl))))
ladder_number true false false false false = inl refl

ladder_none : (l m t u h : Bool) → ladder l m t u h ≡ 0 → (l ≡ true) × (m ≡ false) × (t ≡ false) × (u ≡ false) × (h ≡ false)
ladder_none false m t u h e = absurd (omega arith)
ladder_none true true t u h e = absurd (omega arith)
ladder_none true false true u h e = absurd (omega arith)
ladder_none true false false true h e = absurd (omega arith)
ladder_none true false false false true e = absurd (omega arith)
ladder_none true false false false false e = (refl, refl, refl, refl, refl)

neither : (x y : Bool) → (x || y) ≡ false → (x ≡ false) × (y ≡ false)
neither true y e = absurd (subst T e tt)
neither false y e = (refl, e)

apart : (m n : ℕ) → eqb m n ≡ false → m ≢ n
apart m n e q = no e (yes (eq-eqb m n q))

or_right : (x : Bool) → (x || true) ≡ true
or_right true = refl
or_right false = refl

module _ (g : Given) (f : Filed) (b : List ℕ) where
  abbrev heavy : Bool
  heavy = too_heavy g.steps f.register f.register.delegations

  -- no refusal applies
  pub record Through : Type 0 where
    pub long : length b ≡ block_size
    pub table : (g.refusal ≢ 7) × (g.refusal ≢ 17)
    pub file : (f.refusal ≢ 7) × (f.refusal ≢ 8)
    pub light : heavy ≡ false

  as_ladder : read_refusal g f b ≡ ladder (eqb (length b) block_size) (eqb g.refusal 7 || eqb f.refusal 7) (eqb g.refusal 17) (eqb f.refusal 8) heavy
  unfolding read_refusal
  as_ladder = refl

  pub read_number : ReadNumber (read_refusal g f b)
  read_number = subst ReadNumber (sym as_ladder) (ladder_number (eqb (length b) block_size) (eqb g.refusal 7 || eqb f.refusal 7) (eqb g.refusal 17) (eqb f.refusal 8) heavy)

  -- ── each of them ──
  pub read_long : length b ≢ block_size → read_refusal g f b ≡ 1
  read_long n = as_ladder ∙ rw (ne_eqb (length b) block_size n)

  module _ (long : length b ≡ block_size) where
    pub read_file_malformed : f.refusal ≡ 7 → read_refusal g f b ≡ 7
    read_file_malformed e = as_ladder ∙ rw (eq-eqb (length b) block_size long, eq-eqb f.refusal 7 e, or_right (eqb g.refusal 7))

    pub read_table_malformed : g.refusal ≡ 7 → read_refusal g f b ≡ 7
    read_table_malformed e = as_ladder ∙ rw (eq-eqb (length b) block_size long, eq-eqb g.refusal 7 e)

    pub read_broken : f.refusal ≢ 7 → g.refusal ≡ 17 → read_refusal g f b ≡ 17
    read_broken n e = as_ladder ∙ rw (eq-eqb (length b) block_size long, ne_eqb f.refusal 7 n, e)

    module _ (passes : g.refusal ≡ 0) where
      pub read_unformed : f.refusal ≡ 8 → read_refusal g f b ≡ 8
      read_unformed e = as_ladder ∙ rw (eq-eqb (length b) block_size long, passes, e)

      pub read_heavy : f.refusal ≡ 0 → read_refusal g f b ≡ cond heavy 18 0
      read_heavy e = as_ladder ∙ rw (eq-eqb (length b) block_size long, passes, e)

  -- ── none of them ──
  pub read_through : read_refusal g f b ≡ 0 → Through
  read_through z =
      let (l, m, t, u, h) = ladder_none (eqb (length b) block_size) (eqb g.refusal 7 || eqb f.refusal 7) (eqb g.refusal 17) (eqb f.refusal 8) heavy (sym as_ladder ∙ z) in
      let (p, q) = neither (eqb g.refusal 7) (eqb f.refusal 7) m in
      record {
        long = eqb→eq (length b) block_size (yes l);
        table = (apart g.refusal 7 p, apart g.refusal 17 t);
        file = (apart f.refusal 7 q, apart f.refusal 8 u);
        light = h;
      }

  -- ── what is returned and left ──
  pub read_refused : (n : ℕ) → read_refusal g f b ≡ n → n ≢ 0 → read_on g f b ≡ turned n b
  unfolding read_on
  read_refused n e k = go (eqb (read_refusal g f b) 0) (ap (λ (m : ℕ). eqb m 0) e ∙ ne_eqb n 0 k)
    where
      go : (x : Bool) → x ≡ false → let r : Result = elim x [ true ↦ holding f.register | false ↦ turned (read_refusal g f b) b ] in r ≡ turned n b
      go true q = absurd (subst T q tt)
      go false q = ap (λ (m : ℕ). turned m b) e

  pub read_accepted : read_refusal g f b ≡ 0 → read_on g f b ≡ holding f.register
  unfolding read_on
  read_accepted e = go (eqb (read_refusal g f b) 0) (eq-eqb (read_refusal g f b) 0 e)
    where
      go : (x : Bool) → x ≡ true → let r : Result = elim x [ true ↦ holding f.register | false ↦ turned (read_refusal g f b) b ] in r ≡ holding f.register
      go true q = refl
      go false q = absurd (subst T (sym q) tt)

  pub read_same : (read_on g f b).refusal ≡ read_refusal g f b
  read_same = go (eq_or (read_refusal g f b) 0)
    where
      go : (read_refusal g f b ≡ 0) ⊎ (read_refusal g f b ≢ 0) → (read_on g f b).refusal ≡ read_refusal g f b
      go (inl e) = ap (λ (r : Result). r.refusal) (read_accepted e) ∙ sym e
      go (inr k) = ap (λ (r : Result). r.refusal) (read_refused (read_refusal g f b) refl k)

  -- a refused read is turned back with its number
  pub read_turned : (read_on g f b).refusal ≢ 0 → read_on g f b ≡ turned (read_on g f b).refusal b
  read_turned k = read_refused (read_on g f b).refusal (sym read_same) k
