-- Seven values are a call's exactly where its number is known and the columns that it does not use are 0. Assumes nothing.
use Rattle.std.proofs.lemmas.Bool.{false≢true}
use mathlib.Core.Path.{◌≡◌, refl, sym, ap, subst, ◌∙◌}
use mathlib.Core.Logic.{◌≢◌, ◌⊎◌, inl, inr}
use mathlib.Core.Bool.{Bool, true, false, not, ◌&&◌}
use mathlib.Core.List.{List, [], ◌∷◌}
use Prim.Native.Nat.{ℕ, zero, suc, ◌≤◌}
use native.Mathlib.Omega.{arith}
use borrow.Author.Tests.{eqb-true, le-leb, ne_eqb}
use lib.Dec.{T, eqb, leb, leb→le, nleb→lt}
use lib.IntN.{ℤ, pos, nat_abs}
use lib.ListN.{get_or}
use Rattle.rules.proofs.Lists.{either}
use Rattle.replay.specs.Replay.{is_call, call_of}
use Rattle.callfile.specs.CallFile.{row, FileCall, enrols, grants, revokes, downgrades, asks_reach, asks_use, meant, values}
use Rattle.callfile.specs.Row.{all_zero, is_row, file_call_of}

-- ── a call's values pass the test, and are its own ──
abbrev column : List ℤ → ℕ → ℕ
column zs i = nat_abs (get_or zs i (pos 0))

abbrev test : List ℤ → Bool
test zs = is_row (column zs 0) (column zs 1) (column zs 2) (column zs 3) (column zs 4) (column zs 5) (column zs 6)

abbrev call_in : List ℤ → FileCall
call_in zs = file_call_of (column zs 0) (column zs 1) (column zs 2) (column zs 3) (column zs 4) (column zs 5) (column zs 6)

read_back : (c : FileCall) → (test (values c) ≡ true) × (call_in (values c) ≡ c)
unfolding is_row file_call_of
read_back (enrols m) = (refl, refl)
read_back (grants g r w n b) = (refl, refl)
read_back (revokes y g r) = (refl, refl)
read_back (downgrades y g r w) = (refl, refl)
read_back (asks_reach g r) = (refl, refl)
read_back (asks_use r) = (refl, refl)

pub row_none : (number by giver receiver weight need bar : ℕ) → is_row number by giver receiver weight need bar ≡ false → (c : FileCall) → row number by giver receiver weight need bar ≢ values c
row_none number by giver receiver weight need bar e c q = absurd (false≢true (sym e ∙ ap test q ∙ (read_back c).0))

pub values_inj : (c d : FileCall) → values c ≡ values d → c ≡ d
values_inj c d e = sym (read_back c).1 ∙ ap call_in e ∙ (read_back d).1

-- ── what passes the test is a call's values ──
abbrev AllZero : List ℕ → Type 0
AllZero [] = Unit {0}
AllZero (n ∷ ns) = (n ≡ 0) × AllZero ns

zero_each : (ns : List ℕ) → all_zero ns ≡ true → AllZero ns
zero_each [] h = tt
zero_each (n ∷ ns) h = let p = both (eqb n 0) (all_zero ns) h in (eqb-true n 0 p.0, zero_each ns p.1)
  where
    both : (x y : Bool) → x && y ≡ true → (x ≡ true) × (y ≡ true)
    both true y h = (refl, h)
    both false y h = absurd (false≢true h)

module _ (by giver receiver weight need bar : ℕ) where
  -- the values of the call that a number names, and its meaning
  abbrev Named : ℕ → Type 0
  Named n =
      is_row n by giver receiver weight need bar ≡ true
      → (row n by giver receiver weight need bar ≡ values (file_call_of n by giver receiver weight need bar)) × (meant (file_call_of n by giver receiver weight need bar) ≡ call_of n by giver receiver weight need bar)

  named_0 : Named 0
  unfolding is_row file_call_of call_of
  named_0 e = let z = zero_each (by ∷ giver ∷ receiver ∷ weight ∷ bar ∷ []) e in (λ p. row 0 (z.0 p) (z.1.0 p) (z.1.1.0 p) (z.1.1.1.0 p) need (z.1.1.1.1.0 p), refl)

  named_1 : Named 1
  unfolding is_row file_call_of call_of
  named_1 e = let z = eqb-true by 0 e in (λ p. row 1 (z p) giver receiver weight need bar, refl)

  named_2 : Named 2
  unfolding is_row file_call_of call_of
  named_2 e = let z = zero_each (weight ∷ need ∷ bar ∷ []) e in (λ p. row 2 by giver receiver (z.0 p) (z.1.0 p) (z.1.1.0 p), refl)

  named_3 : Named 3
  unfolding is_row file_call_of call_of
  named_3 e = let z = zero_each (need ∷ bar ∷ []) e in (λ p. row 3 by giver receiver weight (z.0 p) (z.1.0 p), refl)

  named_4 : Named 4
  unfolding is_row file_call_of call_of
  named_4 e = let z = zero_each (by ∷ weight ∷ need ∷ bar ∷ []) e in (λ p. row 4 (z.0 p) giver receiver (z.1.0 p) (z.1.1.0 p) (z.1.1.1.0 p), refl)

  named_5 : Named 5
  unfolding is_row file_call_of call_of
  named_5 e = let z = zero_each (by ∷ giver ∷ weight ∷ need ∷ bar ∷ []) e in (λ p. row 5 (z.0 p) (z.1.0 p) receiver (z.1.1.0 p) (z.1.1.1.0 p) (z.1.1.1.1.0 p), refl)

  named : (n : ℕ) → n ≤ 5 → Named n
  named zero l = named_0
  named (suc zero) l = named_1
  named (suc (suc zero)) l = named_2
  named (suc (suc (suc zero))) l = named_3
  named (suc (suc (suc (suc zero)))) l = named_4
  named (suc (suc (suc (suc (suc zero))))) l = named_5
  named (suc (suc (suc (suc (suc (suc n)))))) l = absurd (omega arith)

  row_known : (n : ℕ) → is_row n by giver receiver weight need bar ≡ true → n ≤ 5
  unfolding is_row
  row_known n h = go (either (leb n 5))
    where
      go : T (leb n 5) ⊎ T (not (leb n 5)) → n ≤ 5
      go (inl q) = leb→le n 5 q
      go (inr q) =
          let l = nleb→lt n 5 q in
          absurd (false≢true (sym (rw (ne_eqb n 0 (λ e. omega arith), ne_eqb n 1 (λ e. omega arith), ne_eqb n 2 (λ e. omega arith), ne_eqb n 3 (λ e. omega arith), ne_eqb n 4 (λ e. omega arith), ne_eqb n 5 (λ e. omega arith))) ∙ h))

pub row_call : (number by giver receiver weight need bar : ℕ) → is_row number by giver receiver weight need bar ≡ true → T (is_call number)
row_call number by giver receiver weight need bar e = subst T (sym (le-leb number 7 (omega (arith, row_known by giver receiver weight need bar number e)))) tt

pub row_named : (number by giver receiver weight need bar : ℕ) → is_row number by giver receiver weight need bar ≡ true
    → (row number by giver receiver weight need bar ≡ values (file_call_of number by giver receiver weight need bar))
    × (meant (file_call_of number by giver receiver weight need bar) ≡ call_of number by giver receiver weight need bar)
row_named number by giver receiver weight need bar e = named by giver receiver weight need bar number (row_known by giver receiver weight need bar number e) e
