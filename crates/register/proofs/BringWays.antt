-- The ways of bringing a block over: refused by a length, by 8, or brought; and the register that it holds then. Assumes nothing.
use mathlib.Core.Path.{◌≡◌, refl, sym, ap, ◌∙◌}
use mathlib.Core.Logic.{◌≢◌}
use mathlib.Core.Bool.{Bool, true, false, cond, not, ◌||◌}
use mathlib.Core.List.{List}
use Prim.Native.Nat.{ℕ}
use native.Mathlib.Omega.{arith}
use borrow.Author.Tests.{eq-eqb, ne_eqb}
use lib.Dec.{eqb}
use lib.IntN.{pos}
use lib.ListN.{length}
use Rattle.block.specs.Layout.{block_size}
use Rattle.block.specs.WellFormed.{well_formed}
use Rattle.block.specs.Older.{old_size, brought}
use Rattle.register.specs.CallOn.{turned}
use Rattle.register.specs.Bring.{bring_refusal, bring_on, BringMade}
use Rattle.register.specs.Answer.{refused_by, answered_by}

module _ (old b : List ℕ) where
  bring_refused : (n : ℕ) → bring_refusal old b ≡ n → n ≢ 0 → BringMade old b (refused_by n) b
  unfolding bring_on
  bring_refused n e z = sym ((λ j. cond (eqb (e j) 0) record { refusal = 0; first = pos 0; second = pos 0; third = pos 0; bytes = brought old } (turned (e j) b)) ∙ ap (λ (x : Bool). cond x record { refusal = 0; first = pos 0; second = pos 0; third = pos 0; bytes = brought old } (turned n b)) (ne_eqb n 0 z))

  -- the tests one after another
  bring_first : (x y w : Bool) → eqb (length old) old_size ≡ x → eqb (length b) block_size ≡ y → well_formed (brought old) ≡ w → bring_refusal old b ≡ cond (not x || not y) 1 (cond (not w) 8 0)
  bring_first x y w p q r = λ j. cond (not (p j) || not (q j)) 1 (cond (not (r j)) 8 0)

  pub bring_old : length old ≢ old_size → BringMade old b (refused_by 1) b
  bring_old n = bring_refused 1 (bring_first false (eqb (length b) block_size) (well_formed (brought old)) (ne_eqb (length old) old_size n) refl refl) (λ z. omega arith)

  module _ (e : length old ≡ old_size) where
    pub bring_new : length b ≢ block_size → BringMade old b (refused_by 1) b
    bring_new n = bring_refused 1 (bring_first true false (well_formed (brought old)) (eq-eqb (length old) old_size e) (ne_eqb (length b) block_size n) refl) (λ z. omega arith)

    module _ (h : length b ≡ block_size) where
      bring_sized : (w : Bool) → well_formed (brought old) ≡ w → bring_refusal old b ≡ cond (not w) 8 0
      bring_sized w r = bring_first true true w (eq-eqb (length old) old_size e) (eq-eqb (length b) block_size h) r

      pub bring_unformed : well_formed (brought old) ≡ false → BringMade old b (refused_by 8) b
      bring_unformed r = bring_refused 8 (bring_sized false r) (λ z. omega arith)

      pub bring_done : well_formed (brought old) ≡ true → (after : List ℕ) → after ≡ brought old → BringMade old b (answered_by (pos 0) (pos 0) (pos 0)) after
      unfolding bring_on
      bring_done r after q =
          (λ j. record { refusal = 0; first = pos 0; second = pos 0; third = pos 0; bytes = q j })
          ∙ sym (λ j. cond (eqb (bring_sized true r j) 0) record { refusal = 0; first = pos 0; second = pos 0; third = pos 0; bytes = brought old } (turned (bring_sized true r j) b))
