-- One line of a table's text: its weight, then its next. Assumes nothing.
use Rattle.std.proofs.lemmas.Bool.{false≢true}
use mathlib.Core.Path.{◌≡◌, sym, ap, ◌∙◌}
use mathlib.Core.Logic.{◌≢◌}
use mathlib.Core.Bool.{true, false}
use mathlib.Core.List.{List, [], ◌∷◌, ◌++◌}
use Prim.Native.Nat.{ℕ, zero, suc, ◌≤◌}
use native.Mathlib.Omega.{arith}
use borrow.Author.Tests.{ltb-true, lt-ltb}
use lib.Dec.{T}
use lib.IntN.{ℤ, pos, negsuc}
use lib.Signed.{lt_z}
use lib.ListN.{drop}
use mir.Syntax.{w64}
use mir.Val.{of_z, to_z}
use Rattle.rules.specs.Limit.{none, from_none}
use Rattle.text.specs.Text.{digits, number, Allowed}
use Rattle.std.specs.Prelude.{None, Some}
use Rattle.text.specs.Read.{NumberRead, ValueRead}
use Rattle.text.specs.declared.Found.{Found}
use Rattle.text.proofs.Signed.{kept, allowed_fits}
use Rattle.text.proofs.Lines.{line_cons}
use Rattle.steptable.specs.TableText.{entry_line, IsNext}
use Rattle.steptable.specs.Read.{EntryRead}

-- ── the sign ──
low : (x : ℤ) → lt_z x none ≡ true → T (from_none x) → ⊥
unfolding from_none
low (pos n) e f = absurd (false≢true e)
low (negsuc zero) e f = absurd (omega (arith, ltb-true 0 0 e))
low (negsuc (suc n)) e f = f

not_low : (x : ℤ) → lt_z x none ≡ false → T (from_none x)
unfolding from_none
not_low (pos n) e = tt
not_low (negsuc zero) e = tt
not_low (negsuc (suc n)) e = absurd (false≢true (sym e ∙ lt-ltb 0 (suc n) (omega arith)))

pub held : (x : ℤ) → Allowed true x → to_z w64 (of_z w64 x) ≡ x
held x a = kept x (allowed_fits true x a)

-- ── the line ──
pub entry_spelt : (w : ℕ) (x : ℤ) (rest : List ℕ) → entry_line w x ++ rest ≡ digits w ++ (32 ∷ (number x ++ (10 ∷ rest)))
entry_spelt w x rest = line_cons (pos w) (x ∷ []) rest ∙ ap (λ (s : List ℕ). digits w ++ (32 ∷ s)) (line_cons x [] rest)

module _ (text : List ℕ) (at w : ℕ) (h : w ≤ 255) where
  none_read : ((x : ℤ) (rest : List ℕ) → IsNext x → drop at text ≡ entry_line w x ++ rest → ⊥) → EntryRead text at w None
  none_read f = record { read = tt; each = f }

  pub no_weight_lem : NumberRead text at 32 None → EntryRead text at w None
  no_weight_lem m = none_read (λ x rest e d. m.each w (number x ++ (10 ∷ rest)) (omega arith) (d ∙ entry_spelt w x rest))

  module _ (n : Found ℕ) (m : NumberRead text at 32 (Some n)) where
    onward : (x : ℤ) (rest : List ℕ) → drop at text ≡ entry_line w x ++ rest → (n.value ≡ w) × (drop n.next text ≡ number x ++ (10 ∷ rest))
    onward x rest d = m.each w (number x ++ (10 ∷ rest)) (omega arith) (d ∙ entry_spelt w x rest)

    pub other_weight : n.value ≢ w → EntryRead text at w None
    other_weight f = none_read (λ x rest e d. f (onward x rest d).0)

    pub no_next : ValueRead text n.next 10 true None → EntryRead text at w None
    no_next q = none_read (λ x rest e d. q.each x rest e.0 (onward x rest d).1)

    module _ (v : Found ℤ) (q : ValueRead text n.next 10 true (Some v)) where
      pub next_low : lt_z (to_z w64 (of_z w64 v.value)) none ≡ true → EntryRead text at w None
      next_low l = none_read never
        where
          never : (x : ℤ) (rest : List ℕ) → IsNext x → drop at text ≡ entry_line w x ++ rest → ⊥
          never x rest e d =
              let g = q.each x rest e.0 (onward x rest d).1 in
              low x (sym (ap (λ (z : ℤ). lt_z z none) (ap (λ (z : ℤ). to_z w64 (of_z w64 z)) g.0 ∙ held x e.0)) ∙ l) e.1

      pub next_there : n.value ≡ w → lt_z (to_z w64 (of_z w64 v.value)) none ≡ false → EntryRead text at w (Some v)
      next_there g l = record { read = read; each = λ x rest e d. q.each x rest e.0 (onward x rest d).1 }
        where
          read : IsNext v.value × (drop at text ≡ entry_line w v.value ++ drop v.next text)
          read =
              let a = q.read in (
                (a.0, not_low v.value (sym (ap (λ (z : ℤ). lt_z z none) (held v.value a.0)) ∙ l)),
                m.read.2 ∙ (λ i. digits (g i) ++ (32 ∷ a.2 i)) ∙ sym (entry_spelt w v.value (drop v.next text)),
              )
