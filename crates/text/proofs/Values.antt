-- One signed number: with its sign, and without. Assumes nothing.
use Rattle.std.proofs.lemmas.Bool.{false≢true}
use mathlib.Core.Path.{◌≡◌, refl, sym, ap, ◌∙◌}
use mathlib.Core.Logic.{◌≢◌}
use mathlib.Core.Bool.{Bool, true, false, ◌&&◌}
use Rattle.std.proofs.lemmas.Option.{none-some}
use mathlib.Core.List.{List, [], ◌∷◌, ◌++◌}
use Prim.Native.Nat.{ℕ, zero, suc, ◌+◌, ◌≤◌, ◌<◌}
use native.Mathlib.Numerals.{add-one}
use native.Mathlib.Omega.{arith}
use borrow.Author.Tests.{lt-ltb, eq-eqb, ltb-true, ltb-false, eqb-true}
use lib.Dec.{ltb}
use lib.IntN.{ℤ, pos, negsuc, neg_ℤ}
use lib.ListN.{length, get_or, drop, drop_of_length-le}
use lib.Seq.{drop-cons}
use Rattle.text.specs.Text.{digits, number, most, Allowed}
use Rattle.std.specs.Prelude.{Option, None, Some, IfSome, IsSomeAnd}
use Rattle.text.specs.Read.{has_sign, NumberRead, ValueRead}
use Rattle.text.specs.declared.Found.{Found}
use Rattle.text.proofs.Reading.{read_from, digit_low, from_other, read_number}

-- ── the test of the sign ──
and_true : (a b : Bool) → a && b ≡ true → (a ≡ true) × (b ≡ true)
and_true true b e = (refl, e)
and_true false b e = absurd (false≢true e)

module _ (text : List ℕ) (at : ℕ) where
  pub sign_there : (signed : Bool) → has_sign text at signed ≡ true → (signed ≡ true) × (at < length text) × (get_or text at 0 ≡ 45)
  sign_there signed e =
      let a = and_true signed _ e in
      let b = and_true (ltb at (length text)) _ a.1 in
      (a.0, ltb-true at (length text) b.0, eqb-true (get_or text at 0) 45 b.1)

  sign_seen : (rest : List ℕ) → drop at text ≡ 45 ∷ rest → has_sign text at true ≡ true
  sign_seen rest e =
      let l : at < length text = below (ltb at (length text)) refl in
      let q : get_or text at 0 ≡ 45 = head (drop-cons text at 0 l) in
      rw (lt-ltb at (length text) l, eq-eqb (get_or text at 0) 45 q)
    where
      below : (x : Bool) → ltb at (length text) ≡ x → at < length text
      below true q = ltb-true at (length text) q
      below false q =
          let h : length text ≤ at = ltb-false at (length text) q in
          let n : [] ≡ 45 ∷ rest = sym (drop_of_length-le text h) ∙ e in
          let z : ◌≡◌ {A = ℕ} 0 1 = cc in
          absurd (omega arith)

      head : drop at text ≡ get_or text at 0 ∷ drop (suc at) text → get_or text at 0 ≡ 45
      head d = cc

-- where nothing is read
none_read : (text : List ℕ) (at end : ℕ) (signed : Bool) → ((z : ℤ) (rest : List ℕ) → Allowed signed z → drop at text ≡ number z ++ (end ∷ rest) → ⊥) → ValueRead text at end signed None
none_read text at end signed f = record { read = tt; each = f }

-- ── a number without sign ──
module _ (text : List ℕ) (at end : ℕ) where
  pub plain_none : NumberRead text at end None → ValueRead text at end false None
  plain_none m = none_read text at end false never
    where
      never : (z : ℤ) (rest : List ℕ) → Allowed false z → drop at text ≡ number z ++ (end ∷ rest) → ⊥
      never (pos k) rest l d = m.each k rest l d
      never (negsuc k) rest l d = l

  pub plain_some : (n : Found ℕ) → NumberRead text at end (Some n) → ValueRead text at end false (Some (record { value = pos n.value; next = n.next }))
  plain_some n m = record { read = m.read; each = some }
    where
      some : (z : ℤ) (rest : List ℕ) → Allowed false z → drop at text ≡ number z ++ (end ∷ rest) → (pos n.value ≡ z) × (drop n.next text ≡ rest)
      some (pos k) rest l d = let e = m.each k rest l d in (ap pos e.0, e.1)
      some (negsuc k) rest l d = absurd l

-- without a sign, one may be allowed
pub plain_signed : (text : List ℕ) (at end : ℕ) (signed : Bool) (r : Option (Found ℤ)) → has_sign text at signed ≡ false → ValueRead text at end false r → ValueRead text at end signed r
plain_signed text at end false r h v = v
plain_signed text at end true r h v = record { read = up r v.read; each = each }
  where
    allowed : (z : ℤ) → Allowed false z → Allowed true z
    allowed (pos k) l = l
    allowed (negsuc k) l = absurd l

    up : (o : Option (Found ℤ)) → IfSome o (λ m. Allowed false m.value × (m.next ≡ at + suc (length (number m.value))) × (drop at text ≡ number m.value ++ (end ∷ drop m.next text)))
        → IfSome o (λ m. Allowed true m.value × (m.next ≡ at + suc (length (number m.value))) × (drop at text ≡ number m.value ++ (end ∷ drop m.next text)))
    up None g = tt
    up (Some m) g = (allowed m.value g.0, g.1, g.2)

    each : (z : ℤ) (rest : List ℕ) → Allowed true z → drop at text ≡ number z ++ (end ∷ rest) → IsSomeAnd r (λ m. (m.value ≡ z) × (drop m.next text ≡ rest))
    each (pos k) rest l d = v.each (pos k) rest l d
    each (negsuc k) rest l d = absurd (false≢true (sym h ∙ sign_seen text at (digits (suc k) ++ (end ∷ rest)) d))

-- ── a number with its sign ──
module _ (text : List ℕ) (at end : ℕ) (low : end < 48) (h : at < length text) (s : get_or text at 0 ≡ 45) where
  starts : drop at text ≡ 45 ∷ drop (at + 1) text
  starts = rw add-one (drop-cons text at 0 h ∙ ap (λ (b : ℕ). b ∷ drop (suc at) text) s)

  -- digits do not start with a sign
  no_digits : (k : ℕ) (rest : List ℕ) → k ≤ most → drop at text ≡ digits k ++ (end ∷ rest) → ⊥
  no_digits k rest l d =
      let a : read_from end (drop at text) at ≡ Some _ = ap (λ (x : List ℕ). read_from end x at) d ∙ read_number end low k l rest at in
      let b : read_from end (drop at text) at ≡ None = ap (λ (x : List ℕ). read_from end x at) starts ∙ from_other end 45 (drop (at + 1) text) at (digit_low 45 (omega arith)) in
      none-some _ (sym b ∙ a)

  rest_is : (k : ℕ) (rest : List ℕ) → drop at text ≡ 45 ∷ digits (suc k) ++ (end ∷ rest) → drop (at + 1) text ≡ digits (suc k) ++ (end ∷ rest)
  rest_is k rest d = let e = starts in cc

  pub negative_none : NumberRead text (at + 1) end None → ValueRead text at end true None
  negative_none m = none_read text at end true never
    where
      never : (z : ℤ) (rest : List ℕ) → Allowed true z → drop at text ≡ number z ++ (end ∷ rest) → ⊥
      never (pos k) rest l d = no_digits k rest l d
      never (negsuc k) rest l d = m.each (suc k) rest l (rest_is k rest d)

  module _ (n : Found ℕ) (m : NumberRead text (at + 1) end (Some n)) where
    pub negative_zero : n.value ≡ 0 → ValueRead text at end true None
    negative_zero f = none_read text at end true never
      where
        never : (z : ℤ) (rest : List ℕ) → Allowed true z → drop at text ≡ number z ++ (end ∷ rest) → ⊥
        never (pos k) rest l d = no_digits k rest l d
        never (negsuc k) rest l d = absurd (omega (arith, (m.each (suc k) rest l (rest_is k rest d)).0))

    pub negative_some : n.value ≢ 0 → ValueRead text at end true (Some (record { value = neg_ℤ (pos n.value); next = n.next }))
    negative_some w = go n.value refl w
      where
        go : (v : ℕ) → n.value ≡ v → v ≢ 0 → ValueRead text at end true (Some (record { value = neg_ℤ (pos v); next = n.next }))
        go zero e w = absurd (w refl)
        go (suc v) e w = record { read = read; each = each }
          where
            read : (suc v ≤ most) × (n.next ≡ at + suc (suc (length (digits (suc v))))) × (drop at text ≡ 45 ∷ digits (suc v) ++ (end ∷ drop n.next text))
            read =
                let g = m.read in
                let len : length (digits n.value) ≡ length (digits (suc v)) = rw e in
                (omega (arith, g.0), omega (arith, g.1, len), starts ∙ ap (λ (x : List ℕ). 45 ∷ x) (g.2 ∙ ap (λ (x : ℕ). digits x ++ (end ∷ drop n.next text)) e))

            each : (z : ℤ) (rest : List ℕ) → Allowed true z → drop at text ≡ number z ++ (end ∷ rest) → (negsuc v ≡ z) × (drop n.next text ≡ rest)
            each (pos k) rest l d = absurd (no_digits k rest l d)
            each (negsuc k) rest l d =
                let g = m.each (suc k) rest l (rest_is k rest d) in
                let j : v ≡ k = omega (arith, g.0) in
                (ap negsuc j, g.1)
