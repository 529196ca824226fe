-- A line: its first value, and the rest of it. It is read exactly where the text is its rendering. Assumes nothing.
use mathlib.Core.Path.{◌≡◌, refl, sym, ap, ◌∙◌}
use mathlib.Core.Bool.{Bool, true, false}
use mathlib.Core.List.{List, [], ◌∷◌, ◌++◌, append_assoc, append-nil}
use Prim.Native.Nat.{ℕ, zero, suc, ◌+◌, ◌-◌, ◌≤◌, ◌<◌}
use native.Mathlib.Nat.{not-suc-le-zero, le_of_suc-le-suc}
use native.Mathlib.Omega.{arith}
use borrow.Author.Tests.{lt-ltb, le-ltb}
use borrow.Rule.Slice.PartMut.{mid_of, put_mid, mid_len, put_same}
use lib.Dec.{ltb}
use lib.IntN.{ℤ, pos}
use lib.ListN.{length, get_or, drop, set, length-append, length-drop, drop_of_length-le}
use Rattle.text.specs.Text.{number, after, line, Allowed, AllAllowed}
use Rattle.std.specs.Prelude.{None, Some}
use Rattle.std.proofs.lemmas.Option.{none-some}
use Rattle.text.specs.Read.{column_end, ValueRead, LineRead}
use Rattle.text.specs.declared.Found.{Found}

-- ── allowed values ──
pub allowed_at : (s : Bool) (zs : List ℤ) (i : ℕ) → i < length zs → AllAllowed s zs → Allowed s (get_or zs i (pos 0))
allowed_at s [] i h a = absurd (not-suc-le-zero h)
allowed_at s (z ∷ zs) zero h a = a.0
allowed_at s (z ∷ zs) (suc i) h a = allowed_at s zs i (le_of_suc-le-suc h) a.1

-- ── a line from its first value on ──
pub line_cons : (z : ℤ) (zs : List ℤ) (rest : List ℕ) → line (z ∷ zs) ++ rest ≡ number z ++ (after zs ∷ (line zs ++ rest))
line_cons z zs rest = append_assoc (number z) (after zs ∷ line zs) rest

pub after_is : (zs : List ℤ) (i n : ℕ) → suc i + length zs ≡ n → column_end i n ≡ after zs
after_is [] i n e = let l : n ≤ i + 1 = omega arith in rw (le-ltb (i + 1) n l)
after_is (z ∷ zs) i n e = let l : i + 1 < n = omega arith in rw (lt-ltb (i + 1) n l)

pub end_low : (i n : ℕ) → column_end i n < 48
end_low i n = go (ltb (i + 1) n) refl
  where
    go : (x : Bool) → ltb (i + 1) n ≡ x → column_end i n < 48
    go true e = rw e (omega arith)
    go false e = rw e (omega arith)

-- ── the first value, and the rest of the line ──
module _ (text : List ℕ) (at : ℕ) (signed : Bool) (before : List ℤ) (h : 0 < length before) where
  -- a line from its first value on
  onward : (z : ℤ) (zs : List ℤ) (rest : List ℕ) → suc (length zs) ≡ length before → drop at text ≡ line (z ∷ zs) ++ rest → drop at text ≡ number z ++ (column_end 0 (length before) ∷ (line zs ++ rest))
  onward z zs rest k d = d ∙ line_cons z zs rest ∙ ap (λ (b : ℕ). number z ++ (b ∷ (line zs ++ rest))) (sym (after_is zs 0 (length before) (omega arith)))

  pub first_none : ValueRead text at (column_end 0 (length before)) signed None → LineRead text at signed before None before
  first_none m = record { read = tt; each = each; none = λ t. refl }
    where
      each : (zs : List ℤ) (rest : List ℕ) → length zs ≡ length before → AllAllowed signed zs → drop at text ≡ line zs ++ rest → ⊥
      each [] rest k a d = absurd (omega arith)
      each (z ∷ zs) rest k a d = m.each z (line zs ++ rest) a.0 (onward z zs rest k d)

  module _ (v : Found ℤ) (m : ValueRead text at (column_end 0 (length before)) signed (Some v)) where
    pub first_within : at ≤ length text → v.next ≤ length text
    first_within l =
        let g = m.read in
        let w : length (drop at text) ≡ length (number v.value) + suc (length (drop v.next text)) = ap length g.2 ∙ length-append (number v.value) (column_end 0 (length before) ∷ drop v.next text) in
        omega (arith, w, length-drop at text, length-drop v.next text, g.1)

    -- the values after the first are one fewer
    fewer : suc (length (mid_of 1 (length before - 1) before)) ≡ length before
    fewer = omega (arith, mid_len 1 (length before) before (omega arith))

    pub rest_none : (tail : List ℤ) → LineRead text v.next signed (mid_of 1 (length before - 1) before) None tail → LineRead text at signed before None (put_mid 1 (length before - 1) before tail)
    rest_none tail r = record {
      read = tt;
      each = each;
      none = λ t. ap (put_mid 1 (length before - 1) before) (r.none refl) ∙ put_same 1 (length before - 1) before;
    }
      where
        each : (zs : List ℤ) (rest : List ℕ) → length zs ≡ length before → AllAllowed signed zs → drop at text ≡ line zs ++ rest → ⊥
        each [] rest k a d = absurd (omega arith)
        each (z ∷ zs) rest k a d = r.each zs rest (omega (arith, fewer)) a.1 (m.each z (line zs ++ rest) a.0 (onward z zs rest k d)).1

    module _ (next : ℕ) (tail : List ℤ) (r : LineRead text v.next signed (mid_of 1 (length before - 1) before) (Some next) tail) where
      stored : (bs : List ℤ) → 0 < length bs → set (put_mid 1 (length bs - 1) bs tail) 0 v.value ≡ v.value ∷ tail
      stored [] l = absurd (omega arith)
      stored (b ∷ bs) l =
          let e : length bs ≤ length (b ∷ bs) - 1 = omega arith in
          rw (drop_of_length-le bs e, append-nil)

      pub rest_found : length tail ≡ length (mid_of 1 (length before - 1) before) → LineRead text at signed before (Some next) (set (put_mid 1 (length before - 1) before tail) 0 v.value)
      rest_found k = rw (stored before h) record { read = read; each = each; none = λ t. absurd (none-some _ (sym t)) }
        where
          read : AllAllowed signed (v.value ∷ tail) × (next ≡ at + length (line (v.value ∷ tail))) × (drop at text ≡ line (v.value ∷ tail) ++ drop next text)
          read =
              let p = m.read in
              let q = r.read in
              let n : column_end 0 (length before) ≡ after tail = after_is tail 0 (length before) (omega (arith, fewer)) in
              let l = length-append (number v.value) (after tail ∷ line tail) in
              ((p.0, q.0), omega (arith, p.1, q.1, l), p.2 ∙ (λ i. number v.value ++ (n i ∷ q.2 i)) ∙ sym (line_cons v.value tail (drop next text)))

          each : (zs : List ℤ) (rest : List ℕ) → length zs ≡ length before → AllAllowed signed zs → drop at text ≡ line zs ++ rest → (v.value ∷ tail ≡ zs) × (drop next text ≡ rest)
          each [] rest j a d = absurd (omega arith)
          each (z ∷ zs) rest j a d =
              let s = m.each z (line zs ++ rest) a.0 (onward z zs rest j d) in
              let e = r.each zs rest (omega (arith, fewer)) a.1 s.1 in
              (λ i. s.0 i ∷ e.0 i, e.1)
