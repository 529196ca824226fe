-- Bytes written at a place, one part after another. Assumes nothing.
use mathlib.Core.Path.{◌≡◌, refl, sym, ap, subst, ◌∙◌}
use mathlib.Core.List.{List, [], ◌∷◌, ◌++◌, append_assoc}
use Prim.Native.Nat.{ℕ, suc, ◌+◌, ◌/◌, ◌%◌, ◌≤◌, ◌<◌}
use native.Mathlib.Nat.{add-zero}
use native.Mathlib.Numerals.{add-one}
use native.Mathlib.Omega.{arith}
use lib.IntN.{ℤ, pos, negsuc}
use lib.ListN.{length, get_or, take, drop, set, length-set, take-append-drop, length-append, length-take, length-drop, drop_of_length-le}
use lib.Seq.{drop-cons, set_split, take_at, drop_at, drop-drop, length-take-le}
use Rattle.text.specs.Text.{digits, number, line}
use Rattle.text.specs.Read.{column_end}
use Rattle.text.specs.Write.{put, Room, Written}
use Rattle.text.proofs.Digits.{digits_one, digits_more, digits_some}
use Rattle.text.proofs.Lines.{after_is}

pub put_nil : (at : ℕ) (buf : List ℕ) → put at [] buf ≡ buf
unfolding put
put_nil at buf = rw add-zero (take-append-drop at buf)

put_one : (at b : ℕ) (buf : List ℕ) → at < length buf → set buf at b ≡ put at (b ∷ []) buf
unfolding put
put_one at b buf h = rw add-one (set_split buf at b h)

pub put_length : (at : ℕ) (xs buf : List ℕ) → Room at xs buf → length (put at xs buf) ≡ length buf
unfolding put
put_length at xs buf h = simp (length-append, length-take, length-drop) (omega arith)

put_put : (at : ℕ) (xs ys buf : List ℕ) → Room at (xs ++ ys) buf → put (at + length xs) ys (put at xs buf) ≡ put at (xs ++ ys) buf
unfolding put
put_put at xs ys buf h =
    let m : at + (length xs + length ys) ≤ length buf = rw length-append at h in
    let l : length (take at buf) ≡ at = length-take-le at buf (omega arith) in
    let f : length (take at buf ++ xs) ≡ at + length xs = length-append (take at buf) xs ∙ ap (λ (k : ℕ). k + length xs) l in
    let a : take at buf ++ (xs ++ drop (at + length xs) buf) ≡ (take at buf ++ xs) ++ drop (at + length xs) buf = sym (append_assoc (take at buf) xs (drop (at + length xs) buf)) in
    let t : take (at + length xs) (take at buf ++ (xs ++ drop (at + length xs) buf)) ≡ take at buf ++ xs = ap (λ (s : List ℕ). take (at + length xs) s) a ∙ take_at (take at buf ++ xs) (drop (at + length xs) buf) (at + length xs) f in
    let d : drop (at + length xs + length ys) (take at buf ++ (xs ++ drop (at + length xs) buf)) ≡ drop (at + length (xs ++ ys)) buf =
    sym (drop-drop (length ys) (at + length xs) (take at buf ++ (xs ++ drop (at + length xs) buf)))
    ∙ ap (λ (s : List ℕ). drop (length ys) (drop (at + length xs) s)) a
    ∙ ap (λ (s : List ℕ). drop (length ys) s) (drop_at (take at buf ++ xs) (drop (at + length xs) buf) (at + length xs) f)
    ∙ drop-drop (length ys) (at + length xs) buf
    ∙ ap (λ (k : ℕ). drop k buf) (sum at (length xs) (length ys) ∙ ap (λ (k : ℕ). at + k) (sym (length-append xs ys))) in
    (λ p. t p ++ (ys ++ d p)) ∙ append_assoc (take at buf) xs (ys ++ drop (at + length (xs ++ ys)) buf) ∙ ap (λ (s : List ℕ). take at buf ++ s) (sym (append_assoc xs ys (drop (at + length (xs ++ ys)) buf)))
  where
    sum : (a b c : ℕ) → a + b + c ≡ a + (b + c)
    sum a b c = omega arith

-- ── one part after another ──
-- xs written, then one byte
pub then_byte : (at : ℕ) (xs : List ℕ) (b : ℕ) (before : List ℕ) (r : ℕ) (mid : List ℕ) → Room at (xs ++ (b ∷ [])) before → Written at xs before r mid → Written at (xs ++ (b ∷ [])) before (r + 1) (set mid r b)
then_byte at xs b before r mid h w =
    let l : length (xs ++ (b ∷ [])) ≡ length xs + 1 = length-append xs (b ∷ []) in
    let m : length mid ≡ length before = ap length w.bytes ∙ put_length at xs before (omega arith) in
    record {
      next = omega (arith, w.next);
      bytes = put_one r b mid (omega (arith, w.next)) ∙ (λ p. put (w.next p) (b ∷ []) (w.bytes p)) ∙ put_put at xs (b ∷ []) before h;
    }

-- one byte written, then xs
pub byte_then : (at b : ℕ) (xs before : List ℕ) (r : ℕ) (after : List ℕ) → Room at (b ∷ xs) before → Written (at + 1) xs (set before at b) r after → Written at (b ∷ xs) before r after
byte_then at b xs before r after h w =
    let l : at < length before = omega arith in
    record {
      next = omega (arith, w.next);
      bytes = w.bytes ∙ (λ p. put (at + 1) xs (put_one at b before l p)) ∙ put_put at (b ∷ []) xs before h;
    }

-- one part written, then another
pub then_written : (at : ℕ) (xs ys before : List ℕ) (r : ℕ) (mid : List ℕ) (r' : ℕ) (last : List ℕ) → Room at (xs ++ ys) before → Written at xs before r mid → Written r ys mid r' last → Written at (xs ++ ys) before r' last
then_written at xs ys before r mid r' last h v w = record {
  next = omega (arith, v.next, w.next, length-append xs ys);
  bytes = w.bytes ∙ (λ p. put (v.next p) ys (v.bytes p)) ∙ put_put at xs ys before h;
}

-- there is room for the other
pub then_room : (at : ℕ) (xs ys before : List ℕ) (r : ℕ) (mid : List ℕ) → Room at (xs ++ ys) before → Written at xs before r mid → Room r ys mid
then_room at xs ys before r mid h w =
    let l = length-append xs ys in
    omega (arith, h, w.next, l, ap length w.bytes ∙ put_length at xs before (omega arith))

-- ── digits ──
module _ (at n : ℕ) (before : List ℕ) (h : Room at (digits n) before) where
  pub digit_alone : n < 10 → Written at (digits n) before (at + 1) (set before at (48 + n))
  digit_alone l =
      let e = digits_one n l in
      let k : length (digits n) ≡ 1 = ap length e in
      rw e record { next = refl; bytes = put_one at (48 + n) before (omega arith) }

  module _ (l : 10 ≤ n) where
    split_digits : digits n ≡ digits (n / 10) ++ digits (n % 10)
    split_digits = digits_more n l ∙ ap (λ (s : List ℕ). digits (n / 10) ++ s) (sym (digits_one (n % 10) (omega arith)))

    room : Room at (digits (n / 10) ++ digits (n % 10)) before
    room = subst (λ (s : List ℕ). Room at s before) split_digits h

    pub digits_on : Room at (digits (n / 10)) before
    digits_on = omega (arith, room, length-append (digits (n / 10)) (digits (n % 10)))

    module _ (r : ℕ) (mid : List ℕ) (w : Written at (digits (n / 10)) before r mid) where
      pub digit_room : Room r (digits (n % 10)) mid
      digit_room = then_room at (digits (n / 10)) (digits (n % 10)) before r mid room w

      pub digits_last : (r' : ℕ) (last : List ℕ) → Written r (digits (n % 10)) mid r' last → Written at (digits n) before r' last
      digits_last r' last v = rw split_digits (then_written at (digits (n / 10)) (digits (n % 10)) before r mid r' last room w v)

-- a number has a byte
pub number_some : (z : ℤ) → 1 ≤ length (number z)
number_some (pos n) = digits_some n
number_some (negsuc n) = omega arith

-- ── a line: what is still to be written ──
-- with the values from i on written at next, the buffer is as it shall be
pub record Pending (at : ℕ) (zs : List ℤ) (before : List ℕ) (next i : ℕ) (buf : List ℕ) : Type 0 where
  pub size : length buf ≡ length before
  pub end : next + length (line (drop i zs)) ≡ at + length (line zs)
  pub bytes : put next (line (drop i zs)) buf ≡ put at (line zs) before

module _ (at : ℕ) (zs : List ℤ) (before : List ℕ) (h : Room at (line zs) before) where
  module _ (next i : ℕ) (buf : List ℕ) (p : Pending at zs before next i buf) where
    pub pending_end : length zs ≤ i → Written at (line zs) before next buf
    pending_end l =
        let e = drop_of_length-le zs l in
        let k : length (line (drop i zs)) ≡ 0 = rw e in
        record { next = omega (arith, p.end, k); bytes = sym (put_nil next buf) ∙ (rw e at p.bytes) }

    module _ (l : i < length zs) where
      -- what is written in one turn, and what comes after it
      split : line (drop i zs) ≡ (number (get_or zs i (pos 0)) ++ (column_end i (length zs) ∷ [])) ++ line (drop (suc i) zs)
      split =
          let m : suc i + length (drop (suc i) zs) ≡ length zs = rw length-drop (omega arith) in
          ap line (drop-cons zs i (pos 0) l)
          ∙ ap (λ (b : ℕ). number (get_or zs i (pos 0)) ++ (b ∷ line (drop (suc i) zs))) (sym (after_is (drop (suc i) zs) i (length zs) m))
          ∙ sym (append_assoc (number (get_or zs i (pos 0))) (column_end i (length zs) ∷ []) (line (drop (suc i) zs)))

      whole : Room next ((number (get_or zs i (pos 0)) ++ (column_end i (length zs) ∷ [])) ++ line (drop (suc i) zs)) buf
      whole = let k = ap length split in omega (arith, k, p.end, p.size, h)

      fits : Room next (number (get_or zs i (pos 0)) ++ (column_end i (length zs) ∷ [])) buf
      fits = omega (arith, whole, length-append (number (get_or zs i (pos 0)) ++ (column_end i (length zs) ∷ [])) (line (drop (suc i) zs)))

      pub pending_room : Room next (number (get_or zs i (pos 0))) buf
      pending_room = omega (arith, fits, length-append (number (get_or zs i (pos 0))) (column_end i (length zs) ∷ []))

      module _ (r : ℕ) (mid : List ℕ) (w : Written next (number (get_or zs i (pos 0))) buf r mid) where
        pub pending_place : (r < length mid) × (length mid ≡ length before)
        pending_place =
            let m : length mid ≡ length buf = ap length w.bytes ∙ put_length next (number (get_or zs i (pos 0))) buf pending_room in
            (omega (arith, m, w.next, fits, length-append (number (get_or zs i (pos 0))) (column_end i (length zs) ∷ [])), m ∙ p.size)

        pub pending_more : Pending at zs before (r + 1) (i + 1) (set mid r (column_end i (length zs)))
        pending_more =
            let g = then_byte next (number (get_or zs i (pos 0))) (column_end i (length zs)) buf r mid fits w in
            let k = ap length split ∙ length-append (number (get_or zs i (pos 0)) ++ (column_end i (length zs) ∷ [])) (line (drop (suc i) zs)) in
            subst (λ (j : ℕ). Pending at zs before (r + 1) j (set mid r (column_end i (length zs)))) (sym (add-one i)) record {
              size = length-set mid r (column_end i (length zs)) ∙ pending_place.1;
              end = omega (arith, k, p.end, g.next);
              bytes = (λ q. put (g.next q) (line (drop (suc i) zs)) (g.bytes q))
                  ∙ put_put next (number (get_or zs i (pos 0)) ++ (column_end i (length zs) ∷ [])) (line (drop (suc i) zs)) buf whole
                  ∙ ap (λ (s : List ℕ). put next s buf) (sym split)
                  ∙ p.bytes;
            }
