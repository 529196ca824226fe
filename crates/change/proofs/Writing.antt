-- The records that are left, written from the first place on, and the block of the register with them. Assumes nothing.
use mathlib.Core.Path.{◌≡◌, refl, sym, ap, ◌∙◌}
use mathlib.Core.Bool.{true, false}
use mathlib.Core.List.{List, [], ◌∷◌, ◌++◌, append_assoc}
use Prim.Native.Nat.{ℕ, zero, suc, ◌+◌, ◌*◌, ◌-◌, ◌≤◌, ◌<◌}
use native.Mathlib.Nat.{not-suc-le-zero}
use native.Mathlib.Numerals.{add-one}
use native.Mathlib.Omega.{arith}
use borrow.Author.Tests.{ltb-true, lt-ltb}
use borrow.Rule.Slice.PartMut.{mid_of, put_mid, mid_len, Post-is}
use mir.Syntax.{w8, w16}
use mir.Val.{Fits, SFits}
use mir.Facts.{to_z-of_z}
use lib.Dec.{T, ltb}
use lib.IntN.{ℤ, pos, negsuc, nat_abs}
use lib.Signed.{non_neg, lt_z, mag}
use lib.ListN.{length, get_or, take, drop, set, replicate, length-append, length-drop, take-append-drop, replicate-append-replicate}
use lib.Seq.{sets, sets-eq, length-take-le, take_at, drop-drop, drop-append-add, get_or-drop, get_or-set_other, set-get_or}
use Rattle.rules.specs.List.{tabulate, concat_map}
use Rattle.rules.specs.Limit.{code, ◌≼◌}
use Rattle.rules.specs.Register.{Delegation, no_delegation, reweigh, with_delegations}
use Rattle.rules.specs.Round.{placed}
use Rattle.rules.proofs.Lists.{clash}
use Rattle.rules.proofs.Signed.{kept}
use Rattle.block.specs.Layout.{block_size, most_records, record_size, records_size, count_at, records_at, giver_byte, receiver_byte, weight_byte, kind_byte, need_byte, bar_byte}
use Rattle.block.specs.Bytes.{IsBytes, two_bytes}
use Rattle.block.specs.Block.{delegation_in, record_bytes, count_in, decode, encode}
use Rattle.block.specs.Records.{record_place, HasRecord, HasRecords, delegation_at, left_to}
use Rattle.block.specs.WellFormed.{well_formed}
use Rattle.block.proofs.Bytes.{two_bytes_two, bytes_drop, length_written, plus2}
use Rattle.block.proofs.Fitting.{record_wide}
use Rattle.block.proofs.Held.{size_held, count_most, count_held, held_written, held_fitting}
use Rattle.change.specs.Left.{LeftWritten}
use Rattle.change.proofs.Rewrite.{concat_map_append, zeros_after, zeros_encode, encode_with}

-- ── a record that keeps its place ──
module _ (b : List ℕ) (bytes : IsBytes b) (at : ℕ) where
  -- bytes of b put into c where c has them already
  again : (c : List ℕ) (n i j : ℕ) → i ≡ at + j → ((m : ℕ) → i ≤ m → get_or c m 0 ≡ get_or b m 0) → sets c i (tabulate (λ m. get_or (drop at b) m 0) j n) ≡ c
  again c zero i j e h = refl
  again c (suc n) i j e h =
      let v : get_or (drop at b) j 0 ≡ get_or c i 0 = get_or-drop at b j 0 ∙ ap (λ (m : ℕ). get_or b m 0) (sym e) ∙ sym (h i (omega arith)) in
      ap (λ (d : List ℕ). sets d (suc i) (tabulate (λ m. get_or (drop at b) m 0) (suc j) n)) (ap (set c i) v ∙ set-get_or c i 0)
      ∙ again c n (suc i) (suc j) (omega arith) (λ m l. h m (omega arith))

  -- at its place only its weight is set
  stays : (w : ℕ) → sets b at (record_bytes (reweigh (delegation_in (drop at b)) w)) ≡ set b (at + weight_byte) w
  stays w =
      let s = drop at b in
      let h = bytes_drop at b bytes in
      let p = two_bytes_two (get_or s need_byte 0) (get_or s (need_byte + 1) 0) (h need_byte) (h (need_byte + 1)) in
      let q = two_bytes_two (get_or s bar_byte 0) (get_or s (bar_byte + 1) 0) (h bar_byte) (h (bar_byte + 1)) in
      (λ i. sets b at (get_or s giver_byte 0 ∷ get_or s receiver_byte 0 ∷ w ∷ get_or s kind_byte 0 ∷ (p i ++ q i)))
      ∙ ap (λ (c : List ℕ). sets c (suc (suc at)) (w ∷ tabulate (λ m. get_or s m 0) kind_byte 5)) (again b 2 at 0 (omega arith) (λ m l. refl))
      ∙ again (set b (suc (suc at)) w) 5 (suc (suc (suc at))) kind_byte (omega arith) (λ m l. get_or-set_other b (suc (suc at)) m w 0 (λ q. omega arith))
      ∙ ap (λ (i : ℕ). set b i w) (sym (plus2 at))

-- ── a weight as the machine holds it ──
negative : (z : ℤ) → lt_z z (pos 0) ≡ true → (d : Delegation) → (false ≡ ltb 0 (code z)) × ([] ≡ placed d z)
negative (pos n) e d = let h : n < 0 = ltb-true n 0 e in absurd (not-suc-le-zero h)
negative (negsuc n) e d = (refl, refl)

other : (z : ℤ) → lt_z z (pos 0) ≡ false → z ≼ pos 255 → (d : Delegation) → T (non_neg z) × (nat_abs z < 256) × (true ≡ ltb 0 (code z)) × (record_bytes (reweigh d (nat_abs z)) ≡ concat_map record_bytes (placed d z))
other (pos n) e l d = (tt, omega arith, sym (lt-ltb 0 (suc n) (omega arith)), refl)
other (negsuc n) e l d = clash e

pub kept_is : (z : ℤ) → mag z < 32768 → kept z ≡ z
kept_is z h = to_z-of_z {w = w16} record { sfits = h }

module _ (z : ℤ) (f : SFits w16 z) where
  as_is : kept z ≡ z
  as_is = to_z-of_z f

  -- -1: nothing is written
  pub none_written : lt_z (kept z) (pos 0) ≡ true → (b : List ℕ) (at : ℕ) (d : Delegation) → (false ≡ ltb 0 (code z)) × (b ≡ sets b at (concat_map record_bytes (placed d z)))
  none_written e b at d = let q = negative z (rw as_is at e) d in (q.0, ap (λ (ds : List Delegation). sets b at (concat_map record_bytes ds)) q.1)

  module _ (e : lt_z (kept z) (pos 0) ≡ false) (l : z ≼ pos 255) where
    pub weight_fits : T (non_neg (kept z)) × Fits w8 (nat_abs (kept z))
    weight_fits = rw as_is (let q = other z (rw as_is at e) l no_delegation in (q.0, record { fits = q.1 }))

    -- the record at its new weight
    pub one_written : (b c : List ℕ) (at : ℕ) (x d : Delegation) → x ≡ d → c ≡ sets b at (record_bytes (reweigh x (nat_abs (kept z)))) → (true ≡ ltb 0 (code z)) × (c ≡ sets b at (concat_map record_bytes (placed d z)))
    one_written b c at x d ed ec =
        let q = other z (rw as_is at e) l d in (q.2, ec ∙ (λ i. sets b at (record_bytes (reweigh (ed i) (nat_abs (as_is i))))) ∙ ap (sets b at) q.3)

    -- the record in its place, at its new weight
    pub weight_written : (b c : List ℕ) → IsBytes b → (at k : ℕ) → at ≡ record_place k → c ≡ set b (at + weight_byte) (nat_abs (kept z))
        → (true ≡ ltb 0 (code z)) × (c ≡ sets b (record_place k) (concat_map record_bytes (placed (delegation_at b k) z)))
    weight_written b c bytes at k ea ec =
        let a = record_place k in
        let q = other z (rw as_is at e) l (delegation_at b k) in (
          q.2,
          ec ∙ (λ i. set b (ea i + weight_byte) (nat_abs (as_is i)))
              ∙ sym (stays b bytes a (nat_abs z))
              ∙ ap (λ (s : List ℕ). sets b a (record_bytes (reweigh (delegation_in s) (nat_abs z)))) (sym (drop-drop (record_size * k) records_at b))
              ∙ ap (sets b a) q.3,
        )

placed_one : (d : Delegation) (z : ℤ) → true ≡ ltb 0 (code z) → length (placed d z) ≡ 1
placed_one d (pos n) t = refl
placed_one d (negsuc n) t = clash t

placed_none : (d : Delegation) (z : ℤ) → false ≡ ltb 0 (code z) → length (placed d z) ≡ 0
placed_none d (pos n) t = clash (sym (t ∙ lt-ltb 0 (suc n) (omega arith)))
placed_none d (negsuc n) t = refl

-- ── what is left ──
left_most : (f : ℕ → Delegation) (ws : List ℤ) (k : ℕ) → length (left_to f ws k) ≤ k
left_most f ws zero = omega arith
left_most f ws (suc k) = go (get_or ws k (pos 0)) (left_most f ws k)
  where
    go : (z : ℤ) → length (left_to f ws k) ≤ k → length (left_to f ws k ++ placed (f k) z) ≤ suc k
    go (pos w) h = omega (arith, length-append (left_to f ws k) (placed (f k) (pos w)))
    go (negsuc n) h = omega (arith, length-append (left_to f ws k) (placed (f k) (negsuc n)))

-- nothing was written yet
pub left_none : (b : List ℕ) (ws : List ℤ) → LeftWritten b ws 0 0 b
left_none b ws = record { count = refl; bytes = sym (take-append-drop records_at b) }

module _ (b : List ℕ) (ws : List ℤ) (k n : ℕ) (c : List ℕ) (s : LeftWritten b ws k n c) (fits : HasRecords b k) where
  pub left_few : n ≤ k
  left_few = omega (arith, s.count, left_most (delegation_at b) ws k)

  -- what stands before the rest of b
  abbrev front : List ℕ
  front = take records_at b ++ concat_map record_bytes (left_to (delegation_at b) ws k)

  front_length : length front ≡ record_place n
  front_length =
      let L = left_to (delegation_at b) ws k in
      length-append (take records_at b) (concat_map record_bytes L) ∙ omega (arith, length-take-le records_at b (omega arith), length_written record_bytes record_size record_wide L, s.count)

  halves : c ≡ front ++ drop (record_place n) b
  halves = s.bytes ∙ sym (append_assoc (take records_at b) (concat_map record_bytes (left_to (delegation_at b) ws k)) (drop (record_place n) b))

  pub left_length : length c ≡ length b
  left_length = ap length halves ∙ length-append front (drop (record_place n) b) ∙ omega (arith, front_length, length-drop (record_place n) b, left_few)

  front_taken : take (record_place n) c ≡ front
  front_taken = ap (take (record_place n)) halves ∙ take_at front (drop (record_place n) b) (record_place n) front_length

  -- from there on b is as it was
  rest : (m : ℕ) → drop (record_place n + m) c ≡ drop (record_place n + m) b
  rest m =
      let Q = drop (record_place n) b in
      ap (drop (record_place n + m)) halves ∙ ap (λ (i : ℕ). drop (i + m) (front ++ Q)) (sym front_length) ∙ drop-append-add front Q m ∙ drop-drop m (record_place n) b

  -- the record at place k is still that of b
  record_same : delegation_at c k ≡ delegation_at b k
  record_same =
      let e : record_place n + record_size * (k - n) ≡ record_place k = omega (arith, left_few) in
      ap delegation_in (drop-drop (record_size * k) records_at c ∙ ap (λ (i : ℕ). drop i c) (sym e) ∙ rest (record_size * (k - n)) ∙ ap (λ (i : ℕ). drop i b) e ∙ sym (drop-drop (record_size * k) records_at b))

  written : (X : List ℕ) → record_place n + length X ≤ length b → sets c (record_place n) X ≡ front ++ (X ++ drop (record_place n + length X) b)
  written X room =
      sets-eq X c (record_place n) (omega (arith, left_length)) ∙ (λ i. front_taken i ++ X ++ rest (length X) i) ∙ append_assoc front X (drop (record_place n + length X) b)

  next : (m : ℕ) (c' : List ℕ) → m ≤ 1 → HasRecord b k → length (placed (delegation_at b k) (get_or ws k (pos 0))) ≡ m
      → c' ≡ sets c (record_place n) (concat_map record_bytes (placed (delegation_at c k) (get_or ws k (pos 0)))) → LeftWritten b ws (suc k) (n + m) c'
  next m c' l room e q =
      let L = left_to (delegation_at b) ws k in
      let d = placed (delegation_at b k) (get_or ws k (pos 0)) in
      let X = concat_map record_bytes d in
      let x : length X ≡ record_size * m = length_written record_bytes record_size record_wide d ∙ ap (λ (i : ℕ). record_size * i) e in
      let a : record_place n + length X ≡ record_place (n + m) = omega (arith, x) in
      let both : concat_map record_bytes L ++ X ≡ concat_map record_bytes (L ++ d) = sym (concat_map_append record_bytes L d) in
      record {
        count = omega (arith, s.count, length-append L d, e);
        bytes =
            q ∙ ap (λ (y : Delegation). sets c (record_place n) (concat_map record_bytes (placed y (get_or ws k (pos 0))))) record_same
            ∙ written X (omega (arith, x, left_few))
            ∙ ap (λ (i : ℕ). front ++ (X ++ drop i b)) a
            ∙ append_assoc (take records_at b) (concat_map record_bytes L) (X ++ drop (record_place (n + m)) b)
            ∙ ap (λ (y : List ℕ). take records_at b ++ y) (sym (append_assoc (concat_map record_bytes L) X (drop (record_place (n + m)) b)))
            ∙ ap (λ (y : List ℕ). take records_at b ++ (y ++ drop (record_place (n + m)) b)) both;
      }

  module _ (c' : List ℕ) (room : HasRecord b k) (h : mag (get_or ws k (pos 0)) < 32768)
      (q : c' ≡ sets c (record_place n) (concat_map record_bytes (placed (delegation_at c k) (kept (get_or ws k (pos 0)))))) where
    -- record k was written
    pub left_one : true ≡ ltb 0 (code (kept (get_or ws k (pos 0)))) → LeftWritten b ws (k + 1) (n + 1) c'
    left_one t = rw (add-one k) (next 1 c' (omega arith) room (placed_one (delegation_at b k) (get_or ws k (pos 0)) (rw (kept_is (get_or ws k (pos 0)) h) at t)) (rw (kept_is (get_or ws k (pos 0)) h) at q))

    -- it was not
    pub left_same : false ≡ ltb 0 (code (kept (get_or ws k (pos 0)))) → LeftWritten b ws (k + 1) n c'
    left_same t =
        let z : n + 0 ≡ n = omega arith in
        rw (add-one k, ← z) (next 0 c' (omega arith) room (placed_none (delegation_at b k) (get_or ws k (pos 0)) (rw (kept_is (get_or ws k (pos 0)) h) at t)) (rw (kept_is (get_or ws k (pos 0)) h) at q))

-- ── the block of the register with what is left ──
-- what is left of all records was written
module _ (b : List ℕ) (bytes : IsBytes b) (formed : well_formed b ≡ true) (ws : List ℤ) (k n : ℕ) (x : List ℕ) (all : k ≡ count_in b) (s : LeftWritten b ws k n x) where
  within : HasRecords b k
  within = omega (arith, count_most b bytes formed, size_held b bytes formed)

  pub left_bounds : (n ≤ k) × (k ≤ most_records) × (length x ≡ block_size)
  left_bounds = (left_few b ws k n x s within, omega (arith, count_most b bytes formed), left_length b ws k n x s within ∙ size_held b bytes formed)

  place_within : record_place n ≤ record_place k
  place_within = omega (arith, left_bounds.0)

  -- the zeros after the last record of b
  zeros_end : drop (record_place k) x ≡ zeros_after k
  zeros_end =
      let e : record_place n + (record_place k - record_place n) ≡ record_place k = omega (arith, place_within) in
      let all' : k ≡ length (decode b).delegations = all ∙ sym (count_held b bytes formed) in
      ap (λ (i : ℕ). drop i x) (sym e) ∙ rest b ws k n x s within (record_place k - record_place n)
      ∙ ap (λ (i : ℕ). drop i b) e ∙ (λ i. drop (record_place (all' i)) (held_written b bytes formed i))
      ∙ zeros_encode (decode b) (held_fitting b bytes formed).fits ∙ ap zeros_after (sym all')

  -- the places after it up to where the last record of b ended set to zero, then the count stored
  module _ (ys : List ℕ) (zeros : ys ≡ replicate (length (mid_of (record_place n) (record_place k - record_place n) x)) 0) where
    zeroed : put_mid (record_place n) (record_place k - record_place n) x ys ≡ take records_at b ++ (concat_map record_bytes (left_to (delegation_at b) ws k) ++ zeros_after n)
    zeroed =
        let m = length (mid_of (record_place n) (record_place k - record_place n) x) in
        let e : m + (records_size - record_size * k) ≡ records_size - record_size * n =
        omega (arith, left_bounds, mid_len (record_place n) (record_place k) x (omega (arith, left_bounds))) in
        (λ i. front_taken b ws k n x s within i ++ (zeros i ++ (Post-is (record_place n) (record_place k) x place_within ∙ zeros_end) i))
        ∙ ap (λ (z : List ℕ). front b ws k n x s within ++ z) (replicate-append-replicate m (records_size - record_size * k) 0 ∙ ap (λ (i : ℕ). replicate i 0) e)
        ∙ append_assoc (take records_at b) (concat_map record_bytes (left_to (delegation_at b) ws k)) (zeros_after n)

    pub left_encoded : sets (put_mid (record_place n) (record_place k - record_place n) x ys) count_at (two_bytes n) ≡ encode (with_delegations (decode b) (left_to (delegation_at b) ws (count_in b)))
    left_encoded =
        let ds = left_to (delegation_at b) ws k in
        ap (λ (z : List ℕ). sets z 2 (two_bytes n)) zeroed
        ∙ (λ i. sets (take records_at (held_written b bytes formed i) ++ (concat_map record_bytes ds ++ zeros_after (s.count i))) count_at (two_bytes (s.count i)))
        ∙ encode_with (decode b) (held_fitting b bytes formed).fits ds
        ∙ ap (λ (i : ℕ). encode (with_delegations (decode b) (left_to (delegation_at b) ws i))) all
