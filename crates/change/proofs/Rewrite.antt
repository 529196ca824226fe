-- Changes of a block as changes of the register that it holds. Assumes nothing.
use mathlib.Core.Path.{◌≡◌, refl, sym, ap, ◌∙◌}
use mathlib.Core.List.{List, [], ◌∷◌, ◌++◌, append_assoc}
use Prim.Native.Nat.{ℕ, zero, suc, ◌+◌, ◌*◌, ◌-◌, ◌≤◌, ◌<◌}
use native.Mathlib.Nat.{not-suc-le-zero, le_of_suc-le-suc}
use native.Mathlib.Omega.{arith}
use lib.ListN.{length, get_or, take, drop, set, replicate, length-append, length-drop, length-set, length-replicate, drop_of_length-le, take-append-drop, replicate-append-replicate}
use lib.Seq.{sets, sets-eq, length-take-le, drop_at, drop-cons, drop-drop, drop-append-add, drop-append-le, set_at, take_all, take_at}
use Rattle.rules.specs.List.{concat_map}
use Rattle.rules.specs.Register.{Delegation, Register, reweigh, with_delegations, with_marks, no_delegation}
use Rattle.rules.specs.Call.{fresh, enrolled}
use Rattle.block.specs.Layout.{block_size, most_subjects, most_records, mark_size, record_size, marks_size, records_size, count_at, records_at, weight_byte}
use Rattle.block.specs.Bytes.{two_bytes, padded}
use Rattle.block.specs.Block.{record_bytes, encode}
use Rattle.block.specs.Fits.{Fits, empty}
use Rattle.block.specs.Records.{mark_place, record_place}
use Rattle.change.specs.Shift.{moved_up, moved_down}
use Rattle.block.proofs.Bytes.{length_written}
use Rattle.block.proofs.Fitting.{head_of, marks_part, middle_part, after_marks, encode_records, encode_marks, record_wide, length_middle_part, records_encode, front_encode}
use Rattle.change.proofs.Splice.{spliced_in, spliced_out, written_set}

pub concat_map_append : {A : Type 0} (f : A → List ℕ) (xs ys : List A) → concat_map f (xs ++ ys) ≡ concat_map f xs ++ concat_map f ys
concat_map_append f [] ys = refl
concat_map_append f (x ∷ xs) ys = ap (λ (s : List ℕ). f x ++ s) (concat_map_append f xs ys) ∙ sym (append_assoc (f x) (concat_map f xs) (concat_map f ys))

drop_replicate : (m n : ℕ) → m ≤ n → drop {A = ℕ} m (replicate n 0) ≡ replicate (n - m) 0
drop_replicate zero n l = let e : n ≡ n - 0 = omega arith in ap (λ (k : ℕ). replicate k 0) e
drop_replicate (suc m) zero l = absurd (not-suc-le-zero l)
drop_replicate (suc m) (suc n) l = let e : n - m ≡ suc n - suc m = omega arith in drop_replicate m n (le_of_suc-le-suc l) ∙ ap (λ (k : ℕ). replicate k 0) e

-- the bytes of n records
size : (ds : List Delegation) → length (concat_map record_bytes ds) ≡ record_size * length ds
size ds = length_written record_bytes record_size record_wide ds

-- the zeros after n records
abbrev pub zeros_after : ℕ → List ℕ
zeros_after n = replicate (records_size - record_size * n) 0

-- no bytes are between a place and itself
none_moved : (b : List ℕ) (at : ℕ) → moved_up b at at ≡ b
unfolding moved_up
none_moved b at = let z : at - at ≡ 0 = omega arith in rw z (take-append-drop (at + record_size) b)

module _ (R : Register) (f : Fits R) where
  -- the bytes before the records that follow `xs`, where n records are counted
  abbrev front_of : ℕ → List Delegation → List ℕ
  front_of n xs = (head_of R.subjects n ++ middle_part R) ++ concat_map record_bytes xs

  length_front : (n : ℕ) (xs : List Delegation) → length (front_of n xs) ≡ record_place (length xs)
  length_front n xs = length-append (head_of R.subjects n ++ middle_part R) (concat_map record_bytes xs) ∙ omega (arith, length_middle_part R f, size xs)

  -- the block with other delegations: those before some of them, these, and those after them
  encode_parts : (xs ms ys : List Delegation) (n : ℕ) → length (xs ++ (ms ++ ys)) ≡ n
      → encode (with_delegations R (xs ++ (ms ++ ys))) ≡ front_of n xs ++ (concat_map record_bytes ms ++ (concat_map record_bytes ys ++ zeros_after n))
  encode_parts xs ms ys n e =
      let X = concat_map record_bytes xs in
      let M = concat_map record_bytes ms in
      let Y = concat_map record_bytes ys in
      let s : concat_map record_bytes (xs ++ (ms ++ ys)) ≡ X ++ (M ++ Y) = concat_map_append record_bytes xs (ms ++ ys) ∙ ap (λ (t : List ℕ). X ++ t) (concat_map_append record_bytes ms ys) in
      let z : length (concat_map record_bytes (xs ++ (ms ++ ys))) ≡ record_size * n = size (xs ++ (ms ++ ys)) ∙ ap (λ (k : ℕ). record_size * k) e in
      encode_records (with_delegations R (xs ++ (ms ++ ys))) ∙ (λ j. head_of R.subjects (e j) ++ (middle_part R ++ (s j ++ replicate (records_size - z j) 0))) ∙ simp append_assoc

  -- the block as it is, parted at place k
  parted : (ms ys : List Delegation) (k : ℕ) → drop k R.delegations ≡ ms ++ ys
      → encode R ≡ front_of (length R.delegations) (take k R.delegations) ++ (concat_map record_bytes ms ++ (concat_map record_bytes ys ++ zeros_after (length R.delegations)))
  parted ms ys k e =
      let q : R.delegations ≡ take k R.delegations ++ (ms ++ ys) = sym (take-append-drop k R.delegations) ∙ ap (λ (ds : List Delegation). take k R.delegations ++ ds) e in
      ap (λ (ds : List Delegation). encode (with_delegations R ds)) q ∙ encode_parts (take k R.delegations) ms ys (length R.delegations) (ap length (sym q))

  -- the count stored
  count_set : (n m : ℕ) (xs : List Delegation) (s : List ℕ) → sets (front_of n xs ++ s) count_at (two_bytes m) ≡ front_of m xs ++ s
  count_set n m xs s = refl

  -- a delegation inserted at place k
  pub encode_insert : (d : Delegation) (k : ℕ) → k ≤ length R.delegations → length R.delegations < most_records
      → sets (sets (moved_up (encode R) (record_place k) (record_place (length R.delegations))) (record_place k) (record_bytes d)) count_at (two_bytes (length R.delegations + 1))
      ≡ encode (with_delegations R (take k R.delegations ++ (d ∷ drop k R.delegations)))
  encode_insert d k l room =
      let xs = take k R.delegations in
      let ys = drop k R.delegations in
      let n = length R.delegations in
      let Y = concat_map record_bytes ys in
      let a : length xs ≡ k = length-take-le k R.delegations l in
      let y : length Y ≡ record_size * (n - k) = size ys ∙ ap (λ (i : ℕ). record_size * i) (length-drop k R.delegations) in
      let made = spliced_in (front_of n xs) (record_place k) (length_front n xs ∙ ap record_place a) Y (zeros_after n) (record_bytes d) (record_place n) (omega arith) (omega (arith, length-replicate {A = ℕ} (records_size - record_size * n) 0)) refl in
      let fewer : records_size - record_size * n - record_size ≡ records_size - record_size * (n + 1) = omega arith in
      let zs : drop record_size (zeros_after n) ≡ zeros_after (n + 1) = drop_replicate record_size (records_size - record_size * n) (omega arith) ∙ ap (λ (i : ℕ). replicate i 0) fewer in
      let more : length (xs ++ (d ∷ ys)) ≡ n + 1 = length-append xs (d ∷ ys) ∙ omega (arith, length-drop k R.delegations) in
      ap (λ (s : List ℕ). sets (sets (moved_up s (record_place k) (record_place n)) (record_place k) (record_bytes d)) count_at (two_bytes (n + 1))) (parted [] ys k refl)
      ∙ ap (λ (s : List ℕ). sets s count_at (two_bytes (n + 1))) (made ∙ ap (λ (z : List ℕ). front_of n xs ++ (record_bytes d ++ (Y ++ z))) zs)
      ∙ count_set n (n + 1) xs (record_bytes d ++ (Y ++ zeros_after (n + 1)))
      ∙ sym (encode_parts xs (d ∷ []) ys (n + 1) more)

  -- a delegation put after all others
  pub encode_append : (d : Delegation) → length R.delegations < most_records
      → sets (sets (encode R) (record_place (length R.delegations)) (record_bytes d)) count_at (two_bytes (length R.delegations + 1)) ≡ encode (with_delegations R (R.delegations ++ (d ∷ [])))
  encode_append d room =
      let n = length R.delegations in
      ap (λ (s : List ℕ). sets (sets s (record_place n) (record_bytes d)) count_at (two_bytes (n + 1))) (sym (none_moved (encode R) (record_place n)))
      ∙ encode_insert d n (omega arith) room
      ∙ (λ i. encode (with_delegations R (take_all n R.delegations (omega arith) i ++ (d ∷ drop_of_length-le R.delegations {i = n} (omega arith) i))))

  -- the delegation at place k, and those after it
  module _ (k : ℕ) (l : k < length R.delegations) where
    at_place : drop k R.delegations ≡ (get_or R.delegations k no_delegation ∷ []) ++ drop (suc k) R.delegations
    at_place = drop-cons R.delegations k no_delegation l

    before_place : length (take k R.delegations) ≡ k
    before_place = length-take-le k R.delegations (omega arith)

    -- it is removed
    pub encode_remove : sets (sets (moved_down (encode R) (record_place k) (record_place (length R.delegations))) (record_place (length R.delegations - 1)) (record_bytes no_delegation)) count_at (two_bytes (length R.delegations - 1))
        ≡ encode (with_delegations R (take k R.delegations ++ drop (suc k) R.delegations))
    encode_remove =
        let xs = take k R.delegations in
        let ys = drop (suc k) R.delegations in
        let e = get_or R.delegations k no_delegation in
        let n = length R.delegations in
        let none = record_bytes no_delegation in
        let Y = concat_map record_bytes ys in
        let y : length Y ≡ record_size * (n - suc k) = size ys ∙ ap (λ (i : ℕ). record_size * i) (length-drop (suc k) R.delegations) in
        let out = spliced_out (front_of n xs) (record_place k) (length_front n xs ∙ ap record_place before_place) (record_bytes e) Y (zeros_after n) none (record_place n) (record_place (n - 1)) refl (omega arith) (omega arith) refl in
        let more : record_size + (records_size - record_size * n) ≡ records_size - record_size * (n - 1) = omega (arith, f.few) in
        let zs : none ++ zeros_after n ≡ zeros_after (n - 1) = replicate-append-replicate record_size (records_size - record_size * n) 0 ∙ ap (λ (i : ℕ). replicate i 0) more in
        let fewer : length (xs ++ ys) ≡ n - 1 = length-append xs ys ∙ omega (arith, before_place, length-drop (suc k) R.delegations) in
        ap (λ (s : List ℕ). sets (sets (moved_down s (record_place k) (record_place n)) (record_place (n - 1)) none) count_at (two_bytes (n - 1))) (parted (e ∷ []) ys k at_place)
        ∙ ap (λ (s : List ℕ). sets s count_at (two_bytes (n - 1))) (out ∙ ap (λ (z : List ℕ). front_of n xs ++ (Y ++ z)) zs)
        ∙ count_set n (n - 1) xs (Y ++ zeros_after (n - 1))
        ∙ sym (encode_parts xs [] ys (n - 1) fewer)

    -- it is set to another weight
    pub encode_reweigh : (w : ℕ)
        → set (encode R) (record_place k + weight_byte) w ≡ encode (with_delegations R (take k R.delegations ++ (reweigh (get_or R.delegations k no_delegation) w ∷ drop (suc k) R.delegations)))
    encode_reweigh w =
        let xs = take k R.delegations in
        let ys = drop (suc k) R.delegations in
        let e = get_or R.delegations k no_delegation in
        let n = length R.delegations in
        let rest : List ℕ = e.kind ∷ (two_bytes e.need ++ two_bytes e.bar) ++ (concat_map record_bytes ys ++ zeros_after n) in
        let P = front_of n xs ++ (e.giver ∷ e.receiver ∷ []) in
        let group : (v : ℕ) → front_of n xs ++ (record_bytes (reweigh e v) ++ (concat_map record_bytes ys ++ zeros_after n)) ≡ P ++ (v ∷ rest) = λ v. sym (append_assoc (front_of n xs) (e.giver ∷ e.receiver ∷ []) (v ∷ rest)) in
        let p : length P ≡ record_place k + weight_byte = length-append (front_of n xs) (e.giver ∷ e.receiver ∷ []) ∙ omega (arith, length_front n xs, before_place) in
        let same : length (xs ++ (reweigh e w ∷ ys)) ≡ n = length-append xs (reweigh e w ∷ ys) ∙ omega (arith, before_place, length-drop (suc k) R.delegations) in
        ap (λ (s : List ℕ). set s (record_place k + weight_byte) w) (parted (e ∷ []) ys k at_place ∙ group e.weight)
        ∙ set_at P e.weight rest w (record_place k + weight_byte) p
        ∙ sym (group w)
        ∙ sym (encode_parts xs (reweigh e w ∷ []) ys n same)

  -- zeros after the last record
  pub zeros_encode : drop (record_place (length R.delegations)) (encode R) ≡ zeros_after (length R.delegations)
  zeros_encode =
      let n = size R.delegations in
      let D = concat_map record_bytes R.delegations in
      sym (drop-drop (record_size * length R.delegations) records_at (encode R))
      ∙ ap (drop (record_size * length R.delegations)) (records_encode R f)
      ∙ drop_at D (replicate (records_size - length D) 0) (record_size * length R.delegations) n
      ∙ ap (λ (k : ℕ). replicate (records_size - k) 0) n

  -- other delegations written after what stands before the records
  pub encode_with : (ds : List Delegation) → sets (take records_at (encode R) ++ (concat_map record_bytes ds ++ zeros_after (length ds))) count_at (two_bytes (length ds)) ≡ encode (with_delegations R ds)
  encode_with ds =
      let n = sym (size ds) in
      (λ i. sets (front_encode R f i ++ (concat_map record_bytes ds ++ replicate (records_size - n i) 0)) count_at (two_bytes (length ds))) ∙ append_assoc (head_of R.subjects (length ds)) (middle_part R) (concat_map record_bytes ds ++ replicate (records_size - length (concat_map record_bytes ds)) 0) ∙ sym (encode_records (with_delegations R ds))

  -- one more subject
  pub encode_enrol : (v : ℕ) → R.subjects < most_subjects → sets (set (encode R) 0 (R.subjects + 1)) (mark_place R.subjects) (two_bytes v) ≡ encode (enrolled R v)
  encode_enrol v l =
      let n = R.subjects in
      let X = concat_map two_bytes R.marks in
      let D = after_marks R in
      let H = head_of (n + 1) (length R.delegations) in
      let m = marks_size - mark_size * n in
      let x : length X ≡ mark_size * n = length_written two_bytes mark_size (λ k. refl) R.marks ∙ ap (λ (k : ℕ). mark_size * k) f.marked in
      let pad : marks_part R ≡ X ++ replicate m 0 = ap (λ (k : ℕ). X ++ replicate (marks_size - k) 0) x in
      let group : H ++ ((X ++ replicate m 0) ++ D) ≡ (H ++ X) ++ (replicate m 0 ++ D) = simp append_assoc in
      let hx : length (H ++ X) ≡ mark_place n = length-append H X ∙ omega arith in
      let room : mark_place n + mark_size ≤ length ((H ++ X) ++ (replicate m 0 ++ D)) = omega (arith, length-append (H ++ X) (replicate m 0 ++ D), length-append (replicate m 0) D, length-replicate {A = ℕ} m 0) in
      let tail : drop (mark_place n + mark_size) ((H ++ X) ++ (replicate m 0 ++ D)) ≡ replicate (m - mark_size) 0 ++ D =
      let k : mark_place n + mark_size ≡ length (H ++ X) + mark_size = omega arith in
      ap (λ (i : ℕ). drop i ((H ++ X) ++ (replicate m 0 ++ D))) k ∙ drop-append-add (H ++ X) (replicate m 0 ++ D) mark_size ∙ drop-append-le mark_size (replicate m 0) D (omega (arith, length-replicate {A = ℕ} m 0)) ∙ ap (λ (s : List ℕ). s ++ D) (drop_replicate mark_size m (omega arith)) in
      let ungroup : (H ++ X) ++ two_bytes v ++ (replicate (m - mark_size) 0 ++ D) ≡ H ++ (((X ++ two_bytes v) ++ replicate (m - mark_size) 0) ++ D) = simp append_assoc in
      let X' : concat_map two_bytes (R.marks ++ (v ∷ [])) ≡ X ++ two_bytes v = concat_map_append two_bytes R.marks (v ∷ []) in
      let pad' : padded marks_size (concat_map two_bytes (R.marks ++ (v ∷ []))) ≡ (X ++ two_bytes v) ++ replicate (m - mark_size) 0 =
      let q : marks_size - length (X ++ two_bytes v) ≡ m - mark_size = ap (λ (k : ℕ). marks_size - k) (length-append X (two_bytes v)) ∙ omega arith in
      ap (padded marks_size) X' ∙ ap (λ (k : ℕ). (X ++ two_bytes v) ++ replicate k 0) q in
      let s : n + 1 ≡ suc n = omega arith in
      ap (λ (t : List ℕ). sets (set t 0 (n + 1)) (mark_place n) (two_bytes v)) (encode_marks R)
      ∙ ap (λ (t : List ℕ). sets (H ++ (t ++ D)) (mark_place n) (two_bytes v)) pad
      ∙ ap (λ (t : List ℕ). sets t (mark_place n) (two_bytes v)) group
      ∙ sets-eq (two_bytes v) ((H ++ X) ++ (replicate m 0 ++ D)) (mark_place n) room
      ∙ (λ j. take_at (H ++ X) (replicate m 0 ++ D) (mark_place n) hx j ++ two_bytes v ++ tail j)
      ∙ ungroup
      ∙ ap (λ (t : List ℕ). H ++ (t ++ D)) (sym pad')
      ∙ ap (λ (k : ℕ). head_of k (length R.delegations) ++ (padded marks_size (concat_map two_bytes (R.marks ++ (v ∷ []))) ++ D)) s
      ∙ sym (encode_marks (enrolled R v))

  -- the marks of subject k set
  pub encode_mark : (k v : ℕ) → k < R.subjects → sets (encode R) (mark_place k) (two_bytes v) ≡ encode (with_marks R (set R.marks k v))
  encode_mark k v l =
      let ms = set R.marks k v in
      let wide : (xs : List ℕ) → length (concat_map two_bytes xs) ≡ mark_size * length xs = length_written two_bytes mark_size (λ n. refl) in
      let n : length (concat_map two_bytes R.marks) ≡ length (concat_map two_bytes ms) = wide R.marks ∙ ap (λ (m : ℕ). mark_size * m) (sym (length-set R.marks k v)) ∙ sym (wide ms) in
      ap (λ (s : List ℕ). sets s (mark_place k) (two_bytes v)) (encode_marks R ∙ group R.marks)
      ∙ written_set two_bytes mark_size (λ n. refl) head (zeros ++ after_marks R) R.marks k v (omega (arith, f.marked))
      ∙ sym (group ms)
      ∙ (λ j. head ++ ((concat_map two_bytes ms ++ replicate (marks_size - n j) 0) ++ after_marks R))
      ∙ sym (encode_marks (with_marks R ms))
    where
      head : List ℕ
      head = head_of R.subjects (length R.delegations)

      zeros : List ℕ
      zeros = replicate (marks_size - length (concat_map two_bytes R.marks)) 0

      group : (xs : List ℕ) → head ++ ((concat_map two_bytes xs ++ zeros) ++ after_marks R) ≡ head ++ (concat_map two_bytes xs ++ (zeros ++ after_marks R))
      group xs = ap (λ (s : List ℕ). head ++ s) (append_assoc (concat_map two_bytes xs) zeros (after_marks R))

-- the fresh register
pub encode_fresh : set (replicate block_size 0) 0 1 ≡ encode fresh
unfolding encode
encode_fresh = refl

-- no subject and no delegation
pub encode_empty : replicate block_size 0 ≡ encode empty
unfolding encode
encode_empty = refl
