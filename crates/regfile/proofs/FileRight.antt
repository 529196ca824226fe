-- What is read of a text is fixed by the texts of registers alone; two registers have two texts. Assumes nothing.
use mathlib.Core.Path.{◌≡◌, refl, sym, ap, subst, ◌∙◌}
use mathlib.Core.Logic.{◌≢◌, ◌⊎◌, inl, inr}
use mathlib.Core.Bool.{Bool, true, false, not, ◌&&◌}
use mathlib.Core.List.Memᴰ
use mathlib.Core.List.{List, [], ◌∷◌, ◌++◌, map, append-nil, append_assoc}
use Prim.Native.Nat.{ℕ, zero, suc, ◌+◌, ◌*◌, ◌/◌, ◌%◌, ◌^◌, ◌≤◌, ◌<◌}
use native.Mathlib.Nat.{mod-lt, mod-eq_of_lt, zero-add, add-zero, add-suc, suc-add, le_of_suc-le-suc}
use native.Mathlib.Omega.{arith}
use lib.Dec.{T, eqb, ltb, leb→le, le→leb, eqb→eq, ltb→lt, nltb→le}
use lib.IntN.{ℤ, pos, negsuc}
use lib.ListN.{length, get_or, drop, length-map, get_or-eq_default}
use Rattle.rules.specs.List.{◌∈◌, concat_map}
use Rattle.rules.specs.Bits.{bit}
use Rattle.rules.specs.Register.{Delegation, Register}
use Rattle.rules.specs.WellFormed.{DelegationFormed, WellFormed}
use Rattle.rules.specs.Round.{equal}
use Rattle.rules.proofs.Lists.{T_left, T_right, T_both, T_true, yes, eq_to_eqb, either}
use Rattle.rules.proofs.Bits.{bit_zero, bit_small, bit_high, bits_same}
use Rattle.rules.proofs.Retired.{retired_room}
use Rattle.rules.proofs.Rounds.{equal_refl, equal_to_eq}
use Rattle.block.specs.Bytes.{IsBytes}
use Rattle.block.specs.Block.{decode, encode}
use Rattle.block.specs.WellFormed.{well_formed}
use Rattle.block.proofs.Encode.{bytes_encode, decode_encode}
use Rattle.block.proofs.Form.{encode_formed}
use Rattle.block.proofs.Held.{held_formed}
use Rattle.text.specs.Text.{line, most, Allowed, AllAllowed}
use Rattle.text.specs.Bytes.{bytes_of}
use Rattle.text.specs.Rows.{rows}
use Rattle.text.proofs.Rows.{rows_line, rows_none, rows_empty, above, rows_names}
use Rattle.regfile.specs.FileText.{subject_names, delegation_names, subject_rows, delegation_row, subject_columns, delegation_columns, rows_of, file_of, file_text, AreRows, FileLines, Filed, passing_file, refused_file, rows_before, rows_after, subjects_of, delegations_of, plain, all_plain, are_rows, is_file, value_at, delegation_of, bits_of, register_of, block_of, judged, filed_from, filed, FiledRight}

-- ── the test of a text's form ──
plain_test : (z : ℤ) → Allowed false z → T (plain z)
plain_test (pos n) h = le→leb n most h
plain_test (negsuc n) h = absurd h

test_plain : (z : ℤ) → T (plain z) → Allowed false z
test_plain (pos n) h = leb→le n most h
test_plain (negsuc n) h = absurd h

all_test : (zs : List ℤ) → AllAllowed false zs → T (all_plain zs)
all_test [] h = tt
all_test (z ∷ zs) h = T_both (plain z) (all_plain zs) (plain_test z h.0) (all_test zs h.1)

test_all : (zs : List ℤ) → T (all_plain zs) → AllAllowed false zs
test_all [] h = tt
test_all (z ∷ zs) h = (test_plain z (T_left (plain z) (all_plain zs) h), test_all zs (T_right (plain z) (all_plain zs) h))

module _ (w : ℕ) where
  rows_test : (rs : List (List ℤ)) → AreRows w rs → T (are_rows w rs)
  rows_test [] h = tt
  rows_test (r ∷ rs) h = T_both (eqb (length r) w && all_plain r) (are_rows w rs) (T_both (eqb (length r) w) (all_plain r) (eq_to_eqb h.0) (all_test r h.1)) (rows_test rs h.2)

  pub test_rows : (rs : List (List ℤ)) → T (are_rows w rs) → AreRows w rs
  test_rows [] h = tt
  test_rows (r ∷ rs) h =
      let k = T_left (eqb (length r) w && all_plain r) (are_rows w rs) h in
      (eqb→eq (length r) w (T_left (eqb (length r) w) (all_plain r) k), test_all r (T_right (eqb (length r) w) (all_plain r) k), test_rows rs (T_right (eqb (length r) w && all_plain r) (are_rows w rs) h))

module _ (text : List ℕ) (ss ds : List (List ℤ)) where
  lines_test : FileLines text ss ds → T (is_file text ss ds)
  unfolding is_file
  lines_test h =
      T_both (are_rows subject_columns ss) (are_rows delegation_columns ds && equal text (file_of ss ds)) (rows_test subject_columns ss h.subjects)
      (T_both (are_rows delegation_columns ds) (equal text (file_of ss ds)) (rows_test delegation_columns ds h.delegations) (subst (λ (s : List ℕ). T (equal text s)) h.same (equal_refl text)))

  test_lines : T (is_file text ss ds) → FileLines text ss ds
  unfolding is_file
  test_lines h =
      let r = T_right (are_rows subject_columns ss) (are_rows delegation_columns ds && equal text (file_of ss ds)) h in
      record {
        subjects = test_rows subject_columns ss (T_left (are_rows subject_columns ss) (are_rows delegation_columns ds && equal text (file_of ss ds)) h);
        delegations = test_rows delegation_columns ds (T_left (are_rows delegation_columns ds) (equal text (file_of ss ds)) r);
        same = equal_to_eq text (file_of ss ds) (T_right (are_rows delegation_columns ds) (equal text (file_of ss ds)) r);
      }

-- ── the rows of a text ──
row_some : (w : ℕ) (r : List ℤ) → length r ≡ suc w → r ≢ []
row_some w r h e = absurd (omega (arith, h, ap length e))

module _ (w : ℕ) where
  rows_lines : (rs : List (List ℤ)) (s : List ℕ) → AreRows (suc w) rs → rows (concat_map line rs ++ s) ≡ rs ++ rows s
  rows_lines [] s h = refl
  rows_lines (r ∷ rs) s h =
      ap rows (assoc r rs s) ∙ rows_line r (concat_map line rs ++ s) (row_some w r h.0) ∙ ap (λ (x : List (List ℤ)). r ∷ x) (rows_lines rs s h.2)
    where
      assoc : (r : List ℤ) (rs : List (List ℤ)) (s : List ℕ) → (line r ++ concat_map line rs) ++ s ≡ line r ++ (concat_map line rs ++ s)
      assoc r rs s = append_assoc (line r) (concat_map line rs) s

  before_rows : (rs more : List (List ℤ)) → AreRows (suc w) rs → rows_before (rs ++ ([] ∷ more)) ≡ rs
  before_rows [] more h = refl
  before_rows ([] ∷ rs) more h = absurd (omega (arith, h.0))
  before_rows ((z ∷ zs) ∷ rs) more h = ap (λ (x : List (List ℤ)). (z ∷ zs) ∷ x) (before_rows rs more h.2)

  after_rows : (rs more : List (List ℤ)) → AreRows (suc w) rs → rows_after (rs ++ ([] ∷ more)) ≡ more
  after_rows [] more h = refl
  after_rows ([] ∷ rs) more h = absurd (omega (arith, h.0))
  after_rows ((z ∷ zs) ∷ rs) more h = after_rows rs more h.2

-- the lines of names without their last byte
abbrev names : List ℕ
names = bytes_of "subject marks retired"

more_names : List ℕ
more_names = bytes_of "giver receiver weight need bar pass"

names_split : (s : List ℕ) → subject_names ++ s ≡ names ++ (10 ∷ s)
unfolding subject_names
names_split s = refl

more_split : (s : List ℕ) → delegation_names ++ s ≡ 10 ∷ (more_names ++ (10 ∷ s))
unfolding delegation_names more_names
more_split s = refl

more_above : T (above more_names)
unfolding more_names
more_above = tt

module _ (ss ds : List (List ℤ)) (a : AreRows subject_columns ss) (b : AreRows delegation_columns ds) where
  -- the rows of what follows the empty line
  rest : List (List ℤ)
  rest = rows (more_names ++ (10 ∷ concat_map line ds))

  file_rows : drop 1 (rows (file_of ss ds)) ≡ ss ++ ([] ∷ rest)
  unfolding rest
  file_rows =
      ap (λ (t : List ℕ). drop 1 (rows t)) (names_split (concat_map line ss ++ (delegation_names ++ concat_map line ds)))
      ∙ rows_names names (concat_map line ss ++ (delegation_names ++ concat_map line ds)) tt
      ∙ rows_lines 2 ss (delegation_names ++ concat_map line ds) a
      ∙ ap (λ (t : List ℕ). ss ++ rows t) (more_split (concat_map line ds))
      ∙ ap (λ (x : List (List ℤ)). ss ++ x) (rows_empty (more_names ++ (10 ∷ concat_map line ds)))

  subjects_of_lem : subjects_of (file_of ss ds) ≡ ss
  unfolding subjects_of
  subjects_of_lem = ap rows_before file_rows ∙ before_rows 2 ss rest a

  lines_rows : rows (concat_map line ds) ≡ ds
  lines_rows = ap rows (sym (append-nil (concat_map line ds))) ∙ rows_lines 5 ds [] b ∙ ap (λ (x : List (List ℤ)). ds ++ x) rows_none ∙ append-nil ds

  delegations_of_lem : delegations_of (file_of ss ds) ≡ ds
  unfolding delegations_of rest
  delegations_of_lem =
      ap (λ (x : List (List ℤ)). drop 1 (rows_after x)) file_rows
      ∙ ap (drop 1) (after_rows 2 ss rest a)
      ∙ rows_names more_names (concat_map line ds) more_above
      ∙ lines_rows

-- ── a text in its form ──
module _ (text : List ℕ) (ss ds : List (List ℤ)) (h : FileLines text ss ds) where
  abbrev read : Bool → Filed
  read formed = judged true formed (decode (block_of ss ds))

  abbrev formed_test : Bool
  formed_test = well_formed (block_of ss ds) && equal text (file_text (decode (block_of ss ds)))

  pub filed_lines : filed text ≡ read formed_test
  unfolding filed
  filed_lines =
      let p : subjects_of text ≡ ss = ap subjects_of h.same ∙ subjects_of_lem ss ds h.subjects h.delegations in
      let q : delegations_of text ≡ ds = ap delegations_of h.same ∙ delegations_of_lem ss ds h.subjects h.delegations in
      (λ i. filed_from text (p i) (q i)) ∙ ap (λ (x : Bool). judged x formed_test (decode (block_of ss ds))) (T_true (is_file text ss ds) (lines_test text ss ds h))

-- ── the block of a register's rows ──
cut_bytes_lem : (s : List ℕ) → IsBytes (map (λ x. x % 256) s)
cut_bytes_lem [] i = omega arith
cut_bytes_lem (x ∷ s) zero = mod-lt x (omega arith)
cut_bytes_lem (x ∷ s) (suc i) = cut_bytes_lem s i

bytes_cut : (s : List ℕ) → IsBytes s → map (λ x. x % 256) s ≡ s
bytes_cut [] h = refl
bytes_cut (x ∷ s) h = let e : x % 256 ≡ x = mod-eq_of_lt (h 0) in let t = bytes_cut s (λ i. h (suc i)) in λ i. e i ∷ t i

block_bytes : (ss ds : List (List ℤ)) → IsBytes (block_of ss ds)
unfolding block_of
block_bytes ss ds = cut_bytes_lem (encode (register_of ss ds))

pub subject_marks : (n s : ℕ) (ms : List ℕ) → map (λ row. value_at row 1) (subject_rows n s ms) ≡ ms
subject_marks n s [] = refl
subject_marks n s (m ∷ ms) = ap (λ (x : List ℕ). m ∷ x) (subject_marks n (suc s) ms)

pub length_subjects : (n s : ℕ) (ms : List ℕ) → length (subject_rows n s ms) ≡ length ms
length_subjects n s [] = refl
length_subjects n s (m ∷ ms) = ap suc (length_subjects n (suc s) ms)

-- the bits of the number with these bits
bits_of_lem : (vs : List ℕ) → ((v : ℕ) → v ∈ vs → v < 2) → (y : ℕ) → bit (bits_of vs) y ≡ get_or vs y 0
bits_of_lem [] h y = bit_zero y
bits_of_lem (v ∷ vs) h zero = omega (arith, h v (Memᴰ.head refl))
bits_of_lem (v ∷ vs) h (suc y) = let e : (v + 2 * bits_of vs) / 2 ≡ bits_of vs = omega (arith, h v (Memᴰ.head refl)) in ap (λ (n : ℕ). bit n y) e ∙ bits_of_lem vs (λ x i. h x (Memᴰ.tail i)) y

-- the third values of subjects' rows are bits
third_small : (n s : ℕ) (ms : List ℕ) (v : ℕ) → v ∈ map (λ row. value_at row 2) (subject_rows n s ms) → v < 2
third_small n s [] v i = absurd (Memᴰ.not-nil i)
third_small n s (m ∷ ms) v (Memᴰ.head e) = subst (λ (x : ℕ). x < 2) (sym e) (bit_small n s)
third_small n s (m ∷ ms) v (Memᴰ.tail i) = third_small n (suc s) ms v i

pub third_bits : (n s : ℕ) (ms : List ℕ) (y : ℕ) → y < length ms → get_or (map (λ row. value_at row 2) (subject_rows n s ms)) y 0 ≡ bit n (s + y)
third_bits n s [] y l = absurd (omega arith)
third_bits n s (m ∷ ms) zero l = ap (bit n) (sym (add-zero s))
third_bits n s (m ∷ ms) (suc y) l = third_bits n (suc s) ms y (le_of_suc-le-suc l) ∙ ap (bit n) (suc-add s y ∙ sym (add-suc s y))

-- the bits of the enrolled subjects are those of the rows
module _ (n : ℕ) (ms : List ℕ) where
  abbrev thirds : List ℕ
  thirds = map (λ row. value_at row 2) (subject_rows n 0 ms)

  pub subject_bits : n < 2 ^ length ms → bits_of thirds ≡ n
  subject_bits h = bits_same (bits_of thirds) n (λ y. bits_of_lem thirds (third_small n 0 ms) y ∙ same y (either (ltb y (length ms))))
    where
      same : (y : ℕ) → T (ltb y (length ms)) ⊎ T (not (ltb y (length ms))) → get_or thirds y 0 ≡ bit n y
      same y (inl l) = third_bits n 0 ms y (ltb→lt y (length ms) l) ∙ ap (bit n) (zero-add y)
      same y (inr l) =
          let k = nltb→le y (length ms) l in
          get_or-eq_default thirds 0 (omega (arith, length-map (subject_rows n 0 ms) (λ row. value_at row 2), length_subjects n 0 ms)) ∙ sym (bit_high n (length ms) y h k)

pub delegation_rows : (ds : List Delegation) → map delegation_of (map delegation_row ds) ≡ ds
delegation_rows [] = refl
delegation_rows (d ∷ ds) = ap (λ (x : List Delegation). d ∷ x) (delegation_rows ds)

module _ (R : Register) (f : WellFormed R) where
  block_of_lem : block_of (rows_of subject_columns R) (rows_of delegation_columns R) ≡ encode R
  unfolding block_of
  block_of_lem =
      let n : length (subject_rows R.retired 0 R.marks) ≡ R.subjects = length_subjects R.retired 0 R.marks ∙ f.marked in
      let m = subject_marks R.retired 0 R.marks in
      let r = subject_bits R.retired R.marks (subst (λ (k : ℕ). R.retired < 2 ^ k) (sym f.marked) (retired_room R f)) in
      let d = delegation_rows R.delegations in
      (λ i. map (λ x. x % 256) (encode record { subjects = n i; marks = m i; retired = r i; delegations = d i })) ∙ bytes_cut (encode R) (bytes_encode R f)

-- ── the rows of a well-formed register ──
subject_formed_lem : (n s : ℕ) (ms : List ℕ) → s + length ms ≤ most → ((m : ℕ) → m ∈ ms → m ≤ 65535) → AreRows subject_columns (subject_rows n s ms)
subject_formed_lem n s [] l h = tt
subject_formed_lem n s (m ∷ ms) l h =
    (refl, (omega arith, (omega (arith, h m (Memᴰ.head refl)), (omega (arith, bit_small n s), tt))), subject_formed_lem n (suc s) ms (omega arith) (λ x i. h x (Memᴰ.tail i)))

delegations_formed : (n : ℕ) (ds : List Delegation) → n ≤ 64 → ((d : Delegation) → d ∈ ds → DelegationFormed n d) → AreRows delegation_columns (map delegation_row ds)
delegations_formed n [] l h = tt
delegations_formed n (d ∷ ds) l h =
    let k = h d (Memᴰ.head refl) in
    (refl, (omega (arith, k.giver), (omega (arith, k.receiver), (omega (arith, k.weight), (omega (arith, k.need), (omega (arith, k.bar), (omega (arith, k.kind), tt)))))), delegations_formed n ds l (λ e i. h e (Memᴰ.tail i)))

pub formed_lines : (R : Register) → WellFormed R → FileLines (file_text R) (rows_of subject_columns R) (rows_of delegation_columns R)
unfolding file_text
formed_lines R f = record {
  subjects = subject_formed_lem R.retired 0 R.marks (omega (arith, f.marked, f.most)) f.marks;
  delegations = delegations_formed R.subjects R.delegations f.most f.each;
  same = refl;
}

-- ── the lines of a text are determined ──
pub lines_same : (text : List ℕ) (ss ds us es : List (List ℤ)) → FileLines text ss ds → FileLines text us es → (ss ≡ us) × (ds ≡ es)
lines_same text ss ds us es h k =
    let e : file_of ss ds ≡ file_of us es = sym h.same ∙ k.same in (
      sym (subjects_of_lem ss ds h.subjects h.delegations) ∙ ap subjects_of e ∙ subjects_of_lem us es k.subjects k.delegations,
      sym (delegations_of_lem ss ds h.subjects h.delegations) ∙ ap delegations_of e ∙ delegations_of_lem us es k.subjects k.delegations,
    )

-- those of a well-formed register whose text this is
pub known_rows : (text : List ℕ) (ss ds : List (List ℤ)) → FileLines text ss ds → (R : Register) → WellFormed R → text ≡ file_text R → (ss ≡ rows_of subject_columns R) × (ds ≡ rows_of delegation_columns R)
known_rows text ss ds h R f e =
    let us = rows_of subject_columns R in
    let es = rows_of delegation_columns R in
    lines_same text ss ds us es h (subst (λ (s : List ℕ). FileLines s us es) (sym e) (formed_lines R f))

-- ── what is read ──
other : (text : List ℕ) (ss ds : List (List ℤ)) (formed : Bool) (R : Register) (b : Bool) → is_file text ss ds ≡ b → ((us es : List (List ℤ)) → FileLines text us es → ⊥) → judged b formed R ≡ refused_file 7
other text ss ds formed R true e n = absurd (n ss ds (test_lines text ss ds (yes e)))
other text ss ds formed R false e n = refl

module _ (text : List ℕ) (ss ds : List (List ℤ)) where
  unmade : (b : Bool) → (well_formed (block_of ss ds) && equal text (file_text (decode (block_of ss ds)))) ≡ b → ((R : Register) → WellFormed R → text ≢ file_text R) → judged true b (decode (block_of ss ds)) ≡ refused_file 8
  unmade true e n =
      let w = well_formed (block_of ss ds) in
      let q = equal text (file_text (decode (block_of ss ds))) in
      absurd (n (decode (block_of ss ds)) (held_formed (block_of ss ds) (block_bytes ss ds) (T_true w (T_left w q (yes e)))) (equal_to_eq text (file_text (decode (block_of ss ds))) (T_right w q (yes e))))
  unmade false e n = refl

module _ (R : Register) (f : WellFormed R) where
  made : (b : List ℕ) → b ≡ encode R → judged true (well_formed b && equal (file_text R) (file_text (decode b))) (decode b) ≡ passing_file R
  made b e =
      let d : decode b ≡ R = ap decode e ∙ decode_encode R f in
      let w : T (well_formed b) = subst (λ (s : List ℕ). T (well_formed s)) (sym e) (encode_formed R f) in
      let q : T (equal (file_text R) (file_text (decode b))) = subst (λ (S : Register). T (equal (file_text R) (file_text S))) (sym d) (equal_refl (file_text R)) in
      (λ i. judged true (T_true (well_formed b && equal (file_text R) (file_text (decode b))) (T_both (well_formed b) (equal (file_text R) (file_text (decode b))) w q) i) (d i))

fallen : (text : List ℕ) → ((ss ds : List (List ℤ)) → FileLines text ss ds → ⊥) → filed text ≡ refused_file 7
unfolding filed
fallen text n = let ss = subjects_of text in let ds = delegations_of text in let b = block_of ss ds in other text ss ds (well_formed b && equal text (file_text (decode b))) (decode b) (is_file text ss ds) refl n

pub filed_right : FiledRight
filed_right = record {
  malformed = fallen;
  unformed = λ text ss ds h n. filed_lines text ss ds h ∙ unmade text ss ds (well_formed (block_of ss ds) && equal text (file_text (decode (block_of ss ds)))) refl n;
  formed = λ R f. filed_lines (file_text R) (rows_of subject_columns R) (rows_of delegation_columns R) (formed_lines R f) ∙ made R f (block_of (rows_of subject_columns R) (rows_of delegation_columns R)) (block_of_lem R f);
}

-- a text is refused with 7 or 8, or passes
pub filed_number : (text : List ℕ) → ((filed text).refusal ≡ 0) ⊎ (((filed text).refusal ≡ 7) ⊎ ((filed text).refusal ≡ 8))
unfolding filed
filed_number text = let ss = subjects_of text in let ds = delegations_of text in let b = block_of ss ds in numbered (decode b) (is_file text ss ds) (well_formed b && equal text (file_text (decode b)))
  where
    numbered : (R : Register) (h k : Bool) → let n = (judged h k R).refusal in (n ≡ 0) ⊎ ((n ≡ 7) ⊎ (n ≡ 8))
    numbered R false k = inr (inl refl)
    numbered R true false = inr (inr refl)
    numbered R true true = inl refl

-- what passes is the text of the well-formed register that it holds
pub filed_passing : (text : List ℕ) → (filed text).refusal ≡ 0 → WellFormed (filed text).register × (text ≡ file_text (filed text).register)
unfolding filed
filed_passing text e =
    let ss = subjects_of text in
    let ds = delegations_of text in
    let b = block_of ss ds in
    go (is_file text ss ds) (well_formed b) (equal text (file_text (decode b))) refl refl e
  where
    go : (h w q : Bool) → let b = block_of (subjects_of text) (delegations_of text) in well_formed b ≡ w → equal text (file_text (decode b)) ≡ q → (judged h (w && q) (decode b)).refusal ≡ 0
        → let R = (judged h (w && q) (decode b)).register in WellFormed R × (text ≡ file_text R)
    go false w q x y z = absurd (omega arith)
    go true false q x y z = absurd (omega arith)
    go true true false x y z = absurd (omega arith)
    go true true true x y z =
        let b = block_of (subjects_of text) (delegations_of text) in
        (held_formed b (block_bytes (subjects_of text) (delegations_of text)) x, equal_to_eq text (file_text (decode b)) (yes y))

pub file_inj : (R S : Register) → WellFormed R → WellFormed S → file_text R ≡ file_text S → R ≡ S
file_inj R S f g e = ap (λ (x : Filed). x.register) (sym (filed_right.formed R f) ∙ ap filed e ∙ filed_right.formed S g)
