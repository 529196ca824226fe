-- The examples of a register's text hold. Assumes nothing.
use mathlib.Core.Path.{◌≡◌, refl, sym, ap, subst, ◌∙◌}
use mathlib.Core.Logic.{◌≢◌, inl, inr}
use mathlib.Core.Bool.{false, not}
use mathlib.Core.List.Memᴰ
use mathlib.Core.List.{List, [], ◌∷◌, ◌++◌, map, append-nil}
use Prim.Native.Nat.{ℕ, zero, suc, ◌+◌, ◌≤◌, ◌<◌}
use native.Mathlib.Nat.{zero-add}
use native.Mathlib.Omega.{arith}
use lib.Dec.{T, T_not}
use lib.IntN.{ℤ, pos, negsuc}
use lib.ListN.{length, get_or, drop, length-map}
use Rattle.rules.specs.List.{◌∈◌, concat_map}
use Rattle.rules.specs.Bits.{bit}
use Rattle.rules.specs.Register.{Delegation, Register, marks_of, is_retired, granted}
use Rattle.rules.specs.WellFormed.{Before, Rising, DelegationFormed, WellFormed}
use Rattle.rules.proofs.Lists.{eq_to_eqb}
use Rattle.rules.proofs.Bits.{bit_zero, bit_small}
use Rattle.rules.proofs.Retired.{unset_bit, none_retired}
use Rattle.text.specs.Text.{digits, line, Allowed}
use Rattle.text.specs.Bytes.{bytes_of}
use Rattle.std.specs.Prelude.{IsSomeAnd}
use Rattle.text.proofs.Reading.{read_from, read_number, drop_end}
use Rattle.text.proofs.Lines.{line_cons}
use Rattle.regfile.specs.FileText.{subject_names, delegation_names, subject_rows, subject_columns, delegation_columns, file_of, file_text, FileLines, refused_file, are_rows, value_at, delegation_of, filed}
use Rattle.regfile.specs.Examples.{three, pairs, sample, left_off, file_with, NoLines, Examples}
use Rattle.regfile.proofs.FileRight.{test_rows, filed_right, subject_marks, third_bits, delegation_rows, known_rows}
use Rattle.regfile.proofs.Parsing.{NoRow, lines_unique, empty_apart, end_apart, names_apart, names_after}

-- ── the registers are well formed ──
pair_formed : (d : Delegation) → d ∈ pairs → DelegationFormed 3 d
pair_formed d (Memᴰ.head q) =
    subst (λ (x : Delegation). DelegationFormed 3 x) (sym q)
    record { giver = omega arith; receiver = omega arith; differ = λ e. omega arith; not_owner = λ e. omega arith; weight = omega arith; need = omega arith; bar = omega arith; disjoint = refl; kind = omega arith }
pair_formed d (Memᴰ.tail (Memᴰ.head q)) =
    subst (λ (x : Delegation). DelegationFormed 3 x) (sym q)
    record { giver = omega arith; receiver = omega arith; differ = λ e. omega arith; not_owner = λ e. omega arith; weight = omega arith; need = omega arith; bar = omega arith; disjoint = refl; kind = omega arith }
pair_formed d (Memᴰ.tail (Memᴰ.tail m)) = absurd (Memᴰ.not-nil m)

pairs_rising : Rising pairs
pairs_rising = (first, ((λ e m. absurd (Memᴰ.not-nil m)), tt))
  where
    first : (e : Delegation) → e ∈ (granted 1 2 8 0 0 0 ∷ []) → Before (granted 0 1 9 4 0 1) e
    first e (Memᴰ.head q) = subst (Before (granted 0 1 9 4 0 1)) (sym q) (inl (omega arith))
    first e (Memᴰ.tail m) = absurd (Memᴰ.not-nil m)

module _ (m : ℕ) (l : m ≤ 65535) where
  marks_formed : (x : ℕ) → x ∈ (0 ∷ 4 ∷ m ∷ []) → x ≤ 65535
  marks_formed x (Memᴰ.head q) = omega (arith, q)
  marks_formed x (Memᴰ.tail (Memᴰ.head q)) = omega (arith, q)
  marks_formed x (Memᴰ.tail (Memᴰ.tail (Memᴰ.head q))) = omega (arith, q, l)
  marks_formed x (Memᴰ.tail (Memᴰ.tail (Memᴰ.tail i))) = absurd (Memᴰ.not-nil i)

  three_formed : (ds : List Delegation) → length ds ≤ 256 → Rising ds → ((d : Delegation) → d ∈ ds → DelegationFormed 3 d) → WellFormed (three m ds)
  three_formed ds few rising each = record { some = omega arith; most = omega arith; marked = refl; marks = marks_formed; owner = refl; few = few; rising = rising; each = each; retired = λ s h. absurd (none_retired s h); apart = λ d i. (unset_bit 0 d.giver (bit_zero d.giver), unset_bit 0 d.receiver (bit_zero d.receiver)) }

  pub pairs_formed : WellFormed (three m pairs)
  pairs_formed = three_formed pairs (omega arith) pairs_rising pair_formed

  pub none_formed : WellFormed (three m [])
  none_formed = three_formed [] (omega arith) tt (λ d i. absurd (Memᴰ.not-nil i))

-- ── other forms: what follows the rows ──
module _ (ss ds : List (List ℤ)) (a : T (are_rows subject_columns ss)) (b : T (are_rows delegation_columns ds)) where
  rest_apart : (t : List ℕ) → NoRow delegation_columns t → t ≢ [] → NoLines (subject_names ++ (concat_map line ss ++ (delegation_names ++ (concat_map line ds ++ t))))
  unfolding delegation_names
  rest_apart t n some us es h =
      let text = subject_names ++ (concat_map line ss ++ (delegation_names ++ (concat_map line ds ++ t))) in
      let p = sym (names_after text (concat_map line ss ++ (delegation_names ++ (concat_map line ds ++ t))) refl) ∙ names_after text (concat_map line us ++ (delegation_names ++ concat_map line es)) h.same in
      let q = lines_unique subject_columns ss us (delegation_names ++ (concat_map line ds ++ t)) (delegation_names ++ concat_map line es) (test_rows subject_columns ss a) h.subjects (names_apart 2 (concat_map line ds ++ t)) (names_apart 2 (concat_map line es)) p in
      some (lines_unique delegation_columns ds es t [] (test_rows delegation_columns ds b) h.delegations n (end_apart 5) (ap (drop 37) q.1 ∙ sym (append-nil (concat_map line es)))).1

-- the first of some values can be read, and the others follow it
row_value : (s : List ℕ) (y z : ℤ) (zs : List ℤ) (rest : List ℕ) → Allowed false y → s ≡ line (y ∷ z ∷ zs) ++ rest → IsSomeAnd (read_from 32 s 0) (λ m. drop m.next s ≡ line (z ∷ zs) ++ rest)
row_value s (negsuc n) z zs rest l e = absurd l
row_value s (pos n) z zs rest l e =
    let q : s ≡ digits n ++ (32 ∷ (line (z ∷ zs) ++ rest)) = e ∙ line_cons (pos n) (z ∷ zs) rest in
    let p = ap (λ (x : List ℕ). read_from 32 x 0) q ∙ read_number 32 (omega arith) n l (line (z ∷ zs) ++ rest) 0 in
    let v : suc (0 + length (digits n)) ≡ suc (length (digits n)) = omega arith in
    rw p (ap (λ (k : ℕ). drop k s) v ∙ ap (drop (suc (length (digits n)))) q ∙ drop_end (digits n) 32 (line (z ∷ zs) ++ rest))

zero_apart : NoRow delegation_columns (bytes_of "1 2 08 0 0 0\n")
zero_apart [] rest k l e = absurd (omega (arith, k))
zero_apart (a ∷ []) rest k l e = absurd (omega (arith, k))
zero_apart (a ∷ b ∷ []) rest k l e = absurd (omega (arith, k))
zero_apart (a ∷ b ∷ c ∷ []) rest k l e = absurd (omega (arith, k))
zero_apart (a ∷ b ∷ c ∷ d ∷ zs) rest k l e =
    let p = (row_value (bytes_of "1 2 08 0 0 0\n") a b (c ∷ d ∷ zs) rest l.0 e) in
    let q = (row_value (bytes_of "2 08 0 0 0\n") b c (d ∷ zs) rest l.1.0 p) in
    row_value (bytes_of "08 0 0 0\n") c d zs rest l.1.1.0 q

some_bytes : (b : ℕ) (s : List ℕ) → b ∷ s ≢ []
some_bytes b s e = let z : ◌≡◌ {A = ℕ} 0 1 = cc in absurd (omega arith)

-- ── lines of no well-formed register ──
module _ (ss ds : List (List ℤ)) (a : T (are_rows subject_columns ss)) (b : T (are_rows delegation_columns ds)) where
  -- no well-formed register has the marks and delegations of these rows, or its rows are others
  unmade : ((R : Register) → WellFormed R → R.marks ≡ map (λ row. value_at row 1) ss → R.delegations ≡ map delegation_of ds → ss ≡ subject_rows R.retired 0 R.marks → ⊥) → filed (file_of ss ds) ≡ refused_file 8
  unmade n = filed_right.unformed (file_of ss ds) ss ds h (λ R f e.
      let k = known_rows (file_of ss ds) ss ds h R f e in
      n R f (sym (subject_marks R.retired 0 R.marks) ∙ ap (map (λ row. value_at row 1)) (sym k.0)) (sym (delegation_rows R.delegations) ∙ ap (map delegation_of) (sym k.1)) k.0)
    where
      h : FileLines (file_of ss ds) ss ds
      h = record { subjects = test_rows subject_columns ss a; delegations = test_rows delegation_columns ds b; same = refl }

-- a row of a subject, and the rows of the example
abbrev retired_row : ℕ → ℕ → ℕ → List ℤ
retired_row s m v = pos s ∷ pos m ∷ pos v ∷ []

abbrev subject_row : ℕ → ℕ → List ℤ
subject_row s m = retired_row s m 0

abbrev three_rows : List (List ℤ)
three_rows = subject_row 0 0 ∷ subject_row 1 4 ∷ subject_row 2 4 ∷ []

abbrev kind_row : ℕ → List ℤ
kind_row k = pos 0 ∷ pos 1 ∷ pos 9 ∷ pos 4 ∷ pos 0 ∷ pos k ∷ []

abbrev first : List ℤ
first = kind_row 1

abbrev second : ℕ → List ℤ
second w = pos 1 ∷ pos 2 ∷ pos w ∷ pos 0 ∷ pos 0 ∷ pos 0 ∷ []

abbrev skipped_rows : List (List ℤ)
skipped_rows = subject_row 0 0 ∷ subject_row 1 4 ∷ subject_row 3 4 ∷ []

skipped_unmade : filed (file_of skipped_rows (first ∷ second 8 ∷ [])) ≡ refused_file 8
skipped_unmade = unmade skipped_rows (first ∷ second 8 ∷ []) tt tt (λ R f m d e.
    let q : ◌≡◌ {A = ℕ} 3 2 = ap (λ (rs : List (List ℤ)). value_at (get_or rs 2 []) 0) (e ∙ ap (subject_rows R.retired 0) m) in
    omega arith)

abbrev wide_rows : List (List ℤ)
wide_rows = subject_row 0 0 ∷ subject_row 1 65540 ∷ subject_row 2 4 ∷ []

wide_unmade : filed (file_of wide_rows (first ∷ second 8 ∷ [])) ≡ refused_file 8
wide_unmade = unmade wide_rows (first ∷ second 8 ∷ []) tt tt (λ R f m d e.
    let h : 65540 ≤ 65535 = f.marks 65540 (subst (λ (ms : List ℕ). 65540 ∈ ms) (sym m) (Memᴰ.tail (Memᴰ.head refl))) in
    omega arith)

heavy_unmade : filed (file_of three_rows (first ∷ second 264 ∷ [])) ≡ refused_file 8
heavy_unmade = unmade three_rows (first ∷ second 264 ∷ []) tt tt (λ R f m d e.
    let h = f.each (granted 1 2 264 0 0 0) (subst (λ (ds : List Delegation). granted 1 2 264 0 0 0 ∈ ds) (sym d) (Memᴰ.tail (Memᴰ.head refl))) in
    omega (arith, h.weight))

kind_unmade : (k : ℕ) → 1 < k → T (are_rows delegation_columns (kind_row k ∷ second 8 ∷ [])) → filed (file_of three_rows (kind_row k ∷ second 8 ∷ [])) ≡ refused_file 8
kind_unmade k l h = unmade three_rows (kind_row k ∷ second 8 ∷ []) tt h (λ R f m d e.
    let x = f.each (granted 0 1 9 4 0 k) (subst (λ (ds : List Delegation). granted 0 1 9 4 0 k ∈ ds) (sym d) (Memᴰ.head refl)) in
    omega (arith, x.kind))

turned_apart : Before (granted 1 2 8 0 0 0) (granted 0 1 9 4 0 1) → ⊥
turned_apart (inl l) = omega arith
turned_apart (inr (e, l)) = omega arith

falling_unmade : filed (file_of three_rows (second 8 ∷ first ∷ [])) ≡ refused_file 8
falling_unmade = unmade three_rows (second 8 ∷ first ∷ []) tt tt (λ R f m d e.
    turned_apart ((subst Rising d f.rising).0 (granted 0 1 9 4 0 1) (Memᴰ.head refl)))

-- ── retired subjects ──
-- the bit of subject k that a well-formed register with these rows has
bit_of : (R : Register) (ss : List (List ℤ)) (k : ℕ) → k < length R.marks → ss ≡ subject_rows R.retired 0 R.marks → get_or (map (λ row. value_at row 2) ss) k 0 ≡ bit R.retired k
bit_of R ss k l e = ap (λ (rs : List (List ℤ)). get_or (map (λ row. value_at row 2) rs) k 0) e ∙ third_bits R.retired 0 R.marks k l ∙ ap (bit R.retired) (zero-add k)

module _ (ss ds : List (List ℤ)) (a : T (are_rows subject_columns ss)) (b : T (are_rows delegation_columns ds)) where
  -- no well-formed register has such a bit
  bit_unmade : (k v : ℕ) → k < length ss → get_or (map (λ row. value_at row 2) ss) k 0 ≡ v
      → ((R : Register) → WellFormed R → R.marks ≡ map (λ row. value_at row 1) ss → R.delegations ≡ map delegation_of ds → bit R.retired k ≡ v → ⊥) → filed (file_of ss ds) ≡ refused_file 8
  bit_unmade k v l q n = unmade ss ds a b (λ R f m d e. n R f m d (sym (bit_of R ss k (omega (arith, l, ap length m, length-map ss (λ row. value_at row 1))) e) ∙ q))

abbrev twice_rows : List (List ℤ)
twice_rows = subject_row 0 0 ∷ subject_row 1 4 ∷ retired_row 2 0 2 ∷ []

twice_unmade : filed (file_of twice_rows (first ∷ [])) ≡ refused_file 8
twice_unmade = bit_unmade twice_rows (first ∷ []) tt tt 2 2 (omega arith) refl (λ R f m d q. omega (arith, bit_small R.retired 2))

abbrev marked_rows : List (List ℤ)
marked_rows = subject_row 0 0 ∷ subject_row 1 4 ∷ retired_row 2 4 1 ∷ []

marked_unmade : filed (file_of marked_rows (first ∷ [])) ≡ refused_file 8
marked_unmade = bit_unmade marked_rows (first ∷ []) tt tt 2 1 (omega arith) refl (λ R f m d q.
    let (l, n, u) = f.retired 2 (eq_to_eqb q) in
    let z : ◌≡◌ {A = ℕ} 4 0 = ap (λ (ms : List ℕ). get_or ms 2 0) (sym m) ∙ u in
    omega arith)

abbrev standing_rows : List (List ℤ)
standing_rows = subject_row 0 0 ∷ retired_row 1 0 1 ∷ subject_row 2 4 ∷ []

standing_unmade : filed (file_of standing_rows (first ∷ [])) ≡ refused_file 8
standing_unmade = bit_unmade standing_rows (first ∷ []) tt tt 1 1 (omega arith) refl (λ R f m d q.
    let (g, r) = f.apart (granted 0 1 9 4 0 1) (subst (λ (ds : List Delegation). granted 0 1 9 4 0 1 ∈ ds) (sym d) (Memᴰ.head refl)) in
    T_not (is_retired R 1) r (eq_to_eqb q))

abbrev owner_rows : List (List ℤ)
owner_rows = retired_row 0 0 1 ∷ subject_row 1 4 ∷ subject_row 2 4 ∷ []

owner_unmade : filed (file_of owner_rows (first ∷ [])) ≡ refused_file 8
owner_unmade = bit_unmade owner_rows (first ∷ []) tt tt 0 1 (omega arith) refl (λ R f m d q. (f.retired 0 (eq_to_eqb q)).1 refl)

-- the example with a retired subject is well formed
left_off_formed : WellFormed left_off
left_off_formed = record {
  some = omega arith;
  most = omega arith;
  marked = refl;
  marks = marks_formed 0 (omega arith);
  owner = refl;
  few = omega arith;
  rising = ((λ e i. absurd (Memᴰ.not-nil i)), tt);
  each = λ d i. pair_formed d (one d i);
  retired = gone;
  apart = λ d i. subst (λ (x : Delegation). T (not (is_retired left_off x.giver)) × T (not (is_retired left_off x.receiver))) (sym (only d i)) (tt, tt);
}
  where
    only : (d : Delegation) → d ∈ (granted 0 1 9 4 0 1 ∷ []) → d ≡ granted 0 1 9 4 0 1
    only d (Memᴰ.head q) = q
    only d (Memᴰ.tail i) = absurd (Memᴰ.not-nil i)

    one : (d : Delegation) → d ∈ (granted 0 1 9 4 0 1 ∷ []) → d ∈ pairs
    one d i = Memᴰ.head (only d i)

    gone : (s : ℕ) → T (is_retired left_off s) → (s < 3) × (s ≢ 0) × (marks_of left_off s ≡ 0)
    gone zero h = absurd h
    gone (suc zero) h = absurd h
    gone (suc (suc zero)) h = (omega arith, (λ e. omega arith), refl)
    gone (suc (suc (suc s))) h = absurd (none_retired s h)

-- a file without the column: the line of names ends before it
old_apart : (rest : List ℕ) → NoLines (bytes_of "subject marks\n" ++ rest)
unfolding subject_names
old_apart rest ss ds h = let z : ◌≡◌ {A = ℕ} 10 32 = ap (λ (s : List ℕ). get_or s 13 0) h.same in omega arith

-- so does the line of names of the delegations
old_names_apart : (rest : List ℕ) → NoLines (bytes_of "subject marks retired\n0 0 0\n1 4 0\n2 4 0\n" ++ (bytes_of "\ngiver receiver weight need bar\n" ++ rest))
unfolding subject_names delegation_names digits
old_names_apart rest us es h =
    let text = bytes_of "subject marks retired\n0 0 0\n1 4 0\n2 4 0\n" ++ (bytes_of "\ngiver receiver weight need bar\n" ++ rest) in
    let old = bytes_of "\ngiver receiver weight need bar\n" ++ rest in
    let p = sym (names_after text (concat_map line three_rows ++ old) refl) ∙ names_after text (concat_map line us ++ (delegation_names ++ concat_map line es)) h.same in
    let q = lines_unique subject_columns three_rows us old (delegation_names ++ concat_map line es) (test_rows subject_columns three_rows tt) h.subjects (empty_apart 2 _) (names_apart 2 (concat_map line es)) p in
    let z : ◌≡◌ {A = ℕ} 10 32 = ap (λ (s : List ℕ). get_or s 31 0) q.1 in
    omega arith

-- pass-only at weight 0 is well formed
light_formed : WellFormed (three 4 (granted 0 1 0 4 0 1 ∷ []))
light_formed = three_formed 4 (omega arith) (granted 0 1 0 4 0 1 ∷ []) (omega arith) ((λ e i. absurd (Memᴰ.not-nil i)), tt) one
  where
    one : (d : Delegation) → d ∈ (granted 0 1 0 4 0 1 ∷ []) → DelegationFormed 3 d
    one d (Memᴰ.head q) =
        subst (λ (x : Delegation). DelegationFormed 3 x) (sym q)
        record { giver = omega arith; receiver = omega arith; differ = λ e. omega arith; not_owner = λ e. omega arith; weight = omega arith; need = omega arith; bar = omega arith; disjoint = refl; kind = omega arith }
    one d (Memᴰ.tail i) = absurd (Memᴰ.not-nil i)

-- ── the examples ──
leading_zero_apart : NoLines (file_with "0 0 0\n1 4 0\n2 4 0\n" "0 1 9 4 0 1\n1 2 08 0 0 0\n")
unfolding subject_names delegation_names digits
leading_zero_apart = rest_apart three_rows (first ∷ []) tt tt (bytes_of "1 2 08 0 0 0\n") zero_apart (some_bytes 49 _)

after_end_apart : NoLines (file_with "0 0 0\n1 4 0\n2 4 0\n" "0 1 9 4 0 1\n1 2 8 0 0 0\n\n")
unfolding subject_names delegation_names digits
after_end_apart = rest_apart three_rows (first ∷ second 8 ∷ []) tt tt (10 ∷ []) (empty_apart 5 []) (some_bytes 10 [])

pub examples_hold : Examples
unfolding subject_names delegation_names file_text digits
examples_hold = record {
  fresh_text = refl;
  fresh_size = refl;
  sample_text = refl;
  sample_read = filed_right.formed sample (pairs_formed 4 (omega arith));
  leading_zero = leading_zero_apart;
  leading_zero_read = filed_right.malformed (file_with "0 0 0\n1 4 0\n2 4 0\n" "0 1 9 4 0 1\n1 2 08 0 0 0\n") leading_zero_apart;
  after_end = after_end_apart;
  after_end_read = filed_right.malformed (file_with "0 0 0\n1 4 0\n2 4 0\n" "0 1 9 4 0 1\n1 2 8 0 0 0\n\n") after_end_apart;
  skipped = skipped_unmade;
  wide = wide_unmade;
  heavy = heavy_unmade;
  retired_text = refl;
  retired_read = filed_right.formed left_off left_off_formed;
  twice = twice_unmade;
  marked = marked_unmade;
  standing = standing_unmade;
  owner = owner_unmade;
  no_column = λ rest. filed_right.malformed (bytes_of "subject marks\n" ++ rest) (old_apart rest);
  pass_light = filed_right.formed (three 4 (granted 0 1 0 4 0 1 ∷ [])) light_formed;
  kind_two = kind_unmade 2 (omega arith) tt;
  kind_wide = kind_unmade 257 (omega arith) tt;
  no_pass = λ rest. filed_right.malformed (bytes_of "subject marks retired\n0 0 0\n1 4 0\n2 4 0\n" ++ (bytes_of "\ngiver receiver weight need bar\n" ++ rest)) (old_names_apart rest);
  falling = falling_unmade;
}
