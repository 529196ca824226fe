-- A register whose numbers have room, written as a block: its size, its bytes, and that it reads back. Assumes nothing.
use mathlib.Core.Path.{◌≡◌, refl, sym, ap, subst, ◌∙◌}
use mathlib.Core.List.Memᴰ
use mathlib.Core.List.{List, [], ◌∷◌, ◌++◌, append_assoc}
use Prim.Native.Nat.{ℕ, zero, suc, ◌-◌, ◌/◌, ◌≤◌}
use native.Mathlib.Nat.{mod-lt, lt_of_lt_of_le}
use native.Mathlib.Omega.{arith}
use lib.ListN.{length, take, drop, replicate, length-append, length-replicate}
use lib.Pow.{pow_mono}
use lib.Seq.{take_at, drop_at}
use Rattle.rules.specs.List.{◌∈◌, concat_map}
use Rattle.rules.specs.Register.{Delegation, Register}
use Rattle.rules.specs.WellFormed.{WellFormed}
use Rattle.rules.proofs.Retired.{retired_room}
use Rattle.block.specs.Layout.{block_size, mark_size, record_size, marks_size, retired_size, records_size, marks_at, retired_at, records_at}
use Rattle.block.specs.Bytes.{IsBytes, two_bytes, wide, wide_bytes, read_all, padded}
use Rattle.block.specs.Block.{marks_in, delegation_in, record_bytes, subjects_in, count_in, retired_in, decode, encode}
use Rattle.block.specs.Fits.{DelegationFits, Fits, Fitting}
use Rattle.block.proofs.Bytes.{two_two_bytes, bytes_append, bytes_zeros, length_written, read_written}
use Rattle.block.proofs.Wide.{wide_drop, length_wide_bytes, bytes_wide_bytes, wide_bytes_lem}
use Rattle.block.specs.Records.{delegations_to}

-- the head: subjects, zero, the count
abbrev pub head_of : ℕ → ℕ → List ℕ
head_of n c = n ∷ 0 ∷ two_bytes c

-- the bytes of the marks, and those of the retired subjects' bits; what stands between the head and the records; the bytes of the records; what stands after the marks
abbrev pub marks_part : Register → List ℕ
marks_part R = padded marks_size (concat_map two_bytes R.marks)

abbrev pub retired_part : Register → List ℕ
retired_part R = wide_bytes retired_size R.retired

abbrev pub middle_part : Register → List ℕ
middle_part R = marks_part R ++ retired_part R

abbrev pub middle_size : ℕ
middle_size = records_at - marks_at

abbrev pub records_part : Register → List ℕ
records_part R = padded records_size (concat_map record_bytes R.delegations)

abbrev pub after_marks : Register → List ℕ
after_marks R = retired_part R ++ records_part R

-- ── the block from its parts, cut where the records begin, and where the marks end ──
pub encode_records : (R : Register) → encode R ≡ head_of R.subjects (length R.delegations) ++ (middle_part R ++ records_part R)
unfolding encode
encode_records R = ap (λ (s : List ℕ). head_of R.subjects (length R.delegations) ++ s) (sym (append_assoc (marks_part R) (retired_part R) (records_part R)))

pub encode_marks : (R : Register) → encode R ≡ head_of R.subjects (length R.delegations) ++ (marks_part R ++ after_marks R)
unfolding encode
encode_marks R = refl

length_padded : (n : ℕ) (s : List ℕ) → length s ≤ n → length (padded n s) ≡ n
length_padded n s h = length-append s (replicate (n - length s) 0) ∙ omega (arith, length-replicate {A = ℕ} (n - length s) 0)

two_wide : (n : ℕ) → length (two_bytes n) ≡ mark_size
two_wide n = refl

pub record_wide : (d : Delegation) → length (record_bytes d) ≡ record_size
record_wide d = refl

-- a record reads back, whatever follows it
pub record_read : (d : Delegation) → d.need ≤ 65535 → d.bar ≤ 65535 → (r : List ℕ) → delegation_in (record_bytes d ++ r) ≡ d
record_read d h k r =
    let p = two_two_bytes d.need h in
    let q = two_two_bytes d.bar k in
    λ i. record { giver = d.giver; receiver = d.receiver; weight = d.weight; need = p i; bar = q i; kind = d.kind }

-- ── every byte is below 256 ──
two_bytes_lem : (n : ℕ) → IsBytes (two_bytes n)
two_bytes_lem n zero = mod-lt n (omega arith)
two_bytes_lem n (suc zero) = mod-lt (n / 256) (omega arith)
two_bytes_lem n (suc (suc i)) = omega arith

all_bytes : {A : Type 0} (g : A → List ℕ) (xs : List A) → ((x : A) → x ∈ xs → IsBytes (g x)) → IsBytes (concat_map g xs)
all_bytes g [] h = λ i. omega arith
all_bytes g (x ∷ xs) h = bytes_append (g x) (concat_map g xs) (h x (Memᴰ.head refl)) (all_bytes g xs (λ y m. h y (Memᴰ.tail m)))

bytes_padded : (n : ℕ) (s : List ℕ) → IsBytes s → IsBytes (padded n s)
bytes_padded n s h = bytes_append s (replicate (n - length s) 0) h (bytes_zeros (n - length s))

module _ (R : Register) (f : Fits R) where
  marks_most : length (concat_map two_bytes R.marks) ≤ marks_size
  marks_most = omega (arith, length_written two_bytes mark_size two_wide R.marks, f.marked, f.most)

  records_most : length (concat_map record_bytes R.delegations) ≤ records_size
  records_most = omega (arith, length_written record_bytes record_size record_wide R.delegations, f.few)

  pub length_marks_part : length (marks_part R) ≡ marks_size
  length_marks_part = length_padded marks_size (concat_map two_bytes R.marks) marks_most

  pub length_middle_part : length (middle_part R) ≡ middle_size
  length_middle_part = length-append (marks_part R) (retired_part R) ∙ omega (arith, length_marks_part, length_wide_bytes retired_size R.retired)

  length_records_part : length (records_part R) ≡ records_size
  length_records_part = length_padded records_size (concat_map record_bytes R.delegations) records_most

  pub length_encode : length (encode R) ≡ block_size
  length_encode = ap length (encode_records R) ∙ omega (arith, length-append (middle_part R) (records_part R), length_middle_part, length_records_part)

  pub records_encode : drop records_at (encode R) ≡ records_part R
  records_encode = ap (drop records_at) (encode_records R) ∙ drop_at (middle_part R) (records_part R) middle_size length_middle_part

  pub front_encode : take records_at (encode R) ≡ head_of R.subjects (length R.delegations) ++ middle_part R
  front_encode = ap (take records_at) (encode_records R) ∙ (λ i. head_of R.subjects (length R.delegations) ++ take_at (middle_part R) (records_part R) middle_size length_middle_part i)

  pub subjects_encode : subjects_in (encode R) ≡ R.subjects
  unfolding encode
  subjects_encode = refl

  pub count_encode : count_in (encode R) ≡ length R.delegations
  unfolding encode
  count_encode = two_two_bytes (length R.delegations) (omega (arith, f.few))

  pub marks_encode : read_all marks_in mark_size (drop marks_at (encode R)) (subjects_in (encode R)) ≡ R.marks
  marks_encode =
      ap (λ (s : List ℕ). read_all marks_in mark_size (drop marks_at s) (subjects_in s)) (encode_marks R)
      ∙ ap (λ (s : List ℕ). read_all marks_in mark_size s R.subjects) (append_assoc (concat_map two_bytes R.marks) (replicate (marks_size - length (concat_map two_bytes R.marks)) 0) (after_marks R))
      ∙ ap (λ (n : ℕ). read_all marks_in mark_size (concat_map two_bytes R.marks ++ (replicate (marks_size - length (concat_map two_bytes R.marks)) 0 ++ after_marks R)) n) (sym f.marked)
      ∙ read_written two_bytes mark_size two_wide marks_in R.marks (replicate (marks_size - length (concat_map two_bytes R.marks)) 0 ++ after_marks R) (λ m i r. two_two_bytes m (f.marks m i))

  pub retired_drop : drop retired_at (encode R) ≡ after_marks R
  retired_drop = ap (drop retired_at) (encode_marks R) ∙ drop_at (marks_part R) (after_marks R) marks_size length_marks_part

  pub retired_encode : retired_in (encode R) ≡ R.retired
  retired_encode = sym (wide_drop retired_size (encode R) retired_at 0) ∙ ap (λ (s : List ℕ). wide retired_size s 0) retired_drop ∙ wide_bytes_lem retired_size R.retired (records_part R) (lt_of_lt_of_le f.bits (pow_mono f.most))

  pub delegations_encode : delegations_to (encode R) (count_in (encode R)) ≡ R.delegations
  delegations_encode =
      ap (λ (s : List ℕ). read_all delegation_in record_size s (count_in (encode R))) records_encode
      ∙ ap (λ (n : ℕ). read_all delegation_in record_size (records_part R) n) count_encode
      ∙ read_written record_bytes record_size record_wide delegation_in R.delegations (replicate (records_size - length (concat_map record_bytes R.delegations)) 0)
      (λ d m r. record_read d (f.each d m).need (f.each d m).bar r)

  -- what was written is read back
  pub decode_encode : decode (encode R) ≡ R
  unfolding decode
  decode_encode = λ i. record { subjects = subjects_encode i; marks = marks_encode i; retired = retired_encode i; delegations = delegations_encode i }

  record_bytes_lem : (d : Delegation) → DelegationFits d → IsBytes (record_bytes d)
  record_bytes_lem d k zero = omega (arith, k.giver)
  record_bytes_lem d k (suc zero) = omega (arith, k.receiver)
  record_bytes_lem d k (suc (suc zero)) = omega (arith, k.weight)
  record_bytes_lem d k (suc (suc (suc zero))) = omega (arith, k.kind)
  record_bytes_lem d k (suc (suc (suc (suc i)))) = bytes_append (two_bytes d.need) (two_bytes d.bar) (two_bytes_lem d.need) (two_bytes_lem d.bar) i

  bytes_head : IsBytes (head_of R.subjects (length R.delegations))
  bytes_head zero = omega (arith, f.most)
  bytes_head (suc zero) = omega arith
  bytes_head (suc (suc i)) = two_bytes_lem (length R.delegations) i

  bytes_middle : IsBytes (middle_part R)
  bytes_middle =
      bytes_append (marks_part R) (retired_part R) (bytes_padded marks_size (concat_map two_bytes R.marks) (all_bytes two_bytes R.marks (λ m j. two_bytes_lem m))) (bytes_wide_bytes retired_size R.retired)

  bytes_records : IsBytes (records_part R)
  bytes_records = bytes_padded records_size (concat_map record_bytes R.delegations) (all_bytes record_bytes R.delegations (λ d m. record_bytes_lem d (f.each d m)))

  pub bytes_encode : IsBytes (encode R)
  bytes_encode =
      subst IsBytes (sym (encode_records R))
      (bytes_append (head_of R.subjects (length R.delegations)) (middle_part R ++ records_part R) bytes_head (bytes_append (middle_part R) (records_part R) bytes_middle bytes_records))

  pub encode_fitting : Fitting (encode R)
  encode_fitting = record { fits = subst Fits (sym decode_encode) f; written = ap encode (sym decode_encode) }

-- bytes that are such a register written: their size, and their counts
module _ (b : List ℕ) (f : Fitting b) where
  pub fitting_size : length b ≡ block_size
  fitting_size = ap length f.written ∙ length_encode (decode b) f.fits

  pub fitting_subjects : subjects_in b ≡ (decode b).subjects
  fitting_subjects = ap subjects_in f.written ∙ subjects_encode (decode b) f.fits

  pub fitting_count : count_in b ≡ length (decode b).delegations
  fitting_count = ap count_in f.written ∙ count_encode (decode b) f.fits

-- the numbers of a well-formed register have room
pub formed_fits : (R : Register) → WellFormed R → Fits R
formed_fits R f = record {
  most = f.most;
  marked = f.marked;
  marks = f.marks;
  bits = retired_room R f;
  few = f.few;
  each = λ d m. let k = f.each d m in record { giver = omega (arith, k.giver, f.most); receiver = omega (arith, k.receiver, f.most); weight = k.weight; need = k.need; bar = k.bar; kind = omega (arith, k.kind) };
}
