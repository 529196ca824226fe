-- A well-formed block holds a well-formed register and is that register written; a well-formed register written is a well-formed block. Assumes nothing.
use mathlib.Core.Path.{◌≡◌, refl, sym, ap, subst, ◌∙◌}
use mathlib.Core.Logic.{◌≢◌, ◌⊎◌, inl, inr}
use mathlib.Core.Bool.{Bool, true, false, not, ◌&&◌, ◌||◌}
use mathlib.Core.List.Memᴰ
use mathlib.Core.List.{List, [], ◌∷◌, ◌++◌, append_assoc, append-nil}
use Prim.Native.Nat.{ℕ, zero, suc, ◌+◌, ◌*◌, ◌-◌, ◌≤◌, ◌<◌}
use native.Mathlib.Nat.{zero-add, le_of_suc-le-suc, not-suc-le-zero}
use native.Mathlib.Omega.{arith}
use lib.Bits.{bit_and}
use lib.Dec.{T, eqb, eqb→eq, ltb, ltb→lt, lt→ltb, nltb→le, leb→le, le→leb, not_T}
use lib.ListN.{length, get_or, take, drop, replicate, length-drop, length-replicate, get_or-replicate, take-append-drop, get_or-append}
use lib.Seq.{get_or-drop, get_or-append-add, drop-drop, take_all, take-add}
use Rattle.rules.specs.List.{◌∈◌, tabulate, concat_map}
use Rattle.rules.specs.Bits.{is_set}
use Rattle.rules.specs.Register.{Delegation, Register, marks_of}
use Rattle.rules.specs.WellFormed.{Before, Rising, DelegationFormed, WellFormed}
use Rattle.rules.specs.CallStep.{before}
use Rattle.rules.proofs.Lists.{T_left, T_right, T_both, eq_to_eqb, either, test_ne, get_d_tabulate}
use Rattle.rules.proofs.Bits.{bit_zero, bit_high}
use Rattle.rules.proofs.Retired.{bit_set}
use Rattle.rules.proofs.WellFormed.{Before_trans}
use Rattle.rules.proofs.Pairs.{before_Before, Before_before}
use Rattle.block.specs.Layout.{block_size, most_subjects, most_records, free_at, count_at, mark_size, record_size, marks_size, retired_size, records_size, marks_at, retired_at, records_at, giver_byte, receiver_byte, weight_byte, kind_byte, need_byte, bar_byte}
use Rattle.block.specs.Bytes.{IsBytes, two, two_bytes, read_all, padded, all_from, zeros}
use Rattle.block.specs.Block.{marks_in, delegation_in, record_bytes, subjects_in, count_in, retired_in, decode, encode}
use Rattle.block.specs.WellFormed.{delegation_tests, delegation_formed, all_pass, rest_unmarked, retired_tests, subject_formed, retired_formed, records_formed, rises, records_rise, is_apart, records_apart, rest_zero, block_tests, well_formed}
use Rattle.block.proofs.Bytes.{tabulate_suc, two_bytes_two, two_most, bytes_drop, length_tabulate, tabulate_mem, mem_tabulate, length_written, written_read, all_from_at, all_from_all, padded_zeros}
use Rattle.block.proofs.Wide.{wide_most, bytes_wide}
use Rattle.block.proofs.Tests.{Each, end, ◌▸◌, each, every}
use Rattle.block.proofs.Fitting.{marks_part, middle_part, middle_size, after_marks, encode_records, encode_marks, record_wide}
use Rattle.block.proofs.Encode.{marks_encode, length_encode, subjects_encode, count_encode, retired_encode, records_encode, delegations_encode}
use Rattle.block.specs.Records.{marks_for, delegation_at, delegations_to, record_from}

-- ── the rules of a well-formed block, each by itself ──
pub record Parts (b : List ℕ) : Type 0 where
  pub size : length b ≡ block_size
  pub some : 1 ≤ subjects_in b
  pub most : subjects_in b ≤ most_subjects
  pub free : get_or b free_at 0 ≡ 0
  pub few : count_in b ≤ most_records
  pub owner : two b marks_at ≡ 0
  pub unmarked : T (rest_unmarked b)
  pub retired : T (retired_formed b)
  pub formed : T (records_formed b)
  pub rise : T (records_rise b)
  pub apart : T (records_apart b)
  pub rest : T (rest_zero b)

pub parts : (b : List ℕ) → T (well_formed b) → Parts b
unfolding well_formed
parts b h = go (each block_tests b h)
  where
    go : Each b block_tests → Parts b
    go (size ▸ some ▸ most ▸ free ▸ few ▸ owner ▸ unmarked ▸ formed ▸ rise ▸ retired ▸ apart ▸ rest ▸ end) = record {
      size = eqb→eq (length b) block_size size;
      some = leb→le 1 (subjects_in b) some;
      most = leb→le (subjects_in b) most_subjects most;
      free = eqb→eq (get_or b free_at 0) 0 free;
      few = leb→le (count_in b) most_records few;
      owner = eqb→eq (two b marks_at) 0 owner;
      unmarked = unmarked;
      retired = retired;
      formed = formed;
      rise = rise;
      apart = apart;
      rest = rest;
    }

whole : (b : List ℕ) → Parts b → T (well_formed b)
unfolding well_formed
whole b p = every block_tests b (
    eq_to_eqb p.size
    ▸ le→leb 1 (subjects_in b) p.some
    ▸ le→leb (subjects_in b) most_subjects p.most
    ▸ eq_to_eqb p.free
    ▸ le→leb (count_in b) most_records p.few
    ▸ eq_to_eqb p.owner
    ▸ p.unmarked
    ▸ p.formed
    ▸ p.rise
    ▸ p.retired
    ▸ p.apart
    ▸ p.rest
    ▸ end)

-- ── rising, as a test and as a statement ──
rises_Rising : (ds : List Delegation) → T (rises ds) → Rising ds
rises_Rising [] h = tt
rises_Rising (d ∷ []) h = (λ e m. absurd (Memᴰ.not-nil m), tt)
rises_Rising (d ∷ e ∷ es) h = let ih = rises_Rising (e ∷ es) (T_right (before d e) (rises (e ∷ es)) h) in (later ih, ih)
  where
    next : Before d e
    next = before_Before d e (T_left (before d e) (rises (e ∷ es)) h)

    later : Rising (e ∷ es) → (x : Delegation) → x ∈ (e ∷ es) → Before d x
    later ih x (Memᴰ.head q) = subst (λ (y : Delegation). Before d y) (sym q) next
    later ih x (Memᴰ.tail m) = Before_trans d e x next (ih.0 x m)

Rising_rises : (ds : List Delegation) → Rising ds → T (rises ds)
Rising_rises [] r = tt
Rising_rises (d ∷ []) r = tt
Rising_rises (d ∷ e ∷ es) r = T_both (before d e) (rises (e ∷ es)) (Before_before d e (r.0 e (Memᴰ.head refl))) (Rising_rises (e ∷ es) r.1)

-- ── a formed delegation, as a test and as a statement ──
module _ (n : ℕ) (d : Delegation) where
  formed_of : d.weight ≤ 255 → d.need ≤ 65535 → d.bar ≤ 65535 → T (delegation_formed n d) → DelegationFormed n d
  unfolding delegation_formed
  formed_of w x y h = go (each (delegation_tests n) d h)
    where
      go : Each d (delegation_tests n) → DelegationFormed n d
      go (giver ▸ receiver ▸ differ ▸ not_owner ▸ disjoint ▸ kind ▸ end) = record {
        giver = ltb→lt d.giver n giver;
        receiver = ltb→lt d.receiver n receiver;
        differ = test_ne d.giver d.receiver differ;
        not_owner = test_ne d.receiver 0 not_owner;
        weight = w;
        need = x;
        bar = y;
        disjoint = eqb→eq (bit_and d.need d.bar) 0 disjoint;
        kind = leb→le d.kind 1 kind;
      }

  formed_test_lem : DelegationFormed n d → T (delegation_formed n d)
  unfolding delegation_formed
  formed_test_lem k = every (delegation_tests n) d (
      lt→ltb d.giver n k.giver
      ▸ lt→ltb d.receiver n k.receiver
      ▸ not_T (eqb d.giver d.receiver) (λ q. k.differ (eqb→eq d.giver d.receiver q))
      ▸ not_T (eqb d.receiver 0) (λ q. k.not_owner (eqb→eq d.receiver 0 q))
      ▸ eq_to_eqb k.disjoint
      ▸ le→leb d.kind 1 k.kind
      ▸ end)

-- the first marks of a block
first_marks : (b : List ℕ) (n : ℕ) → 1 ≤ n → get_or (read_all marks_in mark_size (drop marks_at b) n) 0 0 ≡ two b marks_at
first_marks b zero l = absurd (not-suc-le-zero l)
first_marks b (suc n) l = λ j. get_or-drop marks_at b 0 0 j + get_or-drop marks_at b 1 0 j * 256

-- ── a retired subject, and a delegation that is not one's, as tests and as statements ──
set_formed : (n : ℕ) (b : List ℕ) (s : ℕ) → T (is_set n s) → T (subject_formed n b s) → (s < subjects_in b) × (s ≢ 0) × (marks_for b s ≡ 0)
set_formed n b s h k = go (is_set n s) h k
  where
    parts_of : Each s (retired_tests b) → (s < subjects_in b) × (s ≢ 0) × (marks_for b s ≡ 0)
    parts_of (enrolled ▸ not_owner ▸ unmarked ▸ end) = (ltb→lt s (subjects_in b) enrolled, test_ne s 0 not_owner, eqb→eq (marks_for b s) 0 unmarked)

    go : (x : Bool) → T x → T (not x || all_pass (retired_tests b) s) → (s < subjects_in b) × (s ≢ 0) × (marks_for b s ≡ 0)
    go true h k = parts_of (each (retired_tests b) s k)
    go false h k = absurd h

formed_set : (n : ℕ) (b : List ℕ) (s : ℕ) → (T (is_set n s) → (s < subjects_in b) × (s ≢ 0) × (marks_for b s ≡ 0)) → T (subject_formed n b s)
formed_set n b s h = go (is_set n s) h
  where
    go : (x : Bool) → (T x → (s < subjects_in b) × (s ≢ 0) × (marks_for b s ≡ 0)) → T (not x || all_pass (retired_tests b) s)
    go false k = tt
    go true k = let (l, n, m) = k tt in every (retired_tests b) s (lt→ltb s (subjects_in b) l ▸ not_T (eqb s 0) (λ q. n (eqb→eq s 0 q)) ▸ eq_to_eqb m ▸ end)

apart_ends : (n : ℕ) (d : Delegation) → T (is_apart n d) → T (not (is_set n d.giver)) × T (not (is_set n d.receiver))
apart_ends n d h = (T_left (not (is_set n d.giver)) (not (is_set n d.receiver)) h, T_right (not (is_set n d.giver)) (not (is_set n d.receiver)) h)

-- where none is retired
pub none_retired_formed : (b : List ℕ) (s : ℕ) → subject_formed 0 b s ≡ true
none_retired_formed b s = ap (λ (n : ℕ). not (eqb n 1) || all_pass (retired_tests b) s) (bit_zero s)

pub none_retired_apart : (d : Delegation) → is_apart 0 d ≡ true
none_retired_apart d = λ j. not (eqb (bit_zero d.giver j) 1) && not (eqb (bit_zero d.receiver j) 1)

-- ── a well-formed block holds a well-formed register ──
module _ (b : List ℕ) (bytes : IsBytes b) (p : Parts b) where
  delegation_at_lem : (k : ℕ) → k < count_in b → DelegationFormed (subjects_in b) (delegation_at b k)
  delegation_at_lem k l =
      let s = record_from b k in
      let h = bytes_drop (record_size * k) (drop records_at b) (bytes_drop records_at b bytes) in
      formed_of (subjects_in b) (delegation_in s) (omega (arith, h weight_byte)) (two_most s h need_byte) (two_most s h bar_byte)
      (subst (λ (j : ℕ). T (delegation_formed (subjects_in b) (delegation_at b j))) (zero-add k) (all_from_at (λ k. delegation_formed (subjects_in b) (delegation_at b k)) 0 (count_in b) p.formed k l))

  -- a retired subject passes its test
  subject_at : (s : ℕ) → T (is_set (retired_in b) s) → T (subject_formed (retired_in b) b s)
  subject_at s h = go (either (ltb s most_subjects))
    where
      go : T (ltb s most_subjects) ⊎ T (not (ltb s most_subjects)) → T (subject_formed (retired_in b) b s)
      go (inl l) = subst (λ (j : ℕ). T (subject_formed (retired_in b) b j)) (zero-add s) (all_from_at (subject_formed (retired_in b) b) 0 most_subjects p.retired s (ltb→lt s most_subjects l))
      go (inr l) = absurd (omega (arith, bit_set (retired_in b) s h, bit_high (retired_in b) 64 s (wide_most retired_size b bytes retired_at) (nltb→le s most_subjects l)))

  pub decode_formed : WellFormed (decode b)
  unfolding decode
  decode_formed = record {
    some = p.some;
    most = p.most;
    marked = length_tabulate (λ k. marks_in (drop (mark_size * k) (drop marks_at b))) 0 (subjects_in b);
    marks = λ m i. mark m (tabulate_mem (λ k. marks_in (drop (mark_size * k) (drop marks_at b))) 0 (subjects_in b) i);
    owner = first_marks b (subjects_in b) p.some ∙ p.owner;
    few = subst (λ (n : ℕ). n ≤ most_records) (sym (length_tabulate (delegation_at b) 0 (count_in b))) p.few;
    rising = rises_Rising (delegations_to b (count_in b)) p.rise;
    each = λ d i. one d (tabulate_mem (delegation_at b) 0 (count_in b) i);
    retired = λ s h. subject s h (subject_at s h);
    apart = λ d i. free d (tabulate_mem (delegation_at b) 0 (count_in b) i);
  }
    where
      mark : (m : ℕ) → (k : ℕ) × (k < subjects_in b) × (m ≡ marks_in (drop (mark_size * (0 + k)) (drop marks_at b))) → m ≤ 65535
      mark m r = subst (λ (x : ℕ). x ≤ 65535) (sym r.2) (two_most (drop (mark_size * (0 + r.0)) (drop marks_at b)) (bytes_drop (mark_size * (0 + r.0)) (drop marks_at b) (bytes_drop marks_at b bytes)) 0)

      one : (d : Delegation) → (k : ℕ) × (k < count_in b) × (d ≡ delegation_at b (0 + k)) → DelegationFormed (subjects_in b) d
      one d r = subst (λ (x : Delegation). DelegationFormed (subjects_in b) x) (sym r.2) (delegation_at_lem (0 + r.0) (omega (arith, r.1)))

      subject : (s : ℕ) → T (is_set (retired_in b) s) → T (subject_formed (retired_in b) b s) → (s < subjects_in b) × (s ≢ 0) × (get_or (read_all marks_in mark_size (drop marks_at b) (subjects_in b)) s 0 ≡ 0)
      subject s h k =
          let (l, n, m) = set_formed (retired_in b) b s h k in
          (l, n, get_d_tabulate (marks_for b) 0 0 (subjects_in b) s l ∙ ap (marks_for b) (zero-add s) ∙ m)

      free : (d : Delegation) → (k : ℕ) × (k < count_in b) × (d ≡ delegation_at b (0 + k)) → T (not (is_set (retired_in b) d.giver)) × T (not (is_set (retired_in b) d.receiver))
      free d r =
          subst (λ (x : Delegation). T (not (is_set (retired_in b) x.giver)) × T (not (is_set (retired_in b) x.receiver))) (sym r.2)
          (apart_ends (retired_in b) (delegation_at b (0 + r.0)) (all_from_at (λ k. is_apart (retired_in b) (delegation_at b k)) 0 (count_in b) p.apart r.0 r.1))

-- ── a well-formed block is its register written ──
take_tabulate : (n : ℕ) (s : List ℕ) → n ≤ length s → take n s ≡ tabulate (λ i. get_or s i 0) 0 n
take_tabulate zero s l = refl
take_tabulate (suc n) [] l = absurd (not-suc-le-zero l)
take_tabulate (suc n) (x ∷ xs) l = let e = take_tabulate n xs (le_of_suc-le-suc l) ∙ sym (tabulate_suc (λ i. get_or (x ∷ xs) i 0) 0 n) in λ j. x ∷ e j

marks_back : (s : List ℕ) → mark_size ≤ length s → IsBytes s → two_bytes (marks_in s) ≡ take mark_size s
marks_back s l h = two_bytes_two (get_or s 0 0) (get_or s 1 0) (h 0) (h 1) ∙ sym (take_tabulate mark_size s l)

record_back : (s : List ℕ) → record_size ≤ length s → IsBytes s → record_bytes (delegation_in s) ≡ take record_size s
record_back s l h =
    let p = two_bytes_two (get_or s need_byte 0) (get_or s (need_byte + 1) 0) (h need_byte) (h (need_byte + 1)) in
    let q = two_bytes_two (get_or s bar_byte 0) (get_or s (bar_byte + 1) 0) (h bar_byte) (h (bar_byte + 1)) in
    (λ j. get_or s giver_byte 0 ∷ get_or s receiver_byte 0 ∷ get_or s weight_byte 0 ∷ get_or s kind_byte 0 ∷ (p j ++ q j)) ∙ sym (take_tabulate record_size s l)

-- the zero bytes that a test names
zeros_at : (b : List ℕ) (a n : ℕ) → T (zeros b a n) → (k : ℕ) → a ≤ k → k < a + n → get_or b k 0 ≡ 0
zeros_at b a n h k l m =
    let e : a + (k - a) ≡ k = omega arith in
    eqb→eq (get_or b k 0) 0 (subst (λ (j : ℕ). T (eqb (get_or b j 0) 0)) e (all_from_at (λ j. eqb (get_or b j 0) 0) a n h (k - a) (omega arith)))

module _ (b : List ℕ) (bytes : IsBytes b) (p : Parts b) where
  marks_written : padded marks_size (concat_map two_bytes (read_all marks_in mark_size (drop marks_at b) (subjects_in b))) ≡ take marks_size (drop marks_at b)
  marks_written =
      ap (padded marks_size) (written_read two_bytes mark_size (λ n. refl) marks_in (subjects_in b) (drop marks_at b) back)
      ∙ padded_zeros (drop marks_at b) (mark_size * subjects_in b) marks_size (omega (arith, p.most)) (simp length-drop (omega (arith, p.size))) (λ k l m. get_or-drop marks_at b k 0 ∙ zero_mark k l m)
    where
      back : (k : ℕ) → k < subjects_in b → two_bytes (marks_in (drop (mark_size * k) (drop marks_at b))) ≡ take mark_size (drop (mark_size * k) (drop marks_at b))
      back k l = marks_back (drop (mark_size * k) (drop marks_at b)) (simp length-drop (omega (arith, p.size, p.most))) (bytes_drop (mark_size * k) (drop marks_at b) (bytes_drop marks_at b bytes))

      zero_mark : (k : ℕ) → mark_size * subjects_in b ≤ k → k < marks_size → get_or b (marks_at + k) 0 ≡ 0
      zero_mark k l m = zeros_at b (marks_at + mark_size * subjects_in b) (marks_at + marks_size - (marks_at + mark_size * subjects_in b)) p.unmarked (marks_at + k) (omega arith) (omega arith)

  -- what stands between the head and the records
  middle_written : middle_part (decode b) ≡ take middle_size (drop marks_at b)
  unfolding decode
  middle_written =
      let written = bytes_wide retired_size b bytes retired_at (omega (arith, p.size)) in
      (λ j. marks_written j ++ written j)
      ∙ ap (λ (s : List ℕ). take marks_size (drop marks_at b) ++ take retired_size s) (sym (drop-drop marks_size marks_at b))
      ∙ sym (take-add marks_size retired_size (drop marks_at b))

  records_written : padded records_size (concat_map record_bytes (delegations_to b (count_in b))) ≡ drop records_at b
  records_written =
      ap (padded records_size) (written_read record_bytes record_size record_wide delegation_in (count_in b) (drop records_at b) back)
      ∙ padded_zeros (drop records_at b) (record_size * count_in b) records_size (omega (arith, p.few)) (simp length-drop (omega (arith, p.size))) (λ k l m. get_or-drop records_at b k 0 ∙ zero_record k l m)
      ∙ take_all records_size (drop records_at b) (simp length-drop (omega (arith, p.size)))
    where
      back : (k : ℕ) → k < count_in b → record_bytes (delegation_at b k) ≡ take record_size (record_from b k)
      back k l = record_back (record_from b k) (simp length-drop (omega (arith, p.size, p.few))) (bytes_drop (record_size * k) (drop records_at b) (bytes_drop records_at b bytes))

      zero_record : (k : ℕ) → record_size * count_in b ≤ k → k < records_size → get_or b (records_at + k) 0 ≡ 0
      zero_record k l m = zeros_at b (records_at + record_size * count_in b) (block_size - (records_at + record_size * count_in b)) p.rest (records_at + k) (omega arith) (omega (arith, p.few))

  head_written : (subjects_in b ∷ 0 ∷ two_bytes (length (delegations_to b (count_in b)))) ≡ take marks_at b
  head_written =
      let n = length_tabulate (delegation_at b) 0 (count_in b) in
      let e = ap two_bytes n ∙ two_bytes_two (get_or b count_at 0) (get_or b (count_at + 1) 0) (bytes count_at) (bytes (count_at + 1)) in
      let z = sym p.free in
      (λ j. subjects_in b ∷ z j ∷ e j) ∙ sym (take_tabulate marks_at b (omega (arith, p.size)))

  -- what was read is written back
  pub encode_decode : encode (decode b) ≡ b
  unfolding decode
  encode_decode =
      encode_records (decode b)
      ∙ (λ j. head_written j ++ (middle_written j ++ records_written j))
      ∙ ap (λ (s : List ℕ). take marks_at b ++ (take middle_size (drop marks_at b) ++ s)) (sym (drop-drop middle_size marks_at b))
      ∙ ap (λ (s : List ℕ). take marks_at b ++ s) (take-append-drop middle_size (drop marks_at b))
      ∙ take-append-drop marks_at b

-- ── a well-formed register written is a well-formed block ──
-- zeros that stand after a list in a block are zeros of the block
zeros_after_lem : (b front rest : List ℕ) (at n m : ℕ) → drop at b ≡ (front ++ replicate m 0) ++ rest → n ≤ m → T (zeros b (at + length front) n)
zeros_after_lem b front rest at n m e l = all_from_all (λ k. eqb (get_or b k 0) 0) (at + length front) n one
  where
    one : (k : ℕ) → k < n → T (eqb (get_or b (at + length front + k) 0) 0)
    one k q =
        let place : at + length front + k ≡ at + (length front + k) = omega arith in
        eq_to_eqb
        (ap (λ (j : ℕ). get_or b j 0) place
        ∙ sym (get_or-drop at b (length front + k) 0)
        ∙ ap (λ (s : List ℕ). get_or s (length front + k) 0) (e ∙ append_assoc front (replicate m 0) rest)
        ∙ get_or-append-add front (replicate m 0 ++ rest) k 0
        ∙ get_or-append (replicate m 0) rest 0 k (omega (arith, length-replicate {A = ℕ} m 0))
        ∙ get_or-replicate m k 0 0 (omega arith))

module _ (R : Register) (f : WellFormed R) where
  marks_drop : drop marks_at (encode R) ≡ marks_part R ++ after_marks R
  marks_drop = ap (drop marks_at) (encode_marks R)

  free_zero_lem : get_or (encode R) free_at 0 ≡ 0
  unfolding encode
  free_zero_lem = refl

  owner_zero : two (encode R) marks_at ≡ 0
  owner_zero =
      sym (first_marks (encode R) (subjects_in (encode R)) (subst (λ (n : ℕ). 1 ≤ n) (sym (subjects_encode R f)) f.some))
      ∙ ap (λ (ms : List ℕ). get_or ms 0 0) (marks_encode R f) ∙ f.owner

  unmarked_zero : T (rest_unmarked (encode R))
  unmarked_zero =
      let n = length_written two_bytes mark_size (λ x. refl) R.marks in
      let e : marks_at + length (concat_map two_bytes R.marks) ≡ marks_at + mark_size * subjects_in (encode R) = omega (arith, n, f.marked, subjects_encode R f) in
      subst (λ (a : ℕ). T (zeros (encode R) a (marks_at + marks_size - a))) e
      (zeros_after_lem (encode R) (concat_map two_bytes R.marks) (after_marks R) marks_at (marks_at + marks_size - (marks_at + length (concat_map two_bytes R.marks))) (marks_size - length (concat_map two_bytes R.marks)) marks_drop (omega arith))

  -- what is read of a record stands in the register
  read_back : (k : ℕ) → k < count_in (encode R) → delegation_at (encode R) (0 + k) ∈ R.delegations
  read_back k l = subst (λ (ds : List Delegation). delegation_at (encode R) (0 + k) ∈ ds) (delegations_encode R f) (mem_tabulate (delegation_at (encode R)) 0 (count_in (encode R)) k l)

  records_formed_lem : T (records_formed (encode R))
  records_formed_lem = all_from_all (λ k. delegation_formed (subjects_in (encode R)) (delegation_at (encode R) k)) 0 (count_in (encode R)) one
    where
      one : (k : ℕ) → k < count_in (encode R) → T (delegation_formed (subjects_in (encode R)) (delegation_at (encode R) (0 + k)))
      one k l =
          let d = delegation_at (encode R) (0 + k) in
          subst (λ (n : ℕ). T (delegation_formed n d)) (sym (subjects_encode R f)) (formed_test_lem R.subjects d (f.each d (read_back k l)))

  marks_read : (s : ℕ) → s < R.subjects → marks_for (encode R) s ≡ marks_of R s
  marks_read s l =
      ap (marks_for (encode R)) (sym (zero-add s))
      ∙ sym (get_d_tabulate (marks_for (encode R)) 0 0 (subjects_in (encode R)) s (subst (λ (n : ℕ). s < n) (sym (subjects_encode R f)) l))
      ∙ ap (λ (ms : List ℕ). get_or ms s 0) (marks_encode R f)

  retired_formed_lem : T (all_from (subject_formed R.retired (encode R)) 0 most_subjects)
  retired_formed_lem = all_from_all (subject_formed R.retired (encode R)) 0 most_subjects (λ k l. formed_set R.retired (encode R) (0 + k) (one (0 + k)))
    where
      one : (s : ℕ) → T (is_set R.retired s) → (s < subjects_in (encode R)) × (s ≢ 0) × (marks_for (encode R) s ≡ 0)
      one s h = let (l, n, m) = f.retired s h in (subst (λ (x : ℕ). s < x) (sym (subjects_encode R f)) l, n, marks_read s l ∙ m)

  records_apart_lem : T (all_from (λ k. is_apart R.retired (delegation_at (encode R) k)) 0 (count_in (encode R)))
  records_apart_lem = all_from_all (λ k. is_apart R.retired (delegation_at (encode R) k)) 0 (count_in (encode R)) one
    where
      one : (k : ℕ) → k < count_in (encode R) → T (is_apart R.retired (delegation_at (encode R) (0 + k)))
      one k l =
          let d = delegation_at (encode R) (0 + k) in
          let (g, r) = f.apart d (read_back k l) in
          T_both (not (is_set R.retired d.giver)) (not (is_set R.retired d.receiver)) g r

  pub encode_formed : T (well_formed (encode R))
  encode_formed = whole (encode R) record {
    size = length_encode R f;
    some = subst (λ (n : ℕ). 1 ≤ n) (sym (subjects_encode R f)) f.some;
    most = subst (λ (n : ℕ). n ≤ most_subjects) (sym (subjects_encode R f)) f.most;
    free = free_zero_lem;
    few = subst (λ (n : ℕ). n ≤ most_records) (sym (count_encode R f)) f.few;
    owner = owner_zero;
    unmarked = unmarked_zero;
    retired = subst (λ (n : ℕ). T (all_from (subject_formed n (encode R)) 0 most_subjects)) (sym (retired_encode R f)) retired_formed_lem;
    formed = records_formed_lem;
    rise = subst (λ (ds : List Delegation). T (rises ds)) (sym (delegations_encode R f)) (Rising_rises R.delegations f.rising);
    apart = subst (λ (n : ℕ). T (all_from (λ k. is_apart n (delegation_at (encode R) k)) 0 (count_in (encode R)))) (sym (retired_encode R f)) records_apart_lem;
    rest = rest_zero_lem;
  }
    where
      rest_zero_lem : T (rest_zero (encode R))
      rest_zero_lem =
          let n = length_written record_bytes record_size record_wide R.delegations in
          let e : records_at + length (concat_map record_bytes R.delegations) ≡ records_at + record_size * count_in (encode R) = omega (arith, n, count_encode R f) in
          subst (λ (a : ℕ). T (zeros (encode R) a (block_size - a))) e
          (zeros_after_lem (encode R) (concat_map record_bytes R.delegations) [] records_at (block_size - (records_at + length (concat_map record_bytes R.delegations))) (records_size - length (concat_map record_bytes R.delegations))
          (records_encode R f ∙ sym (append-nil _)) (omega arith))
