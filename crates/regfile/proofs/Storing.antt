-- A row stored after those of a register, or one that no well-formed register has there. Assumes nothing.
use mathlib.Core.Path.{◌≡◌, refl, sym, ap, subst, ◌∙◌}
use mathlib.Core.Logic.{◌≢◌, ◌⊎◌, inl, inr}
use mathlib.Core.Bool.{Bool, true, false, cond}
use mathlib.Core.List.Memᴰ
use mathlib.Core.List.{List, [], ◌∷◌, ◌++◌, map}
use Prim.Native.Nat.{ℕ, zero, suc, ◌+◌, ◌^◌, ◌≤◌, ◌<◌}
use native.Mathlib.Nat.{add-zero, add-suc, suc-add, zero-add, le_refl, pow-suc}
use native.Mathlib.Omega.{arith}
use borrow.Author.Tests.{eq-eqb, ne_eqb}
use lib.Bits.{bit_or}
use lib.Dec.{eqb}
use lib.IntN.{ℤ, pos, negsuc}
use lib.ListN.{length, get_or, drop, length-append, length-map}
use Rattle.rules.specs.List.{◌∈◌}
use Rattle.rules.specs.Bits.{bit}
use Rattle.rules.specs.Register.{Delegation, Register, with_delegations, with_retired}
use Rattle.rules.specs.Call.{enrolled}
use Rattle.rules.proofs.Lists.{clash, map_mem}
use Rattle.rules.proofs.Bits.{bit_small, bit_high}
use Rattle.rules.proofs.Retired.{retired_put, retired_few}
use Rattle.rules.proofs.Chains.{mem_snoc}
use Rattle.block.specs.Layout.{most_subjects, most_records}
use Rattle.block.specs.Block.{subjects_in, count_in, decode, encode}
use Rattle.block.specs.Fits.{DelegationFits, Fits, Fitting}
use Rattle.block.proofs.Fitting.{subjects_encode, decode_encode, encode_fitting, fitting_subjects, fitting_count}
use Rattle.std.specs.Prelude.{Some, Ok, Err, OkIff, unsigned_abs}
use Rattle.std.proofs.lemmas.Option.{none-some}
use Rattle.std.specs.Result.{result_ok}
use Rattle.std.specs.Int.{FitsUnsignedBits}
use Rattle.std.specs.declared.result.Result.{Result}
use mir.Syntax.{w64}
use mir.Val.{of_z, to_z}
use Rattle.text.specs.Text.{Allowed, AllAllowed}
use Rattle.text.proofs.Signed.{kept, allowed_fits}
use Rattle.text.proofs.Lines.{allowed_at}
use Rattle.regfile.specs.FileText.{subject_columns, delegation_columns, subject_rows, delegation_row, rows_of, plain_of, value_at, delegation_of}
use Rattle.regfile.specs.Parsed.{bit_with, enrolled_as, with_row, RowsHeld, Unformed, RowPut}
use Rattle.regfile.proofs.FileRight.{length_subjects}

-- ── lists ──
-- what holds of all and of one more holds of these
all_more : {A : Type 0} (P : A → Type 0) (xs : List A) (y : A) → ((x : A) → x ∈ xs → P x) → P y → (x : A) → x ∈ (xs ++ (y ∷ [])) → P x
all_more P xs y all one x m = go (mem_snoc xs m)
  where
    go : (x ∈ xs) ⊎ (x ≡ y) → P x
    go (inl i) = all x i
    go (inr e) = subst P (sym e) one

length_more : {A : Type 0} (xs : List A) (y : A) → length (xs ++ (y ∷ [])) ≡ suc (length xs)
length_more xs y = length-append xs (y ∷ []) ∙ omega arith

-- a list cut where an element stands
record Stands {A : Type 0} (xs : List A) (y : A) (ys more : List A) : Type 0 where
  inside : y ∈ ys
  long : suc (length xs) ≤ length ys

stands : {A : Type 0} (xs : List A) (y : A) (ys more : List A) → ys ≡ (xs ++ (y ∷ [])) ++ more → Stands xs y ys more
stands xs y ys more e = record {
  inside = subst (λ (s : List _). y ∈ s) (sym e) (middle xs);
  long = omega (arith, ap length e, length-append (xs ++ (y ∷ [])) more, length_more xs y);
}
  where
    middle : (s : List _) → y ∈ ((s ++ (y ∷ [])) ++ more)
    middle [] = Memᴰ.head refl
    middle (z ∷ s) = Memᴰ.tail (middle s)

-- ── subjects ──
-- the rows of subjects with one more, by bits that are others from there on
subjects_more : (n n' s : ℕ) (ms : List ℕ) (m v : ℕ) → ((y : ℕ) → y < s + length ms → bit n' y ≡ bit n y) → bit n' (s + length ms) ≡ v
    → subject_rows n' s (ms ++ (m ∷ [])) ≡ subject_rows n s ms ++ ((pos (s + length ms) ∷ pos m ∷ pos v ∷ []) ∷ [])
subjects_more n n' s [] m v h e =
    let k = add-zero s in
    λ j. (pos (sym k j) ∷ pos m ∷ pos ((ap (bit n') (sym k) ∙ e) j) ∷ []) ∷ []
subjects_more n n' s (x ∷ ms) m v h e =
    let k : suc s + length ms ≡ s + suc (length ms) = omega arith in
    let more = subjects_more n n' (suc s) ms m v (λ y l. h y (omega arith)) (ap (bit n') k ∙ e) in
    (λ j. (pos s ∷ pos x ∷ pos (h s (omega arith) j) ∷ []) ∷ more j)
    ∙ ap (λ (i : ℕ). (pos s ∷ pos x ∷ pos (bit n s) ∷ []) ∷ (subject_rows n (suc s) ms ++ ((pos i ∷ pos m ∷ pos v ∷ []) ∷ []))) k

-- the row at a place is that of the subject whose number is the place
record Subject (n s : ℕ) (ms : List ℕ) (k : ℕ) (row : List ℤ) : Type 0 where
  marks : ℕ
  held : marks ∈ ms
  same : row ≡ pos (s + k) ∷ pos marks ∷ pos (bit n (s + k)) ∷ []
  long : k < length ms

subject_at : (n s : ℕ) (ms : List ℕ) (xs : List (List ℤ)) (row : List ℤ) (more : List (List ℤ)) → subject_rows n s ms ≡ (xs ++ (row ∷ [])) ++ more → Subject n s ms (length xs) row
subject_at n s [] [] row more e = absurd (omega (arith, ap length e))
subject_at n s [] (x ∷ xs) row more e = absurd (omega (arith, ap length e))
subject_at n s (m ∷ ms) [] row more e = record {
  marks = m;
  held = Memᴰ.head refl;
  same = ap (λ (t : List (List ℤ)). get_or t 0 []) (sym e) ∙ ap (λ (k : ℕ). pos k ∷ pos m ∷ pos (bit n k) ∷ []) (sym (add-zero s));
  long = omega arith;
}
subject_at n s (m ∷ ms) (x ∷ xs) row more e =
    let r = subject_at n (suc s) ms xs row more (ap (drop 1) e) in
    record {
      marks = r.marks;
      held = Memᴰ.tail r.held;
      same = r.same ∙ ap (λ (k : ℕ). pos k ∷ pos r.marks ∷ pos (bit n k) ∷ []) (suc-add s (length xs) ∙ sym (add-suc s (length xs)));
      long = omega (arith, r.long);
    }

three_of : (row : List ℤ) (a b c : ℕ) → length row ≡ 3 → pos a ≡ get_or row 0 (pos 0) → pos b ≡ get_or row 1 (pos 0) → pos c ≡ get_or row 2 (pos 0) → row ≡ pos a ∷ pos b ∷ pos c ∷ []
three_of [] a b c h p q r = absurd (omega arith)
three_of (x ∷ []) a b c h p q r = absurd (omega arith)
three_of (x ∷ y ∷ []) a b c h p q r = absurd (omega arith)
three_of (x ∷ y ∷ z ∷ []) a b c h p q r = λ i. sym p i ∷ sym q i ∷ sym r i ∷ []
three_of (x ∷ y ∷ z ∷ u ∷ us) a b c h p q r = absurd (omega arith)

-- the bits with that of subject s, above which none is set, as v
module _ (n s v : ℕ) (above : bit n s ≡ 0) (small : v ≤ 1) where
  bit_with_lem : bit (bit_with n s v) s ≡ v
  bit_with_lem = go v small
    where
      go : (v : ℕ) → v ≤ 1 → bit (bit_with n s v) s ≡ v
      go zero l = above
      go (suc zero) l = (retired_put n s).here
      go (suc (suc v)) l = absurd (omega arith)

  bit_others : (y : ℕ) → y < s → bit (bit_with n s v) y ≡ bit n y
  bit_others y l = go v small
    where
      go : (v : ℕ) → v ≤ 1 → bit (bit_with n s v) y ≡ bit n y
      go zero k = refl
      go (suc zero) k = (retired_put n s).others y (λ e. omega arith)
      go (suc (suc v)) k = absurd (omega arith)

bit_room : (n s v : ℕ) → n < 2 ^ s → bit_with n s v < 2 ^ suc s
bit_room n s v h = go (eqb v 1)
  where
    more : n < 2 ^ suc s
    more = omega (arith, pow-suc 2 s)

    go : (b : Bool) → cond b (bit_or n (2 ^ s)) n < 2 ^ suc s
    go true = retired_few (suc s) n s more (omega arith)
    go false = more

-- a row of three values that is the next subject's
pub record Next (b : List ℕ) (row : List ℤ) (s m v : ℕ) : Type 0 where
  pub size : length row ≡ subject_columns
  pub number : pos s ≡ get_or row 0 (pos 0)
  pub marks : pos m ≡ get_or row 1 (pos 0)
  pub retired : pos v ≡ get_or row 2 (pos 0)
  pub next : s ≡ subjects_in b
  pub room : subjects_in b < most_subjects
  pub small : m ≤ 65535
  pub few : v ≤ 1

module _ (b : List ℕ) (h : Fitting b) (row : List ℤ) where
  -- a row left out: no well-formed register has it there
  left_out : (w : ℕ) (after : List ℕ) → Unformed w (rows_of w (decode b) ++ (row ∷ [])) → RowPut w (decode b) row false after
  left_out w after n = record { put = λ e. clash (sym e); out = λ e. n }

  -- the subject that a well-formed register has there
  there : (S : Register) (more : List (List ℤ)) → rows_of subject_columns S ≡ (rows_of subject_columns (decode b) ++ (row ∷ [])) ++ more → Subject S.retired 0 S.marks (decode b).subjects row
  there S more e =
      let k : length (subject_rows (decode b).retired 0 (decode b).marks) ≡ (decode b).subjects = length_subjects (decode b).retired 0 (decode b).marks ∙ h.fits.marked in
      subst (λ (n : ℕ). Subject S.retired 0 S.marks n row) k (subject_at S.retired 0 S.marks (subject_rows (decode b).retired 0 (decode b).marks) row more e)

  pub subject_full : most_subjects ≤ subjects_in b → RowPut subject_columns (decode b) row false b
  subject_full l = left_out subject_columns b (λ S f more e. absurd (omega (arith, l, fitting_subjects b h, (there S more e).long, f.marked, f.most)))

  pub subject_other : (s : ℕ) → pos s ≡ get_or row 0 (pos 0) → s ≢ subjects_in b → RowPut subject_columns (decode b) row false b
  subject_other s p n = left_out subject_columns b (λ S f more e.
      let q : pos s ≡ pos (0 + (decode b).subjects) = p ∙ ap (λ (r : List ℤ). get_or r 0 (pos 0)) (there S more e).same in
      n (ap plain_of q ∙ zero-add (decode b).subjects ∙ sym (fitting_subjects b h)))

  pub subject_large : (m : ℕ) → pos m ≡ get_or row 1 (pos 0) → 65535 < m → RowPut subject_columns (decode b) row false b
  subject_large m p l = left_out subject_columns b (λ S f more e.
      let t = there S more e in
      let q : m ≡ t.marks = ap plain_of (p ∙ ap (λ (r : List ℤ). get_or r 1 (pos 0)) t.same) in
      absurd (omega (arith, f.marks t.marks t.held)))

  pub subject_beyond : (v : ℕ) → pos v ≡ get_or row 2 (pos 0) → 1 < v → RowPut subject_columns (decode b) row false b
  subject_beyond v p l = left_out subject_columns b (λ S f more e.
      let t = there S more e in
      let k = 0 + (decode b).subjects in
      let q : v ≡ bit S.retired k = ap plain_of (p ∙ ap (λ (r : List ℤ). get_or r 2 (pos 0)) t.same) in
      absurd (omega (arith, bit_small S.retired k)))

  module _ (s m v : ℕ) (g : Next b row s m v) where
    abbrev n : ℕ
    n = (decode b).retired

    abbrev k : ℕ
    k = (decode b).subjects

    enrolled_fits : (v : ℕ) → Fits (enrolled_as (decode b) m v)
    enrolled_fits v = record {
      most = omega (arith, g.room, fitting_subjects b h);
      marked = length_more (decode b).marks m ∙ ap suc h.fits.marked;
      marks = all_more (λ (x : ℕ). x ≤ 65535) (decode b).marks m h.fits.marks g.small;
      bits = bit_room n k v h.fits.bits;
      few = h.fits.few;
      each = h.fits.each;
    }

    subject_put : (after : List ℕ) → after ≡ encode (enrolled_as (decode b) m v) → RowPut subject_columns (decode b) row true after
    subject_put after e = record { put = λ t. held; out = λ t. clash t }
      where
        x : m ≡ value_at row 1
        x = ap plain_of g.marks

        y : v ≡ value_at row 2
        y = ap plain_of g.retired

        above : bit n k ≡ 0
        above = bit_high n k k h.fits.bits (le_refl k)

        count : 0 + length (decode b).marks ≡ k
        count = zero-add (length (decode b).marks) ∙ h.fits.marked

        place : pos (0 + length (decode b).marks) ≡ pos s
        place = ap pos (count ∙ sym (fitting_subjects b h) ∙ sym g.next)

        held : RowsHeld subject_columns (with_row subject_columns (decode b) row) (rows_of subject_columns (decode b) ++ (row ∷ [])) after
        held = record {
          fits = subst (λ (z : ℕ). Fits (enrolled_as (decode b) z (value_at row 2))) x (enrolled_fits (value_at row 2));
          bytes = e ∙ (λ j. encode (enrolled_as (decode b) (x j) (y j)));
          same = (λ j. subject_rows (bit_with n k (sym y j)) 0 ((decode b).marks ++ (sym x j ∷ [])))
              ∙ subjects_more n (bit_with n k v) 0 (decode b).marks m v (λ i l. bit_others n k v above g.few i (subst (λ (z : ℕ). i < z) count l)) (ap (bit (bit_with n k v)) count ∙ bit_with_lem n k v above g.few)
              ∙ ap (λ (z : ℤ). subject_rows n 0 (decode b).marks ++ ((z ∷ pos m ∷ pos v ∷ []) ∷ [])) place
              ∙ ap (λ (z : List ℤ). subject_rows n 0 (decode b).marks ++ (z ∷ [])) (sym (three_of row s m v g.size g.number g.marks g.retired));
        }

    -- the subject added and, where v is 1, its bit set
    pub subject_plain : v ≢ 1 → (after : List ℕ) → after ≡ encode (enrolled (decode b) m) → RowPut subject_columns (decode b) row true after
    subject_plain o after e = subject_put after (e ∙ ap (λ (x : Bool). encode (with_retired (enrolled (decode b) m) (cond x (bit_or n (2 ^ k)) n))) (sym (ne_eqb v 1 o)))

    -- what setting the bit is lent
    pub added_held : (mid : List ℕ) → mid ≡ encode (enrolled (decode b) m) → Fitting mid × (s < subjects_in mid)
    added_held mid e =
        subst (λ (x : List ℕ). Fitting x × (s < subjects_in x)) (sym e)
        (encode_fitting (enrolled (decode b) m) (enrolled_fits 0), omega (arith, subjects_encode (enrolled (decode b) m) (enrolled_fits 0), fitting_subjects b h, g.next))

    pub subject_gone : v ≡ 1 → (mid : List ℕ) → mid ≡ encode (enrolled (decode b) m) → (after : List ℕ) → after ≡ encode (with_retired (decode mid) (bit_or (decode mid).retired (2 ^ s))) → RowPut subject_columns (decode b) row true after
    subject_gone o mid d after e =
        let c : decode mid ≡ enrolled (decode b) m = ap decode d ∙ decode_encode (enrolled (decode b) m) (enrolled_fits 0) in
        subject_put after (e ∙ (λ j. encode (with_retired (c j) (bit_or (c j).retired (2 ^ (g.next ∙ fitting_subjects b h) j)))) ∙ ap (λ (x : Bool). encode (with_retired (enrolled (decode b) m) (cond x (bit_or n (2 ^ k)) n))) (sym (eq-eqb v 1 o)))

-- ── delegations ──
rows_more : (ds : List Delegation) (d : Delegation) → map delegation_row (ds ++ (d ∷ [])) ≡ map delegation_row ds ++ (delegation_row d ∷ [])
rows_more [] d = refl
rows_more (e ∷ ds) d = ap (λ (t : List (List ℤ)). delegation_row e ∷ t) (rows_more ds d)

-- a number without sign
plain_is : (z : ℤ) → Allowed false z → z ≡ pos (plain_of z)
plain_is (pos n) l = refl
plain_is (negsuc n) l = absurd l

-- a row of six plain numbers is that of a delegation
pub six_of : (row : List ℤ) (d : Delegation) → length row ≡ 6 → pos d.giver ≡ get_or row 0 (pos 0) → pos d.receiver ≡ get_or row 1 (pos 0) → pos d.weight ≡ get_or row 2 (pos 0) → pos d.need ≡ get_or row 3 (pos 0) → pos d.bar ≡ get_or row 4 (pos 0) → pos d.kind ≡ get_or row 5 (pos 0)
    → row ≡ delegation_row d
six_of [] d h p q r s t o = absurd (omega arith)
six_of (x ∷ []) d h p q r s t o = absurd (omega arith)
six_of (x ∷ y ∷ []) d h p q r s t o = absurd (omega arith)
six_of (x ∷ y ∷ z ∷ []) d h p q r s t o = absurd (omega arith)
six_of (x ∷ y ∷ z ∷ u ∷ []) d h p q r s t o = absurd (omega arith)
six_of (x ∷ y ∷ z ∷ u ∷ v ∷ []) d h p q r s t o = absurd (omega arith)
six_of (x ∷ y ∷ z ∷ u ∷ v ∷ w ∷ []) d h p q r s t o = λ i. sym p i ∷ sym q i ∷ sym r i ∷ sym s i ∷ sym t i ∷ sym o i ∷ []
six_of (x ∷ y ∷ z ∷ u ∷ v ∷ w ∷ c ∷ cs) d h p q r s t o = absurd (omega arith)

-- a row of six numbers without sign is that of its delegation
pub six_plain : (row : List ℤ) → length row ≡ 6 → AllAllowed false row → row ≡ delegation_row (delegation_of row)
six_plain row h a =
    six_of row (delegation_of row) h (is 0 (omega arith)) (is 1 (omega arith)) (is 2 (omega arith)) (is 3 (omega arith)) (is 4 (omega arith)) (is 5 (omega arith))
  where
    is : (i : ℕ) → i < length row → pos (value_at row i) ≡ get_or row i (pos 0)
    is i l = sym (plain_is (get_or row i (pos 0)) (allowed_at false row i l a))

module _ (b : List ℕ) (h : Fitting b) (row : List ℤ) where
  standing : (S : Register) (more : List (List ℤ)) → rows_of delegation_columns S ≡ (rows_of delegation_columns (decode b) ++ (row ∷ [])) ++ more → Stands (rows_of delegation_columns (decode b)) row (rows_of delegation_columns S) more
  standing S more e = stands (rows_of delegation_columns (decode b)) row (rows_of delegation_columns S) more e

  pub delegations_full : most_records ≤ count_in b → RowPut delegation_columns (decode b) row false b
  delegations_full l = left_out b h row delegation_columns b (λ S f more e.
      absurd (omega (arith, l, fitting_count b h, (standing S more e).long, f.few, length-map S.delegations delegation_row, length-map (decode b).delegations delegation_row)))

  module _ (d : Delegation) (same : row ≡ delegation_row d) where
    pub delegation_large : ¬ DelegationFits d → RowPut delegation_columns (decode b) row false b
    delegation_large n = left_out b h row delegation_columns b (λ S f more e.
        let (x, i, q) = map_mem delegation_row S.delegations (standing S more e).inside in
        let k = f.each x i in
        let y : d ≡ x = ap delegation_of (sym same ∙ q) in
        n (subst DelegationFits (sym y) record { giver = omega (arith, k.giver, f.most); receiver = omega (arith, k.receiver, f.most); weight = k.weight; need = k.need; bar = k.bar; kind = omega (arith, k.kind) }))

    module _ (room : count_in b < most_records) (t : DelegationFits d) where
      more_fits : Fits (with_delegations (decode b) ((decode b).delegations ++ (d ∷ [])))
      more_fits = record {
        most = h.fits.most;
        marked = h.fits.marked;
        marks = h.fits.marks;
        bits = h.fits.bits;
        few = omega (arith, room, fitting_count b h, length_more (decode b).delegations d);
        each = all_more DelegationFits (decode b).delegations d h.fits.each t;
      }

      pub delegation_put : (after : List ℕ) → after ≡ encode (with_delegations (decode b) ((decode b).delegations ++ (d ∷ []))) → RowPut delegation_columns (decode b) row true after
      delegation_put after e = record { put = λ u. held; out = λ u. clash u }
        where
          v : d ≡ delegation_of row
          v = ap delegation_of (sym same)

          held : RowsHeld delegation_columns (with_row delegation_columns (decode b) row) (rows_of delegation_columns (decode b) ++ (row ∷ [])) after
          held = record {
            fits = subst (λ (x : Delegation). Fits (with_delegations (decode b) ((decode b).delegations ++ (x ∷ [])))) v more_fits;
            bytes = e ∙ ap (λ (x : Delegation). encode (with_delegations (decode b) ((decode b).delegations ++ (x ∷ [])))) v;
            same = ap (λ (x : Delegation). map delegation_row ((decode b).delegations ++ (x ∷ []))) (sym v) ∙ rows_more (decode b).delegations d
                ∙ ap (λ (r : List ℤ). map delegation_row (decode b).delegations ++ (r ∷ [])) (sym same);
          }

-- ── a column of a row ──
module _ (row : List ℤ) (a : AllAllowed false row) (i : ℕ) (l : i < length row) where
  -- it is read as it stands
  pub column_held : to_z w64 (of_z w64 (get_or row i (pos 0))) ≡ get_or row i (pos 0)
  column_held = kept (get_or row i (pos 0)) (allowed_fits false (get_or row i (pos 0)) (allowed_at false row i l a))

  pub column_plain : Allowed false (to_z w64 (of_z w64 (get_or row i (pos 0))))
  column_plain = subst (Allowed false) (sym column_held) (allowed_at false row i l a)

  -- its number
  pub column_is : pos (value_at row i) ≡ get_or row i (pos 0)
  column_is = sym (plain_is (get_or row i (pos 0)) (allowed_at false row i l a))

  as_read : to_z w64 (of_z w64 (get_or row i (pos 0))) ≡ pos (value_at row i)
  as_read = column_held ∙ sym column_is

  -- as a number of k bits
  pub column_cases : {E : Type 0} (k : ℕ) (r : Result ℕ E) → OkIff r (FitsUnsignedBits k (to_z w64 (of_z w64 (get_or row i (pos 0))))) (unsigned_abs (to_z w64 (of_z w64 (get_or row i (pos 0))))) → OkIff r (value_at row i < 2 ^ k) (value_at row i)
  column_cases k r c = subst (λ (y : ℤ). OkIff r (FitsUnsignedBits k y) (unsigned_abs y)) as_read c

  pub column_tried : {E : Type 0} (k : ℕ) (r : Result ℕ E) (x : ℕ) → OkIff r (FitsUnsignedBits k (to_z w64 (of_z w64 (get_or row i (pos 0))))) (unsigned_abs (to_z w64 (of_z w64 (get_or row i (pos 0))))) → Some x ≡ result_ok r → (value_at row i < 2 ^ k) × (x ≡ value_at row i)
  column_tried {E} k r x c e = go r (column_cases k r c) e
    where
      go : (r : Result ℕ E) → OkIff r (value_at row i < 2 ^ k) (value_at row i) → Some x ≡ result_ok r → (value_at row i < 2 ^ k) × (x ≡ value_at row i)
      go (Ok y) c e = let q : x ≡ y = cc in (c.0, q ∙ c.1)
      go (Err y) c e = absurd (none-some x (sym e))
