-- Changes of a block as changes of the register that it holds. Assumes nothing.
use mathlib.Core.Path.{◌≡◌, refl, sym, ap, subst, ◌∙◌}
use mathlib.Core.Logic.{◌≢◌}
use mathlib.Core.Bool.{Bool, true, false, not}
use mathlib.Core.List.{List, [], ◌∷◌, ◌++◌}
use Prim.Native.Nat.{ℕ, suc, ◌+◌, ◌-◌, ◌≤◌, ◌<◌}
use native.Mathlib.Omega.{arith}
use lib.Dec.{T, not_T}
use lib.ListN.{length, get_or, take, drop, set}
use lib.Seq.{sets}
use Rattle.rules.specs.Register.{Delegation, reweigh, with_delegations, granted, no_delegation}
use Rattle.rules.specs.Pair.{is_pair, stands, reweighed}
use Rattle.rules.specs.Cut.{removal, marking, named, changed}
use Rattle.rules.specs.Call.{enrolled}
use Rattle.rules.specs.CallStep.{before, insert}
use Rattle.block.specs.Layout.{block_size, most_subjects, most_records, record_size, count_at, records_at, weight_byte}
use Rattle.block.specs.Bytes.{IsBytes, two_bytes, leading}
use Rattle.block.specs.Block.{delegation_in, record_bytes, subjects_in, count_in, decode, encode}
use Rattle.block.specs.WellFormed.{well_formed}
use Rattle.block.specs.Fits.{Fitting}
use Rattle.rules.proofs.Lists.{T_true, unset}
use Rattle.rules.proofs.Pairs.{test_pair, none_stands}
use Rattle.change.specs.Place.{IsPlace}
use Rattle.change.specs.Shift.{moved_up, moved_down}
use Rattle.block.proofs.Fitting.{fitting_subjects, fitting_count}
use Rattle.block.proofs.PairPlace.{leading_most, pair_place, pair_past}
use Rattle.block.proofs.Held.{leading_read, size_held, count_most, held_formed, held_written, held_fitting, subjects_held_lem, delegations_held, count_held, record_held, place_held, place_inside, pair_held, found_stands}
use Rattle.change.proofs.Splice.{insert_leading, filter_pair, map_pair}
use Rattle.change.proofs.Rewrite.{encode_append, encode_insert, encode_remove, encode_reweigh, encode_enrol, encode_mark}
use Rattle.block.specs.Records.{mark_place, record_place, delegation_at, delegations_to}

-- b is a block, n records stand in it, and k is a place among them
pub record Among (b : List ℕ) (n k : ℕ) : Type 0 where
  pub size : length b ≡ block_size
  pub most : n ≤ most_records
  pub within : k ≤ n

module _ (b : List ℕ) (f : Fitting b) where
  -- one more subject
  pub enrol_fitting : (v : ℕ) → subjects_in b < most_subjects → sets (set b 0 (subjects_in b + 1)) (mark_place (subjects_in b)) (two_bytes v) ≡ encode (enrolled (decode b) v)
  enrol_fitting v l =
      let n = fitting_subjects b f in
      (λ j. sets (set (f.written j) 0 (n j + 1)) (mark_place (n j)) (two_bytes v)) ∙ encode_enrol (decode b) f.fits v (subst (λ (x : ℕ). x < most_subjects) n l)

  -- one more delegation, after the n that are counted
  pub append_fitting : (d : Delegation) (n : ℕ) → n ≡ count_in b → n < most_records
      → sets (sets b (record_place n) (record_bytes d)) count_at (two_bytes (n + 1)) ≡ encode (with_delegations (decode b) ((decode b).delegations ++ (d ∷ [])))
  append_fitting d n counted l =
      let all = counted ∙ fitting_count b f in
      (λ j. sets (sets (f.written j) (record_place (all j)) (record_bytes d)) count_at (two_bytes (all j + 1))) ∙ encode_append (decode b) f.fits d (subst (λ (x : ℕ). x < most_records) all l)

module _ (b : List ℕ) (bytes : IsBytes b) (formed : well_formed b ≡ true) where
  pub among : (f : Delegation → Bool) (n k : ℕ) → n ≡ count_in b → k ≡ leading f (delegations_to b n) → Among b n k
  among f n k e q = record {
    size = size_held b bytes formed;
    most = subst (λ (m : ℕ). m ≤ most_records) (sym e) (count_most b bytes formed);
    within = subst (λ (m : ℕ). m ≤ n) (sym q) (leading_read f delegation_in record_size (drop records_at b) n);
  }

  -- the marks of subject v set
  pub mark_held : (v m : ℕ) → v < subjects_in b → sets b (mark_place v) (two_bytes m) ≡ encode (changed (decode b) (marking v m))
  mark_held v m l =
      ap (λ (x : List ℕ). sets x (mark_place v) (two_bytes m)) (held_written b bytes formed)
      ∙ encode_mark (decode b) (held_fitting b bytes formed).fits v m (subst (λ (n : ℕ). v < n) (sym (subjects_held_lem b bytes formed)) l)

  -- ── the place of a pair, where a delegation of it is put ──
  module _ (g r k : ℕ) (place : IsPlace b g r k) where
    pub place_most : k ≤ count_in b
    place_most = subst (λ (m : ℕ). m ≤ count_in b) (sym place) (leading_read (λ e. not (before (granted g r 0 0 0 0) e)) delegation_in record_size (drop records_at b) (count_in b))

    -- where the pair stands, its record is the one before
    after_pair : stands (decode b) g r ≡ true → (j : ℕ) × (k ≡ suc j) × T (is_pair g r (delegation_at b j))
    after_pair s =
        let ds = (decode b).delegations in
        let j = pair_place g r ds in
        let e : j ≡ leading (λ d. not (is_pair g r d)) (delegations_to b (count_in b)) = ap (leading (λ d. not (is_pair g r d))) (delegations_held b bytes formed) in
        let l = found_stands b bytes formed g r j e s in (
          j,
          place ∙ ap (leading (λ d. not (before (granted g r 0 0 0 0) d))) (sym (delegations_held b bytes formed))
              ∙ pair_past g r (granted g r 0 0 0 0) (refl, refl) ds (held_formed b bytes formed).rising (place_inside b bytes formed g r j e l),
          pair_held b bytes formed g r j e l,
        )

    pub none_before : k ≡ 0 → false ≡ stands (decode b) g r
    none_before z = go (stands (decode b) g r) refl
      where
        go : (x : Bool) → stands (decode b) g r ≡ x → false ≡ x
        go false s = refl
        go true s = let (j, e, p) = after_pair s in absurd (omega arith)

    pub pair_before : k ≢ 0 → is_pair g r (delegation_at b (k - 1)) ≡ stands (decode b) g r
    pair_before n = go (stands (decode b) g r) refl
      where
        go : (x : Bool) → stands (decode b) g r ≡ x → is_pair g r (delegation_at b (k - 1)) ≡ x
        go true s = let (j, e, p) = after_pair s in let q : j ≡ k - 1 = omega arith in T_true (is_pair g r (delegation_at b (k - 1))) (subst (λ (i : ℕ). T (is_pair g r (delegation_at b i))) q p)
        go false s =
            let d = delegation_at b (k - 1) in
            unset (is_pair g r d) (not_T (is_pair g r d) (λ t. none_stands (decode b) g r (subst (λ (x : Bool). T (not x)) (sym s) tt) d (record_held b bytes formed (k - 1) (omega (arith, place_most))) (test_pair g r d t)))

  -- n records are counted
  module _ (n : ℕ) (counted : n ≡ count_in b) where
    all : n ≡ length (decode b).delegations
    all = counted ∙ sym (count_held b bytes formed)

    -- one more delegation
    pub insert_held : (d : Delegation) (k : ℕ) → n < most_records → k ≡ leading (λ e. not (before d e)) (delegations_to b n)
        → sets (sets (moved_up b (record_place k) (record_place n)) (record_place k) (record_bytes d)) count_at (two_bytes (n + 1)) ≡ encode (with_delegations (decode b) (insert d (decode b).delegations))
    insert_held d k l e =
        let ds = (decode b).delegations in
        let q : k ≡ leading (λ x. not (before d x)) ds = e ∙ (λ i. leading (λ x. not (before d x)) (delegations_to b (counted i))) ∙ ap (leading (λ x. not (before d x))) (sym (delegations_held b bytes formed)) in
        (λ j. sets (sets (moved_up ((held_written b bytes formed) j) (record_place k) (record_place (all j))) (record_place k) (record_bytes d)) count_at (two_bytes (all j + 1)))
        ∙ encode_insert (decode b) (held_fitting b bytes formed).fits d k (subst (λ (x : ℕ). x ≤ length ds) (sym q) (leading_most (λ x. not (before d x)) ds)) (subst (λ (x : ℕ). x < most_records) all l)
        ∙ ap (λ (x : ℕ). encode (with_delegations (decode b) (take x ds ++ (d ∷ drop x ds)))) q
        ∙ ap (λ (x : List Delegation). encode (with_delegations (decode b) x)) (sym (insert_leading d ds))

    -- the pair stands: its place is that of a record
    module _ (g r k : ℕ) (e : k ≡ leading (λ d. not (is_pair g r d)) (delegations_to b n)) (s : stands (decode b) g r ≡ true) where
      found : k ≡ leading (λ d. not (is_pair g r d)) (delegations_to b (count_in b))
      found = e ∙ (λ i. leading (λ d. not (is_pair g r d)) (delegations_to b (counted i)))

      pub place_below : k < n
      place_below = omega (arith, found_stands b bytes formed g r k found s, counted)

      -- the pair's delegation removed
      pub remove_held : sets (sets (moved_down b (record_place k) (record_place n)) (record_place (n - 1)) (record_bytes no_delegation)) count_at (two_bytes (n - 1)) ≡ encode (named (decode b) (removal g r))
      unfolding named
      remove_held =
          let ds = (decode b).delegations in
          (λ j. sets (sets (moved_down ((held_written b bytes formed) j) (record_place k) (record_place (all j))) (record_place (all j - 1)) (record_bytes no_delegation)) count_at (two_bytes (all j - 1)))
          ∙ encode_remove (decode b) (held_fitting b bytes formed).fits k (omega (arith, place_below, all))
          ∙ ap (λ (x : ℕ). encode (with_delegations (decode b) (take x ds ++ drop (suc x) ds))) (place_held b bytes formed g r k found)
          ∙ ap (λ (x : List Delegation). encode (with_delegations (decode b) x)) (sym (filter_pair g r ds (held_formed b bytes formed).rising))

      -- the pair's delegation at another weight
      pub reweigh_held : (w : ℕ) → set b (record_place k + weight_byte) w ≡ encode (reweighed (decode b) g r w)
      reweigh_held w =
          let ds = (decode b).delegations in
          let l : k < length ds = omega (arith, place_below, all) in
          ap (λ (x : List ℕ). set x (record_place k + weight_byte) w) (held_written b bytes formed)
          ∙ encode_reweigh (decode b) (held_fitting b bytes formed).fits k l w
          ∙ ap (λ (x : ℕ). encode (with_delegations (decode b) (take x ds ++ (reweigh (get_or ds x no_delegation) w ∷ drop (suc x) ds)))) (place_held b bytes formed g r k found)
          ∙ ap (λ (x : List Delegation). encode (with_delegations (decode b) x)) (sym (map_pair g r w ds no_delegation (held_formed b bytes formed).rising (subst (λ (x : ℕ). x < length ds) (place_held b bytes formed g r k found) l)))
