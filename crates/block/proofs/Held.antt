-- The register that a well-formed block holds, and each change of the block as a change of it. Assumes nothing.
use mathlib.Core.Path.{◌≡◌, refl, sym, ap, subst, ◌∙◌}
use mathlib.Core.Logic.{◌⊎◌, inl, inr}
use mathlib.Core.Bool.{Bool, true, false, not}
use mathlib.Core.List.{List}
use Prim.Native.Nat.{ℕ, zero, suc, ◌*◌, ◌≤◌, ◌<◌}
use native.Mathlib.Nat.{zero-add}
use native.Mathlib.Omega.{arith}
use borrow.Author.Tests.{lt-ltb}
use lib.Dec.{T, ltb, ltb→lt, nltb→le}
use lib.IntN.{ℤ}
use lib.ListN.{length, get_or, drop}
use Rattle.rules.specs.List.{◌∈◌, tabulate}
use Rattle.rules.specs.Limit.{code}
use Rattle.rules.specs.Pair.{is_pair, stands}
use Rattle.rules.specs.WellFormed.{WellFormed}
use Rattle.rules.specs.Register.{Delegation, Register, marks_of, no_delegation}
use Rattle.rules.proofs.Lists.{clash, either, get_d_tabulate}
use Rattle.block.specs.Layout.{block_size, most_records}
use Rattle.block.specs.Bytes.{IsBytes, read_all, leading}
use Rattle.block.specs.Block.{subjects_in, count_in, retired_in, decode, encode}
use Rattle.block.specs.WellFormed.{well_formed}
use Rattle.block.specs.Fits.{Fits, Fitting}
use Rattle.block.proofs.Bytes.{length_tabulate, mem_tabulate}
use Rattle.block.proofs.Fitting.{decode_encode, bytes_encode, formed_fits}
use Rattle.block.proofs.Form.{Parts, parts, decode_formed, encode_decode}
use Rattle.block.proofs.PairPlace.{leading_most, pair_place, pair_at, weight_at_found, weight_at_missing}
use Rattle.block.specs.Records.{HasHead, HasMarks, HasRecords, marks_for, delegation_at, delegations_to}

-- at most as many at the front as there are
pub leading_read : {A : Type 0} (f : A → Bool) (g : List ℕ → A) (w : ℕ) (s : List ℕ) (n : ℕ) → leading f (read_all g w s n) ≤ n
leading_read f g w s n = subst (λ (k : ℕ). leading f (read_all g w s n) ≤ k) (length_tabulate (λ k. g (drop (w * k) s)) 0 n) (leading_most f (read_all g w s n))

-- n records stand in b, and its bytes reach as far
pub record Holds (b : List ℕ) (n : ℕ) : Type 0 where
  pub counted : n ≡ count_in b
  pub few : n ≤ most_records
  pub room : HasRecords b n

module _ (b : List ℕ) (bytes : IsBytes b) (formed : well_formed b ≡ true) where
  pub rules_of : Parts b
  rules_of = parts b (subst T (sym formed) tt)

  pub size_held : length b ≡ block_size
  size_held = rules_of.size

  pub count_most : count_in b ≤ most_records
  count_most = rules_of.few

  -- the bytes reach as far as each part that is read
  pub has_head : HasHead b
  has_head = omega (arith, size_held)

  pub has_marks : (v : ℕ) → v < subjects_in b → HasMarks b v
  has_marks v l = omega (arith, size_held, rules_of.most)

  pub has_records : HasRecords b (count_in b)
  has_records = omega (arith, size_held, count_most)

  pub holds : (n : ℕ) → n ≡ count_in b → Holds b n
  holds n e = record { counted = e; few = omega (arith, count_most); room = omega (arith, has_records) }

  pub held_formed : WellFormed (decode b)
  held_formed = decode_formed b bytes rules_of

  -- the block is the register that it holds, written
  pub held_written : b ≡ encode (decode b)
  held_written = sym (encode_decode b bytes rules_of)

  pub held_fitting : Fitting b
  held_fitting = record { fits = formed_fits (decode b) held_formed; written = held_written }

  pub subjects_held_lem : (decode b).subjects ≡ subjects_in b
  unfolding decode
  subjects_held_lem = refl

  pub retired_held : (decode b).retired ≡ retired_in b
  unfolding decode
  retired_held = refl

  pub delegations_held : (decode b).delegations ≡ delegations_to b (count_in b)
  unfolding decode
  delegations_held = refl

  pub count_held : length (decode b).delegations ≡ count_in b
  count_held = ap length delegations_held ∙ length_tabulate (delegation_at b) 0 (count_in b)

  -- the marks of a subject, and the delegation of a record
  pub marks_held : (v : ℕ) → v < subjects_in b → marks_for b v ≡ marks_of (decode b) v
  unfolding decode
  marks_held v l = sym (get_d_tabulate (marks_for b) 0 0 (subjects_in b) v l ∙ ap (marks_for b) (zero-add v))

  pub delegation_held : (k : ℕ) → k < count_in b → delegation_at b k ≡ get_or (decode b).delegations k no_delegation
  unfolding decode
  delegation_held k l = sym (get_d_tabulate (delegation_at b) no_delegation 0 (count_in b) k l ∙ ap (delegation_at b) (zero-add k))

  -- a record's delegation stands
  pub record_held : (k : ℕ) → k < count_in b → delegation_at b k ∈ (decode b).delegations
  record_held k h =
      subst (λ (ds : List Delegation). delegation_at b k ∈ ds) (sym delegations_held) (subst (λ (m : ℕ). delegation_at b m ∈ tabulate (delegation_at b) 0 (count_in b)) (zero-add k) (mem_tabulate (delegation_at b) 0 (count_in b) k h))

  -- where a pair stands, its place is that of a record
  module _ (g r k : ℕ) (e : k ≡ leading (λ d. not (is_pair g r d)) (delegations_to b (count_in b))) where
    pub place_held : k ≡ pair_place g r (decode b).delegations
    place_held = e ∙ ap (leading (λ d. not (is_pair g r d))) (sym delegations_held)

    -- the record at the pair's place is its delegation
    module _ (found : k < count_in b) where
      pub place_inside : pair_place g r (decode b).delegations < length (decode b).delegations
      place_inside = omega (arith, place_held, count_held, found)

      pub at_place : get_or (decode b).delegations (pair_place g r (decode b).delegations) no_delegation ≡ delegation_at b k
      at_place = ap (λ (i : ℕ). get_or (decode b).delegations i no_delegation) (sym place_held) ∙ sym (delegation_held k found)

      pub pair_held : T (is_pair g r (delegation_at b k))
      pair_held = subst (λ (d : Delegation). T (is_pair g r d)) at_place (pair_at g r (decode b).delegations no_delegation place_inside)

    pub stands_found : k < count_in b → stands (decode b) g r ≡ true
    stands_found l = let w = weight_at_found g r (decode b).delegations no_delegation (subst (λ (x : ℕ). x < length (decode b).delegations) place_held (omega (arith, count_held))) in ap (λ (z : ℤ). ltb zero (code z)) w ∙ lt-ltb zero (suc (get_or (decode b).delegations (pair_place g r (decode b).delegations) no_delegation).weight) (omega arith)

    pub stands_missing : count_in b ≤ k → stands (decode b) g r ≡ false
    stands_missing l = let w = weight_at_missing g r (decode b).delegations (subst (λ (x : ℕ). length (decode b).delegations ≤ x) place_held (omega (arith, count_held))) in ap (λ (z : ℤ). ltb zero (code z)) w

    pub found_stands : stands (decode b) g r ≡ true → k < count_in b
    found_stands s = go (either (ltb k (count_in b)))
      where
        go : T (ltb k (count_in b)) ⊎ T (not (ltb k (count_in b))) → k < count_in b
        go (inl q) = ltb→lt k (count_in b) q
        go (inr q) = clash (sym s ∙ stands_missing (nltb→le k (count_in b) q))

-- a register whose numbers have room is well formed where its block is
pub fits_formed : (R : Register) → Fits R → well_formed (encode R) ≡ true → WellFormed R
fits_formed R f h = subst WellFormed (decode_encode R f) (held_formed (encode R) (bytes_encode R f) h)
