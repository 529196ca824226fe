-- The index of a block after a round that removed no delegation: each stands in its place, but for its weight. Assumes nothing.
use mathlib.Core.Path.{◌≡◌, refl, sym, ap, subst, ◌∙◌}
use mathlib.Core.Bool.{true}
use mathlib.Core.List.{List, [], ◌∷◌, ◌++◌}
use Prim.Native.Nat.{ℕ, zero, suc, ◌≤◌, ◌<◌}
use native.Mathlib.Nat.{zero-add}
use native.Mathlib.Omega.{arith}
use lib.IntN.{ℤ, pos, negsuc}
use lib.ListN.{length, get_or}
use Rattle.rules.specs.List.{◌∈◌, concat_map}
use Rattle.rules.specs.Limit.{smaller}
use Rattle.rules.specs.Register.{Delegation, Register, no_delegation}
use Rattle.rules.specs.Support.{allowed}
use Rattle.rules.specs.Round.{placed, capped, round}
use Rattle.rules.specs.Remainder.{AtMost}
use Rattle.rules.proofs.AtMost.{at_receiver}
use Rattle.rules.proofs.Lists.{concat_map_mem, get_d_tabulate}
use Rattle.rules.proofs.Rounds.{capped_within}
use Rattle.block.specs.Bytes.{IsBytes}
use Rattle.block.specs.Block.{count_in, records_in, decode}
use Rattle.block.specs.WellFormed.{well_formed}
use Rattle.block.proofs.Bytes.{length_tabulate}
use Rattle.block.proofs.Held.{count_held}
use Rattle.rules.specs.Bits.{bit}
use Rattle.runs.specs.Lent.{record_count, record_at}
use Rattle.runs.specs.Steps.{Starts}
use Rattle.search.specs.Named.{MarksAmong}
use Rattle.search.proofs.Searching.{records_held}
use Rattle.reckoning.specs.Reckoned.{IndexOf}
use Rattle.reckoning.specs.declared.Index.{Index}

-- ── lists ──
-- as many as there were, or fewer
placed_most : (f : Delegation → ℤ) (ds : List Delegation) → length (concat_map (λ d. placed d (f d)) ds) ≤ length ds
placed_most f [] = omega arith
placed_most f (d ∷ ds) = go (f d) (placed_most f ds)
  where
    go : (z : ℤ) → length (concat_map (λ e. placed e (f e)) ds) ≤ length ds → length (placed d z ++ concat_map (λ e. placed e (f e)) ds) ≤ suc (length ds)
    go (pos w) h = omega (arith, h)
    go (negsuc n) h = omega (arith, h)

-- where they are as many, the giver at each place is the same
givers_same : (f : Delegation → ℤ) (ds : List Delegation) → length (concat_map (λ d. placed d (f d)) ds) ≡ length ds → (k : ℕ) → (get_or (concat_map (λ d. placed d (f d)) ds) k no_delegation).giver ≡ (get_or ds k no_delegation).giver
givers_same f [] e k = refl
givers_same f (d ∷ ds) e k = go (f d) (placed_most f ds) (givers_same f ds) e k
  where
    left : List Delegation
    left = concat_map (λ x. placed x (f x)) ds

    go : (z : ℤ) → length left ≤ length ds → (length left ≡ length ds → (j : ℕ) → (get_or left j no_delegation).giver ≡ (get_or ds j no_delegation).giver)
        → length (placed d z ++ left) ≡ suc (length ds) → (j : ℕ) → (get_or (placed d z ++ left) j no_delegation).giver ≡ (get_or (d ∷ ds) j no_delegation).giver
    go (pos w) l h q zero = refl
    go (pos w) l h q (suc j) = h (omega (arith, q)) j
    go (negsuc n) l h q j = absurd (omega (arith, l, q))

-- the runs of records start where those of others start that have the same givers
starts_same : (s z p : List ℕ) → record_count z ≡ record_count s → ((k : ℕ) → k < record_count s → (record_at z k).giver ≡ (record_at s k).giver) → Starts s p → Starts z p
starts_same s z p e same h = record {
  size = h.size;
  each = λ g l. let x = h.each g l in record {
    within = omega (arith, e, x.within);
    below = λ k q. omega (arith, same k (omega (arith, x.within)), x.below k q);
    above = λ k q r. omega (arith, same k (omega (arith, e)), x.above k q (omega (arith, e)));
  };
}

-- ── on the block ──
module _ (b : List ℕ) (bytes : IsBytes b) (formed : well_formed b ≡ true) where
  records_many : record_count (records_in b) ≡ count_in b
  records_many = sym (length_tabulate (record_at (records_in b)) 0 (record_count (records_in b))) ∙ ap length (records_held b bytes formed) ∙ count_held b bytes formed

  record_held : (k : ℕ) → k < record_count (records_in b) → record_at (records_in b) k ≡ get_or (decode b).delegations k no_delegation
  record_held k l =
      sym (get_d_tabulate (record_at (records_in b)) no_delegation 0 (record_count (records_in b)) k l ∙ ap (record_at (records_in b)) (zero-add k))
      ∙ ap (λ (ds : List Delegation). get_or ds k no_delegation) (records_held b bytes formed)

module _ (t : List ℤ) (b c : List ℕ) (bytes : IsBytes b) (formed : well_formed b ≡ true) (bytes' : IsBytes c) (formed' : well_formed c ≡ true) (made : decode c ≡ round t (decode b)) (many : count_in c ≡ count_in b) where
  giver_same : (k : ℕ) → (get_or (decode c).delegations k no_delegation).giver ≡ (get_or (decode b).delegations k no_delegation).giver
  giver_same k =
      let e = sym (ap (λ (R : Register). length R.delegations) made) ∙ count_held c bytes' formed' ∙ many ∙ sym (count_held b bytes formed) in
      ap (λ (R : Register). (get_or R.delegations k no_delegation).giver) made ∙ givers_same (λ d. smaller (pos d.weight) (allowed t (decode b) d)) (decode b).delegations e k

  starts_kept : (p : List ℕ) → Starts (records_in b) p → Starts (records_in c) p
  starts_kept p =
      let e = records_many c bytes' formed' ∙ many ∙ sym (records_many b bytes formed) in
      starts_same (records_in b) (records_in c) p e (λ k l.
      ap (λ (d : Delegation). d.giver) (record_held c bytes' formed' k (omega (arith, e))) ∙ giver_same k ∙ sym (ap (λ (d : Delegation). d.giver) (record_held b bytes formed k l)))

  -- each that is left was there, but for its weight
  was_there : (d : Delegation) → d ∈ (decode c).delegations → (x : Delegation) × (x ∈ (decode b).delegations) × AtMost d x
  was_there d m =
      let (x, n, q) = concat_map_mem (λ y. capped y (allowed t (decode b) y)) (decode b).delegations (subst (λ (R : Register). d ∈ R.delegations) made m) in
      (x, n, capped_within x (allowed t (decode b) x) q)

  pub index_kept : (i : Index) (p : List ℕ) → IndexOf b i p → IndexOf c i p
  index_kept i p h = record {
    count = h.count ∙ sym many;
    starts = starts_kept p h.starts;
    receivers = λ d m. let (x, n, a) = was_there d m in ap (bit i.receivers) (at_receiver a) ∙ h.receivers x n;
    names = λ d m. let (x, n, a) = was_there d m in subst (λ (y : Delegation). MarksAmong y.need i.named × MarksAmong y.bar i.named) (sym a.same) (h.names x n);
  }
