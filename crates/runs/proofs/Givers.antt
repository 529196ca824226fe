-- One giver's records: they stand together, and are handed over as a part. Assumes nothing.
use mathlib.Core.Path.{◌≡◌, sym, subst}
use mathlib.Core.Logic.{◌⊎◌, inl, inr}
use mathlib.Core.Bool.{not}
use mathlib.Core.List.{List}
use Prim.Native.Nat.{ℕ, ◌+◌, ◌*◌, ◌-◌, ◌≤◌, ◌<◌}
use native.Mathlib.Nat.{le_refl}
use native.Mathlib.Omega.{arith}
use lib.Dec.{T, ltb, ltb→lt, nltb→le}
use lib.ListN.{length, get_or, drop, length-drop}
use lib.Seq.{length-take-le}
use lib.IntN.{ℤ}
use Rattle.rules.specs.Limit.{none}
use Rattle.rules.specs.Register.{Delegation}
use Rattle.rules.proofs.Lists.{either}
use Rattle.block.specs.Layout.{most_subjects, most_records, record_size}
use Rattle.runs.specs.Lent.{record_count, record_at, Lent}
use Rattle.runs.specs.Steps.{SteppedTo, Sought, Indexed, part, Gave}
use Rattle.runs.proofs.Records.{record_part, delegation_mem}

module _ (s : List ℕ) (a e : ℕ) (h : a ≤ e) (l : e ≤ record_count s) where
  pub part_count : record_count (part s a e) ≡ e - a
  part_count =
      let k : record_size * e - record_size * a ≤ length (drop (record_size * a) s) = rw length-drop (omega arith) in
      omega (arith, length-take-le (record_size * e - record_size * a) (drop (record_size * a) s) k)

  pub part_receivers : (t : List ℤ) → Lent t s (record_count s) → (k : ℕ) → k < record_count (part s a e) → (record_at (part s a e) k).receiver < most_subjects
  part_receivers t lent k b =
      let c : a + k < record_count s = omega (arith, part_count) in
      subst (λ (d : Delegation). d.receiver < most_subjects) (sym (record_part s a (record_size * e - record_size * a) k (omega (arith, part_count)))) (lent.receivers (record_at s (a + k)) (delegation_mem s (record_count s) (a + k) c))

-- a run does not end before it starts
run_order : (s : List ℕ) (giver a e : ℕ) → Sought s giver a → Sought s (giver + 1) e → a ≤ e
run_order s giver a e low high = go (either (ltb e a))
  where
    go : T (ltb e a) ⊎ T (not (ltb e a)) → a ≤ e
    go (inl q) = absurd (omega (arith, ltb→lt e a q, low.within, low.below e (ltb→lt e a q), high.above e (le_refl e) (omega (arith, ltb→lt e a q, low.within))))
    go (inr q) = nltb→le e a q

-- the run of a giver stands within the records
pub record Run (s : List ℕ) (giver a e : ℕ) : Type 0 where
  pub low : Sought s giver a
  pub high : Sought s (giver + 1) e
  pub order : a ≤ e
  pub within : e ≤ record_count s
  pub few : record_count s ≤ most_records
  pub size : record_size * record_count s ≤ length s

pub run_of : (t : List ℤ) (s starts : List ℕ) (giver : ℕ) → Indexed t s starts → giver < most_subjects → Run s giver (get_or starts giver 0) (get_or starts (giver + 1) 0)
run_of t s starts giver lent h =
    let low = lent.starts.each giver (omega arith) in
    let high = lent.starts.each (giver + 1) (omega arith) in record {
      low = low;
      high = high;
      order = run_order s giver (get_or starts giver 0) (get_or starts (giver + 1) 0) low high;
      within = high.within;
      few = lent.lent.few;
      size = omega (arith, lent.lent.size);
    }

pub gave : (t : List ℤ) (s : List ℕ) (marks giver : ℕ) (l : List ℤ) (p r : List ℕ) (l' : List ℤ) (p' r' : List ℕ) (a e : ℕ) (limit : ℤ) → Sought s giver a → Sought s (giver + 1) e → a ≤ e
    → limit ≡ get_or l giver none → SteppedTo t limit marks (part s a e) a l p r (record_count (part s a e)) l' p' r' → Gave t s marks giver l p r l' p' r'
gave t s marks giver l p r l' p' r' a e limit low high order q ran = record {
  first = a;
  past = e;
  order = order;
  within = high.within;
  before = low.below;
  here = λ k h b. omega (arith, low.above k h (omega (arith, high.within)), high.below k b);
  after = λ k h b. omega (arith, high.above k h b);
  stepped = subst (λ (n : ℕ). SteppedTo t (get_or l giver none) marks (part s a e) a l p r n l' p' r') (part_count s a e order high.within) (subst (λ (z : ℤ). SteppedTo t z marks (part s a e) a l p r (record_count (part s a e)) l' p' r') q ran);
}
