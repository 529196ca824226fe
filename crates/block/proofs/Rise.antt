-- The records tested in one pass: the pair of each, as a number, is above the one before it, and the record is formed but for its giver and its kind; the
-- giver of the last is tested for all, and the kinds joined. Assumes nothing.
use mathlib.Core.Path.{◌≡◌, refl, sym, ap, subst, ◌∙◌}
use mathlib.Core.Logic.{◌⊎◌, inl, inr}
use mathlib.Core.Bool.{Bool, true, false, not, ◌&&◌, and-true, and-false, and_assoc}
use mathlib.Core.List.{List, [], ◌∷◌}
use Prim.Native.Nat.{ℕ, zero, suc, ◌+◌, ◌*◌, ◌-◌, ◌≤◌, ◌<◌}
use native.Mathlib.Numerals.{add-one}
use native.Mathlib.Omega.{arith}
use borrow.Author.Tests.{lt-ltb, le-ltb, ltb-true, lt-leb, le-leb}
use lib.Bits.{bit_or, and_le_r, and_comm, or_zero_l, or_add_and}
use lib.Dec.{T, ltb, leb, ltb→lt, nltb→le, leb→le, nleb→lt}
use lib.ListN.{drop}
use Rattle.rules.specs.List.{tabulate}
use Rattle.rules.specs.Register.{Delegation}
use Rattle.rules.specs.WellFormed.{Before}
use Rattle.rules.specs.CallStep.{before}
use Rattle.rules.proofs.Lists.{T_true, yes, no, unset, either, test_ne}
use Rattle.rules.proofs.Pairs.{before_Before, Before_before}
use Rattle.block.specs.Layout.{records_at, record_size, receiver_byte}
use Rattle.block.specs.Bytes.{IsBytes, all_from}
use Rattle.block.specs.Records.{delegation_at, delegations_to}
use Rattle.block.specs.WellFormed.{giver_enrolled, receiver_enrolled, ends_differ, not_to_owner, marks_apart, kind_known, delegation_tests, delegation_formed, follows, rises}
use Rattle.block.specs.Pass.{formed_otherwise}
use Rattle.block.proofs.Bytes.{bytes_drop}
use Rattle.block.proofs.Tests.{Each, end, ◌▸◌, each}

-- a pair as a number: by giver, then receiver
abbrev pub pair_number : Delegation → ℕ
pair_number d = d.giver * 256 + d.receiver

-- what the loop tests at record i, i + 1, and so on, m records, after a pair of number `last` and kinds that joined are `kinds`
abbrev pub passes : ℕ → List ℕ → ℕ → ℕ → ℕ → ℕ → Bool
passes n b kinds last i zero = leb kinds 1 && ltb last (n * 256)
passes n b kinds last i (suc m) =
    let d = delegation_at b i in
    ltb last (pair_number d) && (formed_otherwise n d && passes n b (bit_or kinds d.kind) (pair_number d) (suc i) m)

-- ── the loop: x is the whole answer, e says that it is the answer from record i on ──
module _ {x : Bool} (n : ℕ) (b : List ℕ) (kinds last i m : ℕ) (e : x ≡ passes n b kinds last i (m - i)) where
  pub pass_kind : m ≤ i → 1 < kinds → false ≡ x
  pass_kind h l = let z : m - i ≡ 0 = omega arith in sym (rw (z, lt-leb kinds 1 l) at e)

  pub pass_end : m ≤ i → kinds ≤ 1 → ltb last (n * 256) ≡ x
  pass_end h l = let z : m - i ≡ 0 = omega arith in sym (rw (z, le-leb kinds 1 l) at e)

  module _ (h : i < m) where
    left : m - i ≡ suc (m - (i + 1))
    left = omega arith

    pub pass_low : pair_number (delegation_at b i) ≤ last → false ≡ x
    pass_low l = sym (rw (left, le-ltb last (pair_number (delegation_at b i)) l) at e)

    pub pass_stop : last < pair_number (delegation_at b i) → formed_otherwise n (delegation_at b i) ≡ false → false ≡ x
    pass_stop l t = sym (rw (left, lt-ltb last (pair_number (delegation_at b i)) l, t) at e)

    pub pass_on : last < pair_number (delegation_at b i) → formed_otherwise n (delegation_at b i) ≡ true
        → x ≡ passes n b (bit_or kinds (delegation_at b i).kind) (pair_number (delegation_at b i)) (i + 1) (m - (i + 1))
    pass_on l t = rw (left, lt-ltb last (pair_number (delegation_at b i)) l, t, ← add-one i) at e

-- ── tests of pairs as tests of their numbers ──
same_test : (a b c d : ℕ) → (a < b → c < d) → (b ≤ a → d ≤ c) → ltb a b ≡ ltb c d
same_test a b c d h k = go (either (ltb a b))
  where
    go : T (ltb a b) ⊎ T (not (ltb a b)) → ltb a b ≡ ltb c d
    go (inl q) = let l = ltb→lt a b q in lt-ltb a b l ∙ sym (lt-ltb c d (h l))
    go (inr q) = let l = nltb→le a b q in le-ltb a b l ∙ sym (le-ltb c d (k l))

giver_number : (n : ℕ) (d : Delegation) → d.receiver < 256 → giver_enrolled n d ≡ ltb (pair_number d) (n * 256)
giver_number n d r = same_test d.giver n (pair_number d) (n * 256) (λ l. omega arith) (λ l. omega arith)

before_number : (d e : Delegation) → d.receiver < 256 → e.receiver < 256 → before d e ≡ ltb (pair_number d) (pair_number e)
before_number d e p q = go (either (before d e)) (either (ltb (pair_number d) (pair_number e)))
  where
    above : Before d e → pair_number d < pair_number e
    above (inl l) = omega arith
    above (inr l) = omega arith

    below : pair_number d < pair_number e → T (ltb d.giver e.giver) ⊎ T (not (ltb d.giver e.giver)) → Before d e
    below l (inl h) = inl (ltb→lt d.giver e.giver h)
    below l (inr h) = let g = nltb→le d.giver e.giver h in inr (omega arith, omega arith)

    go : T (before d e) ⊎ T (not (before d e)) → T (ltb (pair_number d) (pair_number e)) ⊎ T (not (ltb (pair_number d) (pair_number e))) → before d e ≡ ltb (pair_number d) (pair_number e)
    go (inl h) k = T_true (before d e) h ∙ sym (lt-ltb (pair_number d) (pair_number e) (above (before_Before d e h)))
    go (inr h) (inl k) = absurd (no (unset (before d e) h) (Before_before d e (below (ltb→lt (pair_number d) (pair_number e) k) (either (ltb d.giver e.giver)))))
    go (inr h) (inr k) = unset (before d e) h ∙ sym (unset (ltb (pair_number d) (pair_number e)) k)

-- ── a record: its giver, its kind, and the rest ──
last_apart : (a b c d k : Bool) → (a && (b && (c && (d && (k && true))))) ≡ ((a && (b && (c && (d && true)))) && k)
last_apart false b c d k = refl
last_apart true false c d k = refl
last_apart true true false d k = refl
last_apart true true true false k = refl
last_apart true true true true k = and-true k

formed_parts : (n : ℕ) (d : Delegation) → delegation_formed n d ≡ (giver_enrolled n d && (formed_otherwise n d && kind_known d))
unfolding delegation_formed formed_otherwise
formed_parts n d = ap (λ (x : Bool). giver_enrolled n d && x) (last_apart (receiver_enrolled n d) (ends_differ d) (not_to_owner d) (marks_apart d) (kind_known d))

-- numbers joined are at most 1 exactly where each is
small_or : (a b : ℕ) → a ≤ 1 → b ≤ 1 → bit_or a b ≤ 1
small_or zero b h k = subst (λ (n : ℕ). n ≤ 1) (sym (or_zero_l b)) k
small_or (suc zero) zero h k = omega arith
small_or (suc zero) (suc zero) h k = omega arith
small_or (suc zero) (suc (suc b)) h k = absurd (omega arith)
small_or (suc (suc a)) b h k = absurd (omega arith)

or_most : (a b : ℕ) → leb (bit_or a b) 1 ≡ (leb a 1 && leb b 1)
or_most a b = go (either (leb a 1)) (either (leb b 1))
  where
    go : T (leb a 1) ⊎ T (not (leb a 1)) → T (leb b 1) ⊎ T (not (leb b 1)) → leb (bit_or a b) 1 ≡ (leb a 1 && leb b 1)
    go (inl h) (inl k) = le-leb (bit_or a b) 1 (small_or a b (leb→le a 1 h) (leb→le b 1 k)) ∙ sym (λ j. T_true (leb a 1) h j && T_true (leb b 1) k j)
    go (inl h) (inr k) =
        let l = nleb→lt b 1 k in
        lt-leb (bit_or a b) 1 (omega (arith, or_add_and a b, subst (λ (n : ℕ). n ≤ a) (and_comm b a) (and_le_r b a))) ∙ sym (λ j. T_true (leb a 1) h j && unset (leb b 1) k j)
    go (inr h) k =
        let l = nleb→lt a 1 h in
        lt-leb (bit_or a b) 1 (omega (arith, or_add_and a b, and_le_r a b)) ∙ sym (λ j. unset (leb a 1) h j && leb b 1)

-- the pair of a formed record has a number above 0
formed_above : (n : ℕ) (d : Delegation) → delegation_formed n d ≡ true → ltb 0 (pair_number d) ≡ true
unfolding delegation_formed
formed_above n d q = go (each (delegation_tests n) d (yes q))
  where
    go : Each d (delegation_tests n) → ltb 0 (pair_number d) ≡ true
    go (giver ▸ receiver ▸ differ ▸ not_owner ▸ disjoint ▸ kind ▸ end) = let z = test_ne d.receiver 0 not_owner in lt-ltb 0 (pair_number d) (omega arith)

-- ── the whole ──
-- the first of a list is above `last`
abbrev first_above : ℕ → List Delegation → Bool
first_above last [] = true
first_above last (d ∷ ds) = ltb last (pair_number d)

-- z follows from a and c
regroup : (z x a b c y d q : Bool) → (a ≡ true → c ≡ true → z ≡ true) → (a && (b && (c && ((x && y) && (d && q))))) ≡ (z && (x && (((c && (b && y)) && d) && (a && q))))
regroup z true true true true y d q h = rw (h refl refl, and_assoc y d q)
regroup z true true false true y d q h = rw (h refl refl)
regroup z false true b true y d q h = rw (h refl refl, and-false b)
regroup z x true b false y d q h = rw (and-false b, and-false x, and-false z)
regroup z x false b c y d q h = rw (and-false ((c && (b && y)) && d), and-false x, and-false z)

-- what is asked of no record
turned : (x z : Bool) → (x && z) ≡ (z && (x && true))
turned true true = refl
turned true false = refl
turned false true = refl
turned false false = refl

-- c follows from a
spared : (a b c q : Bool) → (a ≡ true → c ≡ true) → ((a && b) && (c && q)) ≡ ((a && b) && q)
spared true b c q h = rw (h refl)
spared false b c q h = refl

module _ (n : ℕ) (b : List ℕ) (bytes : IsBytes b) where
  small : (k : ℕ) → (delegation_at b k).receiver < 256
  small k = bytes_drop (record_size * k) (drop records_at b) (bytes_drop records_at b bytes) receiver_byte

  next_above : (i m : ℕ) → let ds = tabulate (delegation_at b) (suc i) m in first_above (pair_number (delegation_at b i)) ds ≡ follows (delegation_at b i) ds
  next_above i zero = refl
  next_above i (suc m) = sym (before_number (delegation_at b i) (delegation_at b (suc i)) (small i) (small (suc i)))

  passes_is : (kinds last i m : ℕ)
      → let ds = tabulate (delegation_at b) i m in
      passes n b kinds last i m ≡ (ltb last (n * 256) && (leb kinds 1 && (all_from (λ k. delegation_formed n (delegation_at b k)) i m && (first_above last ds && rises ds))))
  passes_is kinds last i zero = turned (leb kinds 1) (ltb last (n * 256))
  passes_is kinds last i (suc m) =
      let d = delegation_at b i in
      let p = pair_number d in
      let ds = tabulate (delegation_at b) (suc i) m in
      rw (passes_is (bit_or kinds d.kind) p (suc i) m, next_above i m, or_most kinds d.kind, formed_parts n d, giver_number n d (small i))
      (regroup (ltb last (n * 256)) (leb kinds 1) (ltb last p) (formed_otherwise n d) (ltb p (n * 256)) (kind_known d) (all_from (λ k. delegation_formed n (delegation_at b k)) (suc i) m) (follows d ds && rises ds)
      (λ a c. lt-ltb last (n * 256) (omega (arith, ltb-true last p a, ltb-true p (n * 256) c))))

  pub passes_all : 1 ≤ n → (m : ℕ) → passes n b 0 0 0 m ≡ (all_from (λ k. delegation_formed n (delegation_at b k)) 0 m && rises (delegations_to b m))
  passes_all l zero = lt-ltb 0 (n * 256) (omega arith)
  passes_all l (suc m) =
      passes_is 0 0 0 (suc m) ∙ rw (lt-ltb 0 (n * 256) (omega arith))
      (spared (delegation_formed n (delegation_at b 0)) (all_from (λ k. delegation_formed n (delegation_at b k)) 1 m) (ltb 0 (pair_number (delegation_at b 0))) (rises (delegations_to b (suc m))) (formed_above n (delegation_at b 0)))
