-- How many values pass a test, counted from place to place; and what became of the delegations of one block in another. Assumes nothing.
use mathlib.Core.Path.{◌≡◌, refl, sym, ap, subst, ◌∙◌}
use mathlib.Core.Bool.{Bool, true, false, not, ◌&&◌}
use mathlib.Core.List.Memᴰ
use mathlib.Core.List.{List, ◌∷◌}
use Prim.Native.Nat.{ℕ, zero, suc, ◌+◌, ◌-◌, ◌≤◌, ◌<◌}
use native.Mathlib.Nat.{add-zero}
use native.Mathlib.Omega.{arith}
use borrow.Author.Tests.{lt-ltb, le-leb, lt-leb}
use lib.Dec.{ltb, leb}
use lib.IntN.{ℤ, pos}
use lib.ListN.{length}
use Rattle.rules.specs.List.{◌∈◌, filter, tabulate}
use Rattle.rules.specs.Limit.{none, code}
use Rattle.rules.specs.Register.{Delegation, Register}
use Rattle.rules.specs.Pair.{is_pair, weight_at, stands}
use Rattle.rules.specs.Remainder.{Within}
use Rattle.rules.specs.Cut.{is_dropped, is_lowered, dropped, lowered}
use Rattle.rules.proofs.Lists.{filter_length}
use Rattle.rules.proofs.Pairs.{IsPair}
use Rattle.block.specs.Bytes.{IsBytes}
use Rattle.block.specs.Block.{count_in, decode}
use Rattle.block.specs.WellFormed.{well_formed}
use Rattle.block.proofs.Bytes.{length_tabulate}
use Rattle.block.proofs.Loops.{rest_all, rest_end, rest_on}
use Rattle.block.proofs.Held.{held_formed, delegations_held}
use Rattle.block.specs.Records.{delegation_at}
use Rattle.rounds.proofs.Merging.{Ahead, met_weight, met_on, missed_weight, missed_on, others}

-- how many pass: x before place i, and those from place i on
abbrev Passing : {A : Type 0} → (A → Bool) → (ℕ → A) → ℕ → ℕ → ℕ → Type 0
Passing g f n i x = length (filter g (tabulate f 0 n)) ≡ x + length (filter g (tabulate f i (n - i)))

passing_all : {A : Type 0} (g : A → Bool) (f : ℕ → A) (n : ℕ) → Passing g f n 0 0
passing_all g f n = rw (← rest_all f n) (omega arith)

module _ {A : Type 0} (g : A → Bool) (f : ℕ → A) (i n x : ℕ) (e : Passing g f n i x) where
  passing_end : n ≤ i → x ≡ length (filter g (tabulate f 0 n))
  passing_end h = sym (rw (rest_end f i n h, add-zero) at e)

  passing_most : x ≤ n
  passing_most = omega (arith, e, filter_length g (tabulate f 0 n), length_tabulate f 0 n)

  passing_one : i < n → g (f i) ≡ true → Passing g f n (i + 1) (x + 1)
  passing_one h t = (rw (rest_on f i n h, t) at e) ∙ omega arith

  passing_none : i < n → g (f i) ≡ false → Passing g f n (i + 1) x
  passing_none h t = rw (rest_on f i n h, t) at e

-- what became of d in F, by what stands there for its pair
module _ (F : Register) (d : Delegation) where
  module _ (e : weight_at F.delegations d.giver d.receiver ≡ none) where
    missing_dropped : is_dropped F d ≡ true
    missing_dropped = rw e refl

    missing_lowered : is_lowered F d ≡ false
    missing_lowered = rw e refl

  module _ (w : ℕ) (e : weight_at F.delegations d.giver d.receiver ≡ pos w) where
    found : stands F d.giver d.receiver ≡ true
    found = ap (λ (l : ℤ). ltb zero (code l)) e ∙ lt-ltb zero (suc w) (omega arith)

    found_dropped : is_dropped F d ≡ false
    found_dropped = ap not found

    found_lowered : (c : Bool) → leb (suc w) d.weight ≡ c → is_lowered F d ≡ c
    found_lowered c q = (λ i. found i && leb (code (e i)) d.weight) ∙ q

-- the records of a block from place k on
abbrev records_from : List ℕ → ℕ → List Delegation
records_from b k = tabulate (delegation_at b) k (count_in b - k)

records_all : (b : List ℕ) → IsBytes b → well_formed b ≡ true → (decode b).delegations ≡ records_from b 0
records_all b bytes formed = delegations_held b bytes formed ∙ rest_all (delegation_at b) (count_in b)

-- ── the loop: the first k records of one block were looked for, and the first j of another met ──
pub record Compared (b a : List ℕ) (j k x y : ℕ) : Type 0 where
  pub dropped : Passing (is_dropped (decode a)) (delegation_at b) (count_in b) k x
  pub lowered : Passing (is_lowered (decode a)) (delegation_at b) (count_in b) k y
  pub ahead : Ahead (decode a).delegations (records_from b k) (records_from a j)

pub compared_none : (b a : List ℕ) → IsBytes b → IsBytes a → well_formed b ≡ true → well_formed a ≡ true → Within (decode a) (decode b) → Compared b a 0 0 0 0
compared_none b a p q f g w =
    let whole : Ahead (decode a).delegations (decode b).delegations (decode a).delegations =
    record { rising = (held_formed b p f).rising; rises = (held_formed a q g).rising; held = w.held; same = λ d m. refl } in
    let part = subst (λ (es : List Delegation). Ahead (decode a).delegations (decode b).delegations es) (records_all a q g) whole in
    record {
      dropped = passing_all (is_dropped (decode a)) (delegation_at b) (count_in b);
      lowered = passing_all (is_lowered (decode a)) (delegation_at b) (count_in b);
      ahead = subst (λ (ds : List Delegation). Ahead (decode a).delegations ds (records_from a 0)) (records_all b p f) part;
    }

-- no more than there are records
pub compared_most : (b a : List ℕ) (j k x y : ℕ) → Compared b a j k x y → (x ≤ count_in b) × (y ≤ count_in b)
compared_most b a j k x y s = (passing_most (is_dropped (decode a)) (delegation_at b) k (count_in b) x s.dropped, passing_most (is_lowered (decode a)) (delegation_at b) k (count_in b) y s.lowered)

module _ (b a : List ℕ) (j k x y : ℕ) (s : Compared b a j k x y) (l : k < count_in b) where
  -- record k is the next to look for
  next : Ahead (decode a).delegations (delegation_at b k ∷ records_from b (k + 1)) (records_from a j)
  next = rw (rest_on (delegation_at b) k (count_in b) l) at s.ahead

  missed : ((e : Delegation) → e ∈ records_from a j → IsPair (delegation_at b k).giver (delegation_at b k).receiver e → ⊥) → Compared b a j (k + 1) (x + 1) y
  missed n =
      let w = missed_weight (decode a).delegations (delegation_at b k) (records_from b (k + 1)) (records_from a j) next n in
      record {
        dropped = passing_one (is_dropped (decode a)) (delegation_at b) k (count_in b) x s.dropped l (missing_dropped (decode a) (delegation_at b k) w);
        lowered = passing_none (is_lowered (decode a)) (delegation_at b) k (count_in b) y s.lowered l (missing_lowered (decode a) (delegation_at b k) w);
        ahead = missed_on (decode a).delegations (delegation_at b k) (records_from b (k + 1)) (records_from a j) next n;
      }

  -- the other block has no more
  pub compared_past : count_in a ≤ j → Compared b a j (k + 1) (x + 1) y
  compared_past h = missed (λ e m. absurd (Memᴰ.not-nil (subst (λ (es : List Delegation). e ∈ es) (rest_end (delegation_at a) j (count_in a) h) m)))

  module _ (h : j < count_in a) where
    -- record j is the next to meet
    both : Ahead (decode a).delegations (delegation_at b k ∷ records_from b (k + 1)) (delegation_at a j ∷ records_from a (j + 1))
    both = rw (rest_on (delegation_at a) j (count_in a) h) at next

    pub compared_other : is_pair (delegation_at b k).giver (delegation_at b k).receiver (delegation_at a j) ≡ false → Compared b a j (k + 1) (x + 1) y
    compared_other t = missed (λ e m.
        others (decode a).delegations (delegation_at b k) (records_from b (k + 1)) (delegation_at a j) (records_from a (j + 1)) both t e
        (subst (λ (es : List Delegation). e ∈ es) (rest_on (delegation_at a) j (count_in a) h) m))

    module _ (t : is_pair (delegation_at b k).giver (delegation_at b k).receiver (delegation_at a j) ≡ true) where
      -- the comparison of the weights decides
      met : (c : Bool) (z : ℕ) → leb (suc (delegation_at a j).weight) (delegation_at b k).weight ≡ c
          → (is_lowered (decode a) (delegation_at b k) ≡ c → Passing (is_lowered (decode a)) (delegation_at b) (count_in b) (k + 1) z) → Compared b a (j + 1) (k + 1) x z
      met c z q f =
          let w = met_weight (decode a).delegations (delegation_at b k) (records_from b (k + 1)) (delegation_at a j) (records_from a (j + 1)) both t in
          record {
            dropped = passing_none (is_dropped (decode a)) (delegation_at b) k (count_in b) x s.dropped l (found_dropped (decode a) (delegation_at b k) (delegation_at a j).weight w);
            lowered = f (found_lowered (decode a) (delegation_at b k) (delegation_at a j).weight w c q);
            ahead = met_on (decode a).delegations (delegation_at b k) (records_from b (k + 1)) (delegation_at a j) (records_from a (j + 1)) both t;
          }

      pub compared_lowered : (delegation_at a j).weight < (delegation_at b k).weight → Compared b a (j + 1) (k + 1) x (y + 1)
      compared_lowered w = met true (y + 1) (le-leb (suc (delegation_at a j).weight) (delegation_at b k).weight w) (passing_one (is_lowered (decode a)) (delegation_at b) k (count_in b) y s.lowered l)

      pub compared_kept : (delegation_at b k).weight ≤ (delegation_at a j).weight → Compared b a (j + 1) (k + 1) x y
      compared_kept w = met false y (lt-leb (suc (delegation_at a j).weight) (delegation_at b k).weight (omega arith)) (passing_none (is_lowered (decode a)) (delegation_at b) k (count_in b) y s.lowered l)

-- all records looked for
pub compared_all : (b a : List ℕ) → IsBytes b → well_formed b ≡ true → (j k x y : ℕ) → Compared b a j k x y → count_in b ≤ k → (x ≡ dropped (decode b) (decode a)) × (y ≡ lowered (decode b) (decode a))
compared_all b a bytes formed j k x y s h =
    let e = sym (delegations_held b bytes formed) in (
      passing_end (is_dropped (decode a)) (delegation_at b) k (count_in b) x s.dropped h ∙ ap (λ (ds : List Delegation). length (filter (is_dropped (decode a)) ds)) e,
      passing_end (is_lowered (decode a)) (delegation_at b) k (count_in b) y s.lowered h ∙ ap (λ (ds : List Delegation). length (filter (is_lowered (decode a)) ds)) e,
    )
