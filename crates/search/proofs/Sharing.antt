-- Receivers whose marks agree on all that are named have the same reaches. Assumes nothing.
use mathlib.Core.Path.{◌≡◌, sym, ap, subst, ◌∙◌}
use mathlib.Core.Logic.{◌⊎◌, inl, inr}
use mathlib.Core.Bool.{◌&&◌}
use mathlib.Core.List.{List}
use Prim.Native.Nat.{ℕ, min}
use native.Mathlib.Omega.{arith}
use lib.Bits.{bit_and}
use lib.Dec.{T, eqb}
use lib.IntN.{ℤ}
use Rattle.rules.specs.Limit.{none}
use Rattle.rules.specs.Register.{Delegation, Register, marks_of}
use Rattle.rules.specs.Condition.{meets}
use Rattle.rules.specs.Chain.{limit, IsChain}
use Rattle.rules.specs.Reach.{IsReach, reach}
use Rattle.rules.proofs.Reach.{reach_is, reach_only}
use Rattle.rules.specs.Bits.{bit}
use Rattle.rules.proofs.Bits.{bit_small, bit_and_lem, bits_same}
use Rattle.search.specs.Search.{under_marks}
use Rattle.search.specs.Named.{MarksAmong, AllNamed}
use Rattle.search.proofs.Searching.{reach_marks}

module _ (n m m' : ℕ) (agree : bit_and m n ≡ bit_and m' n) where
  -- the same marks of x, where all of x are among n
  and_named : (x : ℕ) → MarksAmong x n → bit_and m x ≡ bit_and m' x
  and_named x h = bits_same (bit_and m x) (bit_and m' x) (λ y. bit_and_lem m x y ∙ same y ∙ sym (bit_and_lem m' x y))
    where
      same : (y : ℕ) → min (bit m y) (bit x y) ≡ min (bit m' y) (bit x y)
      same y = omega (arith, h y, bit_small n y, bit_small m y, bit_small m' y, sym (bit_and_lem m n y) ∙ ap (λ (z : ℕ). bit z y) agree ∙ bit_and_lem m' n y)

  pub meets_named : (need bar : ℕ) → MarksAmong need n → MarksAmong bar n → meets m need bar ≡ meets m' need bar
  unfolding meets
  meets_named need bar h k = λ i. eqb (and_named need h i) need && eqb (and_named bar k i) 0

module _ (t : List ℤ) (ds : List Delegation) (n : ℕ) (names : AllNamed n ds) (u : ℕ) where
  chain_named : (m m' : ℕ) → bit_and m n ≡ bit_and m' n → (cs : List Delegation) → IsChain t (under_marks ds m) u 0 cs → IsChain t (under_marks ds m') u 0 cs
  chain_named m m' agree cs c = record {
    standing = c.standing;
    linked = c.linked;
    distinct = c.distinct;
    met = λ d h. let k = names d (c.standing d h) in subst T (meets_named n m m' agree d.need d.bar k.0 k.1) (c.met d h);
    live = c.live;
  }

  reach_named : (m m' : ℕ) → bit_and m n ≡ bit_and m' n → reach t (under_marks ds m) u 0 ≡ reach t (under_marks ds m') u 0
  reach_named m m' agree = reach_only t (under_marks ds m) u 0 (reach t (under_marks ds m') u 0) record { bounds = λ cs c. found.bounds cs (chain_named m m' agree cs c); attained = go found.attained }
    where
      found : IsReach t (under_marks ds m') u 0 (reach t (under_marks ds m') u 0)
      found = reach_is t (under_marks ds m') u 0

      go : (reach t (under_marks ds m') u 0 ≡ none) ⊎ ((cs : List Delegation) × IsChain t (under_marks ds m') u 0 cs × (reach t (under_marks ds m') u 0 ≡ limit t cs))
          → (reach t (under_marks ds m') u 0 ≡ none) ⊎ ((cs : List Delegation) × IsChain t (under_marks ds m) u 0 cs × (reach t (under_marks ds m') u 0 ≡ limit t cs))
      go (inl e) = inl e
      go (inr (cs, c, e)) = inr (cs, chain_named m' m (sym agree) cs c, e)

-- two receivers whose marks agree on all that are named
pub reach_shared : (t : List ℤ) (R : Register) (n u w v : ℕ) → AllNamed n R.delegations → bit_and (marks_of R w) n ≡ bit_and (marks_of R v) n → reach t R u w ≡ reach t R u v
reach_shared t R n u w v names agree = reach_marks t R u w ∙ reach_named t R.delegations n names u (marks_of R w) (marks_of R v) agree ∙ sym (reach_marks t R u v)
