-- Refusals by what the register holds, test by test as the code makes them. Assumes nothing.
use mathlib.Core.Path.{◌≡◌, refl, sym, ap, subst, ◌∙◌}
use mathlib.Core.Logic.{◌⊎◌, inl, inr}
use mathlib.Core.Bool.{Bool, true, false, not, cond, ◌&&◌, ◌||◌}
use mathlib.Core.List.{List, [], ◌∷◌, ◌++◌}
use Prim.Native.Nat.{ℕ, suc, ◌≤◌, ◌<◌}
use native.Mathlib.Omega.{arith}
use borrow.Author.Tests.{lt-ltb, le-ltb, lt-leb}
use lib.Dec.{T, leb, ltb, eqb, nleb→lt, ltb→lt, nltb→le, not_T}
use lib.ListN.{length}
use lib.IntN.{ℤ, pos}
use lib.Signed.{lt_z}
use Rattle.rules.specs.List.{any}
use Rattle.rules.specs.Bits.{is_set}
use Rattle.rules.specs.Limit.{none, code}
use Rattle.rules.specs.Register.{Delegation, Register, is_retired, granted, no_delegation}
use Rattle.rules.specs.Reach.{reach}
use Rattle.rules.specs.Pair.{is_pair, weight_at, stands, is_raise, raises}
use Rattle.rules.specs.WellFormed.{WellFormed}
use Rattle.rules.specs.Call.{grant}
use Rattle.rules.specs.Refusal.{first_of, subjects_held, pair_stands, all_stand, overweight, held}
use Rattle.rules.proofs.Lists.{either, T_true, unset, not_or_left, second_not, any_mem}
use Rattle.rules.proofs.Bits.{bit_zero}
use Rattle.rules.proofs.Refusals.{passes_of}
use Rattle.rules.proofs.Support.{allowed_reach}
use Rattle.block.specs.Bytes.{IsBytes, leading}
use Rattle.block.specs.Block.{count_in, decode}
use Rattle.block.specs.WellFormed.{well_formed}
use Rattle.block.proofs.Held.{held_formed, subjects_held_lem, count_held, record_held, place_held, place_inside, at_place, pair_held, stands_found, stands_missing}
use Rattle.block.proofs.PairPlace.{weight_at_found, weight_at_missing}
use Rattle.block.specs.Records.{delegation_at, delegations_to}
use Rattle.rules.proofs.Signed.{below_weight}
use Rattle.rules.proofs.Granting.{raises_test, one_raised}
use Rattle.rules.proofs.Pairs.{pair_test, test_pair}
use Rattle.refusals.specs.Checked.{BothEnrolled}
use Rattle.refusals.proofs.Joining.{joined, joined_first, any_tests}

pub or_false : (x : Bool) → (x || false) ≡ x
or_false true = refl
or_false false = refl

-- neither 9 nor 19 applies to the owner
pub owner_held : (R : Register) → WellFormed R → (xs : List ℕ) → subjects_held R xs ≡ subjects_held R (0 ∷ xs)
owner_held R f xs =
    let enrolled : false ≡ leb R.subjects 0 = sym (lt-leb R.subjects 0 f.some) in
    let unretired : false ≡ is_retired R 0 = sym (unset (is_retired R 0) (not_T (is_retired R 0) (λ h. (f.retired 0 h).1 refl))) in
    λ j. (9, enrolled j || any (λ x. leb R.subjects x) xs) ∷ (19, unretired j || any (is_retired R) xs) ∷ []

-- where nobody is retired, 9 alone
pub held_unretired : (R : Register) (xs : List ℕ) → R.retired ≡ 0 → first_of ((9, any (λ v. leb R.subjects v) xs) ∷ []) ≡ first_of (subjects_held R xs)
held_unretired R xs e = ap (λ (b : Bool). cond (any (λ v. leb R.subjects v) xs) 9 (cond b 19 0)) (sym (unretired xs))
  where
    unset_all : (v : ℕ) → is_retired R v ≡ false
    unset_all v = ap (λ (n : ℕ). is_set n v) e ∙ ap (λ (n : ℕ). eqb n 1) (bit_zero v)

    unretired : (vs : List ℕ) → any (is_retired R) vs ≡ false
    unretired [] = refl
    unretired (v ∷ vs) = λ j. unset_all v j || unretired vs j

-- 9 and 19 of three subjects, tested one after another
abbrev three : ℕ → (ℕ → Bool) → ℕ → ℕ → ℕ → List (ℕ × Bool)
three n f x y z = (n, f x || false) ∷ (n, f y || false) ∷ (n, f z || false) ∷ []

pub held_joined : (R : Register) (x y z : ℕ) → joined 0 (three 9 (λ v. leb R.subjects v) x y z ++ three 19 (is_retired R) x y z) ≡ first_of (subjects_held R (x ∷ y ∷ z ∷ []))
held_joined R x y z =
    joined_first (three 9 (λ v. leb R.subjects v) x y z ++ three 19 (is_retired R) x y z) tt ∙ any_tests 9 (λ v. leb R.subjects v) (x ∷ y ∷ z ∷ []) (three 19 (is_retired R) x y z)
    ∙ ap (λ (n : ℕ). cond (any (λ v. leb R.subjects v) (x ∷ y ∷ z ∷ [])) 9 n) (any_tests 19 (is_retired R) (x ∷ y ∷ z ∷ []) [])

-- so where nobody is retired
pub three_unretired : (R : Register) (x y z : ℕ) → R.retired ≡ 0 → joined 0 (three 9 (λ v. leb R.subjects v) x y z) ≡ first_of (subjects_held R (x ∷ y ∷ z ∷ []))
three_unretired R x y z e = joined_first (three 9 (λ v. leb R.subjects v) x y z) tt ∙ any_tests 9 (λ v. leb R.subjects v) (x ∷ y ∷ z ∷ []) [] ∙ held_unretired R (x ∷ y ∷ z ∷ []) e

-- the pair stands, as the code tests it
pub stands_test : (b : List ℕ) (bytes : IsBytes b) (formed : well_formed b ≡ true) (g r k : ℕ) → k ≡ leading (λ d. not (is_pair g r d)) (delegations_to b (count_in b)) → ltb k (count_in b) ≡ stands (decode b) g r
stands_test b bytes formed g r k place = go (either (ltb k (count_in b)))
  where
    go : T (ltb k (count_in b)) ⊎ T (not (ltb k (count_in b))) → ltb k (count_in b) ≡ stands (decode b) g r
    go (inl q) = let h = ltb→lt k (count_in b) q in lt-ltb k (count_in b) h ∙ sym (stands_found b bytes formed g r k place h)
    go (inr q) = let h = nltb→le k (count_in b) q in le-ltb k (count_in b) h ∙ sym (stands_missing b bytes formed g r k place h)

-- ── the delegation of a pair that stands ──
module _ (b : List ℕ) (bytes : IsBytes b) (formed : well_formed b ≡ true) (g r k : ℕ) (place : k ≡ leading (λ d. not (is_pair g r d)) (delegations_to b (count_in b)))
    (found : k < count_in b) where
  pub weight_stands : weight_at (decode b).delegations g r ≡ pos (delegation_at b k).weight
  weight_stands =
      weight_at_found g r (decode b).delegations no_delegation (place_inside b bytes formed g r k place found) ∙ ap (λ (x : Delegation). pos x.weight) (at_place b bytes formed g r k place found)

pub weight_missing : (b : List ℕ) (bytes : IsBytes b) (formed : well_formed b ≡ true) (g r k : ℕ) → k ≡ leading (λ d. not (is_pair g r d)) (delegations_to b (count_in b)) → count_in b ≤ k
    → weight_at (decode b).delegations g r ≡ none
weight_missing b bytes formed g r k place l = weight_at_missing g r (decode b).delegations (omega (arith, place_held b bytes formed g r k place, count_held b bytes formed))

-- past the test of 9
pub both_of : (b : List ℕ) (bytes : IsBytes b) (formed : well_formed b ≡ true) (g r : ℕ) → T (not (leb (decode b).subjects g || (leb (decode b).subjects r || false))) → BothEnrolled b g r
both_of b bytes formed g r h =
    let n = subjects_held_lem b bytes formed in
    record {
      formed = formed;
      giver = subst (λ (m : ℕ). g < m) n (nleb→lt (decode b).subjects g (not_or_left (leb (decode b).subjects g) (leb (decode b).subjects r || false) h));
      receiver = subst (λ (m : ℕ). r < m) n (nleb→lt (decode b).subjects r (second_not (leb (decode b).subjects g) (leb (decode b).subjects r) h));
    }

-- the test of 16, as the code makes it
pub heavy_test : (t : List ℤ) (R : Register) (d : Delegation) → (overweight t R (d ∷ [])).1 ≡ lt_z (reach t R d.giver d.receiver) (pos d.weight)
heavy_test t R d =
    let l = reach t R d.giver d.receiver in
    rw (allowed_reach t R d) (or_false (ltb (code l) (suc d.weight)) ∙ sym (below_weight l d.weight))

-- room is left for a grant that is not refused and whose pair does not stand
pub grant_room : (t : List ℤ) (b : List ℕ) (bytes : IsBytes b) (formed : well_formed b ≡ true) (d : Delegation) → first_of (held t (decode b) (grant d)) ≡ 0 → stands (decode b) d.giver d.receiver ≡ false
    → count_in b < 256
unfolding held
grant_room t b bytes formed d e s =
    let p = passes_of (held t (decode b) (grant d)) tt e in
    subst (λ (k : ℕ). k < 256) (count_held b bytes formed) (nleb→lt 256 (length (decode b).delegations) (subst (λ (x : Bool). T (not (not x && leb 256 (length (decode b).delegations)))) s (p 12)))

-- a grant for the pair of e raises it by these four tests
pub own_raise : (e : Delegation) (w n b k : ℕ) → (eqb e.need n && eqb e.bar b && eqb e.kind k && ltb e.weight w) ≡ is_raise (granted e.giver e.receiver w n b k) e
own_raise e w n b k = sym (rw (T_true (is_pair e.giver e.receiver e) (pair_test e.giver e.receiver e (refl, refl))))

-- ── the tests of 11 and 12, as the code makes them; k is the pair's place ──
module _ (b : List ℕ) (bytes : IsBytes b) (formed : well_formed b ≡ true) (d : Delegation) (k : ℕ) (place : k ≡ leading (λ e. not (is_pair d.giver d.receiver e)) (delegations_to b (count_in b))) where
  abbrev both : Bool → ℕ
  both x = first_of ((11, x && not (raises (decode b) d)) ∷ (12, not x && leb 256 (length (decode b).delegations)) ∷ [])

  pub place_missing : count_in b ≤ k → first_of ((12, leb 256 (count_in b)) ∷ []) ≡ first_of (pair_stands (decode b) d ∷ all_stand (decode b) d ∷ [])
  place_missing l =
      ap (λ (c : ℕ). first_of ((12, leb 256 c) ∷ [])) (sym (count_held b bytes formed)) ∙ ap both (sym (stands_missing b bytes formed d.giver d.receiver k place l))

  module _ (found : k < count_in b) where
    abbrev e : Delegation
    e = delegation_at b k

    pair : T (is_pair d.giver d.receiver e)
    pair = pair_held b bytes formed d.giver d.receiver k place found

    -- the record found is the only one that could be raised
    raise_test : raises (decode b) d ≡ is_raise d e
    raise_test = go (raises (decode b) d) (is_raise d e) (λ h. raises_test d e (one_raised (decode b) (held_formed b bytes formed).rising d e (record_held b bytes formed k found) pair h)) (λ t. any_mem (is_raise d) (record_held b bytes formed k found) t)
      where
        go : (x y : Bool) → (T x → T y) → (T y → T x) → x ≡ y
        go true true f g = refl
        go false false f g = refl
        go true false f g = absurd (f tt)
        go false true f g = absurd (g tt)

    -- a grant of d's numbers for the pair of that record is d
    own : granted e.giver e.receiver d.weight d.need d.bar d.kind ≡ d
    own = let (g, r) = test_pair d.giver d.receiver e pair in λ j. granted (g j) (r j) d.weight d.need d.bar d.kind

    pub place_found : first_of ((11, not (is_raise (granted e.giver e.receiver d.weight d.need d.bar d.kind) e)) ∷ []) ≡ first_of (pair_stands (decode b) d ∷ all_stand (decode b) d ∷ [])
    place_found =
        ap (λ (x : Delegation). first_of ((11, not (is_raise x e)) ∷ [])) own
        ∙ ap (λ (x : Bool). first_of ((11, not x) ∷ [])) (sym raise_test)
        ∙ ap both (sym (stands_found b bytes formed d.giver d.receiver k place found))
