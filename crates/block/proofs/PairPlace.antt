-- The place of a pair in a list of delegations, and its weight there. Assumes nothing.
use mathlib.Core.Path.{◌≡◌, refl, sym, ap, subst, ◌∙◌}
use mathlib.Core.Bool.{Bool, true, false, not, cond}
use mathlib.Core.List.Memᴰ
use mathlib.Core.List.{List, [], ◌∷◌}
use Prim.Native.Nat.{ℕ, zero, suc, ◌≤◌, ◌<◌, zero-le, suc-le-suc}
use native.Mathlib.Nat.{le_of_suc-le-suc, not-suc-le-zero}
use lib.Dec.{T, not_T}
use lib.ListN.{length, get_or}
use Rattle.rules.specs.List.{◌∈◌}
use lib.IntN.{pos}
use Rattle.rules.specs.Register.{Delegation}
use Rattle.rules.specs.Limit.{none}
use Rattle.rules.specs.Pair.{is_pair, weight_at}
use Rattle.rules.specs.WellFormed.{Rising}
use Rattle.rules.specs.CallStep.{before}
use Rattle.rules.proofs.Lists.{T_true, yes}
use Rattle.rules.proofs.WellFormed.{Before_trans, Before_pairs, Before_irrefl}
use Rattle.rules.proofs.Pairs.{IsPair, test_pair, before_Before, Before_before}
use Rattle.block.proofs.Bytes.{get_or_mem}
use Rattle.block.specs.Bytes.{leading}

module _ {A : Type 0} (f : A → Bool) where
  pub leading_most : (xs : List A) → leading f xs ≤ length xs
  leading_most [] = zero-le
  leading_most (x ∷ xs) = go (f x) (leading_most xs)
    where
      go : (b : Bool) → leading f xs ≤ length xs → cond b (suc (leading f xs)) zero ≤ suc (length xs)
      go true h = suc-le-suc h
      go false h = zero-le

module _ (g r : ℕ) where
  -- the place of a pair: how many delegations stand before it, or all where it does not stand
  abbrev pub pair_place : List Delegation → ℕ
  pair_place ds = leading (λ d. not (is_pair g r d)) ds

  -- after its delegation in a rising list no other is of the pair
  pub others : (d : Delegation) (ds : List Delegation) → Rising (d ∷ ds) → T (is_pair g r d) → (e : Delegation) → e ∈ ds → T (not (is_pair g r e))
  others d ds s t e m = not_T (is_pair g r e) (λ q.
      let a = test_pair g r d t in
      let b = test_pair g r e q in
      Before_irrefl d e (a.0 ∙ sym b.0) (a.1 ∙ sym b.1) (s.0 e m))

  -- where the pair stands, its delegation is at its place
  pub pair_at : (ds : List Delegation) (z : Delegation) → pair_place ds < length ds → T (is_pair g r (get_or ds (pair_place ds) z))
  pair_at [] z l = absurd (not-suc-le-zero l)
  pair_at (d ∷ ds) z l = go (is_pair g r d) refl (pair_at ds z) l
    where
      go : (b : Bool) → is_pair g r d ≡ b → (pair_place ds < length ds → T (is_pair g r (get_or ds (pair_place ds) z))) → cond (not b) (suc (pair_place ds)) zero < suc (length ds)
          → T (is_pair g r (get_or (d ∷ ds) (cond (not b) (suc (pair_place ds)) zero) z))
      go true e ih m = subst T (sym e) tt
      go false e ih m = ih (le_of_suc-le-suc m)

  -- where the pair stands in a rising list, a delegation d of it comes before those after its place and no others
  module _ (d : Delegation) (p : IsPair g r d) where
    none_past : (es : List Delegation) → ((e : Delegation) → e ∈ es → T (before d e)) → leading (λ e. not (before d e)) es ≡ zero
    none_past [] h = refl
    none_past (e ∷ es) h = rw (T_true (before d e) (h e (Memᴰ.head refl)))

    pub pair_past : (ds : List Delegation) → Rising ds → pair_place ds < length ds → leading (λ e. not (before d e)) ds ≡ suc (pair_place ds)
    pair_past [] s l = absurd (not-suc-le-zero l)
    pair_past (e ∷ es) s l = go (pair_past es s.1) (is_pair g r e) refl (before d e) refl l
      where
        go : (pair_place es < length es → leading (λ x. not (before d x)) es ≡ suc (pair_place es)) → (b : Bool) → is_pair g r e ≡ b → (c : Bool) → before d e ≡ c → cond (not b) (suc (pair_place es)) zero < suc (length es)
            → cond (not c) (suc (leading (λ x. not (before d x)) es)) zero ≡ suc (cond (not b) (suc (pair_place es)) zero)
        go ih true q true c m = let (a, b) = test_pair g r e (yes q) in absurd (Before_irrefl d e (p.0 ∙ sym a) (p.1 ∙ sym b) (before_Before d e (yes c)))
        go ih true q false c m =
            let (a, b) = test_pair g r e (yes q) in
            ap suc (none_past es (λ x i. Before_before d x (Before_pairs e x d x (a ∙ sym p.0) (b ∙ sym p.1) refl refl (s.0 x i))))
        go ih false q true c m =
            let k = le_of_suc-le-suc m in
            let y = get_or es (pair_place es) e in
            let (a, b) = test_pair g r y (pair_at es e k) in
            absurd (Before_irrefl d y (p.0 ∙ sym a) (p.1 ∙ sym b) (Before_trans d e y (before_Before d e (yes c)) (s.0 y (get_or_mem es (pair_place es) e k))))
        go ih false q false c m = ap suc (ih (le_of_suc-le-suc m))

  -- the weight that stands for the pair is that of the delegation at its place
  pub weight_at_found : (ds : List Delegation) (z : Delegation) → pair_place ds < length ds → weight_at ds g r ≡ pos (get_or ds (pair_place ds) z).weight
  weight_at_found [] z l = absurd (not-suc-le-zero l)
  weight_at_found (d ∷ ds) z l = go (is_pair g r d) (weight_at_found ds z) l
    where
      go : (b : Bool) → (pair_place ds < length ds → weight_at ds g r ≡ pos (get_or ds (pair_place ds) z).weight) → cond (not b) (suc (pair_place ds)) zero < suc (length ds)
          → let k = cond (not b) (suc (pair_place ds)) zero in cond b (pos d.weight) (weight_at ds g r) ≡ pos (get_or (d ∷ ds) k z).weight
      go true ih m = refl
      go false ih m = ih (le_of_suc-le-suc m)

  pub weight_at_missing : (ds : List Delegation) → length ds ≤ pair_place ds → weight_at ds g r ≡ none
  weight_at_missing [] l = refl
  weight_at_missing (d ∷ ds) l = go (is_pair g r d) (weight_at_missing ds) l
    where
      go : (b : Bool) → (length ds ≤ pair_place ds → weight_at ds g r ≡ none) → suc (length ds) ≤ cond (not b) (suc (pair_place ds)) zero → cond b (pos d.weight) (weight_at ds g r) ≡ none
      go true ih m = absurd (not-suc-le-zero m)
      go false ih m = ih (le_of_suc-le-suc m)
