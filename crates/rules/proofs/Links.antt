-- The chain that a search found, followed back from its end by the delegation that raised each subject: head first, at most 63 links. Assumes nothing.
use mathlib.Core.Path.{◌≡◌, refl, sym, ap, subst, ◌∙◌}
use mathlib.Core.Logic.{◌≢◌, ◌⊎◌, inl, inr}
use mathlib.Core.Bool.{Bool, true, false, not}
use mathlib.Core.List.Memᴰ
use mathlib.Core.List.{List, [], ◌∷◌, ◌++◌}
use Prim.Native.Nat.{ℕ, zero, suc, ◌≤◌, ◌<◌}
use native.Mathlib.Omega.{arith}
use lib.Dec.{T, eqb, eqb→eq, not_T}
use lib.ListN.{length, length-append}
use lib.IntN.{ℤ}
use Rattle.rules.specs.List.{◌∈◌}
use Rattle.rules.specs.Register.{Delegation, Register}
use Rattle.rules.specs.Links.{links_to}
use Rattle.rules.specs.Chain.{Linked, receivers, IsChain}
use Rattle.rules.proofs.Lists.{eq_to_eqb}
use Rattle.rules.proofs.Chains.{mem_receivers, receivers_mem, distinct_length}
use Rattle.rules.proofs.Search.{Found}

-- a list is empty, or has a last element
pub last_or : (ds : List Delegation) → (ds ≡ []) ⊎ ((xs : List Delegation) × (d : Delegation) × (ds ≡ xs ++ (d ∷ [])))
last_or [] = inl refl
last_or (x ∷ xs) = go (last_or xs)
  where
    go : (xs ≡ []) ⊎ ((ys : List Delegation) × (d : Delegation) × (xs ≡ ys ++ (d ∷ []))) → (◌≡◌ {A = List Delegation} (x ∷ xs) []) ⊎ ((ys : List Delegation) × (d : Delegation) × (x ∷ xs ≡ ys ++ (d ∷ [])))
    go (inl e) = inr ([], x, ap (λ (zs : List Delegation). x ∷ zs) e)
    go (inr r) = inr (x ∷ r.0, r.1, ap (λ (zs : List Delegation). x ∷ zs) r.2)

pub unsnoc_linked : (xs : List Delegation) (d : Delegation) (a u : ℕ) → Linked a (xs ++ (d ∷ [])) u → Linked a xs d.giver × (d.receiver ≡ u)
unsnoc_linked [] d a u p = (sym p.0, p.1)
unsnoc_linked (x ∷ xs) d a u p = let (q, e) = unsnoc_linked xs d x.receiver u p.1 in ((p.0, q), e)

module _ (parent : ℕ → Delegation) where
  pub links_to_owner : (k u : ℕ) → u ≡ 0 → links_to parent k u ≡ []
  links_to_owner zero u e = refl
  links_to_owner (suc k) u e = go (eqb u 0) (eq_to_eqb e)
    where
      go : (b : Bool) → T b → let r : List Delegation = elim b [ true ↦ [] | false ↦ links_to parent k (parent u).giver ++ (parent u ∷ []) ] in r ≡ []
      go true h = refl
      go false h = absurd h

  pub links_to_step : (k u : ℕ) → u ≢ 0 → links_to parent (suc k) u ≡ links_to parent k (parent u).giver ++ (parent u ∷ [])
  links_to_step k u n = go (eqb u 0) (not_T (eqb u 0) (λ q. n (eqb→eq u 0 q)))
    where
      go : (b : Bool) → T (not b) → let r : List Delegation = elim b [ true ↦ [] | false ↦ links_to parent k (parent u).giver ++ (parent u ∷ []) ] in r ≡ links_to parent k (parent u).giver ++ (parent u ∷ [])
      go true h = absurd h
      go false h = refl

  -- where each delegation of a linked list is the one of its receiver, and the owner receives nothing, the links are the list
  Traces : ℕ → List Delegation → Type 0
  Traces u ds = Linked 0 ds u × ((d : Delegation) → d ∈ ds → 0 ≢ d.receiver) × ((d : Delegation) → d ∈ ds → parent d.receiver ≡ d)

  links_to_empty : (k u : ℕ) (ds : List Delegation) → Traces u ds → ds ≡ [] → links_to parent k u ≡ ds
  unfolding Traces
  links_to_empty k u ds q e = links_to_owner k u (sym (subst (λ (xs : List Delegation). Linked 0 xs u) e q.0)) ∙ sym e

  links_to_snoc : (k u : ℕ) (xs : List Delegation) (d : Delegation) → Traces u (xs ++ (d ∷ [])) → (Traces d.giver xs → links_to parent k d.giver ≡ xs) → links_to parent (suc k) u ≡ xs ++ (d ∷ [])
  unfolding Traces
  links_to_snoc k u xs d q ih =
      let (p, e) = unsnoc_linked xs d 0 u q.0 in
      let at = Memᴰ.append_right xs (Memᴰ.head refl) in
      let n : u ≢ 0 = λ z. q.1 d at (sym (e ∙ z)) in
      let same : parent u ≡ d = ap parent (sym e) ∙ q.2 d at in
      let rest = ih (p, (λ x m. q.1 x (Memᴰ.append_left (d ∷ []) m)), (λ x m. q.2 x (Memᴰ.append_left (d ∷ []) m))) in
      links_to_step k u n ∙ ap (λ (x : Delegation). links_to parent k x.giver ++ (x ∷ [])) same ∙ ap (λ (zs : List Delegation). zs ++ (d ∷ [])) rest

  links_to_is : (k u : ℕ) (ds : List Delegation) → length ds ≤ k → Traces u ds → links_to parent k u ≡ ds
  links_to_is zero u [] l q = refl
  links_to_is zero u (d ∷ ds) l q = absurd (omega arith)
  links_to_is (suc k) u ds l q = go (links_to_is k) (last_or ds)
    where
      go : ((x : ℕ) (xs : List Delegation) → length xs ≤ k → Traces x xs → links_to parent k x ≡ xs) → (ds ≡ []) ⊎ ((xs : List Delegation) × (d : Delegation) × (ds ≡ xs ++ (d ∷ []))) → links_to parent (suc k) u ≡ ds
      go ih (inl e) = links_to_empty (suc k) u ds q e
      go ih (inr r) =
          let (xs, d, e) = r in
          links_to_snoc k u xs d (subst (λ (zs : List Delegation). Traces u zs) e q) (ih d.giver xs (omega (arith, ap length e, length-append xs (d ∷ [])))) ∙ sym e

-- a chain over subjects below 64 has at most 63 links
pub chain_short : (t : List ℤ) (R : Register) (u v : ℕ) (ds : List Delegation) → ((d : Delegation) → d ∈ R.delegations → d.receiver < 64) → IsChain t R u v ds → length ds ≤ 63
chain_short t R u v ds f c = omega (arith, distinct_length 64 (0 ∷ receivers ds) c.distinct below, long ds)
  where
    long : (xs : List Delegation) → length (receivers xs) ≡ length xs
    long [] = refl
    long (x ∷ xs) = ap suc (long xs)

    below : (x : ℕ) → x ∈ (0 ∷ receivers ds) → x < 64
    below x (Memᴰ.head e) = omega arith
    below x (Memᴰ.tail m) = let r = receivers_mem ds m in omega (arith, r.2, f r.0 (c.standing r.0 r.1))

-- the chain that a search found is what its parents lead back along
pub found_links : (t : List ℤ) (R : Register) (v : ℕ) (L : ℕ → ℤ) (settled : ℕ → Bool) (parent : ℕ → Delegation) (u : ℕ) → ((d : Delegation) → d ∈ R.delegations → d.receiver < 64) → (f : Found t R v L settled parent u) → links_to parent 63 u ≡ f.links
unfolding Traces
found_links t R v L settled parent u w f =
    links_to_is parent 63 u f.links (chain_short t R u v f.links w f.chain) (f.chain.linked, (λ d m. f.chain.distinct.0 d.receiver (mem_receivers m)), f.traced)
