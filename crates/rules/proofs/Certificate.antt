-- The certificate of a search for reach: limits that are closed under the links and attained by chains are the reaches. Walks that pass a subject again never carry more than a
-- chain. Assumes nothing.
use mathlib.Core.Path.{◌≡◌, refl, sym, subst}
use mathlib.Core.Logic.{◌≢◌, ◌⊎◌, inl, inr}
use mathlib.Core.Bool.{not}
use mathlib.Core.List.Memᴰ
use mathlib.Core.List.{List, [], ◌∷◌, ◌++◌}
use Prim.Native.Nat.{ℕ, zero, zero-le}
use native.Mathlib.Nat.{le_trans, le_refl}
use lib.Dec.{T, ltb, ltb→lt, nltb→le}
use lib.IntN.{ℤ, pos}
use Rattle.rules.specs.List.{◌∈◌}
use Rattle.rules.specs.Limit.{none, code, ◌≼◌}
use Rattle.rules.specs.Table.{next, TableRule}
use Rattle.rules.specs.Register.{Delegation, Register}
use Rattle.rules.specs.Condition.{Meets}
use Rattle.rules.specs.Chain.{Linked, receivers, limit_from, limit, IsChain}
use Rattle.rules.specs.Reach.{reach}
use Rattle.rules.proofs.Lists.{either, mem_or}
use Rattle.rules.proofs.Limits.{next_none, next_mono, next_below}
use Rattle.rules.proofs.Chains.{limit_from_top, limit_snoc, chain_owner, chain_snoc, chain_to}
use Rattle.rules.proofs.Reach.{reach_bound, reach_attained, reach_only}

-- L gives for each subject the limit of the pair (that subject, v): 255 at the owner; closed within each standing delegation that v meets; and none, or a chain's limit
pub record Certificate (t : List ℤ) (R : Register) (v : ℕ) (L : ℕ → ℤ) : Type 0 where
  pub owner : L 0 ≡ pos 255
  pub closed : (d : Delegation) → d ∈ R.delegations → Meets R v d → next t (L d.giver) d.weight ≼ L d.receiver
  pub attained : (u : ℕ) → (L u ≡ none) ⊎ ((ds : List Delegation) × IsChain t R u v ds × (L u ≡ limit t ds))

-- no walk carries more than limits that are closed so and at most 255
pub closed_bound : (t : List ℤ) → TableRule t → (R : Register) (v : ℕ) (L : ℕ → ℤ) → ((d : Delegation) → d ∈ R.delegations → Meets R v d → next t (L d.giver) d.weight ≼ L d.receiver) → ((u : ℕ) → L u ≼ pos 255)
    → (ds : List Delegation) (a u : ℕ) (l : ℤ) → l ≼ L a → Linked a ds u → ((d : Delegation) → d ∈ ds → d ∈ R.delegations) → ((d : Delegation) → d ∈ ds → Meets R v d) → limit_from t l ds ≼ L u
unfolding limit_from
closed_bound t rule R v L closed top [] a u l h p at q = subst (λ (x : ℕ). l ≼ L x) p h
closed_bound t rule R v L closed top (d ∷ ds) a u l h p at q =
    closed_bound t rule R v L closed top ds d.receiver u (next t l d.weight)
    (le_trans
    (next_mono t rule l (L d.giver) d.weight d.weight (subst (λ (x : ℕ). l ≼ L x) (sym p.0) h) (top d.giver) (le_refl d.weight))
    (closed d (at d (Memᴰ.head refl)) (q d (Memᴰ.head refl))))
    p.1 (λ x i. at x (Memᴰ.tail i)) (λ x i. q x (Memᴰ.tail i))

module _ (t : List ℤ) (rule : TableRule t) (R : Register) (v : ℕ) (L : ℕ → ℤ) (c : Certificate t R v L) where
  certified_top : (u : ℕ) → L u ≼ pos 255
  certified_top u = go (c.attained u)
    where
      go : (L u ≡ none) ⊎ ((ds : List Delegation) × IsChain t R u v ds × (L u ≡ limit t ds)) → L u ≼ pos 255
      go (inl e) = subst (λ (x : ℤ). x ≼ pos 255) (sym e) zero-le
      go (inr r) = subst (λ (x : ℤ). x ≼ pos 255) (sym r.2) (limit_from_top t rule (pos 255) r.0 (le_refl 256))

  -- no walk carries more than the certificate says
  certified_bound : (ds : List Delegation) (u : ℕ) → Linked 0 ds u → ((d : Delegation) → d ∈ ds → d ∈ R.delegations) → ((d : Delegation) → d ∈ ds → Meets R v d) → limit t ds ≼ L u
  certified_bound ds u = closed_bound t rule R v L c.closed certified_top ds 0 u (pos 255) (subst (λ (x : ℤ). pos 255 ≼ x) (sym c.owner) (le_refl 256))

  pub certified : (u : ℕ) → reach t R u v ≡ L u
  certified u = reach_only t R u v (L u) record { bounds = λ ds k. certified_bound ds u k.linked k.standing k.met; attained = c.attained u }

-- ── walks ──

-- a chain but for two clauses: subjects may be passed again, and the limit may be -1
pub record IsWalk (R : Register) (u v : ℕ) (ds : List Delegation) : Type 0 where
  pub standing : (d : Delegation) → d ∈ ds → d ∈ R.delegations
  pub linked : Linked 0 ds u
  pub met : (d : Delegation) → d ∈ ds → Meets R v d

module _ (t : List ℤ) (rule : TableRule t) (R : Register) (v : ℕ) where
  pub reach_owner : reach t R 0 v ≡ pos 255
  unfolding limit_from
  reach_owner = reach_only t R 0 v (pos 255) record {
    bounds = λ ds k. limit_from_top t rule (pos 255) ds (le_refl 256);
    attained = inr ([], chain_owner t R v, refl);
  }

  -- a delegation that v meets carries its giver's reach on
  reach_closed : (d : Delegation) → d ∈ R.delegations → Meets R v d → next t (reach t R d.giver v) d.weight ≼ reach t R d.receiver v
  reach_closed d m h = go (reach_attained t R d.giver v)
    where
      further : (ds : List Delegation) → IsChain t R d.giver v ds → (d.receiver ∈ (0 ∷ receivers ds)) ⊎ ((y : ℕ) → y ∈ (0 ∷ receivers ds) → y ≢ d.receiver)
          → next t (limit t ds) d.weight ≼ reach t R d.receiver v
      further ds c (inl i) =
          let (xs, k, up) = chain_to t rule R d.giver v d.receiver ds c i in
          le_trans (next_below t rule (limit t ds) d.weight (limit_from_top t rule (pos 255) ds (le_refl 256))) (le_trans up (reach_bound t R d.receiver v xs k))
      further ds c (inr n) = at_least (either (ltb zero (code (next t (limit t ds) d.weight))))
        where
          at_least : T (ltb zero (code (next t (limit t ds) d.weight))) ⊎ T (not (ltb zero (code (next t (limit t ds) d.weight)))) → next t (limit t ds) d.weight ≼ reach t R d.receiver v
          at_least (inl q) =
              let k = chain_snoc t R d.giver v ds d c m refl h n (ltb→lt zero (code (next t (limit t ds) d.weight)) q) in
              subst (λ (l : ℤ). l ≼ reach t R d.receiver v) (limit_snoc t ds d) (reach_bound t R d.receiver v (ds ++ (d ∷ [])) k)
          at_least (inr q) = le_trans (nltb→le zero (code (next t (limit t ds) d.weight)) q) zero-le

      go : (reach t R d.giver v ≡ none) ⊎ ((ds : List Delegation) × IsChain t R d.giver v ds × (reach t R d.giver v ≡ limit t ds)) → next t (reach t R d.giver v) d.weight ≼ reach t R d.receiver v
      go (inl e) = subst (λ (l : ℤ). next t l d.weight ≼ reach t R d.receiver v) (sym e) (le_trans (next_none t d.weight) zero-le)
      go (inr r) = subst (λ (l : ℤ). next t l d.weight ≼ reach t R d.receiver v) (sym r.2) (further r.0 r.1 (mem_or d.receiver (0 ∷ receivers r.0)))

  -- reach is a certificate of itself
  reach_certificate : Certificate t R v (λ u. reach t R u v)
  reach_certificate = record { owner = reach_owner; closed = reach_closed; attained = λ u. reach_attained t R u v }

  -- no walk carries more than the best chain
  pub walk_reach : (u : ℕ) (ds : List Delegation) → IsWalk R u v ds → limit t ds ≼ reach t R u v
  walk_reach u ds w =
      certified_bound t rule R v (λ x. reach t R x v) reach_certificate ds u w.linked w.standing w.met
