-- The delegation of a pair is on no chain of that pair, so what counts for the pair does not hang on its own weight. Assumes nothing.
use mathlib.Core.Path.{◌≡◌, refl, sym, ap, subst, ◌∙◌}
use mathlib.Core.Logic.{◌⊎◌, inl, inr}
use mathlib.Core.Bool.{Bool, true, false, cond}
use mathlib.Core.List.Memᴰ
use mathlib.Core.List.{List, [], ◌∷◌}
use Prim.Native.Nat.{ℕ}
use lib.IntN.{ℤ}
use Rattle.rules.specs.List.{◌∈◌, Distinct}
use Rattle.rules.specs.Limit.{none}
use Rattle.rules.specs.Register.{Delegation, Register, reweigh}
use Rattle.rules.specs.Chain.{limit, Linked, receivers, IsChain}
use Rattle.rules.specs.Reach.{IsReach, reach}
use Rattle.rules.specs.Pair.{is_pair, set_for, reweighed}
use Rattle.rules.proofs.Lists.{yes, mem_map, map_mem}
use Rattle.rules.proofs.Pairs.{test_pair}
use Rattle.rules.proofs.Reach.{reach_is, reach_only}

-- a chain of one link or more ends at a receiver
ends : (d : Delegation) (ds : List Delegation) (u : ℕ) → Linked d.receiver ds u → u ∈ receivers (d ∷ ds)
ends d [] u l = Memᴰ.head (sym l)
ends d (e ∷ es) u l = Memᴰ.tail (ends e es u l.1)

-- the subject where a chain ends gives nothing on it
not_given : (a u : ℕ) (ds : List Delegation) → Linked a ds u → Distinct (a ∷ receivers ds) → (d : Delegation) → d ∈ ds → d.giver ≡ u → ⊥
not_given a u [] l s d m g = Memᴰ.not-nil m
not_given a u (x ∷ xs) l s d (Memᴰ.head q) g = s.0 u (ends x xs u l.1) (sym l.0 ∙ ap (λ (y : Delegation). y.giver) (sym q) ∙ g)
not_given a u (x ∷ xs) l s d (Memᴰ.tail m) g = not_given x.receiver u xs l.1 s.1 d m g

pub own_not_on : (t : List ℤ) (R : Register) (u v : ℕ) (ds : List Delegation) → IsChain t R u v ds → (d : Delegation) → d ∈ ds → d.giver ≡ u → ⊥
own_not_on t R u v ds c d m g = not_given 0 u ds c.linked c.distinct d m g

module _ (t : List ℤ) (R : Register) (u v w : ℕ) where
  abbrev S : Register
  S = reweighed R u v w

  -- a chain of the pair is one after its weight was set, and the other way
  chain_after : (ds : List Delegation) → IsChain t R u v ds → IsChain t S u v ds
  chain_after ds c = record { standing = λ d m. there d m (is_pair u v d) refl (mem_map (set_for u v w) (c.standing d m)); linked = c.linked; distinct = c.distinct; met = c.met; live = c.live }
    where
      there : (d : Delegation) → d ∈ ds → (b : Bool) → is_pair u v d ≡ b → cond b (reweigh d w) d ∈ S.delegations → d ∈ S.delegations
      there d m true q i = absurd (own_not_on t R u v ds c d m (test_pair u v d (yes q)).0)
      there d m false q i = i

  chain_before : (ds : List Delegation) → IsChain t S u v ds → IsChain t R u v ds
  chain_before ds c = record { standing = λ d m. let (x, i, e) = map_mem (set_for u v w) R.delegations (c.standing d m) in was d x m i (is_pair u v x) refl e; linked = c.linked; distinct = c.distinct; met = c.met; live = c.live }
    where
      was : (d x : Delegation) → d ∈ ds → x ∈ R.delegations → (b : Bool) → is_pair u v x ≡ b → d ≡ cond b (reweigh x w) x → d ∈ R.delegations
      was d x m i true q e = absurd (own_not_on t S u v ds c d m (ap (λ (y : Delegation). y.giver) e ∙ (test_pair u v x (yes q)).0))
      was d x m i false q e = subst (λ (y : Delegation). y ∈ R.delegations) (sym e) i

  -- THE LAW: the reach that counts for a pair is the same whatever its weight
  pub own_reach : reach t S u v ≡ reach t R u v
  own_reach = reach_only t S u v (reach t R u v) record { bounds = λ ds c. found.bounds ds (chain_before ds c); attained = go found.attained }
    where
      found : IsReach t R u v (reach t R u v)
      found = reach_is t R u v

      go : (reach t R u v ≡ none) ⊎ ((ds : List Delegation) × IsChain t R u v ds × (reach t R u v ≡ limit t ds)) → (reach t R u v ≡ none) ⊎ ((ds : List Delegation) × IsChain t S u v ds × (reach t R u v ≡ limit t ds))
      go (inl e) = inl e
      go (inr (ds, c, e)) = inr (ds, chain_after ds c, e)
