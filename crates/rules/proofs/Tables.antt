-- Two step tables, where m lets a right fall no faster than t: limits, chains and reach under t are at most those under m. Support and calls under the two: `supported_under`
-- (proofs/Support.antt), `call_step_under` (proofs/Calls.antt). Assumes nothing.
use mathlib.Core.Path.{◌≡◌, sym, subst}
use mathlib.Core.Logic.{◌⊎◌, inl, inr}
use mathlib.Core.List.{List, [], ◌∷◌}
use Prim.Native.Nat.{ℕ, min, zero-le}
use native.Mathlib.Nat.{le_trans, le_refl}
use native.Mathlib.Omega.{arith}
use lib.IntN.{ℤ, pos, negsuc}
use Rattle.rules.specs.Limit.{none, ◌≼◌}
use Rattle.rules.specs.Table.{next, TableRule, Below}
use Rattle.rules.specs.Register.{Delegation, Register}
use Rattle.rules.specs.Chain.{limit_from, limit, IsChain}
use Rattle.rules.specs.Reach.{reach}
use Rattle.rules.proofs.Limits.{next_mono, next_top}
use Rattle.rules.proofs.Reach.{reach_bound, reach_attained}

pub Below_refl : (t : List ℤ) → Below t t
Below_refl t w h = le_refl _

module _ (t m : List ℤ) (rule : TableRule m) (below : Below t m) where
  next_entry : (l : ℤ) (w : ℕ) → l ≼ pos 255 → next t l w ≼ next m l w
  unfolding next
  next_entry (pos a) w h = below (min a w) (omega arith)
  next_entry (negsuc a) w h = zero-le

  pub next_under : (k l : ℤ) (w : ℕ) → k ≼ l → l ≼ pos 255 → next t k w ≼ next m l w
  next_under k l w h top = le_trans (next_entry k w (le_trans h top)) (next_mono m rule k l w w h top (le_refl w))

  limit_from_under : (k l : ℤ) (ds : List Delegation) → k ≼ l → l ≼ pos 255 → limit_from t k ds ≼ limit_from m l ds
  unfolding limit_from
  limit_from_under k l [] h top = h
  limit_from_under k l (d ∷ ds) h top = limit_from_under (next t k d.weight) (next m l d.weight) ds (next_under k l d.weight h top) (next_top m rule l d.weight top)

  -- a chain under t is a chain under m, and carries at least as much there
  pub chain_under : (R : Register) (u v : ℕ) (ds : List Delegation) → IsChain t R u v ds → IsChain m R u v ds × (limit t ds ≼ limit m ds)
  chain_under R u v ds c =
      let up = limit_from_under (pos 255) (pos 255) ds (le_refl 256) (le_refl 256) in
      (record { standing = c.standing; linked = c.linked; distinct = c.distinct; met = c.met; live = le_trans c.live up }, up)

  pub reach_under : (R : Register) (u v : ℕ) → reach t R u v ≼ reach m R u v
  reach_under R u v = go (reach_attained t R u v)
    where
      go : (reach t R u v ≡ none) ⊎ ((ds : List Delegation) × IsChain t R u v ds × (reach t R u v ≡ limit t ds)) → reach t R u v ≼ reach m R u v
      go (inl e) = subst (λ (x : ℤ). x ≼ reach m R u v) (sym e) zero-le
      go (inr (ds, c, e)) =
          let (k, up) = chain_under R u v ds c in
          subst (λ (x : ℤ). x ≼ reach m R u v) (sym e) (le_trans up (reach_bound m R u v ds k))
