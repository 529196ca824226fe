-- Support: reach and what a delegation is allowed rise with the register, a weight is allowed exactly where a chain carries it, the test of 16 and 18 tells this, and what is
-- supported under one table is so under every table that lets a right fall no faster. No other proof but a computed example rests on the
-- text of `allowed` and `Carried`. Assumes nothing.
use mathlib.Core.Path.{◌≡◌, refl, sym, ap, subst, ◌∙◌}
use mathlib.Core.Logic.{◌⊎◌, inl, inr}
use mathlib.Core.Bool.{false, not}
use mathlib.Core.List.Memᴰ
use mathlib.Core.List.{List, [], ◌∷◌}
use Prim.Native.Nat.{ℕ, suc, zero-le}
use native.Mathlib.Nat.{le_trans, le_refl}
use native.Mathlib.Omega.{arith}
use lib.Dec.{T, ltb, ltb→lt, nltb→le, not_T}
use lib.ListN.{get_or}
use lib.IntN.{ℤ, pos}
use Rattle.rules.specs.List.{◌∈◌, Distinct}
use Rattle.rules.specs.Limit.{none, code, ◌≼◌}
use Rattle.rules.specs.Table.{next, TableRule, Below}
use Rattle.rules.specs.Register.{Delegation, Register, marks_of, reweigh}
use Rattle.rules.specs.Condition.{meets}
use Rattle.rules.specs.Chain.{Linked, receivers, limit_from, limit, IsChain}
use Rattle.rules.specs.Reach.{reach}
use Rattle.rules.specs.Support.{allowed, Carried, Supported}
use Rattle.rules.specs.Remainder.{AtMost, Within}
use Rattle.rules.specs.Refusal.{too_heavy}
use Rattle.rules.specs.Kinds.{ordinary}
use Rattle.rules.proofs.Lists.{no, unset, either, any_mem, mem_any}
use Rattle.rules.proofs.AtMost.{at_giver, at_receiver, at_meets}
use Rattle.rules.proofs.Limits.{next_mono, next_top}
use Rattle.rules.proofs.Reach.{reach_bound, reach_attained}
use Rattle.rules.proofs.Tables.{chain_under}

module _ (t : List ℤ) where
  -- what counts for a delegation is the reach of its pair
  pub allowed_reach : (R : Register) (d : Delegation) → allowed t R d ≡ reach t R d.giver d.receiver
  unfolding allowed
  allowed_reach R d = refl

  -- whatever its weight
  pub allowed_reweigh : (R : Register) (d : Delegation) (w : ℕ) → allowed t R (reweigh d w) ≡ allowed t R d
  unfolding allowed
  allowed_reweigh R d w = refl

  -- and whatever its kind
  pub allowed_ordinary : (R : Register) (d : Delegation) → allowed t R (ordinary d) ≡ allowed t R d
  unfolding allowed
  allowed_ordinary R d = refl

  -- of the register, its marks and its reaches decide it
  pub allowed_by : (R S : Register) (d : Delegation) → R.marks ≡ S.marks → ((u v : ℕ) → reach t R u v ≡ reach t S u v) → allowed t R d ≡ allowed t S d
  unfolding allowed
  allowed_by R S d m e = e d.giver d.receiver

  pub carried_chain : (R : Register) (d : Delegation) → Carried t R d → (ds : List Delegation) × IsChain t R d.giver d.receiver ds × (pos d.weight ≼ limit t ds)
  unfolding Carried
  carried_chain R d c = c

  -- what is carried within R is carried within S, where the receiver has the same marks and each chain that carries the weight stands
  pub carried_on : (R S : Register) (d : Delegation) → marks_of R d.receiver ≡ marks_of S d.receiver
      → ((ds : List Delegation) → IsChain t R d.giver d.receiver ds → pos d.weight ≼ limit t ds → (e : Delegation) → e ∈ ds → e ∈ S.delegations) → Carried t R d → Carried t S d
  unfolding Carried
  carried_on R S d marks stand (ds, c, h) = (
    ds,
    record {
      standing = stand ds c h;
      linked = c.linked;
      distinct = c.distinct;
      met = λ e i. subst (λ (x : ℕ). T (meets x e.need e.bar)) marks (c.met e i);
      live = c.live;
    },
    h,
  )

module _ (t : List ℤ) (rule : TableRule t) where
  -- the list ds, taken over delegations that G holds at least as heavy
  record Lifted (G : Register) (m : ℕ) (ds es : List Delegation) : Type 0 where
    standing : (e : Delegation) → e ∈ es → e ∈ G.delegations
    ends : receivers ds ≡ receivers es
    linked : (a u : ℕ) → Linked a ds u → Linked a es u
    met : (e : Delegation) → e ∈ es → T (meets m e.need e.bar)
    carries : (k l : ℤ) → k ≼ l → l ≼ pos 255 → limit_from t k ds ≼ limit_from t l es

  lift_cons : (G : Register) (m : ℕ) (d e : Delegation) (ds es : List Delegation) → e ∈ G.delegations → AtMost d e → T (meets m d.need d.bar) → Lifted G m ds es → Lifted G m (d ∷ ds) (e ∷ es)
  unfolding limit_from
  lift_cons G m d e ds es at a h s = record {
    standing = stands;
    ends = λ i. at_receiver a i ∷ s.ends i;
    linked = λ x u p. (sym (at_giver a) ∙ p.0, s.linked e.receiver u (subst (λ (y : ℕ). Linked y ds u) (at_receiver a) p.1));
    met = meet;
    carries = λ k l p q. s.carries (next t k d.weight) (next t l e.weight) (next_mono t rule k l d.weight e.weight p q a.weight) (next_top t rule l e.weight q);
  }
    where
      stands : (x : Delegation) → x ∈ (e ∷ es) → x ∈ G.delegations
      stands x (Memᴰ.head i) = subst (λ (y : Delegation). y ∈ G.delegations) (sym i) at
      stands x (Memᴰ.tail i) = s.standing x i

      meet : (x : Delegation) → x ∈ (e ∷ es) → T (meets m x.need x.bar)
      meet x (Memᴰ.head i) = subst (λ (y : Delegation). T (meets m y.need y.bar)) (sym i) (at_meets a m h)
      meet x (Memᴰ.tail i) = s.met x i

  lift : (F G : Register) (m : ℕ) → Within F G → (ds : List Delegation) → ((d : Delegation) → d ∈ ds → d ∈ F.delegations)
      → ((d : Delegation) → d ∈ ds → T (meets m d.need d.bar)) → (es : List Delegation) × Lifted G m ds es
  unfolding limit_from
  lift F G m within [] at h = (
    [],
    record {
      standing = λ e q. absurd (Memᴰ.not-nil q);
      ends = refl;
      linked = λ a u p. p;
      met = λ e q. absurd (Memᴰ.not-nil q);
      carries = λ k l p q. p;
    },
  )
  lift F G m within (d ∷ ds) at h =
      let (e, m', a) = within.held d (at d (Memᴰ.head refl)) in
      let (es, s) = lift F G m within ds (λ x q. at x (Memᴰ.tail q)) (λ x q. h x (Memᴰ.tail q)) in
      (e ∷ es, lift_cons G m d e ds es m' a (h d (Memᴰ.head refl)) s)

  -- a chain within F gives one within G that carries at least as much
  chain_mono : (F G : Register) (u v : ℕ) → Within F G → (ds : List Delegation) → IsChain t F u v ds → (es : List Delegation) × IsChain t G u v es × (limit t ds ≼ limit t es)
  chain_mono F G u v within ds c =
      let (es, s) = lift F G (marks_of F v) within ds c.standing c.met in
      let up = s.carries (pos 255) (pos 255) (le_refl 256) (le_refl 256) in (
        es,
        record {
          standing = s.standing;
          linked = s.linked 0 u c.linked;
          distinct = subst (λ (x : List ℕ). Distinct (0 ∷ x)) s.ends c.distinct;
          met = λ e q. subst (λ (x : List ℕ). T (meets (get_or x v 0) e.need e.bar)) within.marks (s.met e q);
          live = le_trans c.live up;
        },
        up,
      )

  -- reach rises with the register
  pub reach_mono : (F G : Register) (u v : ℕ) → Within F G → reach t F u v ≼ reach t G u v
  reach_mono F G u v within = go (reach_attained t F u v)
    where
      go : (reach t F u v ≡ none) ⊎ ((ds : List Delegation) × IsChain t F u v ds × (reach t F u v ≡ limit t ds)) → reach t F u v ≼ reach t G u v
      go (inl e) = subst (λ (x : ℤ). x ≼ reach t G u v) (sym e) zero-le
      go (inr r) =
          let (ds, c, e) = r in
          let (es, c', up) = chain_mono F G u v within ds c in
          subst (λ (x : ℤ). x ≼ reach t G u v) (sym e) (le_trans up (reach_bound t G u v es c'))

  -- ── the two sides of support: every other law uses these ──
  pub allowed_mono : (F G : Register) (d e : Delegation) → Within F G → AtMost d e → allowed t F d ≼ allowed t G e
  unfolding allowed
  allowed_mono F G d e within a =
      subst (λ (x : ℕ). reach t F d.giver d.receiver ≼ reach t G x e.receiver) (at_giver a)
      (subst (λ (x : ℕ). reach t F d.giver d.receiver ≼ reach t G d.giver x) (at_receiver a) (reach_mono F G d.giver d.receiver within))

  -- a weight is allowed exactly where some chain carries it
  pub allowed_carried : (R : Register) (d : Delegation) → pos d.weight ≼ allowed t R d → Carried t R d
  unfolding allowed Carried
  allowed_carried R d h = go (reach_attained t R d.giver d.receiver)
    where
      go : (reach t R d.giver d.receiver ≡ none) ⊎ ((ds : List Delegation) × IsChain t R d.giver d.receiver ds × (reach t R d.giver d.receiver ≡ limit t ds))
          → (ds : List Delegation) × IsChain t R d.giver d.receiver ds × (pos d.weight ≼ limit t ds)
      go (inl e) = absurd (omega (arith, ap code e))
      go (inr r) = (r.0, r.1, subst (λ (x : ℤ). pos d.weight ≼ x) r.2 h)

  pub carried_allowed : (R : Register) (d : Delegation) → Carried t R d → pos d.weight ≼ allowed t R d
  unfolding allowed Carried
  carried_allowed R d c = le_trans c.2 (reach_bound t R d.giver d.receiver c.0 c.1)

  -- what is carried within F is carried within a register that holds F
  pub carried_mono : (F G : Register) (d : Delegation) → Within F G → Carried t F d → Carried t G d
  unfolding Carried
  carried_mono F G d w c = let (es, k, up) = chain_mono F G d.giver d.receiver w c.0 c.1 in (es, k, le_trans c.2 up)

-- ── the test of 16 and 18 ──
module _ (t : List ℤ) (R : Register) (ds : List Delegation) where
  -- it tells whether every weight is at most the reach that counts for it
  pub light_allowed : too_heavy t R ds ≡ false → (d : Delegation) → d ∈ ds → pos d.weight ≼ allowed t R d
  light_allowed e d m = go (either (ltb (code (allowed t R d)) (suc d.weight)))
    where
      go : T (ltb (code (allowed t R d)) (suc d.weight)) ⊎ T (not (ltb (code (allowed t R d)) (suc d.weight))) → pos d.weight ≼ allowed t R d
      go (inl h) = absurd (no e (any_mem (λ x. ltb (code (allowed t R x)) (suc x.weight)) m h))
      go (inr h) = nltb→le (code (allowed t R d)) (suc d.weight) h

  pub allowed_light : ((d : Delegation) → d ∈ ds → pos d.weight ≼ allowed t R d) → too_heavy t R ds ≡ false
  allowed_light h = unset (too_heavy t R ds) (not_T (too_heavy t R ds) over)
    where
      over : T (too_heavy t R ds) → ⊥
      over q =
          let (d, m, l) = mem_any (λ x. ltb (code (allowed t R x)) (suc x.weight)) ds q in
          omega (arith, h d m, ltb→lt (code (allowed t R d)) (suc d.weight) l)

-- for all that stand it fails exactly where every delegation is supported
pub too_heavy_right : (t : List ℤ) → TableRule t → (R : Register) → (too_heavy t R R.delegations ≡ false → Supported t R) × (Supported t R → too_heavy t R R.delegations ≡ false)
too_heavy_right t rule R = (
  λ e d m. allowed_carried t rule R d (light_allowed t R R.delegations e d m),
  λ s. allowed_light t R R.delegations (λ d m. carried_allowed t rule R d (s d m)),
)

-- ── two tables: m lets a right fall no faster than t ──
module _ (t m : List ℤ) (rule : TableRule m) (below : Below t m) where
  pub carried_under : (R : Register) (d : Delegation) → Carried t R d → Carried m R d
  unfolding Carried
  carried_under R d (ds, c, h) = let (k, up) = chain_under t m rule below R d.giver d.receiver ds c in (ds, k, le_trans h up)

  pub supported_under : (R : Register) → Supported t R → Supported m R
  supported_under R s d i = carried_under R d (s d i)
