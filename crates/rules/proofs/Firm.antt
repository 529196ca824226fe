-- A delegation is firm where a round leaves its weight: where those of weight 255 are firm, each round makes one weight more firm, so at most 255 rounds change something. Assumes nothing.
use mathlib.Core.Path.{◌≡◌, refl, sym, ap, subst, ◌∙◌}
use mathlib.Core.Logic.{◌⊎◌, inl, inr}
use mathlib.Core.Bool.{not}
use mathlib.Core.List.Memᴰ
use mathlib.Core.List.{List, [], ◌∷◌}
use Prim.Native.Nat.{ℕ, zero, suc, ◌≤◌, min, zero-le, suc-le-suc}
use native.Mathlib.Nat.{le_trans, le_refl}
use native.Mathlib.Omega.{arith}
use lib.Dec.{T, eqb, eqb→eq}
use lib.IntN.{ℤ, pos, negsuc}
use Rattle.rules.specs.List.{◌∈◌}
use Rattle.rules.specs.Limit.{code, ◌≼◌}
use Rattle.rules.specs.Table.{next, TableRule}
use Rattle.rules.specs.Register.{Delegation, Register, reweigh}
use Rattle.rules.specs.Chain.{limit_from, limit, IsChain}
use Rattle.rules.specs.Support.{allowed}
use Rattle.rules.specs.Round.{capped, round, SettlesIn}
use Rattle.rules.proofs.Lists.{either, test_ne, mem_concat_map, concat_map_mem}
use Rattle.rules.proofs.Limits.{next_top}
use Rattle.rules.proofs.Chains.{limit_from_below}
use Rattle.rules.proofs.Support.{allowed_reweigh, carried_on, allowed_carried, carried_allowed}
use Rattle.rules.proofs.Rounds.{round_stays}

-- ── a chain that carries j goes over weights above j, or unlimited ones ──
module _ (t : List ℤ) (rule : TableRule t) where
  next_takes : (j : ℕ) (l : ℤ) (w : ℕ) → l ≼ pos 255 → pos j ≼ next t l w → min (suc j) 255 ≤ w
  unfolding next
  next_takes j (negsuc n) w h k = absurd (omega arith)
  next_takes j (pos a) w h k = go (either (eqb (min a w) 255))
    where
      go : T (eqb (min a w) 255) ⊎ T (not (eqb (min a w) 255)) → min (suc j) 255 ≤ w
      go (inl q) = omega (arith, eqb→eq (min a w) 255 q)
      go (inr q) =
          let n = test_ne (min a w) 255 q in
          omega (arith, rule.falls (min a w) (omega arith))

  limit_takes : (j : ℕ) (l : ℤ) (ds : List Delegation) → l ≼ pos 255 → pos j ≼ limit_from t l ds → (d : Delegation) → d ∈ ds → min (suc j) 255 ≤ d.weight
  unfolding limit_from
  limit_takes j l [] h k d m = absurd (Memᴰ.not-nil m)
  limit_takes j l (x ∷ xs) h k d (Memᴰ.head e) =
      subst (λ (y : Delegation). min (suc j) 255 ≤ y.weight) (sym e)
      (next_takes j l x.weight h (le_trans k (limit_from_below t rule (next t l x.weight) xs (next_top t rule l x.weight h))))
  limit_takes j l (x ∷ xs) h k d (Memᴰ.tail m) = limit_takes j (next t l x.weight) xs (next_top t rule l x.weight h) k d m

-- ── what a round leaves ──
capped_whole : (d : Delegation) (l : ℤ) → pos d.weight ≼ l → d ∈ capped d l
capped_whole d (pos r) h =
    let e : d.weight ≡ min d.weight r = omega arith in
    Memᴰ.head (ap (λ (w : ℕ). reweigh d w) e)
capped_whole d (negsuc n) h = absurd (omega arith)

module _ (t : List ℤ) where
  -- a weight that is allowed stays
  round_holds : (R : Register) (d : Delegation) → d ∈ R.delegations → pos d.weight ≼ allowed t R d → d ∈ (round t R).delegations
  round_holds R d m h = mem_concat_map (λ x. capped x (allowed t R x)) m (capped_whole d (allowed t R d) h)

  -- each weight left was allowed as the round began
  round_under : (R : Register) (e : Delegation) → e ∈ (round t R).delegations → pos e.weight ≼ allowed t R e
  round_under R e m =
      let (d, m', q) = concat_map_mem (λ x. capped x (allowed t R x)) R.delegations m in
      go d (allowed t R d) refl q
    where
      go : (d : Delegation) (l : ℤ) → allowed t R d ≡ l → e ∈ capped d l → pos e.weight ≼ allowed t R e
      go d (pos r) a (Memᴰ.head q) = subst (λ (x : Delegation). pos x.weight ≼ allowed t R x) (sym q) (omega (arith, ap code (allowed_reweigh t R d (min d.weight r) ∙ a)))
      go d (pos r) a (Memᴰ.tail q) = absurd (Memᴰ.not-nil q)
      go d (negsuc n) a q = absurd (Memᴰ.not-nil q)

  -- a round leaves every weight from k on
  abbrev pub Firm : ℕ → Register → Type 0
  Firm k R = (d : Delegation) → d ∈ R.delegations → k ≤ d.weight → pos d.weight ≼ allowed t R d

  module _ (rule : TableRule t) where
    -- where the weights above j are firm, or the unlimited ones for j of 254 or 255, j is firm a round later
    pub firm_round : (j : ℕ) (R : Register) → Firm (min (suc j) 255) R → Firm j (round t R)
    firm_round j R f e m h = carried_allowed t rule (round t R) e (carried_on t R (round t R) e refl stays (allowed_carried t rule R e (round_under R e m)))
      where
        -- a chain that carries e goes over firm weights
        stays : (ds : List Delegation) → IsChain t R e.giver e.receiver ds → pos e.weight ≼ limit t ds → (d : Delegation) → d ∈ ds → d ∈ (round t R).delegations
        stays ds c k d i =
            let at = c.standing d i in
            round_holds R d at (f d at (limit_takes t rule j (pos 255) ds (le_refl 256) (le_trans (suc-le-suc h) k) d i))

    -- from a register whose weights from k on are firm, at most k rounds change something
    pub firm_most : (k n : ℕ) (R F : Register) → k ≤ 255 → Firm k R → SettlesIn t n R F → n ≤ k
    firm_most k zero R F h f s = zero-le
    firm_most zero (suc n) R F h f s = absurd (s.0 (round_stays t R (λ d m. f d m zero-le)))
    firm_most (suc j) (suc n) R F h f s =
        let e : suc j ≡ min (suc j) 255 = omega arith in
        suc-le-suc (firm_most j n (round t R) F (omega arith) (firm_round j R (subst (λ (k : ℕ). Firm k R) e f)) s.1)
