-- THE BOUND: a cut takes fewer than 512 rounds. While the unlimited delegations change each round takes one away, and after that at most 255 rounds change something. Assumes nothing.
use mathlib.Core.Path.{◌≡◌, refl, sym, ap, subst}
use mathlib.Core.Logic.{◌⊎◌, inl, inr}
use mathlib.Core.Bool.{Bool, true, false, not, cond}
use mathlib.Core.List.Memᴰ
use mathlib.Core.List.{List, [], ◌∷◌, ◌++◌}
use Prim.Native.Nat.{ℕ, zero, suc, ◌+◌, ◌≤◌, ◌<◌, min, zero-le, suc-le-suc}
use native.Mathlib.Nat.{le_refl}
use native.Mathlib.Omega.{arith}
use lib.Dec.{T, leb, eqb, eqb→eq, leb→le, nleb→lt, ltb→lt, not_T}
use lib.ListN.{length}
use lib.IntN.{ℤ, pos, negsuc}
use Rattle.rules.specs.List.{◌∈◌, keep, filter, concat_map}
use Rattle.rules.specs.Limit.{code, ◌≼◌}
use Rattle.rules.specs.Table.{steps, TableRule}
use Rattle.rules.specs.Register.{Delegation, Register, reweigh}
use Rattle.rules.specs.Support.{allowed}
use Rattle.rules.specs.Pair.{is_pair, weight_at, set_for}
use Rattle.rules.specs.Round.{capped, round, settle, SettlesIn}
use Rattle.rules.specs.Cut.{Cut, removal, lowering, named}
use Rattle.rules.specs.WellFormed.{WellFormed}
use Rattle.rules.specs.Bound.{is_unlimited, unlimited, Names, RoundsAtMost, RoundsBelow, Bounded}
use Rattle.rules.proofs.Lists.{either, eq_to_eqb, T_not_not, filter_length, filter_shorter, mem_map}
use Rattle.rules.proofs.Table.{steps_rule}
use Rattle.rules.proofs.Rounds.{settle_right}
use Rattle.rules.proofs.WellFormed.{round_formed}
use Rattle.rules.proofs.Pairs.{pair_found}
use Rattle.rules.proofs.Calls.{removed_formed, lowered_formed}
use Rattle.rules.proofs.Firm.{Firm, firm_most}

-- ── the elements that pass a test, counted ──
module _ {A : Type 0} where
  keep_le : (a b : Bool) (x y : A) (xs ys : List A) → (T a → T b) → length xs ≤ length ys → length (keep a x xs) ≤ length (keep b y ys)
  keep_le true true x y xs ys h l = suc-le-suc l
  keep_le true false x y xs ys h l = absurd (h tt)
  keep_le false true x y xs ys h l = omega arith
  keep_le false false x y xs ys h l = l

  keep_lt : (a b : Bool) (x y : A) (xs ys : List A) → (T a → T b) → length xs < length ys → length (keep a x xs) < length (keep b y ys)
  keep_lt true true x y xs ys h l = suc-le-suc l
  keep_lt true false x y xs ys h l = absurd (h tt)
  keep_lt false true x y xs ys h l = omega arith
  keep_lt false false x y xs ys h l = l

  keep_falls : (a b : Bool) (x y : A) (xs ys : List A) → (T a → ⊥) → T b → length xs ≤ length ys → length (keep a x xs) < length (keep b y ys)
  keep_falls true b x y xs ys h k l = absurd (h tt)
  keep_falls false true x y xs ys h k l = suc-le-suc l
  keep_falls false false x y xs ys h k l = absurd k

-- ── a round takes an unlimited delegation away, or all of them are firm ──

-- a delegation that is unlimited after a round was so before it
was : (w r : ℕ) → w ≤ 255 → T (eqb (min w r) 255) → T (eqb w 255)
was w r h q = let e = eqb→eq (min w r) 255 q in let e' : w ≡ 255 = omega arith in eq_to_eqb e'

capped_few : (d : Delegation) (l : ℤ) (xs ys : List Delegation) → d.weight ≤ 255 → unlimited xs ≤ unlimited ys → unlimited (capped d l ++ xs) ≤ unlimited (d ∷ ys)
capped_few d (pos r) xs ys w h = keep_le (eqb (min d.weight r) 255) (is_unlimited d) (reweigh d (min d.weight r)) d (filter is_unlimited xs) (filter is_unlimited ys) (was d.weight r w) h
capped_few d (negsuc n) xs ys w h = keep_le false (is_unlimited d) d d (filter is_unlimited xs) (filter is_unlimited ys) (λ q. absurd q) h

capped_fewer : (d : Delegation) (l : ℤ) (xs ys : List Delegation) → d.weight ≤ 255 → unlimited xs < unlimited ys → unlimited (capped d l ++ xs) < unlimited (d ∷ ys)
capped_fewer d (pos r) xs ys w h = keep_lt (eqb (min d.weight r) 255) (is_unlimited d) (reweigh d (min d.weight r)) d (filter is_unlimited xs) (filter is_unlimited ys) (was d.weight r w) h
capped_fewer d (negsuc n) xs ys w h = keep_lt false (is_unlimited d) d d (filter is_unlimited xs) (filter is_unlimited ys) (λ q. absurd q) h

capped_loses : (d : Delegation) (l : ℤ) (xs ys : List Delegation) → d.weight ≡ 255 → code l ≤ 255 → unlimited xs ≤ unlimited ys → unlimited (capped d l ++ xs) < unlimited (d ∷ ys)
capped_loses d (pos r) xs ys w k h =
    keep_falls (eqb (min d.weight r) 255) (is_unlimited d) (reweigh d (min d.weight r)) d (filter is_unlimited xs) (filter is_unlimited ys)
    (λ q. let e = eqb→eq (min d.weight r) 255 q in omega arith) (eq_to_eqb w) h
capped_loses d (negsuc n) xs ys w k h = keep_falls false (is_unlimited d) d d (filter is_unlimited xs) (filter is_unlimited ys) (λ q. q) (eq_to_eqb w) h

module _ (f : Delegation → ℤ) where
  capped_all_few : (ds : List Delegation) → ((d : Delegation) → d ∈ ds → d.weight ≤ 255) → unlimited (concat_map (λ d. capped d (f d)) ds) ≤ unlimited ds
  capped_all_few [] h = zero-le
  capped_all_few (d ∷ ds) h = capped_few d (f d) (concat_map (λ d. capped d (f d)) ds) ds (h d (Memᴰ.head refl)) (capped_all_few ds (λ e m. h e (Memᴰ.tail m)))

  capped_all_firm : (ds : List Delegation) → ((d : Delegation) → d ∈ ds → d.weight ≤ 255)
      → ((d : Delegation) → d ∈ ds → 255 ≤ d.weight → pos d.weight ≼ f d) ⊎ (unlimited (concat_map (λ d. capped d (f d)) ds) < unlimited ds)
  capped_all_firm [] h = inl (λ d m. absurd (Memᴰ.not-nil m))
  capped_all_firm (d ∷ ds) h = go (capped_all_firm ds (λ e m. h e (Memᴰ.tail m))) (either (leb 255 d.weight)) (either (leb (suc d.weight) (code (f d))))
    where
      all : (255 ≤ d.weight → pos d.weight ≼ f d) → ((e : Delegation) → e ∈ ds → 255 ≤ e.weight → pos e.weight ≼ f e) → (e : Delegation) → e ∈ (d ∷ ds) → 255 ≤ e.weight → pos e.weight ≼ f e
      all a b e (Memᴰ.head q) = subst (λ (x : Delegation). 255 ≤ x.weight → pos x.weight ≼ f x) (sym q) a
      all a b e (Memᴰ.tail m) = b e m

      go : ((e : Delegation) → e ∈ ds → 255 ≤ e.weight → pos e.weight ≼ f e) ⊎ (unlimited (concat_map (λ d. capped d (f d)) ds) < unlimited ds)
          → T (leb 255 d.weight) ⊎ T (not (leb 255 d.weight)) → T (leb (suc d.weight) (code (f d))) ⊎ T (not (leb (suc d.weight) (code (f d))))
          → ((e : Delegation) → e ∈ (d ∷ ds) → 255 ≤ e.weight → pos e.weight ≼ f e) ⊎ (unlimited (concat_map (λ d. capped d (f d)) (d ∷ ds)) < unlimited (d ∷ ds))
      go (inr s) p q = inr (capped_fewer d (f d) (concat_map (λ d. capped d (f d)) ds) ds (h d (Memᴰ.head refl)) s)
      go (inl s) (inr p) q = inl (all (λ k. absurd (omega (arith, nleb→lt 255 d.weight p))) s)
      go (inl s) (inl p) (inl q) = inl (all (λ k. leb→le (suc d.weight) (code (f d)) q) s)
      go (inl s) (inl p) (inr q) =
          let k = nleb→lt (suc d.weight) (code (f d)) q in
          let w = h d (Memᴰ.head refl) in
          let p' = leb→le 255 d.weight p in
          inr (capped_loses d (f d) (concat_map (λ d. capped d (f d)) ds) ds (omega arith) (omega arith) (capped_all_few ds (λ e m. h e (Memᴰ.tail m))))

-- ── rounds from any well-formed register ──
module _ (t : List ℤ) (rule : TableRule t) where
  settles_few : (n : ℕ) (C F : Register) → WellFormed C → SettlesIn t n C F → n ≤ unlimited C.delegations + 255
  settles_few zero C F f s = zero-le
  settles_few (suc n) C F f s = go (capped_all_firm (allowed t C) C.delegations (λ d m. (f.each d m).weight)) (settles_few n (round t C) F (round_formed t C f) s.1)
    where
      go : Firm t 255 C ⊎ (unlimited (round t C).delegations < unlimited C.delegations) → n ≤ unlimited (round t C).delegations + 255 → suc n ≤ unlimited C.delegations + 255
      go (inl k) ih = omega (arith, firm_most t rule 255 (suc n) C F (le_refl 255) k s)
      go (inr k) ih = omega arith

  settle_few : (C : Register) → WellFormed C → (settle t C).changed ≤ unlimited C.delegations + 255
  settle_few C f = settles_few (settle t C).changed C (settle t C).left f (settle_right t C)

  pub rounds_most : RoundsAtMost t
  rounds_most C f = (omega (arith, settle_few C f), omega (arith, settle_few C f, filter_length is_unlimited C.delegations, f.few))

-- ── the named change leaves at most 255 unlimited ──

-- one that is not unlimited makes them fewer
not_all : (ds : List Delegation) (d : Delegation) → d ∈ ds → d.weight < 255 → unlimited ds < length ds
not_all ds d m h = filter_shorter is_unlimited m (not_T (eqb d.weight 255) (λ q. let e = eqb→eq d.weight 255 q in omega arith))

named_few : (R : Register) (k : Cut) → WellFormed R → Names R k → (unlimited (named R k).delegations < 256) × WellFormed (named R k)
unfolding named
named_few R (removal g r) f n =
    let (d, m, p, q) = pair_found g r R.delegations (ltb→lt zero (code (weight_at R.delegations g r)) n) in
    let f' = removed_formed R g r f in
    (omega (arith, filter_length is_unlimited (filter (λ (x : Delegation). not (is_pair g r x)) R.delegations), filter_shorter (λ (x : Delegation). not (is_pair g r x)) m (T_not_not (is_pair g r d) p), f.few), f')
named_few R (lowering g r w) f n =
    let (d, m, p, q) = pair_found g r R.delegations (omega arith) in
    let l : w < 255 = omega (arith, ap code q, (f.each d m).weight) in
    let f' = lowered_formed R g r w (omega arith) f in
    let m' = mem_map (set_for g r w) m in
    (omega (arith, not_all _ _ m' (light d (is_pair g r d) p l), f'.few), f')
  where
    light : (d : Delegation) (b : Bool) → T b → w < 255 → (cond b (reweigh d w) d).weight < 255
    light d true p l = l
    light d false p l = absurd p

module _ (t : List ℤ) (rule : TableRule t) where
  pub rounds_below : RoundsBelow t
  rounds_below R k f n = let (u, f') = named_few R k f n in omega (arith, settle_few t rule (named R k) f')

-- THE THEOREM
pub bounded : Bounded
bounded t rule = (rounds_most t rule, rounds_below t rule)

pub bounded_steps : RoundsAtMost steps × RoundsBelow steps
bounded_steps = bounded steps steps_rule
