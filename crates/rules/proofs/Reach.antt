-- Reach is the largest limit of the chains of a pair: each chain's limit is at most reach, and reach is none or the limit of a chain. Assumes nothing.
use mathlib.Core.Path.{◌≡◌, refl, sym, ap, subst, ◌∙◌}
use mathlib.Core.Logic.{◌≢◌, ◌⊎◌, inl, inr}
use mathlib.Core.Bool.{Bool, true, false, not, ◌&&◌}
use mathlib.Core.List.Memᴰ
use mathlib.Core.List.{List, [], ◌∷◌, map}
use Prim.Native.Nat.{ℕ, zero, suc, ◌≤◌, ◌<◌, zero-le, suc-le-suc}
use native.Mathlib.Nat.{le_trans, le_refl}
use native.Mathlib.Omega.{arith}
use lib.Dec.{T, ltb, eqb, eqb→eq, eqb_refl, not_T, T_not, ltb→lt, lt→ltb}
use lib.ListN.{length}
use lib.IntN.{ℤ, pos}
use Rattle.rules.specs.List.{◌∈◌, filter, concat_map, Distinct}
use Rattle.rules.specs.Limit.{none, code, ◌≼◌, larger}
use Rattle.rules.specs.Table.{next}
use Rattle.rules.specs.Register.{Delegation, Register, marks_of}
use Rattle.rules.specs.Condition.{meets}
use Rattle.rules.specs.Chain.{Linked, receivers, limit_from, limit, IsChain}
use Rattle.rules.specs.Reach.{IsReach, avoiding, goes_on, ended, chains_from, chains, largest, reach}
use Rattle.rules.proofs.Lists.{T_left, T_right, T_both, T_not_not, eq_to_eqb, mem_length, mem_filter, filter_mem, filter_shorter, mem_concat_map, concat_map_mem, mem_map, map_mem}
use Rattle.rules.proofs.Limits.{larger_left, larger_right, larger_either, code_inj}
use Rattle.rules.proofs.Chains.{mem_receivers, receivers_mem, limit_from_live}

-- ds goes on from a at the limit l, over the delegations `free`, to u; m: the receiver's marks
pub record GoesOn (t : List ℤ) (m u : ℕ) (free : List Delegation) (a : ℕ) (l : ℤ) (ds : List Delegation) : Type 0 where
  pub inside : (d : Delegation) → d ∈ ds → d ∈ free
  pub linked : Linked a ds u
  pub distinct : Distinct (receivers ds)
  pub met : (d : Delegation) → d ∈ ds → T (meets m d.need d.bar)
  pub live : zero < code (limit_from t l ds)

-- other than x: as a test
ne_to_test : (d : Delegation) (x : ℕ) → x ≢ d.receiver → T (not (eqb d.receiver x))
ne_to_test d x h = not_T (eqb d.receiver x) (λ q. h (sym (eqb→eq d.receiver x q)))

test_to_ne : (d : Delegation) (x : ℕ) → T (not (eqb d.receiver x)) → x ≢ d.receiver
test_to_ne d x h e = T_not (eqb d.receiver x) h (eq_to_eqb (sym e))

module _ (t : List ℤ) (m u : ℕ) where
  mem_ended : (b : Bool) → T b → [] ∈ ended b
  mem_ended true h = Memᴰ.head refl
  mem_ended false h = absurd h

  ended_mem : (b : Bool) {ds : List Delegation} → ds ∈ ended b → (ds ≡ []) × T b
  ended_mem true (Memᴰ.head e) = (e, tt)
  ended_mem true (Memᴰ.tail h) = absurd (Memᴰ.not-nil h)
  ended_mem false h = absurd (Memᴰ.not-nil h)

  goes_on_test : (a : ℕ) (l : ℤ) (d : Delegation) → d.giver ≡ a → T (meets m d.need d.bar) → zero < code (next t l d.weight) → T (goes_on t m a l d)
  unfolding goes_on
  goes_on_test a l d e h k =
      T_both (eqb d.giver a && meets m d.need d.bar) (ltb zero (code (next t l d.weight)))
      (T_both (eqb d.giver a) (meets m d.need d.bar) (eq_to_eqb e) h)
      (lt→ltb zero (code (next t l d.weight)) k)

  test_goes_on : (a : ℕ) (l : ℤ) (d : Delegation) → T (goes_on t m a l d) → (d.giver ≡ a) × T (meets m d.need d.bar) × (zero < code (next t l d.weight))
  unfolding goes_on
  test_goes_on a l d h =
      let x = T_left (eqb d.giver a && meets m d.need d.bar) (ltb zero (code (next t l d.weight))) h in (
        eqb→eq d.giver a (T_left (eqb d.giver a) (meets m d.need d.bar) x),
        T_right (eqb d.giver a) (meets m d.need d.bar) x,
        ltb→lt zero (code (next t l d.weight)) (T_right (eqb d.giver a && meets m d.need d.bar) (ltb zero (code (next t l d.weight))) h),
      )

  -- the search leaves none out
  complete : (ds : List Delegation) (k : ℕ) (free : List Delegation) (a : ℕ) (l : ℤ) → length free ≤ k → GoesOn t m u free a l ds → ds ∈ chains_from t m u k free a l
  unfolding limit_from
  complete [] zero free a l h g = mem_ended (eqb a u) (eq_to_eqb g.linked)
  complete [] (suc k) free a l h g = Memᴰ.append_left _ (mem_ended (eqb a u) (eq_to_eqb g.linked))
  complete (d ∷ ds) zero free a l h g = absurd (omega (arith, mem_length (g.inside d (Memᴰ.head refl))))
  complete (d ∷ ds) (suc k) free a l h g =
      Memᴰ.append_right (ended (eqb a u))
      (mem_concat_map _ (mem_filter (goes_on t m a l) test at_free) (mem_map (λ es. d ∷ es) (complete ds k (avoiding d.receiver free) d.receiver (next t l d.weight) fuel rest)))
    where
      at_free : d ∈ free
      at_free = g.inside d (Memᴰ.head refl)

      test : T (goes_on t m a l d)
      test = goes_on_test a l d g.linked.0 (g.met d (Memᴰ.head refl)) (limit_from_live t (next t l d.weight) ds g.live)

      fuel : length (avoiding d.receiver free) ≤ k
      fuel = omega (arith, filter_shorter (λ (e : Delegation). not (eqb e.receiver d.receiver)) at_free (T_not_not (eqb d.receiver d.receiver) (eqb_refl d.receiver)))

      rest : GoesOn t m u (avoiding d.receiver free) d.receiver (next t l d.weight) ds
      rest = record {
        inside = λ e h'. mem_filter (λ (x : Delegation). not (eqb x.receiver d.receiver)) (ne_to_test e d.receiver (g.distinct.0 e.receiver (mem_receivers h'))) (g.inside e (Memᴰ.tail h'));
        linked = g.linked.1;
        distinct = g.distinct.1;
        met = λ e h'. g.met e (Memᴰ.tail h');
        live = g.live;
      }

  GoesOn_nil : (free : List Delegation) (a : ℕ) (l : ℤ) → a ≡ u → zero < code l → GoesOn t m u free a l []
  unfolding limit_from
  GoesOn_nil free a l e h = record {
    inside = λ d q. absurd (Memᴰ.not-nil q);
    linked = e;
    distinct = tt;
    met = λ d q. absurd (Memᴰ.not-nil q);
    live = h;
  }

  ended_sound : (free : List Delegation) (a : ℕ) (l : ℤ) {ds : List Delegation} → zero < code l → ds ∈ ended (eqb a u) → GoesOn t m u free a l ds
  ended_sound free a l h q =
      let e = ended_mem (eqb a u) q in
      subst (λ (x : List Delegation). GoesOn t m u free a l x) (sym e.0) (GoesOn_nil free a l (eqb→eq a u e.1) h)

  GoesOn_cons : (free : List Delegation) (a : ℕ) (l : ℤ) (d : Delegation) (ds : List Delegation) → d ∈ free → T (goes_on t m a l d)
      → GoesOn t m u (avoiding d.receiver free) d.receiver (next t l d.weight) ds → GoesOn t m u free a l (d ∷ ds)
  unfolding limit_from
  GoesOn_cons free a l d ds h q g =
      let p = test_goes_on a l d q in
      record {
        inside = at;
        linked = (p.0, g.linked);
        distinct = (fresh, g.distinct);
        met = meet p.1;
        live = g.live;
      }
    where
      f : Delegation → Bool
      f e = not (eqb e.receiver d.receiver)

      at : (e : Delegation) → e ∈ (d ∷ ds) → e ∈ free
      at e (Memᴰ.head i) = subst (λ (x : Delegation). x ∈ free) (sym i) h
      at e (Memᴰ.tail i) = (filter_mem (λ (x : Delegation). not (eqb x.receiver d.receiver)) free (g.inside e i)).0

      fresh : (y : ℕ) → y ∈ receivers ds → d.receiver ≢ y
      fresh y i c =
          let r = receivers_mem ds i in
          test_to_ne r.0 d.receiver (filter_mem (λ (x : Delegation). not (eqb x.receiver d.receiver)) free (g.inside r.0 r.1)).1 (c ∙ r.2)

      meet : T (meets m d.need d.bar) → (e : Delegation) → e ∈ (d ∷ ds) → T (meets m e.need e.bar)
      meet p e (Memᴰ.head i) = subst (λ (x : Delegation). T (meets m x.need x.bar)) (sym i) p
      meet p e (Memᴰ.tail i) = g.met e i

  -- the search finds nothing else
  pub sound : (k : ℕ) (free : List Delegation) (a : ℕ) (l : ℤ) (ds : List Delegation) → zero < code l → ds ∈ chains_from t m u k free a l → GoesOn t m u free a l ds
  sound zero free a l ds h q = ended_sound free a l h q
  sound (suc k) free a l ds h q = go (sound k) (Memᴰ.append_cases (ended (eqb a u)) q)
    where
      further : Delegation → List (List Delegation)
      further d = map (λ es. d ∷ es) (chains_from t m u k (avoiding d.receiver free) d.receiver (next t l d.weight))

      go : ((free' : List Delegation) (a' : ℕ) (l' : ℤ) (es : List Delegation) → zero < code l' → es ∈ chains_from t m u k free' a' l' → GoesOn t m u free' a' l' es)
          → (ds ∈ ended (eqb a u)) ⊎ (ds ∈ concat_map further (filter (goes_on t m a l) free)) → GoesOn t m u free a l ds
      go ih (inl i) = ended_sound free a l h i
      go ih (inr i) =
          let (d, at, i') = concat_map_mem further (filter (goes_on t m a l) free) i in
          let (es, at', e) = map_mem (λ es. d ∷ es) (chains_from t m u k (avoiding d.receiver free) d.receiver (next t l d.weight)) i' in
          let (at'', q') = filter_mem (goes_on t m a l) free at in
          subst (λ (x : List Delegation). GoesOn t m u free a l x) (sym e)
          (GoesOn_cons free a l d es at'' q' (ih (avoiding d.receiver free) d.receiver (next t l d.weight) es (test_goes_on a l d q').2 at'))

-- ── reach ──
largest_bound : (t : List ℤ) {ds : List Delegation} {dss : List (List Delegation)} → ds ∈ dss → limit t ds ≼ largest t dss
largest_bound t (Memᴰ.head {x = es} {xs = dss} e) =
    subst (λ (x : List Delegation). limit t x ≼ largest t (es ∷ dss)) (sym e) (larger_left (limit t es) (largest t dss))
largest_bound t (Memᴰ.tail {x = es} {xs = dss} m) = le_trans (largest_bound t m) (larger_right (limit t es) (largest t dss))

largest_attained : (t : List ℤ) (dss : List (List Delegation)) → (largest t dss ≡ none) ⊎ ((ds : List Delegation) × (ds ∈ dss) × (largest t dss ≡ limit t ds))
largest_attained t [] = inl refl
largest_attained t (ds ∷ dss) = go (largest_attained t dss) (larger_either (limit t ds) (largest t dss))
  where
    go : (largest t dss ≡ none) ⊎ ((es : List Delegation) × (es ∈ dss) × (largest t dss ≡ limit t es))
        → (larger (limit t ds) (largest t dss) ≡ limit t ds) ⊎ (larger (limit t ds) (largest t dss) ≡ largest t dss)
        → (larger (limit t ds) (largest t dss) ≡ none) ⊎ ((es : List Delegation) × (es ∈ (ds ∷ dss)) × (larger (limit t ds) (largest t dss) ≡ limit t es))
    go ih (inl e) = inr (ds, Memᴰ.head refl, e)
    go (inl n) (inr e) = inl (e ∙ n)
    go (inr r) (inr e) = inr (r.0, Memᴰ.tail r.1, e ∙ r.2)

module _ (t : List ℤ) (R : Register) (u v : ℕ) where
  chain_listed : (ds : List Delegation) → IsChain t R u v ds → ds ∈ chains t R u v
  unfolding chains
  chain_listed ds c =
      complete t (marks_of R v) u ds (length (avoiding 0 R.delegations)) (avoiding 0 R.delegations) 0 (pos 255) (le_refl _) record {
        inside = λ d i. mem_filter (λ (x : Delegation). not (eqb x.receiver 0)) (ne_to_test d 0 (c.distinct.0 d.receiver (mem_receivers i))) (c.standing d i);
        linked = c.linked;
        distinct = c.distinct.1;
        met = c.met;
        live = c.live;
      }

  listed_chain : (ds : List Delegation) → ds ∈ chains t R u v → IsChain t R u v ds
  unfolding chains
  listed_chain ds i =
      let g = sound t (marks_of R v) u (length (avoiding 0 R.delegations)) (avoiding 0 R.delegations) 0 (pos 255) ds (suc-le-suc zero-le) i in
      record {
        standing = λ d j. (filter_mem (λ (x : Delegation). not (eqb x.receiver 0)) R.delegations (g.inside d j)).0;
        linked = g.linked;
        distinct = (
          λ y j c.
              let r = receivers_mem ds j in
              test_to_ne r.0 0 (filter_mem (λ (x : Delegation). not (eqb x.receiver 0)) R.delegations (g.inside r.0 r.1)).1 (c ∙ r.2),
          g.distinct,
        );
        met = g.met;
        live = g.live;
      }

  -- every chain's limit is at most reach
  pub reach_bound : (ds : List Delegation) → IsChain t R u v ds → limit t ds ≼ reach t R u v
  unfolding reach
  reach_bound ds c = largest_bound t (chain_listed ds c)

  -- reach is none, or a chain's limit
  pub reach_attained : (reach t R u v ≡ none) ⊎ ((ds : List Delegation) × IsChain t R u v ds × (reach t R u v ≡ limit t ds))
  unfolding reach
  reach_attained = go (largest_attained t (chains t R u v))
    where
      go : (largest t (chains t R u v) ≡ none) ⊎ ((ds : List Delegation) × (ds ∈ chains t R u v) × (largest t (chains t R u v) ≡ limit t ds))
          → (largest t (chains t R u v) ≡ none) ⊎ ((ds : List Delegation) × IsChain t R u v ds × (largest t (chains t R u v) ≡ limit t ds))
      go (inl e) = inl e
      go (inr r) = inr (r.0, listed_chain r.0 r.1, r.2)

  -- the function is the reach of the definition
  pub reach_is : IsReach t R u v (reach t R u v)
  reach_is = record { bounds = reach_bound; attained = reach_attained }

  -- and nothing else is
  pub reach_only : (k : ℤ) → IsReach t R u v k → reach t R u v ≡ k
  reach_only k r = go (reach_attained) r.attained
    where
      go : (reach t R u v ≡ none) ⊎ ((ds : List Delegation) × IsChain t R u v ds × (reach t R u v ≡ limit t ds)) → (k ≡ none) ⊎ ((ds : List Delegation) × IsChain t R u v ds × (k ≡ limit t ds))
          → reach t R u v ≡ k
      go (inl e) (inl f) = e ∙ sym f
      go (inl e) (inr f) = let b = reach_bound f.0 f.1 in absurd (omega (arith, f.1.live, ap code e))
      go (inr e) (inl f) = let b = r.bounds e.0 e.1 in absurd (omega (arith, e.1.live, ap code f))
      go (inr e) (inr f) =
          let b = r.bounds e.0 e.1 in
          let b' = reach_bound f.0 f.1 in
          code_inj (reach t R u v) k (omega (arith, ap code e.2, ap code f.2)) (omega (arith, ap code e.2, e.1.live))
