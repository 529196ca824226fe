-- A search for reach that settles subjects from the largest limit down, as an invariant and the steps that keep it: `L` are the limits found so far, `settled` the subjects whose
-- links were followed, `parent` the delegation by which a subject was last raised, `pending` what is left of the run of the giver being settled. At its end the limits are the
-- reaches. Assumes nothing.
use mathlib.Core.Path.{◌≡◌, refl, sym, ap, subst, ◌∙◌}
use mathlib.Core.Logic.{◌≢◌, ◌⊎◌, inl, inr}
use mathlib.Core.Bool.{Bool, not}
use mathlib.Core.List.Memᴰ
use mathlib.Core.List.{List, [], ◌∷◌, ◌++◌}
use Prim.Native.Nat.{ℕ, zero, ◌<◌, zero-le}
use native.Mathlib.Nat.{le_trans, le_refl}
use native.Mathlib.Omega.{arith}
use lib.Dec.{T, not_T, T_not}
use lib.IntN.{ℤ, pos}
use Rattle.rules.specs.List.{◌∈◌}
use Rattle.rules.specs.Limit.{none, code, ◌≼◌}
use Rattle.rules.specs.Table.{next, TableRule}
use Rattle.rules.specs.Register.{Delegation, Register}
use Rattle.rules.specs.Condition.{Meets}
use Rattle.rules.specs.Chain.{receivers, limit_from, limit, IsChain}
use Rattle.rules.specs.Reach.{reach}
use Rattle.rules.proofs.Lists.{either, eq_or}
use Rattle.rules.proofs.Limits.{next_below}
use Rattle.rules.proofs.Chains.{mem_receivers, limit_from_top, limit_snoc, mem_snoc, chain_owner, chain_snoc, gives_on}
use Rattle.rules.proofs.Certificate.{Certificate, certified}

-- a chain of u that carries L u: each giver on it is settled, and each delegation on it is the one that raised its receiver
pub record Found (t : List ℤ) (R : Register) (v : ℕ) (L : ℕ → ℤ) (settled : ℕ → Bool) (parent : ℕ → Delegation) (u : ℕ) : Type 0 where
  pub links : List Delegation
  pub chain : IsChain t R u v links
  pub carries : L u ≡ limit t links
  pub passed : (d : Delegation) → d ∈ links → T (settled d.giver)
  pub traced : (d : Delegation) → d ∈ links → parent d.receiver ≡ d

pub record Search (t : List ℤ) (R : Register) (v : ℕ) (L : ℕ → ℤ) (settled : ℕ → Bool) (parent : ℕ → Delegation) (pending : List Delegation) : Type 0 where
  pub owner : L 0 ≡ pos 255
  pub found : (u : ℕ) → (L u ≡ none) ⊎ Found t R v L settled parent u
  pub opened : (d : Delegation) → d ∈ pending → (d ∈ R.delegations) × T (settled d.giver)
  pub closed : (d : Delegation) → d ∈ R.delegations → Meets R v d → T (settled d.giver) → (d ∈ pending) ⊎ (next t (L d.giver) d.weight ≼ L d.receiver)
  pub order : (x y : ℕ) → T (settled x) → T (not (settled y)) → L y ≼ L x
  pub least : (d : Delegation) → d ∈ pending → (x : ℕ) → T (settled x) → L d.giver ≼ L x

module _ (t : List ℤ) (rule : TableRule t) (R : Register) (v : ℕ) where
  -- the start: 255 at the owner, none elsewhere, nothing settled
  pub search_start : (L : ℕ → ℤ) (settled : ℕ → Bool) (parent : ℕ → Delegation) → L 0 ≡ pos 255 → ((y : ℕ) → 0 ≢ y → L y ≡ none) → ((y : ℕ) → T (not (settled y))) → Search t R v L settled parent []
  unfolding limit_from
  search_start L settled parent e h n = record {
    owner = e;
    found = λ u. at u (eq_or 0 u);
    opened = λ d m. absurd (Memᴰ.not-nil m);
    closed = λ d m q k. absurd (T_not (settled d.giver) (n d.giver) k);
    order = λ x y k k'. absurd (T_not (settled x) (n x) k);
    least = λ d m. absurd (Memᴰ.not-nil m);
  }
    where
      at : (u : ℕ) → (0 ≡ u) ⊎ (0 ≢ u) → (L u ≡ none) ⊎ Found t R v L settled parent u
      at u (inr q) = inl (h u q)
      at u (inl q) = inr (subst (λ (x : ℕ). Found t R v L settled parent x) q record {
        links = [];
        chain = chain_owner t R v;
        carries = e;
        passed = λ d m. absurd (Memᴰ.not-nil m);
        traced = λ d m. absurd (Memᴰ.not-nil m);
      })

  -- a settled subject gives no more than its receivers have
  pub search_closed : (L : ℕ → ℤ) (settled : ℕ → Bool) (parent : ℕ → Delegation) → Search t R v L settled parent [] → (d : Delegation) → d ∈ R.delegations → Meets R v d → T (settled d.giver)
      → next t (L d.giver) d.weight ≼ L d.receiver
  search_closed L settled parent s d m q k = go (s.closed d m q k)
    where
      go : (d ∈ []) ⊎ (next t (L d.giver) d.weight ≼ L d.receiver) → next t (L d.giver) d.weight ≼ L d.receiver
      go (inl n) = absurd (Memᴰ.not-nil n)
      go (inr h) = h

  -- the end: what is not settled has no limit
  search_end : (L : ℕ → ℤ) (settled : ℕ → Bool) (parent : ℕ → Delegation) → Search t R v L settled parent [] → ((y : ℕ) → T (not (settled y)) → L y ≡ none) → Certificate t R v L
  unfolding next
  search_end L settled parent s h = record {
    owner = s.owner;
    closed = λ d m q. shut d m q (either (settled d.giver));
    attained = λ u. at u (s.found u);
  }
    where
      at : (u : ℕ) → (L u ≡ none) ⊎ Found t R v L settled parent u → (L u ≡ none) ⊎ ((ds : List Delegation) × IsChain t R u v ds × (L u ≡ limit t ds))
      at u (inl e) = inl e
      at u (inr f) = inr (f.links, f.chain, f.carries)

      shut : (d : Delegation) → d ∈ R.delegations → Meets R v d → T (settled d.giver) ⊎ T (not (settled d.giver)) → next t (L d.giver) d.weight ≼ L d.receiver
      shut d m q (inl k) = search_closed L settled parent s d m q k
      shut d m q (inr k) = subst (λ (l : ℤ). next t l d.weight ≼ L d.receiver) (sym (h d.giver k)) zero-le

  pub search_reach : (L : ℕ → ℤ) (settled : ℕ → Bool) (parent : ℕ → Delegation) → Search t R v L settled parent [] → ((y : ℕ) → T (not (settled y)) → L y ≡ none) → (u : ℕ) → reach t R u v ≡ L u
  search_reach L settled parent s h u = certified t rule R v L (search_end L settled parent s h) u

  pub search_top : (L : ℕ → ℤ) (settled : ℕ → Bool) (parent : ℕ → Delegation) (ds : List Delegation) → Search t R v L settled parent ds → (u : ℕ) → L u ≼ pos 255
  search_top L settled parent ds s u = go (s.found u)
    where
      go : (L u ≡ none) ⊎ Found t R v L settled parent u → L u ≼ pos 255
      go (inl e) = subst (λ (l : ℤ). l ≼ pos 255) (sym e) zero-le
      go (inr f) = subst (λ (l : ℤ). l ≼ pos 255) (sym f.carries) (limit_from_top t rule (pos 255) f.links (le_refl 256))

  -- a subject of the largest limit among filter not settled is settled next; `run` is what it gives
  pub search_settle : (L : ℕ → ℤ) (settled settled' : ℕ → Bool) (parent : ℕ → Delegation) (u : ℕ) (run : List Delegation) → Search t R v L settled parent []
      → T (not (settled u)) → ((y : ℕ) → T (not (settled y)) → L y ≼ L u) → T (settled' u) → ((y : ℕ) → u ≢ y → settled' y ≡ settled y)
      → ((d : Delegation) → d ∈ run → (d ∈ R.delegations) × (d.giver ≡ u)) → ((d : Delegation) → d ∈ R.delegations → d.giver ≡ u → d ∈ run)
      → Search t R v L settled' parent run
  search_settle L settled settled' parent u run s fresh most at off in_run all_run = record {
    owner = s.owner;
    found = λ x. found x (s.found x);
    opened = λ d m. let (q, e) = in_run d m in (q, subst (λ (x : ℕ). T (settled' x)) (sym e) at);
    closed = λ d m q k. shut d m q k (eq_or u d.giver);
    order = λ x y k k'. ordered x y k (unsettled y k') (eq_or u x);
    least = λ d m x k. lowest d m x k (eq_or u x);
  }
    where
      keeps : (x : ℕ) → T (settled x) → T (settled' x)
      keeps x k = go (eq_or u x)
        where
          go : (u ≡ x) ⊎ (u ≢ x) → T (settled' x)
          go (inl e) = subst (λ (y : ℕ). T (settled' y)) e at
          go (inr n) = subst T (sym (off x n)) k

      unsettled : (y : ℕ) → T (not (settled' y)) → T (not (settled y))
      unsettled y k = not_T (settled y) (λ q. T_not (settled' y) k (keeps y q))

      found : (x : ℕ) → (L x ≡ none) ⊎ Found t R v L settled parent x → (L x ≡ none) ⊎ Found t R v L settled' parent x
      found x (inl e) = inl e
      found x (inr f) = inr record { links = f.links; chain = f.chain; carries = f.carries; passed = λ d m. keeps d.giver (f.passed d m); traced = f.traced }

      weaken : (d : Delegation) → (d ∈ []) ⊎ (next t (L d.giver) d.weight ≼ L d.receiver) → (d ∈ run) ⊎ (next t (L d.giver) d.weight ≼ L d.receiver)
      weaken d (inl m) = absurd (Memᴰ.not-nil m)
      weaken d (inr k) = inr k

      shut : (d : Delegation) → d ∈ R.delegations → Meets R v d → T (settled' d.giver) → (u ≡ d.giver) ⊎ (u ≢ d.giver)
          → (d ∈ run) ⊎ (next t (L d.giver) d.weight ≼ L d.receiver)
      shut d m q k (inl e) = inl (all_run d m (sym e))
      shut d m q k (inr n) = weaken d (s.closed d m q (subst T (off d.giver n) k))

      ordered : (x y : ℕ) → T (settled' x) → T (not (settled y)) → (u ≡ x) ⊎ (u ≢ x) → L y ≼ L x
      ordered x y k k' (inl e) = subst (λ (z : ℕ). L y ≼ L z) e (most y k')
      ordered x y k k' (inr n) = s.order x y (subst T (off x n) k) k'

      lowest : (d : Delegation) → d ∈ run → (x : ℕ) → T (settled' x) → (u ≡ x) ⊎ (u ≢ x) → L d.giver ≼ L x
      lowest d m x k (inl e) = subst (λ (z : ℕ). L z ≼ L x) (e' ∙ sym (in_run d m).1) (le_refl (code (L x)))
        where
          e' : x ≡ u
          e' = sym e
      lowest d m x k (inr n) = subst (λ (z : ℕ). L z ≼ L x) (sym (in_run d m).1) (s.order x u (subst T (off x n) k) fresh)

  -- a delegation whose condition is not met, or that raises nothing
  pub search_skip : (L : ℕ → ℤ) (settled : ℕ → Bool) (parent : ℕ → Delegation) (d : Delegation) (ds : List Delegation) → Search t R v L settled parent (d ∷ ds)
      → (Meets R v d → next t (L d.giver) d.weight ≼ L d.receiver) → Search t R v L settled parent ds
  search_skip L settled parent d ds s h = record {
    owner = s.owner;
    found = s.found;
    opened = λ e m. s.opened e (Memᴰ.tail m);
    closed = λ e m q k. shut e q (s.closed e m q k);
    order = s.order;
    least = λ e m. s.least e (Memᴰ.tail m);
  }
    where
      shut : (e : Delegation) → Meets R v e → (e ∈ (d ∷ ds)) ⊎ (next t (L e.giver) e.weight ≼ L e.receiver) → (e ∈ ds) ⊎ (next t (L e.giver) e.weight ≼ L e.receiver)
      shut e q (inl (Memᴰ.head i)) = inr (subst (λ (x : Delegation). Meets R v x → next t (L x.giver) x.weight ≼ L x.receiver) (sym i) h q)
      shut e q (inl (Memᴰ.tail m)) = inl m
      shut e q (inr k) = inr k

  -- a delegation that raises its receiver
  module _ (L L' : ℕ → ℤ) (settled : ℕ → Bool) (parent parent' : ℕ → Delegation) (d : Delegation) (ds : List Delegation) (s : Search t R v L settled parent (d ∷ ds))
      (meet : Meets R v d) (raises : code (L d.receiver) < code (next t (L d.giver) d.weight))
      (at : L' d.receiver ≡ next t (L d.giver) d.weight) (off : (y : ℕ) → d.receiver ≢ y → L' y ≡ L y)
      (at' : parent' d.receiver ≡ d) (off' : (y : ℕ) → d.receiver ≢ y → parent' y ≡ parent y) where
    step_down : next t (L d.giver) d.weight ≼ L d.giver
    step_down = next_below t rule (L d.giver) d.weight (search_top L settled parent (d ∷ ds) s d.giver)

    -- what is settled is not raised
    settled_off : (x : ℕ) → T (settled x) → d.receiver ≢ x
    settled_off x k e =
        let a = s.least d (Memᴰ.head refl) x k in
        let b = subst (λ (y : ℕ). code (L y) < code (next t (L d.giver) d.weight)) e raises in
        omega (arith, step_down)

    same : (x : ℕ) → T (settled x) → L' x ≡ L x
    same x k = off x (settled_off x k)

    not_owner : d.receiver ≢ 0
    not_owner e =
        let b = subst (λ (y : ℕ). code (L y) < code (next t (L d.giver) d.weight)) e raises in
        omega (arith, step_down, search_top L settled parent (d ∷ ds) s d.giver, ap code s.owner)

    rises : (x : ℕ) → L x ≼ L' x
    rises x = go (eq_or d.receiver x)
      where
        go : (d.receiver ≡ x) ⊎ (d.receiver ≢ x) → L x ≼ L' x
        go (inl e) = subst (λ (y : ℕ). L y ≼ L' y) e (subst (λ (l : ℤ). L d.receiver ≼ l) (sym at) (omega arith))
        go (inr n) = subst (λ (l : ℤ). L x ≼ l) (sym (off x n)) (le_refl (code (L x)))

    giver_done : T (settled d.giver)
    giver_done = (s.opened d (Memᴰ.head refl)).1

    found_new : (L d.giver ≡ none) ⊎ Found t R v L settled parent d.giver → Found t R v L' settled parent' d.receiver
    found_new (inl e) = absurd (omega (arith, ap code e, step_down))
    found_new (inr f) = record {
      links = f.links ++ (d ∷ []);
      chain = chain_snoc t R d.giver v f.links d f.chain (s.opened d (Memᴰ.head refl)).0 refl meet new live;
      carries = at ∙ ap (λ (l : ℤ). next t l d.weight) f.carries ∙ sym (limit_snoc t f.links d);
      passed = λ e m. passes e (mem_snoc f.links m);
      traced = λ e m. traces e (mem_snoc f.links m);
    }
      where
        receiver_done : (x : ℕ) → x ∈ receivers f.links → T (settled x)
        receiver_done x m = go (gives_on f.links 0 d.giver f.chain.linked m)
          where
            go : (x ≡ d.giver) ⊎ ((e : Delegation) × (e ∈ f.links) × (e.giver ≡ x)) → T (settled x)
            go (inl e) = subst (λ (y : ℕ). T (settled y)) (sym e) giver_done
            go (inr r) = subst (λ (y : ℕ). T (settled y)) r.2 (f.passed r.0 r.1)

        new : (x : ℕ) → x ∈ (0 ∷ receivers f.links) → x ≢ d.receiver
        new x (Memᴰ.head e) = λ q. not_owner (sym q ∙ e)
        new x (Memᴰ.tail m) = λ q. settled_off x (receiver_done x m) (sym q)

        live : zero < code (next t (limit t f.links) d.weight)
        live = subst (λ (l : ℤ). zero < code (next t l d.weight)) f.carries (omega arith)

        passes : (e : Delegation) → (e ∈ f.links) ⊎ (e ≡ d) → T (settled e.giver)
        passes e (inl m) = f.passed e m
        passes e (inr q) = subst (λ (x : Delegation). T (settled x.giver)) (sym q) giver_done

        traces : (e : Delegation) → (e ∈ f.links) ⊎ (e ≡ d) → parent' e.receiver ≡ e
        traces e (inl m) = off' e.receiver (settled_off e.receiver (receiver_done e.receiver (mem_receivers m))) ∙ f.traced e m
        traces e (inr q) = ap (λ (x : Delegation). parent' x.receiver) q ∙ at' ∙ sym q

    found_old : (u : ℕ) → d.receiver ≢ u → (L u ≡ none) ⊎ Found t R v L settled parent u → (L' u ≡ none) ⊎ Found t R v L' settled parent' u
    found_old u n (inl e) = inl (off u n ∙ e)
    found_old u n (inr f) = inr record {
      links = f.links;
      chain = f.chain;
      carries = off u n ∙ f.carries;
      passed = f.passed;
      traced = λ e m. off' e.receiver (other e (gives_on f.links 0 u f.chain.linked (mem_receivers m))) ∙ f.traced e m;
    }
      where
        other : (e : Delegation) → (e.receiver ≡ u) ⊎ ((x : Delegation) × (x ∈ f.links) × (x.giver ≡ e.receiver)) → d.receiver ≢ e.receiver
        other e (inl q) = λ c. n (c ∙ q)
        other e (inr r) = settled_off e.receiver (subst (λ (y : ℕ). T (settled y)) r.2 (f.passed r.0 r.1))

    pub search_raise : Search t R v L' settled parent' ds
    search_raise = record {
      owner = off 0 not_owner ∙ s.owner;
      found = λ u. found u (eq_or d.receiver u);
      opened = λ e m. s.opened e (Memᴰ.tail m);
      closed = λ e m q k. shut e k (s.closed e m q k);
      order = λ x y k k'. ordered x y k k' (eq_or d.receiver y);
      least = λ e m x k. subst (λ (l : ℤ). l ≼ L' x) (sym (same e.giver (s.opened e (Memᴰ.tail m)).1))
          (subst (λ (l : ℤ). L e.giver ≼ l) (sym (same x k)) (s.least e (Memᴰ.tail m) x k));
    }
      where
        found : (u : ℕ) → (d.receiver ≡ u) ⊎ (d.receiver ≢ u) → (L' u ≡ none) ⊎ Found t R v L' settled parent' u
        found u (inl e) = inr (subst (λ (x : ℕ). Found t R v L' settled parent' x) e (found_new (s.found d.giver)))
        found u (inr n) = found_old u n (s.found u)

        shut : (e : Delegation) → T (settled e.giver) → (e ∈ (d ∷ ds)) ⊎ (next t (L e.giver) e.weight ≼ L e.receiver) → (e ∈ ds) ⊎ (next t (L' e.giver) e.weight ≼ L' e.receiver)
        shut e k (inl (Memᴰ.head i)) =
            inr (subst (λ (x : Delegation). next t (L' x.giver) x.weight ≼ L' x.receiver) (sym i)
            (subst (λ (l : ℤ). next t l d.weight ≼ L' d.receiver) (sym (same d.giver giver_done))
            (subst (λ (l : ℤ). next t (L d.giver) d.weight ≼ l) (sym at) (le_refl _))))
        shut e k (inl (Memᴰ.tail m)) = inl m
        shut e k (inr h) = inr (subst (λ (l : ℤ). next t l e.weight ≼ L' e.receiver) (sym (same e.giver k)) (le_trans h (rises e.receiver)))

        ordered : (x y : ℕ) → T (settled x) → T (not (settled y)) → (d.receiver ≡ y) ⊎ (d.receiver ≢ y) → L' y ≼ L' x
        ordered x y k k' (inl e) =
            subst (λ (l : ℤ). L' y ≼ l) (sym (same x k)) (subst (λ (z : ℕ). L' z ≼ L x) e (subst (λ (l : ℤ). l ≼ L x) (sym at) (le_trans step_down (s.least d (Memᴰ.head refl) x k))))
        ordered x y k k' (inr n) = subst (λ (l : ℤ). L' y ≼ l) (sym (same x k)) (subst (λ (l : ℤ). l ≼ L x) (sym (off y n)) (s.order x y k k'))
