-- Laws of chains: their limits at every place on the way, chains grown at their end and cut short, and how long they get. Assumes nothing.
use mathlib.Core.Path.{◌≡◌, refl, sym, ap, subst, ◌∙◌}
use mathlib.Core.Logic.{◌≢◌, ◌⊎◌, inl, inr}
use mathlib.Core.Bool.{Bool, true, false, not}
use mathlib.Core.List.Memᴰ
use mathlib.Core.List.{List, [], ◌∷◌, ◌++◌}
use Prim.Native.Nat.{ℕ, zero, suc, ◌≤◌, ◌<◌, zero-le, suc-le-suc}
use native.Mathlib.Nat.{le_trans, le_refl}
use native.Mathlib.Omega.{arith}
use lib.Dec.{T, eqb, eqb→eq, not_T, T_not}
use lib.ListN.{length}
use lib.IntN.{ℤ, pos}
use Rattle.rules.specs.List.{◌∈◌, keep, filter, Distinct}
use Rattle.rules.specs.Limit.{code, ◌≼◌}
use Rattle.rules.specs.Table.{next, TableRule}
use Rattle.rules.specs.Register.{Delegation, Register}
use Rattle.rules.specs.Condition.{Meets}
use Rattle.rules.specs.Chain.{Linked, receivers, limit_from, limit, IsChain}
use Rattle.rules.proofs.Lists.{eq_to_eqb, either, filter_mem}
use Rattle.rules.proofs.Limits.{next_live, next_below, next_top}

-- ── receivers ──
pub mem_receivers : {d : Delegation} {ds : List Delegation} → d ∈ ds → d.receiver ∈ receivers ds
mem_receivers (Memᴰ.head e) = Memᴰ.head (ap (λ (d : Delegation). d.receiver) e)
mem_receivers (Memᴰ.tail m) = Memᴰ.tail (mem_receivers m)

pub receivers_mem : (ds : List Delegation) {x : ℕ} → x ∈ receivers ds → (d : Delegation) × (d ∈ ds) × (x ≡ d.receiver)
receivers_mem [] m = absurd (Memᴰ.not-nil m)
receivers_mem (d ∷ ds) (Memᴰ.head e) = (d, Memᴰ.head refl, e)
receivers_mem (d ∷ ds) (Memᴰ.tail m) = let r = receivers_mem ds m in (r.0, Memᴰ.tail r.1, r.2)

-- ── the limit on the way ──
pub limit_from_live : (t : List ℤ) (l : ℤ) (ds : List Delegation) → zero < code (limit_from t l ds) → zero < code l
unfolding limit_from
limit_from_live t l [] h = h
limit_from_live t l (d ∷ ds) h = next_live t l d.weight (limit_from_live t (next t l d.weight) ds h)

limit_from_append : (t : List ℤ) (l : ℤ) (xs ys : List Delegation) → limit_from t l (xs ++ ys) ≡ limit_from t (limit_from t l xs) ys
unfolding limit_from
limit_from_append t l [] ys = refl
limit_from_append t l (x ∷ xs) ys = limit_from_append t (next t l x.weight) xs ys

pub limit_snoc : (t : List ℤ) (ds : List Delegation) (d : Delegation) → limit t (ds ++ (d ∷ [])) ≡ next t (limit t ds) d.weight
unfolding limit_from
limit_snoc t ds d = limit_from_append t (pos 255) ds (d ∷ [])

linked_snoc : (ds : List Delegation) (a g : ℕ) (d : Delegation) → Linked a ds g → d.giver ≡ g → Linked a (ds ++ (d ∷ [])) d.receiver
linked_snoc [] a g d p e = (e ∙ sym p, refl)
linked_snoc (x ∷ xs) a g d p e = (p.0, linked_snoc xs x.receiver g d p.1 e)

receivers_append : (xs ys : List Delegation) → receivers (xs ++ ys) ≡ receivers xs ++ receivers ys
receivers_append [] ys = refl
receivers_append (x ∷ xs) ys = λ i. x.receiver ∷ receivers_append xs ys i

pub distinct_snoc : (xs : List ℕ) (y : ℕ) → Distinct xs → ((x : ℕ) → x ∈ xs → x ≢ y) → Distinct (xs ++ (y ∷ []))
distinct_snoc [] y a h = (λ z m. absurd (Memᴰ.not-nil m), tt)
distinct_snoc (x ∷ xs) y a h = (new, distinct_snoc xs y a.1 (λ z m. h z (Memᴰ.tail m)))
  where
    go : (z : ℕ) → (z ∈ xs) ⊎ (z ∈ (y ∷ [])) → x ≢ z
    go z (inl m) = a.0 z m
    go z (inr m) = λ e. h x (Memᴰ.head refl) (e ∙ Memᴰ.eq_of_singleton m)

    new : (z : ℕ) → z ∈ (xs ++ (y ∷ [])) → x ≢ z
    new z m = go z (Memᴰ.append_cases xs m)

pub mem_snoc : {A : Type 0} (xs : List A) {x y : A} → y ∈ (xs ++ (x ∷ [])) → (y ∈ xs) ⊎ (y ≡ x)
mem_snoc {A} xs {x} {y} m = go (Memᴰ.append_cases xs m)
  where
    go : (y ∈ xs) ⊎ (y ∈ (x ∷ [])) → (y ∈ xs) ⊎ (y ≡ x)
    go (inl q) = inl q
    go (inr q) = inr (Memᴰ.eq_of_singleton q)

-- the empty list is the chain of the owner
pub chain_owner : (t : List ℤ) (R : Register) (v : ℕ) → IsChain t R 0 v []
unfolding limit_from
chain_owner t R v = record {
  standing = λ d m. absurd (Memᴰ.not-nil m);
  linked = refl;
  distinct = (λ y m. absurd (Memᴰ.not-nil m), tt);
  met = λ d m. absurd (Memᴰ.not-nil m);
  live = suc-le-suc zero-le;
}

-- a chain of g, with a delegation from g to a subject that it does not pass
pub chain_snoc : (t : List ℤ) (R : Register) (g v : ℕ) (ds : List Delegation) (d : Delegation) → IsChain t R g v ds → d ∈ R.delegations → d.giver ≡ g
    → Meets R v d → ((x : ℕ) → x ∈ (0 ∷ receivers ds) → x ≢ d.receiver) → zero < code (next t (limit t ds) d.weight)
    → IsChain t R d.receiver v (ds ++ (d ∷ []))
chain_snoc t R g v ds d c at e h new live = record {
  standing = λ x m. stands x (mem_snoc ds m);
  linked = linked_snoc ds 0 g d c.linked e;
  distinct = subst (λ (xs : List ℕ). Distinct (0 ∷ xs)) (sym (receivers_append ds (d ∷ []))) (distinct_snoc (0 ∷ receivers ds) d.receiver c.distinct new);
  met = λ x m. meet x (mem_snoc ds m);
  live = subst (λ (l : ℤ). zero < code l) (sym (limit_snoc t ds d)) live;
}
  where
    stands : (x : Delegation) → (x ∈ ds) ⊎ (x ≡ d) → x ∈ R.delegations
    stands x (inl m) = c.standing x m
    stands x (inr q) = subst (λ (y : Delegation). y ∈ R.delegations) (sym q) at

    meet : (x : Delegation) → (x ∈ ds) ⊎ (x ≡ d) → Meets R v x
    meet x (inl m) = c.met x m
    meet x (inr q) = subst (λ (y : Delegation). Meets R v y) (sym q) h

-- each receiver of a linked list is its end, or gives on
pub gives_on : (ds : List Delegation) (a u : ℕ) → Linked a ds u → {x : ℕ} → x ∈ receivers ds → (x ≡ u) ⊎ ((e : Delegation) × (e ∈ ds) × (e.giver ≡ x))
gives_on [] a u p m = absurd (Memᴰ.not-nil m)
gives_on (d ∷ []) a u p (Memᴰ.head q) = inl (q ∙ p.1)
gives_on (d ∷ []) a u p (Memᴰ.tail m) = absurd (Memᴰ.not-nil m)
gives_on (d ∷ e ∷ es) a u p (Memᴰ.head q) = inr (e, Memᴰ.tail (Memᴰ.head refl), p.1.0 ∙ sym q)
gives_on (d ∷ e ∷ es) a u p {x} (Memᴰ.tail m) = go (gives_on (e ∷ es) d.receiver u p.1 m)
  where
    go : (x ≡ u) ⊎ ((f : Delegation) × (f ∈ (e ∷ es)) × (f.giver ≡ x)) → (x ≡ u) ⊎ ((f : Delegation) × (f ∈ (d ∷ e ∷ es)) × (f.giver ≡ x))
    go (inl q) = inl q
    go (inr r) = inr (r.0, Memᴰ.tail r.1, r.2)

-- ── at most as many as there are ──
module _ (n : ℕ) where
  drop_one : (xs : List ℕ) → Distinct xs → length xs ≤ suc (length (filter (λ x. not (eqb x n)) xs))
  drop_one [] a = zero-le
  drop_one (x ∷ xs) a = go (drop_one xs a.1) (either (eqb x n))
    where
      all : (ys : List ℕ) → ((y : ℕ) → y ∈ ys → n ≢ y) → length ys ≤ length (filter (λ x. not (eqb x n)) ys)
      all [] h = zero-le
      all (y ∷ ys) h = kept (not (eqb y n)) (not_T (eqb y n) (λ q. h y (Memᴰ.head refl) (sym (eqb→eq y n q)))) (all ys (λ z m. h z (Memᴰ.tail m)))
        where
          kept : (b : Bool) → T b → length ys ≤ length (filter (λ x. not (eqb x n)) ys) → suc (length ys) ≤ length (keep b y (filter (λ x. not (eqb x n)) ys))
          kept true t h = suc-le-suc h
          kept false t h = absurd t

      kept : (b : Bool) → length xs ≤ suc (length (filter (λ x. not (eqb x n)) xs)) → T b → suc (length xs) ≤ suc (length (keep b x (filter (λ x. not (eqb x n)) xs)))
      kept true h q = suc-le-suc h
      kept false h q = absurd q

      any : (b : Bool) → length xs ≤ length (filter (λ x. not (eqb x n)) xs) → suc (length xs) ≤ suc (length (keep b x (filter (λ x. not (eqb x n)) xs)))
      any true h = omega arith
      any false h = suc-le-suc h

      go : length xs ≤ suc (length (filter (λ x. not (eqb x n)) xs)) → T (eqb x n) ⊎ T (not (eqb x n)) → suc (length xs) ≤ suc (length (keep (not (eqb x n)) x (filter (λ x. not (eqb x n)) xs)))
      go ih (inl q) = any (not (eqb x n)) (all xs (λ y m. subst (λ (z : ℕ). z ≢ y) (eqb→eq x n q) (a.0 y m)))
      go ih (inr q) = kept (not (eqb x n)) ih q

  distinct_filter : (f : ℕ → Bool) (xs : List ℕ) → Distinct xs → Distinct (filter f xs)
  distinct_filter f [] a = tt
  distinct_filter f (x ∷ xs) a = kept (distinct_filter f xs a.1) (f x)
    where
      kept : Distinct (filter f xs) → (b : Bool) → Distinct (keep b x (filter f xs))
      kept ih true = (λ y m. a.0 y (filter_mem f xs m).0, ih)
      kept ih false = ih

-- different numbers below n: at most n
pub distinct_length : (n : ℕ) (xs : List ℕ) → Distinct xs → ((x : ℕ) → x ∈ xs → x < n) → length xs ≤ n
distinct_length zero [] a h = zero-le
distinct_length zero (x ∷ xs) a h = absurd (omega (arith, h x (Memᴰ.head refl)))
distinct_length (suc n) xs a h =
    le_trans (drop_one n xs a)
    (suc-le-suc (distinct_length n (filter (λ x. not (eqb x n)) xs) (distinct_filter n (λ x. not (eqb x n)) xs a) below))
  where
    below : (x : ℕ) → x ∈ filter (λ x. not (eqb x n)) xs → x < n
    below x m =
        let (m', q) = filter_mem (λ x. not (eqb x n)) xs m in
        let ne : x ≢ n = λ e. T_not (eqb x n) q (eq_to_eqb e) in
        omega (arith, h x m')

-- ── no limit is above 255 ──
module _ (t : List ℤ) (rule : TableRule t) where
  pub limit_from_top : (l : ℤ) (ds : List Delegation) → l ≼ pos 255 → limit_from t l ds ≼ pos 255
  unfolding limit_from
  limit_from_top l [] h = h
  limit_from_top l (d ∷ ds) h = limit_from_top (next t l d.weight) ds (next_top t rule l d.weight h)

  -- a list never carries more than its start
  pub limit_from_below : (l : ℤ) (ds : List Delegation) → l ≼ pos 255 → limit_from t l ds ≼ l
  unfolding limit_from
  limit_from_below l [] h = le_refl (code l)
  limit_from_below l (d ∷ ds) h = le_trans (limit_from_below (next t l d.weight) ds (next_top t rule l d.weight h)) (next_below t rule l d.weight h)

-- ── the front of a chain ──

-- the limit of a chain is not -1 at any place on the way
pub live_on_the_way : (t : List ℤ) (R : Register) (u v : ℕ) (xs ys : List Delegation) → IsChain t R u v (xs ++ ys) → pos 0 ≼ limit t xs
live_on_the_way t R u v xs ys c = limit_from_live t (limit t xs) ys (subst (λ (l : ℤ). pos 0 ≼ l) (limit_from_append t (pos 255) xs ys) c.live)

distinct_front : (xs ys : List ℕ) → Distinct (xs ++ ys) → Distinct xs
distinct_front [] ys h = tt
distinct_front (x ∷ xs) ys h = (λ y m. h.0 y (Memᴰ.append_left ys m), distinct_front xs ys h.1)

-- the front of a chain is a chain of the subject where it ends
front_chain : (t : List ℤ) (R : Register) (u v x : ℕ) (xs ys : List Delegation) → IsChain t R u v (xs ++ ys) → Linked 0 xs x → IsChain t R x v xs
front_chain t R u v x xs ys c p = record {
  standing = λ d m. c.standing d (Memᴰ.append_left ys m);
  linked = p;
  distinct = distinct_front (0 ∷ receivers xs) (receivers ys) (subst (λ (zs : List ℕ). Distinct (0 ∷ zs)) (receivers_append xs ys) c.distinct);
  met = λ d m. c.met d (Memᴰ.append_left ys m);
  live = live_on_the_way t R u v xs ys c;
}

-- a linked list passes each of its receivers
split_at : (ds : List Delegation) (a u : ℕ) {x : ℕ} → Linked a ds u → x ∈ receivers ds → (xs : List Delegation) × (ys : List Delegation) × (ds ≡ xs ++ ys) × Linked a xs x
split_at [] a u p m = absurd (Memᴰ.not-nil m)
split_at (d ∷ ds) a u p (Memᴰ.head e) = (d ∷ [], ds, refl, (p.0, sym e))
split_at (d ∷ ds) a u p (Memᴰ.tail m) =
    let (xs, ys, e, q) = split_at ds d.receiver u p.1 m in
    (d ∷ xs, ys, ap (λ (zs : List Delegation). d ∷ zs) e, (p.0, q))

-- each subject on a chain has a chain of its own that carries at least as much
pub chain_to : (t : List ℤ) → TableRule t → (R : Register) (u v x : ℕ) (ds : List Delegation) → IsChain t R u v ds → x ∈ (0 ∷ receivers ds) → (xs : List Delegation) × IsChain t R x v xs × (limit t ds ≼ limit t xs)
unfolding limit_from
chain_to t rule R u v x ds c (Memᴰ.head e) = ([], subst (λ (y : ℕ). IsChain t R y v []) (sym e) (chain_owner t R v), limit_from_top t rule (pos 255) ds (le_refl 256))
chain_to t rule R u v x ds c (Memᴰ.tail m) =
    let (xs, ys, e, q) = split_at ds 0 u c.linked m in
    let k = front_chain t R u v x xs ys (subst (λ (zs : List Delegation). IsChain t R u v zs) e c) q in
    let same : limit t ds ≡ limit_from t (limit t xs) ys = ap (λ (zs : List Delegation). limit t zs) e ∙ limit_from_append t (pos 255) xs ys in
    (xs, k, subst (λ (l : ℤ). l ≼ limit t xs) (sym same) (limit_from_below t rule (limit t xs) ys (limit_from_top t rule (pos 255) xs (le_refl 256))))
