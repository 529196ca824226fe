-- The order of those from whom a right can come to a receiver: it is one list, and a search that settles the heaviest open subject first, the lowest number where several are, settles in it. Assumes nothing.
use mathlib.Core.Path.{◌≡◌, refl, sym, ap, subst, ◌∙◌}
use mathlib.Core.Logic.{◌≢◌, ◌⊎◌, inl, inr}
use mathlib.Core.Bool.{Bool, true, false, cond, not}
use mathlib.Core.List.Memᴰ
use mathlib.Core.List.{List, [], ◌∷◌, ◌++◌}
use Prim.Native.Nat.{ℕ, ◌*◌, ◌≤◌, ◌<◌}
use native.Mathlib.Nat.{le_trans, le_refl}
use native.Mathlib.Omega.{arith}
use lib.Dec.{T, T_not, ltb, ltb→lt, nltb→le}
use lib.ListN.{length, length-append}
use lib.IntN.{ℤ, pos}
use Rattle.rules.specs.List.{◌∈◌, Distinct}
use Rattle.rules.specs.Limit.{none, code, ◌≼◌}
use Rattle.rules.specs.Table.{next, TableRule}
use Rattle.rules.specs.Register.{Delegation, Register}
use Rattle.rules.specs.Condition.{Meets}
use Rattle.rules.specs.Chain.{Linked, limit, IsChain}
use Rattle.rules.specs.Reach.{reach}
use Rattle.rules.specs.WellFormed.{WellFormed}
use Rattle.rules.specs.Order.{Comes, Due, Precedes, WrittenSo, owner_first, heaviest_next, IsOrder, order_bytes}
use Rattle.rules.proofs.Lists.{either, eq_or}
use Rattle.rules.proofs.Limits.{code_inj, next_mono, next_below}
use Rattle.rules.proofs.Chains.{limit_snoc, limit_from_top, mem_snoc, distinct_snoc, distinct_length}
use Rattle.rules.proofs.Reach.{reach_attained, reach_only}
use Rattle.rules.proofs.Certificate.{closed_bound, reach_owner}
use Rattle.rules.proofs.Search.{Found, Search, search_closed, search_top, search_reach}
use Rattle.rules.proofs.Links.{last_or, unsnoc_linked}

-- ── the order is one list ──
module _ (t : List ℤ) (R : Register) (v : ℕ) where
  -- of two that precede each other, each is the other
  precedes_same : (s y : ℕ) → Precedes t R v s y → Precedes t R v y s → s ≡ y
  precedes_same s y (inl a) (inl b) = absurd (omega (arith, a, b))
  precedes_same s y (inl a) (inr b) = absurd (omega (arith, a, ap code b.0))
  precedes_same s y (inr a) (inl b) = absurd (omega (arith, b, ap code a.0))
  precedes_same s y (inr a) (inr b) = omega (arith, a.1, b.1)

  written_some : {ws : List ℕ} → WrittenSo t R v ws → 0 < length ws
  written_some owner_first = omega arith
  written_some (heaviest_next {ws} {s} a d h) = omega (arith, length-append ws (s ∷ []))

  -- lists of one length are the same
  agree : {ws xs : List ℕ} → WrittenSo t R v ws → WrittenSo t R v xs → length ws ≡ length xs → ws ≡ xs
  agree owner_first owner_first e = refl
  agree owner_first (heaviest_next {ws = xs} {s = y} b k g) e = absurd (omega (arith, e, length-append xs (y ∷ []), written_some b))
  agree (heaviest_next {ws} {s} a d h) owner_first e = absurd (omega (arith, e, length-append ws (s ∷ []), written_some a))
  agree (heaviest_next {ws} {s} a d h) (heaviest_next {ws = xs} {s = y} b k g) e =
      let i : ws ≡ xs = agree a b (omega (arith, e, length-append ws (s ∷ []), length-append xs (y ∷ []))) in
      let k' = subst (λ (zs : List ℕ). Due t R v zs y) (sym i) k in
      let j = precedes_same s y (h y k') (g s (subst (λ (zs : List ℕ). Due t R v zs s) i d)) in
      λ n. i n ++ (j n ∷ [])

  -- a list that was written so, and who followed it
  front : {xs : List ℕ} → WrittenSo t R v xs → (n : ℕ) → 0 < n → n < length xs → (ws : List ℕ) × (s : ℕ) × WrittenSo t R v ws × (length ws ≡ n) × Due t R v ws s
  front owner_first n h l = absurd (omega (arith, h, l))
  front (heaviest_next {ws} {s} a d h) n k l = go (λ q. front a n k q) (either (ltb n (length ws)))
    where
      go : (n < length ws → (xs : List ℕ) × (y : ℕ) × WrittenSo t R v xs × (length xs ≡ n) × Due t R v xs y) → T (ltb n (length ws)) ⊎ T (not (ltb n (length ws)))
          → (xs : List ℕ) × (y : ℕ) × WrittenSo t R v xs × (length xs ≡ n) × Due t R v xs y
      go ih (inl q) = ih (ltb→lt n (length ws) q)
      go ih (inr q) = (ws, s, a, omega (arith, nltb→le n (length ws) q, l, length-append ws (s ∷ [])), d)

  not_shorter : {ws xs : List ℕ} → IsOrder t R v ws → WrittenSo t R v xs → length ws < length xs → ⊥
  not_shorter {ws} {xs} o b l =
      let (zs, s, a, e, d) = front b (length ws) (written_some o.written) l in
      let i = agree a o.written e in
      d.unwritten s (subst (λ (ys : List ℕ). s ∈ ys) (sym i) (o.all s d.reached)) refl

  -- an order is the only one
  pub order_one : {ws xs : List ℕ} → IsOrder t R v ws → IsOrder t R v xs → ws ≡ xs
  order_one {ws} {xs} o p = go (either (ltb (length ws) (length xs))) (either (ltb (length xs) (length ws)))
    where
      go : T (ltb (length ws) (length xs)) ⊎ T (not (ltb (length ws) (length xs))) → T (ltb (length xs) (length ws)) ⊎ T (not (ltb (length xs) (length ws))) → ws ≡ xs
      go (inl q) r = absurd (not_shorter o p.written (ltb→lt (length ws) (length xs) q))
      go (inr q) (inl r) = absurd (not_shorter p o.written (ltb→lt (length xs) (length ws) r))
      go (inr q) (inr r) = agree o.written p.written (omega (arith, nltb→le (length ws) (length xs) q, nltb→le (length xs) (length ws) r))

  -- ── no subject twice, and at most 64 ──
  written_distinct : {ws : List ℕ} → WrittenSo t R v ws → Distinct ws
  written_distinct owner_first = ((λ y m. absurd (Memᴰ.not-nil m)), tt)
  written_distinct (heaviest_next {ws} {s} a d h) = distinct_snoc ws s (written_distinct a) d.unwritten

  written_small : WellFormed R → {ws : List ℕ} → WrittenSo t R v ws → (y : ℕ) → y ∈ ws → y < 64
  written_small f owner_first y (Memᴰ.head e) = omega (arith, e)
  written_small f owner_first y (Memᴰ.tail m) = absurd (Memᴰ.not-nil m)
  written_small f (heaviest_next {ws} {s} a d h) y m = go (λ x i. written_small f a x i) (mem_snoc ws m)
    where
      go : ((x : ℕ) → x ∈ ws → x < 64) → (y ∈ ws) ⊎ (y ≡ s) → y < 64
      go ih (inl k) = ih y k
      go ih (inr e) = omega (arith, e, d.comes.to, (f.each d.comes.by d.comes.standing).receiver, f.most)

  pub order_few : {ws : List ℕ} → IsOrder t R v ws → Distinct ws × (WellFormed R → length ws ≤ 64)
  order_few {ws} o = (written_distinct o.written, λ f. distinct_length 64 ws (written_distinct o.written) (written_small f o.written))

  pub order_some : {ws : List ℕ} → IsOrder t R v ws → 1 ≤ length ws
  order_some o = written_some o.written

  -- two bytes a subject
  pub order_length : (ws : List ℕ) → length (order_bytes t R v ws) ≡ 2 * length ws
  order_length [] = refl
  order_length (w ∷ ws) = omega (arith, order_length ws)

  pub order_small : WellFormed R → {ws : List ℕ} → IsOrder t R v ws → (y : ℕ) → y ∈ ws → y < 64
  order_small f o = written_small f o.written

  -- ── each has a limit, from 0 to 255 ──
  pub written_reached : TableRule t → {ws : List ℕ} → WrittenSo t R v ws → (y : ℕ) → y ∈ ws → reach t R y v ≢ none
  written_reached rule owner_first y (Memᴰ.head e) = λ q. omega (arith, ap code (sym (reach_owner t rule R v) ∙ ap (λ (x : ℕ). reach t R x v) (sym e) ∙ q))
  written_reached rule owner_first y (Memᴰ.tail m) = absurd (Memᴰ.not-nil m)
  written_reached rule (heaviest_next {ws} {s} a d h) y m = go (λ x i. written_reached rule a x i) (mem_snoc ws m)
    where
      go : ((x : ℕ) → x ∈ ws → reach t R x v ≢ none) → (y ∈ ws) ⊎ (y ≡ s) → reach t R y v ≢ none
      go ih (inl k) = ih y k
      go ih (inr e) = subst (λ (x : ℕ). reach t R x v ≢ none) (sym e) d.reached

  -- a reach that is not -1 is that of a chain
  pub reach_chain : (y : ℕ) → reach t R y v ≢ none → (ds : List Delegation) × IsChain t R y v ds × (reach t R y v ≡ limit t ds)
  reach_chain y n = go (reach_attained t R y v)
    where
      go : (reach t R y v ≡ none) ⊎ ((ds : List Delegation) × IsChain t R y v ds × (reach t R y v ≡ limit t ds)) → (ds : List Delegation) × IsChain t R y v ds × (reach t R y v ≡ limit t ds)
      go (inl e) = absurd (n e)
      go (inr r) = r

  pub order_limits : TableRule t → {ws : List ℕ} → IsOrder t R v ws → (y : ℕ) → y ∈ ws → (pos 0 ≼ reach t R y v) × (reach t R y v ≼ pos 255)
  order_limits rule o y m = let (ds, c, e) = reach_chain y (o.reached y m) in subst (λ (l : ℤ). (pos 0 ≼ l) × (l ≼ pos 255)) (sym e) (c.live, limit_from_top t rule (pos 255) ds (le_refl 256))

-- ── a search settles in this order ──
module _ (t : List ℤ) (rule : TableRule t) (R : Register) (v : ℕ) (L : ℕ → ℤ) (settled : ℕ → Bool) (parent : ℕ → Delegation) (search : Search t R v L settled parent []) where
  -- u is open, and none that is open is heavier
  module _ (u : ℕ) (fresh : T (not (settled u))) (most : (y : ℕ) → T (not (settled y)) → L y ≼ L u) where
    -- the limits of those settled, and elsewhere that of u
    K : ℕ → ℤ
    K x = cond (settled x) (L x) (L u)

    K_settled : (x : ℕ) → T (settled x) → K x ≡ L x
    unfolding K
    K_settled x k = go (settled x) k
      where
        go : (b : Bool) → T b → cond b (L x) (L u) ≡ L x
        go true h = refl
        go false h = absurd h

    K_open : (x : ℕ) → T (not (settled x)) → K x ≡ L u
    unfolding K
    K_open x k = go (settled x) k
      where
        go : (b : Bool) → T (not b) → cond b (L x) (L u) ≡ L u
        go true h = absurd h
        go false h = refl

    -- L u is at most K everywhere, and L is
    K_least : (x : ℕ) → L u ≼ K x
    K_least x = go (either (settled x))
      where
        go : T (settled x) ⊎ T (not (settled x)) → L u ≼ K x
        go (inl k) = subst (λ (l : ℤ). L u ≼ l) (sym (K_settled x k)) (search.order x u k fresh)
        go (inr k) = subst (λ (l : ℤ). L u ≼ l) (sym (K_open x k)) (le_refl (code (L u)))

    K_above : (x : ℕ) → L x ≼ K x
    K_above x = go (either (settled x))
      where
        go : T (settled x) ⊎ T (not (settled x)) → L x ≼ K x
        go (inl k) = subst (λ (l : ℤ). L x ≼ l) (sym (K_settled x k)) (le_refl (code (L x)))
        go (inr k) = subst (λ (l : ℤ). L x ≼ l) (sym (K_open x k)) (most x k)

    K_top : (x : ℕ) → K x ≼ pos 255
    K_top x = go (either (settled x))
      where
        top : (y : ℕ) → L y ≼ pos 255
        top = search_top t rule R v L settled parent [] search

        go : T (settled x) ⊎ T (not (settled x)) → K x ≼ pos 255
        go (inl k) = subst (λ (l : ℤ). l ≼ pos 255) (sym (K_settled x k)) (top x)
        go (inr k) = subst (λ (l : ℤ). l ≼ pos 255) (sym (K_open x k)) (top u)

    K_closed : (d : Delegation) → d ∈ R.delegations → Meets R v d → next t (K d.giver) d.weight ≼ K d.receiver
    K_closed d m q = go (either (settled d.giver))
      where
        go : T (settled d.giver) ⊎ T (not (settled d.giver)) → next t (K d.giver) d.weight ≼ K d.receiver
        go (inl k) = subst (λ (l : ℤ). next t l d.weight ≼ K d.receiver) (sym (K_settled d.giver k)) (le_trans (search_closed t rule R v L settled parent search d m q k) (K_above d.receiver))
        go (inr k) = le_trans (next_below t rule (K d.giver) d.weight (K_top d.giver)) (subst (λ (l : ℤ). l ≼ K d.receiver) (sym (K_open d.giver k)) (K_least d.receiver))

    -- no walk carries more
    K_bound : (ds : List Delegation) (x : ℕ) → Linked 0 ds x → ((d : Delegation) → d ∈ ds → d ∈ R.delegations) → ((d : Delegation) → d ∈ ds → Meets R v d) → limit t ds ≼ K x
    K_bound ds x = closed_bound t rule R v K K_closed K_top ds 0 x (pos 255) (subst (λ (l : ℤ). l ≼ K 0) search.owner (K_above 0))

    reach_now : (x : ℕ) → K x ≡ L x → reach t R x v ≡ L x
    reach_now x e = reach_only t R x v (L x) record {
      bounds = λ ds c. subst (λ (l : ℤ). limit t ds ≼ l) e (K_bound ds x c.linked c.standing c.met);
      attained = go (search.found x);
    }
      where
        go : (L x ≡ none) ⊎ Found t R v L settled parent x → (L x ≡ none) ⊎ ((ds : List Delegation) × IsChain t R x v ds × (L x ≡ limit t ds))
        go (inl q) = inl q
        go (inr f) = inr (f.links, f.chain, f.carries)

    -- those settled have their reach, and so has u
    settled_now : (x : ℕ) → T (settled x) → reach t R x v ≡ L x
    settled_now x k = reach_now x (K_settled x k)

    next_now : reach t R u v ≡ L u
    next_now = reach_now u (K_open u fresh)

    -- u has a limit, and of the open ones of this limit none has a lower number
    module _ (has : pos 0 ≼ L u) (low : (y : ℕ) → T (not (settled y)) → L y ≡ L u → u ≤ y) where
      found : Found t R v L settled parent u
      found = go (search.found u)
        where
          go : (L u ≡ none) ⊎ Found t R v L settled parent u → Found t R v L settled parent u
          go (inl e) = absurd (omega (arith, has, ap code e))
          go (inr f) = f

      -- where nothing is settled it is the owner
      first : ((x : ℕ) → T (settled x) → ⊥) → u ≡ 0
      first none_done = go found.links found.chain.linked found.passed
        where
          go : (ds : List Delegation) → Linked 0 ds u → ((d : Delegation) → d ∈ ds → T (settled d.giver)) → u ≡ 0
          go [] p q = sym p
          go (d ∷ ds) p q = absurd (none_done d.giver (q d (Memᴰ.head refl)))

      module _ (ws : List ℕ) (listed : (x : ℕ) → x ∈ ws → T (settled x)) (among : (x : ℕ) → T (settled x) → x ∈ ws) (begun : 0 ∈ ws) where
        -- the last link of its chain comes from one who is settled
        comes_by : (xs : List Delegation) (d : Delegation) → found.links ≡ xs ++ (d ∷ []) → Comes t R v ws u
        comes_by xs d e = record {
          by = d;
          standing = stands;
          from = among d.giver done;
          to = split.1;
          met = meet;
          limit = ap (λ (l : ℤ). next t l d.weight) (settled_now d.giver done) ∙ same ∙ sym next_now;
        }
          where
            at : d ∈ found.links
            at = subst (λ (ds : List Delegation). d ∈ ds) (sym e) (Memᴰ.append_right xs (Memᴰ.head refl))

            before : (x : Delegation) → x ∈ xs → x ∈ found.links
            before x m = subst (λ (ds : List Delegation). x ∈ ds) (sym e) (Memᴰ.append_left (d ∷ []) m)

            stands : d ∈ R.delegations
            stands = found.chain.standing d at

            done : T (settled d.giver)
            done = found.passed d at

            meet : Meets R v d
            meet = found.chain.met d at

            split : Linked 0 xs d.giver × (d.receiver ≡ u)
            split = unsnoc_linked xs d 0 u (subst (λ (ds : List Delegation). Linked 0 ds u) e found.chain.linked)

            -- the links before it carry no more than its giver's limit
            within : limit t xs ≼ L d.giver
            within = subst (λ (l : ℤ). limit t xs ≼ l) (K_settled d.giver done) (K_bound xs d.giver split.0 (λ x m. found.chain.standing x (before x m)) (λ x m. found.chain.met x (before x m)))

            carried : L u ≡ next t (limit t xs) d.weight
            carried = found.carries ∙ ap (limit t) e ∙ limit_snoc t xs d

            up : L u ≼ next t (L d.giver) d.weight
            up = subst (λ (l : ℤ). l ≼ next t (L d.giver) d.weight) (sym carried)
                (next_mono t rule (limit t xs) (L d.giver) d.weight d.weight within (search_top t rule R v L settled parent [] search d.giver) (le_refl d.weight))

            down : next t (L d.giver) d.weight ≼ L u
            down = subst (λ (x : ℕ). next t (L d.giver) d.weight ≼ L x) split.1 (search_closed t rule R v L settled parent search d stands meet done)

            same : next t (L d.giver) d.weight ≡ L u
            same = code_inj (next t (L d.giver) d.weight) (L u) (omega (arith, up, down)) (omega (arith, up, has))

        -- u is due, and precedes all who are
        order_due : Due t R v ws u
        order_due = record { unwritten = λ y m e. T_not (settled u) fresh (subst (λ (x : ℕ). T (settled x)) e (listed y m)); reached = λ e. omega (arith, has, ap code (sym next_now ∙ e)); comes = go (last_or found.links) }
          where
            go : (found.links ≡ []) ⊎ ((xs : List Delegation) × (d : Delegation) × (found.links ≡ xs ++ (d ∷ []))) → Comes t R v ws u
            go (inl e) = absurd (T_not (settled u) fresh (subst (λ (x : ℕ). T (settled x)) (subst (λ (ds : List Delegation). Linked 0 ds u) e found.chain.linked) (listed 0 begun)))
            go (inr r) = comes_by r.0 r.1 r.2

        order_precedes : (y : ℕ) → Due t R v ws y → Precedes t R v u y
        order_precedes y d = go (either (ltb (code (reach t R y v)) (code (reach t R u v))))
          where
            by : Delegation
            by = d.comes.by

            open_y : T (not (settled y))
            open_y = go (either (settled y))
              where
                go : T (settled y) ⊎ T (not (settled y)) → T (not (settled y))
                go (inl k) = absurd (d.unwritten y (among y k) refl)
                go (inr k) = k

            -- its limit is its reach
            reached : reach t R y v ≼ L y
            reached =
                let k = listed by.giver d.comes.from in
                subst (λ (l : ℤ). l ≼ L y) (ap (λ (l : ℤ). next t l by.weight) (sym (settled_now by.giver k)) ∙ d.comes.limit)
                (subst (λ (x : ℕ). next t (L by.giver) by.weight ≼ L x) d.comes.to (search_closed t rule R v L settled parent search by d.comes.standing d.comes.met k))

            go : T (ltb (code (reach t R y v)) (code (reach t R u v))) ⊎ T (not (ltb (code (reach t R y v)) (code (reach t R u v)))) → Precedes t R v u y
            go (inl q) = inl (ltb→lt (code (reach t R y v)) (code (reach t R u v)) q)
            go (inr q) =
                let up = nltb→le (code (reach t R y v)) (code (reach t R u v)) q in
                let same : code (L y) ≡ code (L u) = omega (arith, up, reached, most y open_y, ap code next_now) in
                let equal = code_inj (L y) (L u) same (omega (arith, same, has)) in
                let level : code (reach t R y v) ≡ code (reach t R u v) = omega (arith, up, reached, most y open_y, ap code next_now) in
                inr (code_inj (reach t R y v) (reach t R u v) level (omega (arith, level, ap code next_now, has)), low y open_y equal)

-- the subjects settled so far, in the order in which they were
pub record Ordered (t : List ℤ) (R : Register) (v : ℕ) (settled : ℕ → Bool) (ws : List ℕ) : Type 0 where
  pub so : (ws ≡ []) ⊎ WrittenSo t R v ws
  pub listed : (x : ℕ) → x ∈ ws → T (settled x)
  pub among : (x : ℕ) → T (settled x) → x ∈ ws

module _ (t : List ℤ) (rule : TableRule t) (R : Register) (v : ℕ) where
  pub ordered_start : (settled : ℕ → Bool) → ((x : ℕ) → T (not (settled x))) → Ordered t R v settled []
  ordered_start settled h = record { so = inl refl; listed = λ x m. absurd (Memᴰ.not-nil m); among = λ x k. absurd (T_not (settled x) (h x) k) }

  module _ (L : ℕ → ℤ) (settled : ℕ → Bool) (parent : ℕ → Delegation) (search : Search t R v L settled parent []) (ws : List ℕ) (now : Ordered t R v settled ws) where
    -- the heaviest open subject is settled next, the lowest number where several are
    pub ordered_next : (u : ℕ) → T (not (settled u)) → ((y : ℕ) → T (not (settled y)) → L y ≼ L u) → pos 0 ≼ L u → ((y : ℕ) → T (not (settled y)) → L y ≡ L u → u ≤ y)
        → (settled' : ℕ → Bool) → T (settled' u) → ((y : ℕ) → u ≢ y → settled' y ≡ settled y) → Ordered t R v settled' (ws ++ (u ∷ []))
    ordered_next u fresh most has low settled' at off = record { so = inr (go now.so); listed = λ x m. listed x (mem_snoc ws m); among = λ x k. among x k (eq_or u x) }
      where
        begins : {xs : List ℕ} → WrittenSo t R v xs → 0 ∈ xs
        begins owner_first = Memᴰ.head refl
        begins (heaviest_next {ws = xs} {s = s} a d h) = Memᴰ.append_left (s ∷ []) (begins a)

        go : (ws ≡ []) ⊎ WrittenSo t R v ws → WrittenSo t R v (ws ++ (u ∷ []))
        go (inl e) =
            let i = first t rule R v L settled parent search u fresh most has low (λ x k. Memᴰ.not-nil (subst (λ (xs : List ℕ). x ∈ xs) e (now.among x k))) in
            subst (λ (xs : List ℕ). WrittenSo t R v (xs ++ (u ∷ []))) (sym e) (subst (λ (x : ℕ). WrittenSo t R v (x ∷ [])) (sym i) owner_first)
        go (inr w) =
            heaviest_next w
            (order_due t rule R v L settled parent search u fresh most has low ws now.listed now.among (begins w))
            (order_precedes t rule R v L settled parent search u fresh most has low ws now.listed now.among (begins w))

        listed : (x : ℕ) → (x ∈ ws) ⊎ (x ≡ u) → T (settled' x)
        listed x (inr e) = subst (λ (y : ℕ). T (settled' y)) (sym e) at
        listed x (inl m) = old (eq_or u x)
          where
            old : (u ≡ x) ⊎ (u ≢ x) → T (settled' x)
            old (inl e) = subst (λ (y : ℕ). T (settled' y)) e at
            old (inr n) = subst T (sym (off x n)) (now.listed x m)

        among : (x : ℕ) → T (settled' x) → (u ≡ x) ⊎ (u ≢ x) → x ∈ (ws ++ (u ∷ []))
        among x k (inl e) = Memᴰ.append_right ws (Memᴰ.head (sym e))
        among x k (inr n) = Memᴰ.append_left (u ∷ []) (now.among x (subst T (off x n) k))

    -- where what is open has no limit, the order is whole
    pub ordered_end : ((y : ℕ) → T (not (settled y)) → L y ≡ none) → IsOrder t R v ws
    ordered_end h = record { written = go now.so; reached = λ s m. written_reached t R v rule (go now.so) s m; all = λ s n. now.among s (done s n (either (settled s))) }
      where
        done : (s : ℕ) → reach t R s v ≢ none → T (settled s) ⊎ T (not (settled s)) → T (settled s)
        done s n (inl k) = k
        done s n (inr k) = absurd (n (search_reach t rule R v L settled parent search h s ∙ h s k))

        go : (ws ≡ []) ⊎ WrittenSo t R v ws → WrittenSo t R v ws
        go (inl e) = absurd (Memᴰ.not-nil (subst (λ (xs : List ℕ). 0 ∈ xs) e (now.among 0 (done 0 (λ q. omega (arith, ap code (sym (reach_owner t rule R v) ∙ q))) (either (settled 0))))))
        go (inr w) = w
