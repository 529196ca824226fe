-- The state of a search over limits, places of parents and those who wait, here, near and then in the queue, and the steps that keep it: the invariant of the rules' search, with the sizes of the lists. Assumes nothing.
use mathlib.Core.Path.{◌≡◌, refl, sym, ap, subst, ◌∙◌}
use mathlib.Core.Logic.{◌≢◌, ◌⊎◌, inl, inr}
use mathlib.Core.Bool.{Bool, not}
use mathlib.Core.List.Memᴰ
use mathlib.Core.List.{List, ◌∷◌}
use Prim.Native.Nat.{ℕ, suc, ◌+◌, ◌*◌, ◌-◌, ◌≤◌, ◌<◌}
use native.Mathlib.Nat.{add-suc}
use native.Mathlib.Omega.{arith}
use lib.Dec.{T, eqb}
use lib.IntN.{ℤ, pos, nat_abs}
use lib.ListN.{length, get_or, set, length-set}
use lib.Seq.{get_or-set_same, get_or-set_other}
use Rattle.rules.specs.List.{tabulate}
use Rattle.rules.specs.Limit.{none, code, ◌≼◌}
use Rattle.rules.specs.Table.{next, TableRule}
use Rattle.rules.specs.Register.{Delegation, no_delegation}
use Rattle.rules.specs.Condition.{meets}
use Rattle.rules.proofs.Lists.{either, eq_or}
use Rattle.rules.proofs.Limits.{next_below}
use Rattle.rules.proofs.Search.{Found, Search, search_skip, search_raise}
use Rattle.block.specs.Layout.{most_subjects, record_size}
use Rattle.search.specs.Search.{under_marks, parent_in}
use Rattle.runs.specs.Steps.{Stepped, SteppedTo, stepped_none, stepped_more, part}
use Rattle.rules.specs.Bits.{bit}
use Rattle.queue.specs.Queue.{waits, BitSet, group_of, top_of, place_of}
use Rattle.queue.proofs.Buckets.{place_here, place_near, place_far}
use Rattle.runs.specs.Lent.{record_count, record_at, delegations_in}
use Rattle.search.specs.Found.{ParentsAmong}
use Rattle.runs.proofs.Records.{delegation_at_lem, record_part}
use Rattle.rules.proofs.Signed.{more, not_more, code_live}

abbrev pub limit_of : List ℤ → ℕ → ℤ
limit_of l u = get_or l u none

-- the subjects of a set are settled
abbrev pub is_settled : ℕ → ℕ → Bool
is_settled n u = eqb (bit n u) 1

-- a subject with a limit in the group of level `at`
pub record InGroup (at : ℕ) (limit : ℤ) : Type 0 where
  pub level : ℕ
  pub has : code limit ≡ suc level
  pub same : group_of level ≡ group_of at

-- level `at` being at hand, where a subject waits whose limit is z: here or near where z is in the group of `at`, else in the set of its group
pub data Waits (at : ℕ) (q : List ℕ) (u z : ℕ) : Type 0 where
  waits_here : group_of z ≡ group_of at → waits q 0 u ≡ 1 → Waits at q u z
  waits_near : group_of z ≡ group_of at → waits q 1 u ≡ 1 → Waits at q u z
  waits_far : group_of z ≢ group_of at → waits q (suc (suc (group_of z))) u ≡ 1 → Waits at q u z

-- it still does where the sets have it as before
pub waits_same : (at : ℕ) (q q' : List ℕ) (u z : ℕ) → ((x : ℕ) → waits q' x u ≡ waits q x u) → Waits at q u z → Waits at q' u z
waits_same at q q' u z e (waits_here g w) = waits_here g (e 0 ∙ w)
waits_same at q q' u z e (waits_near g w) = waits_near g (e 1 ∙ w)
waits_same at q q' u z e (waits_far g w) = waits_far g (e (suc (suc (group_of z))) ∙ w)

-- it waits in the entry of its limit
pub waits_placed : (at : ℕ) (q : List ℕ) (u z : ℕ) → waits q (place_of at z) u ≡ 1 → Waits at q u z
waits_placed at q u z w = go (eq_or z at) (eq_or (group_of z) (group_of at))
  where
    go : (z ≡ at) ⊎ (z ≢ at) → (group_of z ≡ group_of at) ⊎ (group_of z ≢ group_of at) → Waits at q u z
    go (inl e) g = waits_here (ap group_of e) (subst (λ (x : ℕ). waits q x u ≡ 1) (place_here at z e) w)
    go (inr e) (inl g) = waits_near g (subst (λ (x : ℕ). waits q x u ≡ 1) (place_near at z e g) w)
    go (inr e) (inr g) = waits_far g (subst (λ (x : ℕ). waits q x u ≡ 1) (place_far at z g) w)

-- level `at` being at hand: no open subject has a limit above it, each that has one waits, those who wait here are open and have this limit, those who wait near are open and have limits in
-- the group of `at`, and whoever is in the set of a group has no limit below that group
pub record State (t : List ℤ) (s : List ℕ) (marks : ℕ) (settled : ℕ → Bool) (at : ℕ) (l : List ℤ) (p q : List ℕ) (pending : List Delegation) : Type 0 where
  pub limits : length l ≡ most_subjects
  pub parents : length p ≡ most_subjects
  pub most : (u : ℕ) → T (not (settled u)) → code (limit_of l u) ≤ suc at
  pub waiting : (u z : ℕ) → T (not (settled u)) → code (limit_of l u) ≡ suc z → Waits at q u z
  pub here : (u : ℕ) → waits q 0 u ≡ 1 → T (not (settled u)) × (code (limit_of l u) ≡ suc at)
  pub near : (u : ℕ) → waits q 1 u ≡ 1 → T (not (settled u)) × InGroup at (limit_of l u)
  pub far : (g u : ℕ) → waits q (suc (suc g)) u ≡ 1 → top_of g ≤ code (limit_of l u) + 2
  pub among : 0 < record_count s → ParentsAmong p (record_count s)
  pub search : Search t (under_marks (delegations_in s) marks) 0 (limit_of l) settled (parent_in (delegations_in s) p) pending

module _ (t : List ℤ) (rule : TableRule t) (s : List ℕ) (marks : ℕ) (settled : ℕ → Bool) (at : ℕ) where
  -- a limit is none, or from 0 to 255
  pub state_limit : (l : List ℤ) (p q : List ℕ) (ds : List Delegation) → State t s marks settled at l p q ds → (u : ℕ) → (limit_of l u ≡ none) ⊎ (pos 0 ≼ limit_of l u)
  state_limit l p q ds st u = go (st.search.found u)
    where
      go : (limit_of l u ≡ none) ⊎ Found t (under_marks (delegations_in s) marks) 0 (limit_of l) settled (parent_in (delegations_in s) p) u → (limit_of l u ≡ none) ⊎ (pos 0 ≼ limit_of l u)
      go (inl e) = inl e
      go (inr f) = inr (subst (λ (z : ℤ). pos 0 ≼ z) (sym f.carries) f.chain.live)

  -- one giver's records, from its limit
  module _ (u : ℕ) (small : at ≤ 255) where
    abbrev pub Kept : List ℤ → List ℕ → List ℕ → List Delegation → Type 0
    Kept l p q ds = State t s marks settled at l p q ds × (limit_of l u ≡ pos at)

    module _ (k : ℕ) (rest : List Delegation) (l : List ℤ) (p q : List ℕ) (h : k < record_count s) (from : (record_at s k).giver ≡ u) (to : (record_at s k).receiver < most_subjects)
        (now : Kept l p q (record_at s k ∷ rest)) where
      abbrev d : Delegation
      d = record_at s k

      abbrev given : ℤ
      given = next t (pos at) d.weight

      at_giver : limit_of l d.giver ≡ pos at
      at_giver = ap (limit_of l) from ∙ now.1

      skipped : (T (meets marks d.need d.bar) → given ≼ limit_of l d.receiver) → Kept l p q rest
      skipped f = (
        record {
          limits = now.0.limits;
          parents = now.0.parents;
          most = now.0.most;
          waiting = now.0.waiting;
          here = now.0.here;
          near = now.0.near;
          far = now.0.far;
          among = now.0.among;
          search = search_skip t rule (under_marks (delegations_in s) marks) 0 (limit_of l) settled (parent_in (delegations_in s) p) d rest now.0.search
              (λ m. subst (λ (z : ℤ). next t z d.weight ≼ limit_of l d.receiver) (sym at_giver) (f m));
        },
        now.1,
      )

      module _ (m : T (meets marks d.need d.bar)) (f : code (limit_of l d.receiver) < code given) where
        abbrev l' : List ℤ
        l' = set l d.receiver given

        raised_to : limit_of l' d.receiver ≡ given
        raised_to = get_or-set_same l d.receiver given none (omega (arith, now.0.limits))

        off : (y : ℕ) → d.receiver ≢ y → limit_of l' y ≡ limit_of l y
        off y n = get_or-set_other l d.receiver y given none (λ e. n (sym e))

        below : code given ≤ suc at
        below = next_below t rule (pos at) d.weight (omega arith)

        -- the level at which the receiver waits then
        abbrev level : ℕ
        level = nat_abs given

        at_level : code given ≡ suc level
        at_level = code_live given (omega arith)

        -- what is settled is not raised
        fresh : (y : ℕ) → T (settled y) → d.receiver ≢ y
        fresh y z e = omega (arith, f, ap code (ap (limit_of l) e), now.0.search.least d (Memᴰ.head refl) y z, ap code at_giver, below)

        open_still : T (not (settled d.receiver))
        open_still = go (either (settled d.receiver))
          where
            go : T (settled d.receiver) ⊎ T (not (settled d.receiver)) → T (not (settled d.receiver))
            go (inl z) = absurd (fresh d.receiver z refl)
            go (inr o) = o

        -- a giver raises no limit to its own
        other : d.receiver ≢ u
        other e = omega (arith, f, ap code (ap (limit_of l) e ∙ now.1), below)

        most : (y : ℕ) → T (not (settled y)) → (d.receiver ≡ y) ⊎ (d.receiver ≢ y) → code (limit_of l' y) ≤ suc at
        most y o (inl e) = subst (λ (i : ℕ). code (limit_of l' i) ≤ suc at) e (omega (arith, ap code raised_to, below))
        most y o (inr n) = omega (arith, ap code (off y n), now.0.most y o)

        module _ (q' : List ℕ) (put : BitSet q (place_of at level) d.receiver 1 q') where
          waiting : (y z : ℕ) → T (not (settled y)) → code (limit_of l' y) ≡ suc z → (d.receiver ≡ y) ⊎ (d.receiver ≢ y) → Waits at q' y z
          waiting y z o e (inr n) = waits_same at q q' y z (λ x. put.others x y (inr n)) (now.0.waiting y z o (ap code (sym (off y n)) ∙ e))
          waiting y z o e (inl i) =
              let here : level ≡ z = omega (arith, at_level, ap code raised_to, ap code (ap (limit_of l') i)) in
              waits_placed at q' y z (subst (λ (x : ℕ). waits q' (place_of at x) y ≡ 1) here (subst (λ (x : ℕ). waits q' (place_of at level) x ≡ 1) i put.here))

          -- the receiver waits here only if its new limit is the level at hand
          at_hand : waits q' 0 d.receiver ≡ 1 → (level ≡ at) ⊎ (level ≢ at) → level ≡ at
          at_hand w (inl e) = e
          at_hand w (inr n) = absurd (omega (arith, (now.0.here d.receiver (sym (put.others 0 d.receiver (inl (λ e. elsewhere n e))) ∙ w)).1, f, below))
            where
              elsewhere : level ≢ at → place_of at level ≡ 0 → ⊥
              elsewhere n e = go (eq_or (group_of level) (group_of at))
                where
                  go : (group_of level ≡ group_of at) ⊎ (group_of level ≢ group_of at) → ⊥
                  go (inl g) = omega (arith, sym (place_near at level n g) ∙ e)
                  go (inr g) = omega (arith, sym (place_far at level g) ∙ e)

          here : (y : ℕ) → waits q' 0 y ≡ 1 → (d.receiver ≡ y) ⊎ (d.receiver ≢ y) → T (not (settled y)) × (code (limit_of l' y) ≡ suc at)
          here y w (inr n) = subst (λ (z : ℤ). T (not (settled y)) × (code z ≡ suc at)) (sym (off y n)) (now.0.here y (sym (put.others 0 y (inr n)) ∙ w))
          here y w (inl e) =
              subst (λ (i : ℕ). T (not (settled i)) × (code (limit_of l' i) ≡ suc at)) e
              (open_still, ap code raised_to ∙ at_level ∙ ap suc (at_hand (ap (waits q' 0) e ∙ w) (eq_or level at)))

          -- and near only if that is in its group
          near_group : waits q' 1 d.receiver ≡ 1 → (group_of level ≡ group_of at) ⊎ (group_of level ≢ group_of at) → group_of level ≡ group_of at
          near_group w (inl e) = e
          near_group w (inr n) =
              let was = (now.0.near d.receiver (sym (put.others 1 d.receiver (inl (λ e. omega (arith, sym (place_far at level n) ∙ e)))) ∙ w)).1 in
              omega (arith, was.has, was.same, f, at_level, below)

          near : (y : ℕ) → waits q' 1 y ≡ 1 → (d.receiver ≡ y) ⊎ (d.receiver ≢ y) → T (not (settled y)) × InGroup at (limit_of l' y)
          near y w (inr n) = subst (λ (z : ℤ). T (not (settled y)) × InGroup at z) (sym (off y n)) (now.0.near y (sym (put.others 1 y (inr n)) ∙ w))
          near y w (inl e) =
              subst (λ (i : ℕ). T (not (settled i)) × InGroup at (limit_of l' i)) e
              (open_still, record { level = level; has = ap code raised_to ∙ at_level; same = near_group (ap (waits q' 1) e ∙ w) (eq_or (group_of level) (group_of at)) })

          far_raised : (g : ℕ) → waits q' (suc (suc g)) d.receiver ≡ 1 → (place_of at level ≡ suc (suc g)) ⊎ (place_of at level ≢ suc (suc g)) → (level ≡ at) ⊎ (level ≢ at) → (group_of level ≡ group_of at) ⊎ (group_of level ≢ group_of at)
              → top_of g ≤ code given + 2
          far_raised g w (inr n) h i = omega (arith, now.0.far g d.receiver (sym (put.others (suc (suc g)) d.receiver (inl n)) ∙ w), f)
          far_raised g w (inl e) (inl h) i = absurd (omega (arith, sym (place_here at level h) ∙ e))
          far_raised g w (inl e) (inr h) (inl i) = absurd (omega (arith, sym (place_near at level h i) ∙ e))
          far_raised g w (inl e) (inr h) (inr i) = let here : group_of level ≡ g = omega (arith, sym (place_far at level i) ∙ e) in omega (arith, here, at_level)

          far : (g y : ℕ) → waits q' (suc (suc g)) y ≡ 1 → (d.receiver ≡ y) ⊎ (d.receiver ≢ y) → top_of g ≤ code (limit_of l' y) + 2
          far g y w (inr n) = omega (arith, ap code (off y n), now.0.far g y (sym (put.others (suc (suc g)) y (inr n)) ∙ w))
          far g y w (inl e) =
              subst (λ (i : ℕ). top_of g ≤ code (limit_of l' i) + 2) e
              (omega (arith, ap code raised_to, far_raised g (ap (waits q' (suc (suc g))) e ∙ w) (eq_or (place_of at level) (suc (suc g))) (eq_or level at) (eq_or (group_of level) (group_of at))))

        place : {y : ℕ} → (d.receiver ≡ y) ⊎ (d.receiver ≢ y) → get_or p y 0 < record_count s → get_or (set p d.receiver k) y 0 < record_count s
        place {y} (inl e) b = subst (λ (i : ℕ). get_or (set p d.receiver k) i 0 < record_count s) e (subst (λ (i : ℕ). i < record_count s) (sym (get_or-set_same p d.receiver k 0 (omega (arith, now.0.parents)))) h)
        place {y} (inr n) b = subst (λ (i : ℕ). i < record_count s) (sym (get_or-set_other p d.receiver y k 0 (λ e. n (sym e)))) b

        raised : (q' : List ℕ) → BitSet q (place_of at level) d.receiver 1 q' → Kept l' (set p d.receiver k) q' rest
        raised q' put = (
          record {
            limits = simp length-set now.0.limits;
            parents = simp length-set now.0.parents;
            most = λ y o. most y o (eq_or d.receiver y);
            waiting = λ y z o e. waiting q' put y z o e (eq_or d.receiver y);
            here = λ y w. here q' put y w (eq_or d.receiver y);
            near = λ y w. near q' put y w (eq_or d.receiver y);
            far = λ g y w. far q' put g y w (eq_or d.receiver y);
            among = λ z y b. place (eq_or d.receiver y) (now.0.among z y b);
            search = search_raise t rule (under_marks (delegations_in s) marks) 0 (limit_of l) (limit_of l') settled (parent_in (delegations_in s) p)
                (parent_in (delegations_in s) (set p d.receiver k)) d rest now.0.search m
                (subst (λ (z : ℤ). code (limit_of l d.receiver) < code (next t z d.weight)) (sym at_giver) f)
                (raised_to ∙ ap (λ (z : ℤ). next t z d.weight) (sym at_giver)) off
                (ap (λ (i : ℕ). get_or (delegations_in s) i no_delegation) (get_or-set_same p d.receiver k 0 (omega (arith, now.0.parents))) ∙ delegation_at_lem s (record_count s) k no_delegation h)
                (λ y n. ap (λ (i : ℕ). get_or (delegations_in s) i no_delegation) (get_or-set_other p d.receiver y k 0 (λ e. n (sym e))));
          },
          off u other ∙ now.1,
        )

      stepped : (l' : List ℤ) (p' q' : List ℕ) → Stepped t (pos at) marks d k l p q l' p' q' → Kept l' p' q' rest
      stepped _ p' q' (inl (none-raised, el, ep, eq)) =
          subst (λ (x : List ℤ). Kept x p' q' rest) (sym el) (subst (λ (x : List ℕ). Kept l x q' rest) (sym ep) (subst (λ (x : List ℕ). Kept l p x rest) (sym eq)
          (skipped (λ m. not_more (limit_of l d.receiver) given (λ f. none-raised (m, f))))))
      stepped _ p' q' (inr ((m, f), el, ep, put)) =
          subst (λ (x : List ℤ). Kept x p' q' rest) (sym el) (subst (λ (x : List ℕ). Kept (set l d.receiver given) x q' rest) (sym ep)
          (raised m (more (limit_of l d.receiver) given (state_limit l p q (d ∷ rest) now.0 d.receiver) f) q' put))

    -- the records from place a to place e
    module _ (a e : ℕ) (order : a ≤ e) (within : e ≤ record_count s) (here : (k : ℕ) → a ≤ k → k < e → (record_at s k).giver ≡ u) (receivers : (k : ℕ) → k < record_count s → (record_at s k).receiver < most_subjects)
        (l : List ℤ) (p q : List ℕ) (now : Kept l p q (tabulate (record_at s) a (e - a))) where
      abbrev pub left : ℕ → List Delegation
      left k = tabulate (record_at s) (a + k) (e - a - k)

      left_cons : (k : ℕ) → k < e - a → left k ≡ (record_at s (a + k) ∷ left (suc k))
      left_cons k h =
          let n : e - a - k ≡ suc (e - a - suc k) = omega arith in
          ap (tabulate (record_at s) (a + k)) n ∙ ap (λ (j : ℕ). record_at s (a + k) ∷ tabulate (record_at s) j (e - a - suc k)) (sym (add-suc a k))

      pub ran : (k : ℕ) (l' : List ℤ) (p' q' : List ℕ) → SteppedTo t (pos at) marks (part s a e) a l p q k l' p' q' → k ≤ e - a → Kept l' p' q' (left k)
      ran k l' p' q' stepped_none h = subst (λ (ds : List Delegation). Kept l p q ds) (λ i. tabulate (record_at s) (first i) (count i)) now
        where
          first : a ≡ a + 0
          first = omega arith

          count : e - a ≡ e - a - 0
          count = omega arith
      ran (suc k) l'' p'' q'' (stepped_more {l' = l'} {p' = p'} {q' = q'} before f) h =
          stepped (a + k) (left (suc k)) l' p' q' (omega arith) (here (a + k) (omega arith) (omega arith)) (receivers (a + k) (omega arith))
          (subst (λ (ds : List Delegation). Kept l' p' q' ds) (left_cons k (omega arith)) (ran k l' p' q' before (omega arith))) l'' p'' q''
          (subst (λ (d : Delegation). Stepped t (pos at) marks d (a + k) l' p' q' l'' p'' q'') (record_part s a (record_size * e - record_size * a) k (omega arith)) f)

-- level `at` being at hand: whoever is open and has this limit waits here
abbrev pub AllHere : (ℕ → Bool) → ℕ → List ℤ → List ℕ → Type 0
AllHere settled at l q = (y : ℕ) → T (not (settled y)) → code (limit_of l y) ≡ suc at → waits q 0 y ≡ 1

module _ (t : List ℤ) (marks : ℕ) (settled : ℕ → Bool) (at : ℕ) where
  -- one record, from this limit
  all_stepped : (d : Delegation) (place : ℕ) (l : List ℤ) (p q : List ℕ) (l' : List ℤ) (p' q' : List ℕ) → d.receiver < length l → Stepped t (pos at) marks d place l p q l' p' q' → AllHere settled at l q → AllHere settled at l' q'
  all_stepped d place l p q l' p' q' b (inl (none-raised, el, ep, eq)) all = subst (λ (x : List ℤ). AllHere settled at x q') (sym el) (subst (AllHere settled at l) (sym eq) all)
  all_stepped d place l p q l' p' q' b (inr (raises, el, ep, put)) all = subst (λ (x : List ℤ). AllHere settled at x q') (sym el) (λ y o e. go y o e (eq_or d.receiver y))
    where
      go : (y : ℕ) → T (not (settled y)) → code (limit_of (set l d.receiver (next t (pos at) d.weight)) y) ≡ suc at → (d.receiver ≡ y) ⊎ (d.receiver ≢ y) → waits q' 0 y ≡ 1
      go y o e (inr n) = put.others 0 y (inr n) ∙ all y o (ap code (sym (get_or-set_other l d.receiver y (next t (pos at) d.weight) none (λ i. n (sym i)))) ∙ e)
      go y o e (inl i) =
          let has : code (next t (pos at) d.weight) ≡ suc at = ap code (sym (get_or-set_same l d.receiver (next t (pos at) d.weight) none b)) ∙ ap (λ (x : ℕ). code (limit_of (set l d.receiver (next t (pos at) d.weight)) x)) i ∙ e in
          let level : nat_abs (next t (pos at) d.weight) ≡ at = omega (arith, has, code_live (next t (pos at) d.weight) (omega (arith, has))) in
          subst (λ (x : ℕ). waits q' 0 x ≡ 1) i (subst (λ (x : ℕ). waits q' x d.receiver ≡ 1) (place_here at (nat_abs (next t (pos at) d.weight)) level) put.here)

  -- the first records of a run
  pub all_ran : (run : List ℕ) (first : ℕ) (l : List ℤ) (p q : List ℕ) → ((k : ℕ) → k < record_count run → (record_at run k).receiver < length l) → (k : ℕ) → k ≤ record_count run → (l' : List ℤ) (p' q' : List ℕ)
      → SteppedTo t (pos at) marks run first l p q k l' p' q' → AllHere settled at l q → (length l' ≡ length l) × AllHere settled at l' q'
  all_ran run first l p q small k b l' p' q' stepped_none all = (refl, all)
  all_ran run first l p q small (suc k) b l'' p'' q'' (stepped_more {l' = l'} {p' = p'} {q' = q'} before f) all =
      let ih = all_ran run first l p q small k (omega (arith, b)) l' p' q' before all in
      (same f ∙ ih.0, all_stepped (record_at run k) (first + k) l' p' q' l'' p'' q'' (subst (λ (n : ℕ). (record_at run k).receiver < n) (sym ih.0) (small k (omega (arith, b)))) f ih.1)
    where
      same : Stepped t (pos at) marks (record_at run k) (first + k) l' p' q' l'' p'' q'' → length l'' ≡ length l'
      same (inl (none-raised, el, ep, eq)) = ap length el
      same (inr (raises, el, ep, put)) = ap length el ∙ length-set l' (record_at run k).receiver (next t (pos at) (record_at run k).weight)
