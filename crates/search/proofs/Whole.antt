-- A whole search: its start, its turns, its end, and what falls with every turn. Assumes nothing.
use mathlib.Core.Path.{◌≡◌, refl, sym, ap, subst, ◌∙◌}
use mathlib.Core.Logic.{◌≢◌, ◌⊎◌, inl, inr}
use mathlib.Core.Bool.{Bool, not}
use mathlib.Core.List.{List, [], ◌∷◌}
use Prim.Native.Nat.{ℕ, zero, suc, ◌+◌, ◌*◌, ◌-◌, ◌≤◌, ◌<◌}
use native.Mathlib.Nat.{zero-add}
use native.Mathlib.Omega.{arith}
use lib.Dec.{T, eqb, eqb→eq, ltb, ltb→lt, nltb→le}
use lib.IntN.{ℤ, pos, nat_abs}
use lib.ListN.{length, get_or}
use lib.Seq.{ext_get_or}
use Rattle.rules.specs.List.{◌∈◌, tabulate}
use Rattle.rules.specs.Limit.{none, code, ◌≼◌}
use Rattle.rules.specs.Register.{Delegation}
use Rattle.rules.specs.Chain.{limit, IsChain}
use Rattle.rules.specs.Reach.{reach}
use Rattle.rules.specs.Links.{links_to}
use Rattle.rules.proofs.Lists.{either, eq_to_eqb, eq_or, get_d_tabulate, test_ne}
use Rattle.rules.proofs.Search.{Found, search_start, search_settle, search_reach}
use Rattle.rules.proofs.Links.{found_links}
use Rattle.block.proofs.Bytes.{length_tabulate, tabulate_mem, mem_tabulate}
use Rattle.block.specs.Layout.{most_subjects}
use Rattle.search.specs.Search.{under_marks, parent_in, most_links, Started}
use Rattle.search.specs.Turns.{Heaviest}
use Rattle.runs.specs.Lent.{record_count, record_at, Lent, SubjectLists, delegations_in}
use Rattle.runs.specs.Steps.{SteppedTo, part, Gave, Waiting}
use Rattle.rules.specs.Bits.{bit, BitPut}
use Rattle.queue.specs.Queue.{left, members, groups, set_bits, Without, Lowest, waits, group_of, top_of, Covered, Empty, Taken}
use Rattle.search.specs.Found.{Searched}
use Rattle.runs.proofs.Records.{delegation_mem, mem_delegation}
use Rattle.runs.proofs.Givers.{part_count, part_receivers}
use Rattle.rules.proofs.Signed.{code_live, code_pos}
use Rattle.search.proofs.State.{limit_of, is_settled, InGroup, Waits, waits_here, waits_near, waits_far, waits_same, State, state_limit, ran, AllHere, all_ran}
use Rattle.rules.proofs.Bits.{bit_zero, bit_small}
use Rattle.queue.proofs.Buckets.{left_falls, members_few, members_fall, part_put}

-- how many subjects are open
abbrev pub unsettled : ℕ → ℕ
unsettled n = left (is_settled n) most_subjects

-- what falls with every turn: the open subjects, then the groups in which one may wait, then those who wait near
abbrev pub measure : ℕ → ℕ → ℕ → ℕ
measure n near far = suc set_bits * suc set_bits * unsettled n + suc set_bits * members far + members near

pub level_less : (n near near₁ far u : ℕ) → u < set_bits → bit near u ≡ 1 → bit near₁ u ≡ 0 → ((y : ℕ) → bit near y ≡ 0 → bit near₁ y ≡ 0) → measure n near₁ far < measure n near far
level_less n near near₁ far u h w out part = omega (arith, members_fall near near₁ u h w out part)

pub group_less : (n g near near₁ far far₁ : ℕ) → Lowest far g → BitPut far g 0 far₁ → measure n near₁ far₁ < measure n near far
group_less n g near near₁ far far₁ first put = omega (arith, members_fall far far₁ g first.small first.member put.here (part_put far far₁ g put), members_few near₁)

-- a subject that is open is not in the set of those settled
pub open_bit : (n y : ℕ) → T (not (is_settled n y)) → bit n y ≡ 0
open_bit n y o = omega (arith, bit_small n y, test_ne (bit n y) 1 o)

pub bit_open : (n y : ℕ) → bit n y ≡ 0 → T (not (is_settled n y))
bit_open n y e = go (either (is_settled n y))
  where
    go : T (is_settled n y) ⊎ T (not (is_settled n y)) → T (not (is_settled n y))
    go (inl h) = absurd (omega (arith, e, eqb→eq (bit n y) 1 h))
    go (inr h) = h

-- u is settled, and no other
module _ (n n₁ u : ℕ) (put : BitPut n u 1 n₁) where
  pub others : (y : ℕ) → u ≢ y → is_settled n₁ y ≡ is_settled n y
  others y d = ap (λ (x : ℕ). eqb x 1) (put.others y d)

  pub fewer_open : u < most_subjects → T (not (is_settled n u)) → unsettled n₁ < unsettled n
  fewer_open h o = left_falls (is_settled n) (is_settled n₁) most_subjects u h o (eq_to_eqb put.here) (λ y k. kept y k (eq_or u y))
    where
      kept : (y : ℕ) → T (is_settled n y) → (u ≡ y) ⊎ (u ≢ y) → T (is_settled n₁ y)
      kept y k (inl e) = eq_to_eqb (ap (bit n₁) (sym e) ∙ put.here)
      kept y k (inr d) = subst T (sym (others y d)) k

module _ (t : List ℤ) (s : List ℕ) (lent : Lent t s (record_count s)) (marks : ℕ) where
  -- ── the start: the owner alone waits, here ──
  module _ (l : List ℤ) (p q : List ℕ) (room : SubjectLists l p) (st : Started l p) (empty : Empty q) where
    -- whoever has a limit is the owner
    only : (y z : ℕ) → code (limit_of l y) ≡ suc z → (0 ≡ y) ⊎ (0 ≢ y) → (0 ≡ y) × (z ≡ 255)
    only y z e (inl i) = (i, omega (arith, e, ap code (ap (limit_of l) (sym i) ∙ st.owner)))
    only y z e (inr n) = absurd (omega (arith, e, ap code (st.others y n)))

    pub state_start : State t s marks (is_settled 0) 255 l p (1 ∷ 0 ∷ q) []
    state_start = record {
      limits = room.limits;
      parents = room.parents;
      most = λ y _. top y (eq_or 0 y);
      waiting = λ y z _ e. let o = only y z e (eq_or 0 y) in waits_here (ap group_of o.1) (ap (bit 1) (sym o.0));
      here = λ y w. (bit_open 0 y (bit_zero y), owned y (eq_or 0 y) w);
      near = λ y w. absurd (omega (arith, sym (bit_zero y) ∙ w));
      far = λ g y w. absurd (omega (arith, sym (empty.none g y) ∙ w));
      among = λ z u b. subst (λ (i : ℕ). i < record_count s) (sym (st.places u)) z;
      search = search_start t lent.rule (under_marks (delegations_in s) marks) 0 (limit_of l) (is_settled 0) (parent_in (delegations_in s) p) st.owner st.others (λ y. bit_open 0 y (bit_zero y));
    }
      where
        top : (y : ℕ) → (0 ≡ y) ⊎ (0 ≢ y) → code (limit_of l y) ≤ 256
        top y (inl e) = subst (λ (i : ℕ). code (limit_of l i) ≤ 256) e (omega (arith, ap code st.owner))
        top y (inr n) = omega (arith, ap code (st.others y n))

        owned : (y : ℕ) → (0 ≡ y) ⊎ (0 ≢ y) → bit 1 y ≡ 1 → code (limit_of l y) ≡ 256
        owned y (inl e) w = ap code (ap (limit_of l) (sym e) ∙ st.owner)
        owned zero (inr n) w = absurd (n refl)
        owned (suc y) (inr n) w = absurd (omega (arith, sym (bit_zero y) ∙ w))

    pub all_start : AllHere (is_settled 0) 255 l (1 ∷ 0 ∷ q)
    all_start y o e = ap (bit 1) (sym (only y 255 e (eq_or 0 y)).0)

    pub waiting_start : Waiting l q 0
    waiting_start = record { queue = record { size = empty.size; covered = λ g y _. empty.none g y }; limits = λ y. go (eq_or 0 y) }
      where
        go : {y : ℕ} → (0 ≡ y) ⊎ (0 ≢ y) → (limit_of l y ≡ none) ⊎ (pos 0 ≼ limit_of l y)
        go {y} (inl e) = inr (subst (λ (i : ℕ). pos 0 ≼ limit_of l i) e (subst (λ (z : ℤ). pos 0 ≼ z) (sym st.owner) (omega arith)))
        go {y} (inr n) = inl (st.others y n)

  module _ (l : List ℤ) (p q : List ℕ) (here near far n at : ℕ) (small : at ≤ 255) (now : State t s marks (is_settled n) at l p (here ∷ near ∷ q) []) (covered : Covered q far) where
    -- ── none waits here, and the next level is taken ──
    module _ (none_here : (y : ℕ) → bit here y ≡ 0) where
      -- of those who wait near
      module _ (first here₁ near₁ : ℕ) (heavy : Heaviest l near first here₁) (rest : Without near here₁ near₁) where
        held : InGroup at (limit_of l (first))
        held = (now.near (first) (heavy.each (first) heavy.member).0).1

        abbrev pub level : ℕ
        level = nat_abs (limit_of l (first))

        has_level : code (limit_of l (first)) ≡ suc level
        has_level = code_live (limit_of l (first)) (omega (arith, held.has))

        same_group : group_of level ≡ group_of at
        same_group = let e : level ≡ held.level = omega (arith, held.has, has_level) in ap group_of e ∙ held.same

        pub level_small : level ≤ 255
        level_small = omega (arith, has_level, now.most (first) (now.near (first) (heavy.each (first) heavy.member).0).0, small)

        -- who waited near waits here or near
        still : (y : ℕ) → bit near y ≡ 1 → (bit here₁ y ≡ 1) ⊎ (bit near₁ y ≡ 1)
        still y w = go (eq_or (bit here₁ y) 1)
          where
            go : (bit here₁ y ≡ 1) ⊎ (bit here₁ y ≢ 1) → (bit here₁ y ≡ 1) ⊎ (bit near₁ y ≡ 1)
            go (inl e) = inl e
            go (inr d) = inr (rest y ∙ omega (arith, d, w, bit_small here₁ y))

        light : (y : ℕ) → bit near y ≡ 1 → (bit here₁ y ≡ 1) ⊎ (code (limit_of l y) < code (limit_of l (first))) → code (limit_of l y) ≤ suc level
        light y w (inl e) = omega (arith, ap code (heavy.each y e).1, has_level)
        light y w (inr h) = omega (arith, h, has_level)

        most : (y : ℕ) → T (not (is_settled n y)) → code (limit_of l y) ≤ suc level
        most y o = go (code (limit_of l y)) refl
          where
            by : (z : ℕ) → code (limit_of l y) ≡ suc z → Waits at (here ∷ near ∷ q) y z → code (limit_of l y) ≤ suc level
            by z e (waits_here g w) = absurd (omega (arith, w, none_here y))
            by z e (waits_near g w) = light y w (heavy.rest y w)
            by z e (waits_far g w) = omega (arith, g, same_group, now.most y o, e, small)

            go : (c : ℕ) → code (limit_of l y) ≡ c → code (limit_of l y) ≤ suc level
            go zero e = omega arith
            go (suc z) e = by z e (now.waiting y z o e)

        pub state_level : State t s marks (is_settled n) level l p (here₁ ∷ near₁ ∷ q) []
        state_level = record {
          limits = now.limits;
          parents = now.parents;
          most = most;
          waiting = λ y z o e. waiting y z (now.waiting y z o e);
          here = λ y w. ((now.near y (heavy.each y w).0).0, ap code (heavy.each y w).1 ∙ has_level);
          near = λ y w. let h = now.near y (left y w) in (h.0, record { level = h.1.level; has = h.1.has; same = h.1.same ∙ sym same_group });
          far = now.far;
          among = now.among;
          search = now.search;
        }
          where
            left : (y : ℕ) → bit near₁ y ≡ 1 → bit near y ≡ 1
            left y w = omega (arith, sym (rest y) ∙ w, bit_small near y)

            waiting : (y z : ℕ) → Waits at (here ∷ near ∷ q) y z → Waits level (here₁ ∷ near₁ ∷ q) y z
            waiting y z (waits_here g w) = absurd (omega (arith, w, none_here y))
            waiting y z (waits_near g w) = go (still y w)
              where
                go : (bit here₁ y ≡ 1) ⊎ (bit near₁ y ≡ 1) → Waits level (here₁ ∷ near₁ ∷ q) y z
                go (inl e) = waits_here (g ∙ sym same_group) e
                go (inr e) = waits_near (g ∙ sym same_group) e
            waiting y z (waits_far g w) = waits_far (λ e. g (e ∙ same_group)) w

        pub all_level : AllHere (is_settled n) level l (here₁ ∷ near₁ ∷ q)
        all_level y o e = go (now.waiting y level o e)
          where
            by : (bit here₁ y ≡ 1) ⊎ (code (limit_of l y) < code (limit_of l (first))) → bit here₁ y ≡ 1
            by (inl w) = w
            by (inr h) = absurd (omega (arith, h, e, has_level))

            go : Waits at (here ∷ near ∷ q) y level → bit here₁ y ≡ 1
            go (waits_here g w) = absurd (omega (arith, w, none_here y))
            go (waits_near g w) = by (heavy.rest y w)
            go (waits_far g w) = absurd (g same_group)

      -- of the first group in which one may wait
      module _ (none-near : (y : ℕ) → bit near y ≡ 0) (g : ℕ) (first : Lowest far g) (here₁ near₁ : ℕ) (none : here₁ ≡ 0) (q₁ : List ℕ) (tk : Taken q g n near₁ q₁) where
        -- whoever is open waits in this group or below
        lower : (y z : ℕ) → Waits at (here ∷ near ∷ q) y z → (g ≤ group_of z) × (waits q (group_of z) y ≡ 1)
        lower y z (waits_here h w) = absurd (omega (arith, w, none_here y))
        lower y z (waits_near h w) = absurd (omega (arith, w, none-near y))
        lower y z (waits_far h w) = (below (either (ltb (group_of z) g)), w)
          where
            below : T (ltb (group_of z) g) ⊎ T (not (ltb (group_of z) g)) → g ≤ group_of z
            below (inl h) = absurd (omega (arith, w, covered (group_of z) y (first.least (group_of z) (ltb→lt (group_of z) g h))))
            below (inr h) = nltb→le (group_of z) g h

        most_taken : (y : ℕ) → T (not (is_settled n y)) → code (limit_of l y) ≤ suc (top_of g)
        most_taken y o = go (code (limit_of l y)) refl
          where
            go : (c : ℕ) → code (limit_of l y) ≡ c → code (limit_of l y) ≤ suc (top_of g)
            go zero e = omega arith
            go (suc z) e = omega (arith, (lower y z (now.waiting y z o e)).0, now.most y o, small, first.small)

        at_group : group_of (top_of g) ≡ g
        at_group = omega (arith, first.small)

        -- whoever is taken was in the set of the group and is open
        was : (y : ℕ) → bit near₁ y ≡ 1 → (waits q g y ≡ 1) × (bit n y ≡ 0)
        was y w = (omega (arith, sym (tk.each y) ∙ w, bit_small (get_or q g 0) y), omega (arith, sym (tk.each y) ∙ w, bit_small (get_or q g 0) y))

        pub state_group : State t s marks (is_settled n) (top_of g) l p (here₁ ∷ near₁ ∷ q₁) []
        state_group = record {
          limits = now.limits;
          parents = now.parents;
          most = most_taken;
          waiting = λ y z o e. waiting y z o (lower y z (now.waiting y z o e)).1 (eq_or (group_of z) (group_of (top_of g)));
          here = λ y w. absurd (omega (arith, sym (ap (λ (x : ℕ). bit x y) none ∙ bit_zero y) ∙ w));
          near = λ y w. (bit_open n y (was y w).1, grouped y w (code (limit_of l y)) refl);
          far = λ x y w. others x y w (eq_or g x);
          among = now.among;
          search = now.search;
        }
          where
            waiting : (y z : ℕ) → T (not (is_settled n y)) → waits q (group_of z) y ≡ 1 → (group_of z ≡ group_of (top_of g)) ⊎ (group_of z ≢ group_of (top_of g)) → Waits (top_of g) (here₁ ∷ near₁ ∷ q₁) y z
            waiting y z o w (inl i) = waits_near i (tk.each y ∙ omega (arith, open_bit n y o, ap (λ (x : ℕ). waits q x y) (sym (i ∙ at_group)) ∙ w))
            waiting y z o w (inr i) = waits_far i (tk.others (group_of z) y (λ h. i (sym h ∙ sym at_group)) ∙ w)

            grouped : (y : ℕ) → bit near₁ y ≡ 1 → (c : ℕ) → code (limit_of l y) ≡ c → InGroup (top_of g) (limit_of l y)
            grouped y w zero e = absurd (omega (arith, now.far g y (was y w).0, first.small))
            grouped y w (suc z) e = record { level = z; has = e; same = omega (arith, now.far g y (was y w).0, most_taken y (bit_open n y (was y w).1), first.small) }

            others : (x y : ℕ) → waits q₁ x y ≡ 1 → (g ≡ x) ⊎ (g ≢ x) → top_of x ≤ code (limit_of l y) + 2
            others x y w (inl i) = absurd (omega (arith, sym (tk.none y) ∙ ap (λ (z : ℕ). waits q₁ z y) i ∙ w))
            others x y w (inr i) = now.far x y (sym (tk.others x y i) ∙ w)

    -- ── one who waits here is settled ──
    module _ (u : ℕ) (member : bit here u ≡ 1) where
      has_limit : limit_of l u ≡ pos at
      has_limit = code_pos (limit_of l u) at (now.here u member).1

      module _ (here₁ near₁ n₁ : ℕ) (out : BitPut here u 0 here₁) (off : BitPut near u 0 near₁) (put : BitPut n u 1 n₁) where
        -- who is open then is another, and was open
        not_it : (y : ℕ) → T (not (is_settled n₁ y)) → u ≢ y
        not_it y o e = omega (arith, put.here, ap (bit n₁) e ∙ open_bit n₁ y o)

        was_open : (y : ℕ) → T (not (is_settled n₁ y)) → T (not (is_settled n y))
        was_open y o = subst (λ (b : Bool). T (not b)) (others n n₁ u put y (not_it y o)) o

        module _ (l' : List ℤ) (p' q' : List ℕ) (g : Gave t s marks u l p (here₁ ∷ near₁ ∷ q) l' p' q') where
          abbrev gives : List Delegation
          gives = tabulate (record_at s) g.first (g.past - g.first)

          in_run : (d : Delegation) → d ∈ gives → (d ∈ delegations_in s) × (d.giver ≡ u)
          in_run d m =
              let (k, b, e) = tabulate_mem (record_at s) g.first (g.past - g.first) m in
              let c : g.first + k < g.past = omega arith in (
                subst (λ (x : Delegation). x ∈ delegations_in s) (sym e) (delegation_mem s (record_count s) (g.first + k) (omega (arith, g.within))),
                ap (λ (x : Delegation). x.giver) e ∙ g.here (g.first + k) (omega arith) c,
              )

          all_run : (d : Delegation) → d ∈ delegations_in s → d.giver ≡ u → d ∈ gives
          all_run d m f =
              let (k, b, e) = mem_delegation s (record_count s) d m in
              let at : (record_at s k).giver ≡ u = sym (ap (λ (x : Delegation). x.giver) e) ∙ f in
              let low : g.first ≤ k = low k at (either (ltb k g.first)) in
              let high : k < g.past = high k b at (either (ltb k g.past)) in
              let n : g.first + (k - g.first) ≡ k = omega arith in
              subst (λ (x : Delegation). x ∈ gives) (ap (λ (i : ℕ). record_at s i) n ∙ sym e)
              (mem_tabulate (record_at s) g.first (g.past - g.first) (k - g.first) (omega arith))
            where
              low : (k : ℕ) → (record_at s k).giver ≡ u → T (ltb k g.first) ⊎ T (not (ltb k g.first)) → g.first ≤ k
              low k e (inl f) = absurd (omega (arith, g.before k (ltb→lt k g.first f)))
              low k e (inr f) = nltb→le k g.first f

              high : (k : ℕ) → k < record_count s → (record_at s k).giver ≡ u → T (ltb k g.past) ⊎ T (not (ltb k g.past)) → k < g.past
              high k b e (inl f) = ltb→lt k g.past f
              high k b e (inr f) = absurd (omega (arith, g.after k (nltb→le k g.past f) b))

          receivers : (k : ℕ) → k < record_count s → (record_at s k).receiver < most_subjects
          receivers k b = lent.receivers (record_at s k) (delegation_mem s (record_count s) k b)

          opened : State t s marks (is_settled n₁) at l p (here₁ ∷ near₁ ∷ q) gives
          opened = record {
            limits = now.limits;
            parents = now.parents;
            most = λ y o. now.most y (was_open y o);
            waiting = λ y z o e. waits_same at (here ∷ near ∷ q) (here₁ ∷ near₁ ∷ q) y z (λ x. same x y (not_it y o)) (now.waiting y z (was_open y o) e);
            here = λ y w. let h = here_still y w (eq_or u y) in (open_still y h.0 (now.here y h.1).0, (now.here y h.1).1);
            near = λ y w. let h = near_still y w (eq_or u y) in (open_still y h.0 (now.near y h.1).0, (now.near y h.1).1);
            far = now.far;
            among = now.among;
            search = search_settle t lent.rule (under_marks (delegations_in s) marks) 0 (limit_of l) (is_settled n) (is_settled n₁) (parent_in (delegations_in s) p) u gives now.search
                (now.here u member).0 (λ y o. omega (arith, now.most y o, (now.here u member).1)) (eq_to_eqb put.here) (others n n₁ u put) in_run all_run;
          }
            where
              same : (x y : ℕ) → u ≢ y → waits (here₁ ∷ near₁ ∷ q) x y ≡ waits (here ∷ near ∷ q) x y
              same zero y d = out.others y d
              same (suc zero) y d = off.others y d
              same (suc (suc x)) y d = refl

              open_still : (y : ℕ) → u ≢ y → T (not (is_settled n y)) → T (not (is_settled n₁ y))
              open_still y d o = subst (λ (b : Bool). T (not b)) (sym (others n n₁ u put y d)) o

              here_still : (y : ℕ) → bit here₁ y ≡ 1 → (u ≡ y) ⊎ (u ≢ y) → (u ≢ y) × (bit here y ≡ 1)
              here_still y w (inl e) = absurd (omega (arith, out.here, ap (bit here₁) e ∙ w))
              here_still y w (inr d) = (d, sym (out.others y d) ∙ w)

              near_still : (y : ℕ) → bit near₁ y ≡ 1 → (u ≡ y) ⊎ (u ≢ y) → (u ≢ y) × (bit near y ≡ 1)
              near_still y w (inl e) = absurd (omega (arith, off.here, ap (bit near₁) e ∙ w))
              near_still y w (inr d) = (d, sym (off.others y d) ∙ w)

          pub state_settle : State t s marks (is_settled n₁) at l' p' q' []
          state_settle =
              let d = ran t lent.rule s marks (is_settled n₁) at u small
              g.first g.past g.order g.within g.here receivers l p (here₁ ∷ near₁ ∷ q) (opened, has_limit) (g.past - g.first) l' p' q'
              (subst (λ (z : ℤ). SteppedTo t z marks (part s g.first g.past) g.first l p (here₁ ∷ near₁ ∷ q) (g.past - g.first) l' p' q') has_limit g.stepped) (omega arith) in
              let none_left : g.past - g.first - (g.past - g.first) ≡ 0 = omega arith in
              subst (λ (m : ℕ). State t s marks (is_settled n₁) at l' p' q' (tabulate (record_at s) (g.first + (g.past - g.first)) m)) none_left d.0

          -- whoever has the limit at hand still waits here
          pub all_settle : AllHere (is_settled n) at l (here ∷ near ∷ q) → AllHere (is_settled n₁) at l' q'
          all_settle all =
              (all_ran t marks (is_settled n₁) at (part s g.first g.past) g.first l p (here₁ ∷ near₁ ∷ q) small_receivers (g.past - g.first) (omega (arith, part_count s g.first g.past g.order g.within)) l' p' q'
              (subst (λ (z : ℤ). SteppedTo t z marks (part s g.first g.past) g.first l p (here₁ ∷ near₁ ∷ q) (g.past - g.first) l' p' q') has_limit g.stepped)
              (λ y o e. out.others y (not_it y o) ∙ all y (was_open y o) e)).1
            where
              small_receivers : (k : ℕ) → k < record_count (part s g.first g.past) → (record_at (part s g.first g.past) k).receiver < length l
              small_receivers k b = subst (λ (m : ℕ). (record_at (part s g.first g.past) k).receiver < m) (sym now.limits) (part_receivers s g.first g.past g.order g.within t lent k b)

        pub settle_less : u < most_subjects → (near₂ far₂ : ℕ) → measure n₁ near₂ far₂ < measure n near far
        settle_less h near₂ far₂ = omega (arith, fewer_open n n₁ u put h (now.here u member).0, members_few near₂, members_few far₂)

  -- ── the end: none waits, here, near or far ──
  module _ (l : List ℤ) (p q : List ℕ) (here near far n at : ℕ) (now : State t s marks (is_settled n) at l p (here ∷ near ∷ q) []) (covered : Covered q far) (none_here : (y : ℕ) → bit here y ≡ 0) (none-near : (y : ℕ) → bit near y ≡ 0)
      (none-far : (g : ℕ) → bit far g ≡ 0) where
    pub none_left : (y : ℕ) → T (not (is_settled n y)) → limit_of l y ≡ none
    none_left y o = go (state_limit t lent.rule s marks (is_settled n) at l p (here ∷ near ∷ q) [] now y)
      where
        by : (z : ℕ) → Waits at (here ∷ near ∷ q) y z → ⊥
        by z (waits_here g w) = omega (arith, w, none_here y)
        by z (waits_near g w) = omega (arith, w, none-near y)
        by z (waits_far g w) = omega (arith, w, covered (group_of z) y (none-far (group_of z)))

        waits_not : (c : ℕ) → code (limit_of l y) ≡ c → c ≡ 0
        waits_not zero e = refl
        waits_not (suc z) e = absurd (by z (now.waiting y z o e))

        go : (limit_of l y ≡ none) ⊎ (pos 0 ≼ limit_of l y) → limit_of l y ≡ none
        go (inl e) = e
        go (inr f) = absurd (omega (arith, f, waits_not (code (limit_of l y)) refl))

    reached : (u : ℕ) → reach t (under_marks (delegations_in s) marks) u 0 ≡ limit_of l u
    reached u = search_reach t lent.rule (under_marks (delegations_in s) marks) 0 (limit_of l) (is_settled n) (parent_in (delegations_in s) p) now.search none_left u

    pub empty_end : length q ≡ groups → Empty q
    empty_end size = record { size = size; none = λ g y. covered g y (none-far g) }

    pub state_end : Searched t s marks l p
    state_end = record {
      limits = listed l (λ u. reach t (under_marks (delegations_in s) marks) u 0) most_subjects now.limits (λ k b. sym (reached k));
      leads = λ u b. back u (now.search.found u);
      among = now.among;
    }
      where
        listed : (xs : List ℤ) (f : ℕ → ℤ) (n : ℕ) → length xs ≡ n → ((k : ℕ) → k < n → get_or xs k none ≡ f k) → xs ≡ tabulate f 0 n
        listed xs f n e q =
            ext_get_or none xs (tabulate f 0 n) (e ∙ sym (length_tabulate f 0 n)) (λ k b. let c : k < n = omega arith in q k c ∙ sym (get_d_tabulate f none 0 n k c ∙ ap f (zero-add k)))

        back : (u : ℕ) → (limit_of l u ≡ none) ⊎ Found t (under_marks (delegations_in s) marks) 0 (limit_of l) (is_settled n) (parent_in (delegations_in s) p) u
            → (reach t (under_marks (delegations_in s) marks) u 0 ≡ none)
            ⊎ (IsChain t (under_marks (delegations_in s) marks) u 0 (links_to (parent_in (delegations_in s) p) most_links u) × (reach t (under_marks (delegations_in s) marks) u 0 ≡ limit t (links_to (parent_in (delegations_in s) p) most_links u)))
        back u (inl e) = inl (reached u ∙ e)
        back u (inr f) =
            let e = found_links t (under_marks (delegations_in s) marks) 0 (limit_of l) (is_settled n) (parent_in (delegations_in s) p) u lent.receivers f in
            inr (subst (λ (ds : List Delegation). IsChain t (under_marks (delegations_in s) marks) u 0 ds × (reach t (under_marks (delegations_in s) marks) u 0 ≡ limit t ds)) (sym e) (f.chain, reached u ∙ f.carries))
