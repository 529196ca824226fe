-- The ways of the chain call: refused in document 01's order; or a chain of the pair that carries its weight. Assumes nothing.
use mathlib.Core.Path.{◌≡◌, refl, sym, ap, subst, ◌∙◌}
use mathlib.Core.Logic.{◌≢◌, ◌⊎◌, inl, inr}
use mathlib.Core.Bool.{Bool, true, false, not, cond, ◌||◌}
use mathlib.Core.List.Memᴰ
use mathlib.Core.List.{List, [], ◌∷◌, ◌++◌}
use Prim.Native.Nat.{ℕ, zero, suc, ◌*◌, ◌≤◌, ◌<◌}
use native.Mathlib.Nat.{le_of_suc-le-suc, not-suc-le-zero}
use native.Mathlib.Omega.{arith}
use borrow.Author.Tests.{lt-ltb, le-ltb, ltb-false}
use lib.Dec.{T, eqb, ltb}
use lib.ListN.{length, get_or, take, drop, length-append}
use lib.Seq.{take_at}
use lib.IntN.{ℤ, pos}
use lib.Signed.{lt_z}
use Rattle.rules.specs.List.{◌∈◌, keep, filter, any}
use Rattle.rules.specs.Limit.{none, code}
use Rattle.rules.specs.Table.{TableRule}
use Rattle.rules.specs.Register.{Delegation, Register, marks_of, no_delegation}
use Rattle.rules.specs.Chain.{limit, IsChain}
use Rattle.rules.specs.Reach.{reach}
use Rattle.rules.specs.Support.{ChainFor, allowed}
use Rattle.rules.specs.Pair.{is_pair, weight_at, stands}
use Rattle.rules.specs.WellFormed.{Rising}
use Rattle.rules.specs.Call.{ask_reach}
use Rattle.rules.specs.Refusal.{first_of, subjects_held, no_pair, overweight, passed, chain_passed, chain_held}
use Rattle.rules.proofs.Lists.{eq_or}
use Rattle.rules.proofs.Refusals.{numbered, first_of_none, first_of_some}
use Rattle.rules.proofs.Pairs.{test_pair}
use Rattle.rules.proofs.Support.{allowed_reach}
use Rattle.block.specs.Layout.{block_size, most_subjects}
use Rattle.block.specs.Bytes.{IsBytes, leading}
use Rattle.block.specs.Block.{count_in, records_in, decode}
use Rattle.block.specs.WellFormed.{well_formed}
use Rattle.block.proofs.Held.{held_formed, at_place, place_inside, stands_found, stands_missing}
use Rattle.block.proofs.PairPlace.{pair_place, others}
use Rattle.block.specs.Records.{delegation_at, delegations_to}
use Rattle.search.specs.Search.{under_marks, most_links}
use Rattle.search.specs.Found.{Searched}
use Rattle.chain.specs.Links.{link_bytes, links_of, chain_size, Traceable}
use Rattle.rules.proofs.Signed.{below_weight}
use Rattle.chain.proofs.LinkBytes.{bytes_length}
use Rattle.chain.proofs.Ready.{limit_reach, traceable}
use Rattle.search.proofs.Searching.{reach_marks, records_held, lent_held, reach_found, chain_found}
use Rattle.steptable.specs.TableText.{Given}
use Rattle.refusals.specs.Early.{text_refused, not_well_formed, early}
use Rattle.chain.specs.ChainOn.{chain_refusal_on, ChainLeft, ChainMade, ChainFront}
use Rattle.chain.specs.Answer.{ChainAnswer, unwritten_by}
use Rattle.refusals.proofs.Holding.{or_false, weight_stands}

-- a refused call leaves the buffer
left_refused : (t : List ℤ) (R : Register) (g r : ℕ) (w : ℤ) (n m : ℕ) (buf : List ℕ) → n ≡ m → m ≢ 0 → ChainLeft t R g r w n buf (unwritten_by m) buf
left_refused t R g r w n m buf e k = record { refusal = sym e; refused = λ _. (refl, refl); chain = λ z. absurd (k z) }

-- ── a chain that carries a weight ──
module _ (t : List ℤ) (b : List ℕ) (bytes : IsBytes b) (formed : well_formed b ≡ true) (g r w : ℕ) (l : List ℤ) (p : List ℕ) (s : Searched t (records_in b) (marks_of (decode b) r) l p) (inside : g < most_subjects) where
  found_test : lt_z (get_or l g (pos 0)) (pos w) ≡ lt_z (reach t (decode b) g r) (pos w)
  found_test = ap (λ (z : ℤ). lt_z z (pos w)) (reach_found b bytes formed t r l p s g inside)

  pub carrying_refused : lt_z (get_or l g (pos 0)) (pos w) ≡ true → (buf : List ℕ)
      → ChainLeft t (decode b) g r (pos w) (cond (lt_z (reach t (decode b) g r) (pos w)) 16 0) buf (unwritten_by 16) buf
  carrying_refused e buf = left_refused t (decode b) g r (pos w) (cond (lt_z (reach t (decode b) g r) (pos w)) 16 0) 16 buf (ap (λ (x : Bool). cond x 16 0) (sym found_test ∙ e)) (λ z. omega arith)

  module _ (light : lt_z (get_or l g (pos 0)) (pos w) ≡ false) where
    enough : suc w ≤ code (reach t (decode b) g r)
    enough = ltb-false (code (reach t (decode b) g r)) (suc w) (sym (below_weight (reach t (decode b) g r) w) ∙ sym found_test ∙ light)

    same_reach : get_or l g none ≡ reach t (decode b) g r
    same_reach =
        limit_reach t (records_in b) (marks_of (decode b) r) l p s g inside
        ∙ ap (λ (ds : List Delegation). reach t (under_marks ds (marks_of (decode b) r)) g 0) (records_held b bytes formed)
        ∙ sym (reach_marks t (decode b) g r)

    pub carrying_traceable : TableRule t → length p ≡ most_subjects → Traceable (records_in b) p g
    carrying_traceable rule size =
        traceable t (records_in b) (marks_of (decode b) r) l p s (lent_held b bytes formed t rule) size g inside
        (λ z. let c = ap code (sym same_reach ∙ z) in omega (arith, enough, c))

    pub carrying_done : (n : ℕ) (buf after : List ℕ) → n ≡ length (links_of (records_in b) p most_links g) → after ≡ link_bytes (links_of (records_in b) p most_links g) ++ drop (2 * n) buf
        → ChainLeft t (decode b) g r (pos w) (cond (lt_z (reach t (decode b) g r) (pos w)) 16 0) buf record { refusal = 0; links = n } after
    carrying_done n buf after en ea = record {
      refusal = sym (ap (λ (x : Bool). cond x 16 0) (sym found_test ∙ light));
      refused = λ k. absurd (k refl);
      chain = λ _. (links_of (records_in b) p most_links g, carries (chain_found b bytes formed t r l p s g inside), en, ea ∙ ap (λ (i : ℕ). link_bytes (links_of (records_in b) p most_links g) ++ drop (2 * i) buf) en);
    }
      where
        carries : (reach t (decode b) g r ≡ none) ⊎ (IsChain t (decode b) g r (links_of (records_in b) p most_links g) × (reach t (decode b) g r ≡ limit t (links_of (records_in b) p most_links g)))
            → ChainFor t (decode b) g r (pos w) (links_of (records_in b) p most_links g)
        carries (inl e) = let c = ap code e in absurd (omega (arith, enough, c))
        carries (inr q) = (q.0, subst (λ (z : ℤ). suc w ≤ code z) q.1 enough)

-- ── the pair's delegation ──
module _ (g r : ℕ) where
  none_pair : (ds : List Delegation) → ((e : Delegation) → e ∈ ds → T (not (is_pair g r e))) → filter (is_pair g r) ds ≡ []
  none_pair [] h = refl
  none_pair (d ∷ ds) h = go (is_pair g r d) (h d (Memᴰ.head refl)) (none_pair ds (λ e m. h e (Memᴰ.tail m)))
    where
      go : (x : Bool) → T (not x) → filter (is_pair g r) ds ≡ [] → keep x d (filter (is_pair g r) ds) ≡ []
      go true n e = absurd n
      go false n e = e

  -- in a rising list only the delegation at its place is of the pair
  one_pair : (ds : List Delegation) (z : Delegation) → Rising ds → pair_place g r ds < length ds
      → (filter (is_pair g r) ds ≡ get_or ds (pair_place g r ds) z ∷ []) × T (is_pair g r (get_or ds (pair_place g r ds) z))
  one_pair [] z s l = absurd (not-suc-le-zero l)
  one_pair (d ∷ ds) z s l = go (is_pair g r d) refl (one_pair ds z s.1) l
    where
      go : (x : Bool) → is_pair g r d ≡ x
          → (pair_place g r ds < length ds → (filter (is_pair g r) ds ≡ get_or ds (pair_place g r ds) z ∷ []) × T (is_pair g r (get_or ds (pair_place g r ds) z)))
          → cond (not x) (suc (pair_place g r ds)) zero < suc (length ds)
          → let k = cond (not x) (suc (pair_place g r ds)) zero in (keep x d (filter (is_pair g r) ds) ≡ get_or (d ∷ ds) k z ∷ []) × T (is_pair g r (get_or (d ∷ ds) k z))
      go true q ih m = let h = subst T (sym q) tt in (ap (λ (xs : List Delegation). d ∷ xs) (none_pair ds (others g r d ds s h)), h)
      go false q ih m = ih (le_of_suc-le-suc m)

-- ── refused by what the register holds ──
module _ (t : List ℤ) (b : List ℕ) (bytes : IsBytes b) (formed : well_formed b ≡ true) (g r : ℕ) where
  -- 9 and 19 of the pair
  abbrev named : List (ℕ × Bool)
  named = subjects_held (decode b) (g ∷ r ∷ [])

  -- the tests that follow them
  abbrev later : List (ℕ × Bool)
  later = no_pair (decode b) g r ∷ overweight t (decode b) (filter (is_pair g r) (decode b).delegations) ∷ []

  pub chain_unnamed : (n : ℕ) → n ≡ first_of named → n ≢ 0 → (buf : List ℕ)
      → ChainLeft t (decode b) g r (weight_at (decode b).delegations g r) (first_of (chain_held t (decode b) g r)) buf (unwritten_by n) buf
  chain_unnamed n e z buf = left_refused t (decode b) g r (weight_at (decode b).delegations g r) (first_of (chain_held t (decode b) g r)) n buf (first_of_some named later n tt (sym e) z) z

  module _ (both : first_of named ≡ 0) (k : ℕ) (place : k ≡ leading (λ d. not (is_pair g r d)) (delegations_to b (count_in b))) where
    chain_first : (x2 x3 : Bool) → stands (decode b) g r ≡ x2 → any (λ d. ltb (code (allowed t (decode b) d)) (suc d.weight)) (filter (is_pair g r) (decode b).delegations) ≡ x3
        → first_of (chain_held t (decode b) g r) ≡ cond (not x2) 13 (cond x3 16 0)
    chain_first x2 x3 e2 e3 = first_of_none named later tt both ∙ (λ j. cond (not (e2 j)) 13 (cond (e3 j) 16 0))

    pub chain_missing : count_in b ≤ k → (buf : List ℕ) → ChainLeft t (decode b) g r (weight_at (decode b).delegations g r) (first_of (chain_held t (decode b) g r)) buf (unwritten_by 13) buf
    chain_missing l buf =
        left_refused t (decode b) g r (weight_at (decode b).delegations g r) (first_of (chain_held t (decode b) g r)) 13 buf
        (chain_first false (any (λ d. ltb (code (allowed t (decode b) d)) (suc d.weight)) (filter (is_pair g r) (decode b).delegations)) (stands_missing b bytes formed g r k place l) refl) (λ z. omega arith)

    module _ (found : k < count_in b) where
      -- the test of 16, as the code makes it
      heavy_test : any (λ x. ltb (code (allowed t (decode b) x)) (suc x.weight)) (filter (is_pair g r) (decode b).delegations)
          ≡ lt_z (reach t (decode b) g r) (pos (delegation_at b k).weight)
      heavy_test =
          let a = at_place b bytes formed g r k place found in
          let (e, h) = one_pair g r (decode b).delegations no_delegation (held_formed b bytes formed).rising (place_inside b bytes formed g r k place found) in
          let q = test_pair g r (delegation_at b k) (subst (λ (x : Delegation). T (is_pair g r x)) a h) in
          ap (any (λ x. ltb (code (allowed t (decode b) x)) (suc x.weight))) (e ∙ ap (λ (x : Delegation). x ∷ []) a)
          ∙ or_false (ltb (code (allowed t (decode b) (delegation_at b k))) (suc (delegation_at b k).weight))
          ∙ ap (λ (l : ℤ). ltb (code l) (suc (delegation_at b k).weight)) (allowed_reach t (decode b) (delegation_at b k) ∙ (λ j. reach t (decode b) (q.0 j) (q.1 j)))
          ∙ sym (below_weight (reach t (decode b) g r) (delegation_at b k).weight)

      -- past 9, 19 and 13 what is left is what the search leaves
      pub chain_carried : (w : ℕ) → w ≡ (delegation_at b k).weight → (buf : List ℕ) (o : ChainAnswer) (after : List ℕ)
          → ChainLeft t (decode b) g r (pos w) (cond (lt_z (reach t (decode b) g r) (pos w)) 16 0) buf o after
          → ChainLeft t (decode b) g r (weight_at (decode b).delegations g r) (first_of (chain_held t (decode b) g r)) buf o after
      chain_carried w e buf o after q =
          let v : pos w ≡ weight_at (decode b).delegations g r = ap pos e ∙ sym (weight_stands b bytes formed g r k place found) in
          let n : cond (lt_z (reach t (decode b) g r) (pos w)) 16 0 ≡ first_of (chain_held t (decode b) g r) =
          ap (λ (x : ℕ). cond (lt_z (reach t (decode b) g r) (pos x)) 16 0) e ∙ sym (chain_first true (lt_z (reach t (decode b) g r) (pos (delegation_at b k).weight)) (stands_found b bytes formed g r k place found) heavy_test) in
          subst (λ (x : ℕ). ChainLeft t (decode b) g r (weight_at (decode b).delegations g r) x buf o after) n
          (subst (λ (x : ℤ). ChainLeft t (decode b) g r x (cond (lt_z (reach t (decode b) g r) (pos w)) 16 0) buf o after) v q)

-- ── refused by the buffer's length, by 1, by what was passed, by the step table's text, by 8 ──
module _ (k : Given) (b : List ℕ) (g r : ℕ) (buf : List ℕ) where
  chain_refused : (n : ℕ) → chain_refusal_on k b g r buf ≡ n → n ≢ 0 → ChainMade k b g r buf (unwritten_by n) buf
  chain_refused n e z = left_refused k.steps (decode b) g r (weight_at (decode b).delegations g r) (chain_refusal_on k b g r buf) n buf e z

  pub chain_buffer : length buf < chain_size → ChainMade k b g r buf (unwritten_by 1) buf
  unfolding chain_refusal_on
  chain_buffer h = chain_refused 1 (rw (lt-ltb (length buf) chain_size h) (or_true (not (eqb (length b) block_size)))) (λ z. omega arith)
    where
      or_true : (x : Bool) → cond (x || true) 1 (first_of (chain_passed g r ++ (text_refused k.refusal ++ (not_well_formed b ∷ chain_held k.steps (decode b) g r)))) ≡ 1
      or_true true = refl
      or_true false = refl

  early_numbered : T (numbered (early k.refusal b (ask_reach g r)))
  unfolding passed
  early_numbered = tt

  module _ (room : chain_size ≤ length buf) where
    -- with room in the buffer, the refusals of a reach before those by what the register holds
    past_buffer : chain_refusal_on k b g r buf ≡ first_of (early k.refusal b (ask_reach g r) ++ chain_held k.steps (decode b) g r)
    unfolding chain_refusal_on passed
    past_buffer = rw (le-ltb (length buf) chain_size room, or_false (not (eqb (length b) block_size)))

    pub chain_early : (n : ℕ) → first_of (early k.refusal b (ask_reach g r)) ≡ n → n ≢ 0 → ChainMade k b g r buf (unwritten_by n) buf
    chain_early n e z = chain_refused n (past_buffer ∙ first_of_some (early k.refusal b (ask_reach g r)) (chain_held k.steps (decode b) g r) n early_numbered e z) z

    -- past these what is left is what the register allows
    pub chain_made : first_of (early k.refusal b (ask_reach g r)) ≡ 0 → (o : ChainAnswer) (after : List ℕ)
        → ChainLeft k.steps (decode b) g r (weight_at (decode b).delegations g r) (first_of (chain_held k.steps (decode b) g r)) buf o after → ChainMade k b g r buf o after
    chain_made e o after h =
        subst (λ (x : ℕ). ChainLeft k.steps (decode b) g r (weight_at (decode b).delegations g r) x buf o after)
        (sym (past_buffer ∙ first_of_none (early k.refusal b (ask_reach g r)) (chain_held k.steps (decode b) g r) early_numbered e)) h

-- ── the front handed back ──
module _ (k : Given) (b : List ℕ) (g r : ℕ) (buf : List ℕ) (o : ChainAnswer) (after : List ℕ) (made : ChainMade k b g r buf o after) where
  pub front_fits : 2 * o.links ≤ length after
  front_fits = go (eq_or o.refusal 0)
    where
      go : (o.refusal ≡ 0) ⊎ (o.refusal ≢ 0) → 2 * o.links ≤ length after
      go (inl e) = let (ds, c, n, a) = made.chain e in omega (arith, n, ap length a, length-append (link_bytes ds) (drop (2 * length ds) buf), bytes_length ds)
      go (inr n) = omega (arith, (made.refused n).0)

  pub front_made : ChainFront k b g r buf o.refusal (take (2 * o.links) after)
  front_made = record {
    refusal = made.refusal;
    refused = λ n. ap (λ (i : ℕ). take (2 * i) after) (made.refused n).0;
    chain = λ z.
        let (ds, c, n, a) = made.chain z in
        (ds, c, (λ j. take (2 * n j) (a j)) ∙ take_at (link_bytes ds) (drop (2 * length ds) buf) (2 * length ds) (bytes_length ds));
  }
