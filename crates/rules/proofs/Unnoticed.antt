-- Chains, reach, orders, rounds, the counts and every call that does not ask for kinds take no notice of them, and no call changes the kind of a pair that stands (document 02, C-18). Assumes nothing.
use mathlib.Core.Path.{◌≡◌, refl, sym, ap, subst, ◌∙◌}
use mathlib.Core.Logic.{◌⊎◌, inl, inr}
use mathlib.Core.Bool.{Bool, true, false, not, cond, ◌&&◌, ◌||◌}
use mathlib.Core.List.{List, [], ◌∷◌, ◌++◌, map, map-append, map-map}
use Prim.Native.Nat.{ℕ, zero, suc, ◌≤◌, ◌<◌}
use lib.Dec.{eqb, leb, ltb}
use lib.ListN.{length, length-map}
use lib.IntN.{ℤ, pos, negsuc}
use Rattle.rules.specs.List.{◌∈◌, filter, any, concat_map, Distinct}
use Rattle.rules.specs.Limit.{code, larger, ◌≼◌}
use Rattle.rules.specs.Table.{next, TableRule}
use Rattle.rules.specs.Register.{Delegation, Register, marks_of, reweigh, with_delegations}
use Rattle.rules.specs.Condition.{Meets}
use Rattle.rules.specs.Chain.{Linked, receivers, limit_from, limit}
use Rattle.rules.specs.Reach.{avoiding, goes_on, ended, chains_from, chains, largest, reach}
use Rattle.rules.specs.Order.{Due, Precedes, WrittenSo, owner_first, heaviest_next, IsOrder}
use Rattle.rules.specs.Support.{allowed, ChainFor}
use Rattle.rules.specs.Pair.{is_pair, weight_at, stands, raises, set_for}
use Rattle.rules.specs.Round.{capped, round, SettlesIn, settle, rounds}
use Rattle.rules.specs.Cut.{Change, cutting, marking, retirement, removal, lowering, named, touches, changed, is_dropped, is_lowered, dropped, lowered}
use Rattle.rules.specs.Remainder.{LiftsNothing}
use Rattle.rules.specs.WellFormed.{Rising, WellFormed}
use Rattle.rules.specs.Call.{Call, enrol, grant, revoke, downgrade, ask_reach, ask_use, set_marks, retire, enrolled, Makes}
use Rattle.rules.specs.Refusal.{too_heavy, first_of, subjects_held, may_not, all_stand, overweight, unsupported, passed, held, refusal_of, chain_held}
use Rattle.rules.specs.CallStep.{Outcome, answered, refused, before, insert, cut, accepted, call_step}
use Rattle.rules.specs.Kinds.{ordinary, all_ordinary, ordinary_left, NotByKind, SameButKinds, KindsUnnoticed, KindsStay}
use Rattle.rules.proofs.Lists.{mem_map, map_mem, map_onto, filter_map, any_map, count_map, concat_map_map, map_concat_map}
use Rattle.rules.proofs.AtMost.{at_giver, at_receiver, at_kind}
use Rattle.rules.proofs.Support.{allowed_ordinary, allowed_by}
use Rattle.rules.proofs.Rounds.{lifts_refl, settle_right, settles_unique, round_right}
use Rattle.rules.proofs.Pairs.{insert_length, pair_one}
use Rattle.rules.proofs.Granting.{after_insert, grant_leaves}
use Rattle.rules.proofs.Calls.{accepted_refusal, call_step_cases, call_step_formed}
use Rattle.rules.proofs.History.{call_step_cut}

-- what takes no notice of n is the same for two of which n makes the same
unnoticed {ℓ} : {X : Type 0} {A : Type ℓ} (n : X → X) (x y : X) → n x ≡ n y → (f : X → A) → ((z : X) → f (n z) ≡ f z) → f x ≡ f y
unnoticed n x y e f same = sym (same x) ∙ ap f e ∙ same y

-- ── a register, and the same with all delegations made ordinary ──
-- once is enough
twice : (R : Register) → all_ordinary (all_ordinary R) ≡ all_ordinary R
twice R = λ j. with_delegations R (map-map ordinary ordinary R.delegations j)

left_twice : (o : Outcome) → ordinary_left (ordinary_left o) ≡ ordinary_left o
left_twice o = λ j. record { refusal = o.refusal; first = o.first; second = o.second; third = o.third; left = twice o.left j }

-- what stands
weights : (g r : ℕ) (ds : List Delegation) → weight_at (map ordinary ds) g r ≡ weight_at ds g r
weights g r [] = refl
weights g r (d ∷ ds) = λ j. cond (is_pair g r d) (pos d.weight) (weights g r ds j)

standing : (R : Register) (g r : ℕ) → stands (all_ordinary R) g r ≡ stands R g r
standing R g r = λ j. ltb zero (code (weights g r R.delegations j))

inserted : (d : Delegation) (ds : List Delegation) → map ordinary (insert d ds) ≡ insert (ordinary d) (map ordinary ds)
inserted d [] = refl
inserted d (e ∷ es) = go (inserted d es) (before d e)
  where
    go : map ordinary (insert d es) ≡ insert (ordinary d) (map ordinary es) → (b : Bool)
        → map ordinary (cond b (d ∷ e ∷ es) (e ∷ insert d es)) ≡ cond b (ordinary d ∷ ordinary e ∷ map ordinary es) (ordinary e ∷ insert (ordinary d) (map ordinary es))
    go ih true = refl
    go ih false = ap (λ (l : List Delegation). ordinary e ∷ l) ih

-- ── chains ──
linked_same : (a u : ℕ) (ds : List Delegation) → Linked a (map ordinary ds) u ≡ Linked a ds u
linked_same a u [] = refl
linked_same a u (d ∷ ds) = λ j. (d.giver ≡ a) × linked_same d.receiver u ds j

receivers_same : (ds : List Delegation) → receivers (map ordinary ds) ≡ receivers ds
receivers_same [] = refl
receivers_same (d ∷ ds) = λ j. d.receiver ∷ receivers_same ds j

module _ (t : List ℤ) where
  limits : (l : ℤ) (ds : List Delegation) → limit_from t l (map ordinary ds) ≡ limit_from t l ds
  unfolding limit_from
  limits l [] = refl
  limits l (d ∷ ds) = limits (next t l d.weight) ds

  largest_same : (dss : List (List Delegation)) → largest t (map (map ordinary) dss) ≡ largest t dss
  largest_same [] = refl
  largest_same (ds ∷ dss) = λ j. larger (limits (pos 255) ds j) (largest_same dss j)

  ended_same : (b : Bool) → ended b ≡ map (map ordinary) (ended b)
  ended_same true = refl
  ended_same false = refl

  module _ (m u : ℕ) where
    -- the chains that go on by d, where the search from the receiver finds the same
    through : (k : ℕ) (free : List Delegation) (l : ℤ) (d : Delegation)
        → ((xs : List Delegation) (a : ℕ) (l : ℤ) → chains_from t m u k (map ordinary xs) a l ≡ map (map ordinary) (chains_from t m u k xs a l))
        → map (λ ds. ordinary d ∷ ds) (chains_from t m u k (avoiding d.receiver (map ordinary free)) d.receiver (next t l d.weight))
        ≡ map (map ordinary) (map (λ ds. d ∷ ds) (chains_from t m u k (avoiding d.receiver free) d.receiver (next t l d.weight)))
    through k free l d ih =
        let n = next t l d.weight in
        let xs = avoiding d.receiver free in
        let cs = chains_from t m u k xs d.receiver n in
        (λ j. map (λ ds. ordinary d ∷ ds) (chains_from t m u k (filter_map (λ (e : Delegation). not (eqb e.receiver d.receiver)) ordinary free j) d.receiver n))
        ∙ ap (map (λ ds. ordinary d ∷ ds)) (ih xs d.receiver n)
        ∙ map-map (λ ds. ordinary d ∷ ds) (map ordinary) cs
        ∙ sym (map-map (map ordinary) (λ ds. d ∷ ds) cs)

    -- the chains are the same, link by link
    listed : (k : ℕ) (free : List Delegation) (a : ℕ) (l : ℤ) → chains_from t m u k (map ordinary free) a l ≡ map (map ordinary) (chains_from t m u k free a l)
    unfolding goes_on
    listed zero free a l = ended_same (eqb a u)
    listed (suc k) free a l =
        let by : List Delegation → Delegation → List (List Delegation) = λ xs d. map (λ ds. d ∷ ds) (chains_from t m u k (avoiding d.receiver xs) d.receiver (next t l d.weight)) in
        let gs = filter (goes_on t m a l) free in
        let rest : concat_map (by (map ordinary free)) (filter (goes_on t m a l) (map ordinary free)) ≡ map (map ordinary) (concat_map (by free) gs) =
        ap (concat_map (by (map ordinary free))) (filter_map (goes_on t m a l) ordinary free)
        ∙ concat_map_map (by (map ordinary free)) ordinary gs
        ∙ (λ j. concat_map (λ d. through k free l d (listed k) j) gs)
        ∙ sym (map_concat_map (map ordinary) (by free) gs) in
        (λ j. ended_same (eqb a u) j ++ rest j) ∙ sym (map-append (map ordinary) (ended (eqb a u)) (concat_map (by free) gs))

  reach_same : (R : Register) (u v : ℕ) → reach t (all_ordinary R) u v ≡ reach t R u v
  unfolding reach chains
  reach_same R u v =
      let free = avoiding 0 R.delegations in
      let e = filter_map (λ (d : Delegation). not (eqb d.receiver 0)) ordinary R.delegations in
      ap (largest t)
      ((λ j. chains_from t (marks_of R v) u (length (e j)) (e j) 0 (pos 255))
      ∙ (λ j. chains_from t (marks_of R v) u (length-map free ordinary j) (map ordinary free) 0 (pos 255))
      ∙ listed (marks_of R v) u (length free) free 0 (pos 255))
      ∙ largest_same (chains t R u v)

  allowed_same : (R : Register) (d : Delegation) → allowed t (all_ordinary R) d ≡ allowed t R d
  allowed_same R d = allowed_by t (all_ordinary R) R d refl (reach_same R)

  -- ── rounds ──
  counts_same : (R : Register) (d : Delegation) → allowed t (all_ordinary R) (ordinary d) ≡ allowed t R d
  counts_same R d = allowed_ordinary t (all_ordinary R) d ∙ allowed_same R d

  capped_same : (d : Delegation) (l : ℤ) → capped (ordinary d) l ≡ map ordinary (capped d l)
  capped_same d (pos n) = refl
  capped_same d (negsuc n) = refl

  round_same : (R : Register) → round t (all_ordinary R) ≡ all_ordinary (round t R)
  round_same R =
      let ds = R.delegations in
      ap (with_delegations R)
      (concat_map_map (λ d. capped d (allowed t (all_ordinary R) d)) ordinary ds
      ∙ (λ j. concat_map (λ d. capped (ordinary d) (counts_same R d j)) ds)
      ∙ (λ j. concat_map (λ d. capped_same d (allowed t R d) j) ds)
      ∙ sym (map_concat_map ordinary (λ d. capped d (allowed t R d)) ds))

  heavy_same : (R : Register) (ds : List Delegation) → too_heavy t (all_ordinary R) (map ordinary ds) ≡ too_heavy t R ds
  heavy_same R ds =
      any_map (λ d. ltb (code (allowed t (all_ordinary R) d)) (suc d.weight)) ordinary ds ∙ (λ j. any (λ d. ltb (code (counts_same R d j)) (suc d.weight)) ds)

  settles_same : (n : ℕ) (C F : Register) → SettlesIn t n C F → SettlesIn t n (all_ordinary C) (all_ordinary F)
  settles_same zero C F s = (ap all_ordinary s.0, round_same C ∙ ap all_ordinary s.1)
  settles_same (suc n) C F s = (
    λ e. s.0 ((round_right t C).0 (sym (heavy_same C C.delegations) ∙ (round_right t (all_ordinary C)).1 e)),
    subst (λ (X : Register). SettlesIn t n X (all_ordinary F)) (sym (round_same C)) (settles_same n (round t C) F s.1),
  )

  settle_same : (C : Register) → settle t (all_ordinary C) ≡ record { left = all_ordinary (settle t C).left; changed = (settle t C).changed }
  settle_same C =
      let A = all_ordinary C in
      let s = settle t C in
      let (n, e) = settles_unique t (settle t A).changed s.changed A (settle t A).left (all_ordinary s.left) (settle_right t A) (settles_same s.changed C s.left (settle_right t C)) in
      λ j. record { left = e j; changed = n j }

  -- ── changes, and the rounds that follow ──
  dropped_same : (C F : Register) → dropped (all_ordinary C) (all_ordinary F) ≡ dropped C F
  dropped_same C F = count_map (is_dropped (all_ordinary F)) ordinary C.delegations ∙ (λ j. length (filter (λ d. not (standing F d.giver d.receiver j)) C.delegations))

  lowered_same : (C F : Register) → lowered (all_ordinary C) (all_ordinary F) ≡ lowered C F
  lowered_same C F =
      count_map (is_lowered (all_ordinary F)) ordinary C.delegations
      ∙ (λ j. length (filter (λ d. standing F d.giver d.receiver j && leb (code (weights d.giver d.receiver F.delegations j)) d.weight) C.delegations))

  cut_same : (C : Register) → cut t (all_ordinary C) ≡ ordinary_left (cut t C)
  unfolding cut
  cut_same C =
      let A = all_ordinary C in
      let F = (settle t C).left in
      let s = settle_same C in
      (λ j. answered (pos (dropped A (s j).left)) (pos (lowered A (s j).left)) (pos (rounds (s j))) (s j).left)
      ∙ (λ j. answered (pos (dropped_same C F j)) (pos (lowered_same C F j)) (pos (rounds (settle t C))) (all_ordinary F))

  set_same : (g r w : ℕ) (d : Delegation) → set_for g r w (ordinary d) ≡ ordinary (set_for g r w d)
  set_same g r w d = go (is_pair g r d)
    where
      go : (b : Bool) → cond b (reweigh (ordinary d) w) (ordinary d) ≡ ordinary (cond b (reweigh d w) d)
      go true = refl
      go false = refl

  changed_same : (R : Register) (k : Change) → changed (all_ordinary R) k ≡ all_ordinary (changed R k)
  unfolding named
  changed_same R (cutting (removal g r)) = ap (with_delegations R) (filter_map (λ (d : Delegation). not (is_pair g r d)) ordinary R.delegations)
  changed_same R (cutting (lowering g r w)) =
      let ds = R.delegations in
      ap (with_delegations R) (map-map (set_for g r w) ordinary ds ∙ (λ j. map (λ d. set_same g r w d j) ds) ∙ sym (map-map ordinary (set_for g r w) ds))
  changed_same R (marking s m) = refl
  changed_same R (retirement s) = λ j. with_delegations (changed R (retirement s)) (filter_map (λ (d : Delegation). not (touches s d)) ordinary R.delegations j)

  follows_same : (R : Register) (k : Change) → ordinary_left (cut t (changed (all_ordinary R) k)) ≡ ordinary_left (cut t (changed R k))
  follows_same R k = ap ordinary_left (ap (cut t) (changed_same R k) ∙ cut_same (changed R k)) ∙ left_twice (cut t (changed R k))

  -- ── grants for a pair that does not stand ──
  granted_same : (R : Register) (d : Delegation) → stands R d.giver d.receiver ≡ false
      → ordinary_left (accepted t (all_ordinary R) (grant d)) ≡ ordinary_left (accepted t R (grant d))
  unfolding accepted
  granted_same R d s =
      let A = all_ordinary R in
      let ds = R.delegations in
      let told : Register → Outcome = λ S. ordinary_left (answered (pos (length S.delegations)) (pos 0) (pos 0) S) in
      let n : length (insert d (map ordinary ds)) ≡ length (insert d ds) = insert_length d (map ordinary ds) ∙ ap suc (length-map ds ordinary) ∙ sym (insert_length d ds) in
      let e : map ordinary (insert d (map ordinary ds)) ≡ map ordinary (insert d ds) = inserted d (map ordinary ds) ∙ ap (insert (ordinary d)) (map-map ordinary ordinary ds) ∙ sym (inserted d ds) in
      ap told (after_insert A d (standing R d.giver d.receiver ∙ s))
      ∙ (λ j. answered (pos (n j)) (pos 0) (pos 0) (with_delegations R (e j)))
      ∙ ap told (sym (after_insert R d s))

  -- ── each call ──
  accepted_same : (R : Register) (c : Call) → NotByKind R c → ordinary_left (accepted t (all_ordinary R) c) ≡ ordinary_left (accepted t R c)
  unfolding accepted
  accepted_same R (enrol m) h = left_twice (answered (pos R.subjects) (pos 0) (pos 0) (enrolled R m))
  accepted_same R (grant d) h = granted_same R d h
  accepted_same R (revoke y g r) h = follows_same R (cutting (removal g r))
  accepted_same R (downgrade y g r w) h = follows_same R (cutting (lowering g r w))
  accepted_same R (ask_reach g r) h = λ j. answered (reach_same R g r j) (pos 0) (pos 0) (twice R j)
  accepted_same R (ask_use r) h = absurd h
  accepted_same R (set_marks y s m) h = follows_same R (marking s m)
  accepted_same R (retire y s) h = follows_same R (retirement s)

  held_same : (R : Register) (c : Call) → NotByKind R c → held t (all_ordinary R) c ≡ held t R c
  unfolding held
  held_same R (enrol m) h = refl
  held_same R (grant d) h =
      let s = standing R d.giver d.receiver in
      let xs = subjects_held R (d.giver ∷ d.receiver ∷ []) in
      (λ j.
      xs
      ++ ((11, (s ∙ h) j && not (raises (all_ordinary R) d))
      ∷ (12, not (s j) && leb 256 (length-map R.delegations ordinary j))
      ∷ (16, ltb (code (allowed_same R d j)) (suc d.weight) || false)
      ∷ []))
      ∙ (λ j. xs ++ ((11, sym h j && not (raises R d)) ∷ all_stand R d ∷ overweight t R (d ∷ []) ∷ []))
  held_same R (revoke y g r) h = λ j. subjects_held R (y ∷ g ∷ r ∷ []) ++ ((13, not (standing R g r j)) ∷ may_not y g ∷ [])
  held_same R (downgrade y g r w) h =
      λ j. subjects_held R (y ∷ g ∷ r ∷ []) ++ ((13, not (standing R g r j)) ∷ may_not y g ∷ (15, leb (code (weights g r R.delegations j)) (suc w)) ∷ [])
  held_same R (ask_reach g r) h = refl
  held_same R (ask_use r) h = refl
  held_same R (set_marks y s m) h = refl
  held_same R (retire y s) h = refl

  -- the chain call, which is in no list
  chain_held_same : (R : Register) (g r : ℕ) → chain_held t (all_ordinary R) g r ≡ chain_held t R g r
  chain_held_same R g r =
      let ds = R.delegations in
      let heavy : too_heavy t (all_ordinary R) (filter (is_pair g r) (map ordinary ds)) ≡ too_heavy t R (filter (is_pair g r) ds) = ap (too_heavy t (all_ordinary R)) (filter_map (is_pair g r) ordinary ds) ∙ heavy_same R (filter (is_pair g r) ds) in
      λ j. subjects_held R (g ∷ r ∷ []) ++ ((13, not (standing R g r j)) ∷ (16, heavy j) ∷ [])

  call_same : (R : Register) (c : Call) → NotByKind R c → ordinary_left (call_step t (all_ordinary R) c) ≡ ordinary_left (call_step t R c)
  unfolding call_step refusal_of
  call_same R c h =
      (λ j.
      let n = first_of (passed c ++ held_same R c h j) in
      ordinary_left (elim (eqb n 0) [ true ↦ accepted t (all_ordinary R) c | false ↦ refused n (all_ordinary R) ]))
      ∙ go (eqb (refusal_of t R c) 0)
    where
      go : (b : Bool) → let o : Register → Outcome = λ S. elim b [ true ↦ accepted t S c | false ↦ refused (refusal_of t R c) S ] in ordinary_left (o (all_ordinary R)) ≡ ordinary_left (o R)
      go true = accepted_same R c h
      go false = λ j. refused (refusal_of t R c) (twice R j)

  -- ── two registers that differ in kinds alone ──
  module _ (R S : Register) (e : all_ordinary R ≡ all_ordinary S) where
    -- what stands in the one stands in the other but for its kind
    other : (d : Delegation) → d ∈ R.delegations → ordinary d ∈ map ordinary S.delegations
    other d m = subst (λ (X : Register). ordinary d ∈ X.delegations) e (mem_map ordinary m)

    met_same : (v : ℕ) (d x : Delegation) → ordinary d ≡ ordinary x → Meets R v d → Meets S v x
    met_same v d x o h = subst (λ (X : Register). Meets X v x) e (subst (Meets R v) o h)

    chain_same : (g r : ℕ) (w : ℤ) (ds : List Delegation) → ChainFor t R g r w ds → (es : List Delegation) × ChainFor t S g r w es × (map ordinary ds ≡ map ordinary es)
    chain_same g r w ds (c, h) =
        let (es, at, o) = map_onto ordinary ds S.delegations (λ d m. other d (c.standing d m)) in
        let l = unnoticed (map ordinary) ds es o (limit t) (limits (pos 255)) in (
          es,
          (
            record {
              standing = at;
              linked = subst (λ (X : Type 0). X) (unnoticed (map ordinary) ds es o (λ xs. Linked 0 xs g) (linked_same 0 g)) c.linked;
              distinct = subst (λ (xs : List ℕ). Distinct (0 ∷ xs)) (unnoticed (map ordinary) ds es o receivers receivers_same) c.distinct;
              met = λ x m. let (d, i, q) = map_mem ordinary ds (subst (λ (xs : List Delegation). ordinary x ∈ xs) (sym o) (mem_map ordinary m)) in met_same r d x (sym q) (c.met d i);
              live = subst (λ (k : ℤ). pos 0 ≼ k) l c.live;
            },
            subst (λ (k : ℤ). w ≼ k) l h,
          ),
          o,
        )

    reaches : (v u : ℕ) → reach t R u v ≡ reach t S u v
    reaches v u = unnoticed all_ordinary R S e (λ X. reach t X u v) (λ X. reach_same X u v)

    due_same : (v : ℕ) (ws : List ℕ) (s : ℕ) → Due t R v ws s → Due t S v ws s
    due_same v ws s d =
        let c = d.comes in
        let (x, m, o) = map_mem ordinary S.delegations (other c.by c.standing) in
        record {
          unwritten = d.unwritten;
          reached = λ q. d.reached (reaches v s ∙ q);
          comes = record {
            by = x;
            standing = m;
            from = subst (λ (y : Delegation). y.giver ∈ ws) o c.from;
            to = sym (ap (λ (y : Delegation). y.receiver) o) ∙ c.to;
            met = met_same v c.by x o c.met;
            limit = sym (λ j. next t (reaches v (o j).giver j) (o j).weight) ∙ c.limit ∙ reaches v s;
          };
        }

    precedes_same : (v s y : ℕ) → Precedes t R v s y → Precedes t S v s y
    precedes_same v s y = subst (λ (L : ℕ → ℤ). (code (L y) < code (L s)) ⊎ ((L y ≡ L s) × (s ≤ y))) (λ j u. reaches v u j)

  module _ (R S : Register) (e : all_ordinary R ≡ all_ordinary S) where
    -- what takes no notice is the same for both
    both : {A : Type 0} (f : Register → A) → ((X : Register) → f (all_ordinary X) ≡ f X) → f R ≡ f S
    both = unnoticed all_ordinary R S e

    written_same : (v : ℕ) {ws : List ℕ} → WrittenSo t R v ws → WrittenSo t S v ws
    written_same v owner_first = owner_first
    written_same v (heaviest_next {ws} {s} a d h) = heaviest_next (written_same v a) (due_same R S e v ws s d) (λ y k. precedes_same R S e v s y (h y (due_same S R (sym e) v ws y k)))

    order_same : (v : ℕ) (ws : List ℕ) → IsOrder t R v ws → IsOrder t S v ws
    order_same v ws o = record {
      written = written_same v o.written;
      reached = λ s m q. o.reached s m (reaches R S e v s ∙ q);
      all = λ s n. o.all s (λ q. n (sym (reaches R S e v s) ∙ q));
    }

    -- a call that does not ask for kinds on the one does not on the other
    asks_same : (c : Call) → NotByKind R c → NotByKind S c
    asks_same (enrol m) h = tt
    asks_same (grant d) h = sym (both (λ X. stands X d.giver d.receiver) (λ X. standing X d.giver d.receiver)) ∙ h
    asks_same (revoke y g r) h = tt
    asks_same (downgrade y g r w) h = tt
    asks_same (ask_reach g r) h = tt
    asks_same (ask_use r) h = h
    asks_same (set_marks y s m) h = tt
    asks_same (retire y s) h = tt

    pub same_but_kinds : SameButKinds t R S
    same_but_kinds = record {
      reach = λ u v. both (λ X. reach t X u v) (λ X. reach_same X u v);
      allowed = λ d. both (λ X. allowed t X d) (λ X. allowed_same X d);
      round = both (λ X. all_ordinary (round t X)) (λ X. ap all_ordinary (round_same X) ∙ twice (round t X));
      unsupported = both (unsupported t) (λ X. ap (λ (b : Bool). (18, b)) (heavy_same X X.delegations));
      chain = λ g r. both (λ X. chain_held t X g r) (λ X. chain_held_same X g r);
      order = order_same;
      chains = chain_same R S e;
      call = λ c h. sym (call_same R c h) ∙ ap (λ (X : Register). ordinary_left (call_step t X c)) e ∙ call_same S c (asks_same c h);
    }

-- THE THEOREM, which asks nothing of the table
pub kinds_unnoticed : KindsUnnoticed
kinds_unnoticed = same_but_kinds

-- ── the kind of a pair that stands ──
-- where nothing is lifted from G to F, and each pair stands once in G
pub one_kind : (G F : Register) → Rising G.delegations → LiftsNothing G F → (d e : Delegation) → d ∈ F.delegations → e ∈ G.delegations → d.giver ≡ e.giver → d.receiver ≡ e.receiver → d.kind ≡ e.kind
one_kind G F rising lifts d e m n g r =
    let (x, i, a) = lifts d m in
    at_kind a ∙ ap (λ (y : Delegation). y.kind) (pair_one rising i n (sym g ∙ at_giver a, sym r ∙ at_receiver a))

module _ (t : List ℤ) (rule : TableRule t) (R : Register) (f : WellFormed R) where
  -- a refused call leaves all as it was
  lifts_or_refused : (c : Call) → LiftsNothing R (accepted t R c).left → LiftsNothing R (call_step t R c).left
  lifts_or_refused c h = call_step_cases t R c (λ (o : Outcome). LiftsNothing R o.left) (λ z p. h) (λ n. lifts_refl R)

  change_lifts : (c : Call) (k : Change) → Makes c k → LiftsNothing R (call_step t R c).left
  change_lifts c k i =
      call_step_cases t R c (λ (o : Outcome). (o.refusal ≡ 0 → LiftsNothing R o.left) → LiftsNothing R o.left) (λ z p h. h (accepted_refusal t R c)) (λ n h. lifts_refl R)
      (λ z. (call_step_cut t rule R f c k i z).1)

  -- a call lifts nothing, or is a grant and lowers nothing
  one_way : (c : Call) → LiftsNothing R (call_step t R c).left ⊎ LiftsNothing (call_step t R c).left R
  unfolding accepted passed held
  one_way (enrol m) = inl (lifts_or_refused (enrol m) (lifts_refl R))
  one_way (grant d) = inr (call_step_cases t R (grant d) (λ (o : Outcome). LiftsNothing o.left R) (λ z p. (grant_leaves R d f.rising (p 11)).within.held) (λ n. lifts_refl R))
  one_way (revoke y g r) = inl (change_lifts (revoke y g r) (cutting (removal g r)) refl)
  one_way (downgrade y g r w) = inl (change_lifts (downgrade y g r w) (cutting (lowering g r w)) refl)
  one_way (ask_reach g r) = inl (lifts_or_refused (ask_reach g r) (lifts_refl R))
  one_way (ask_use r) = inl (lifts_or_refused (ask_use r) (lifts_refl R))
  one_way (set_marks y s m) = inl (change_lifts (set_marks y s m) (marking s m) refl)
  one_way (retire y s) = inl (change_lifts (retire y s) (retirement s) refl)

pub kinds_stay : KindsStay
kinds_stay t rule R f c d e m n g r = go (one_way t rule R f c)
  where
    S : Register
    S = (call_step t R c).left

    go : LiftsNothing R S ⊎ LiftsNothing S R → d.kind ≡ e.kind
    go (inl h) = sym (one_kind R S f.rising h e d n m (sym g) (sym r))
    go (inr h) = one_kind S R (call_step_formed t R c f).rising h d e m n g r
