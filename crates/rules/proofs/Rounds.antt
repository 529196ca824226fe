-- Rounds end, in one way, and what they leave is the best remainder: for every register after a change. Assumes nothing.
use mathlib.Core.Path.{◌≡◌, refl, sym, ap, subst, ◌∙◌}
use mathlib.Core.Logic.{◌≢◌, ◌⊎◌, inl, inr}
use mathlib.Core.Bool.{Bool, true, false, not}
use mathlib.Core.List.Memᴰ
use mathlib.Core.List.{List, [], ◌∷◌, ◌++◌}
use Prim.Native.Nat.{ℕ, zero, suc, ◌≤◌, ◌<◌, min}
use native.Mathlib.Nat.{le_trans, le_refl, min-le_left}
use native.Mathlib.Omega.{arith}
use lib.Dec.{T, leb, leb→le, nleb→lt, eqb, eqb→eq, eqb_refl}
use lib.ListN.{get_or}
use lib.IntN.{ℤ, pos, negsuc}
use Rattle.rules.specs.List.{◌∈◌, concat_map}
use Rattle.rules.specs.Limit.{code, ◌≼◌}
use Rattle.rules.specs.Table.{TableRule}
use Rattle.rules.specs.Register.{Delegation, Register, granted, fields, reweigh}
use Rattle.rules.specs.Support.{allowed}
use Rattle.rules.specs.Round.{capped, round, equal, same, Settled, after, settle_from, total, settle, SettlesIn}
use Rattle.rules.specs.Remainder.{AtMost, LiftsNothing, Within, Remainder, Best}
use Rattle.rules.specs.Refusal.{too_heavy}
use Rattle.rules.proofs.Lists.{T_left, T_right, T_both, either, mem_concat_map, concat_map_mem}
use Rattle.rules.proofs.AtMost.{AtMost_refl, AtMost_reweigh, AtMost_trans, at_reweigh}
use Rattle.rules.proofs.Support.{allowed_mono, allowed_carried, carried_allowed, light_allowed, allowed_light}

-- ── tests for equality ──
pub equal_refl : (xs : List ℕ) → T (equal xs xs)
equal_refl [] = tt
equal_refl (x ∷ xs) = T_both (eqb x x) (equal xs xs) (eqb_refl x) (equal_refl xs)

pub equal_to_eq : (xs ys : List ℕ) → T (equal xs ys) → xs ≡ ys
equal_to_eq [] [] h = refl
equal_to_eq [] (y ∷ ys) h = absurd h
equal_to_eq (x ∷ xs) [] h = absurd h
equal_to_eq (x ∷ xs) (y ∷ ys) h = λ i. eqb→eq x y (T_left (eqb x y) (equal xs ys) h) i ∷ equal_to_eq xs ys (T_right (eqb x y) (equal xs ys) h) i

-- a delegation from its fields
abbrev made : List ℕ → Delegation
made l = granted (get_or l 0 0) (get_or l 1 0) (get_or l 2 0) (get_or l 3 0) (get_or l 4 0) (get_or l 5 0)

fields_refl : (d : Delegation) → T (equal (fields d) (fields d))
fields_refl d = equal_refl (fields d)

fields_to_eq : (d e : Delegation) → T (equal (fields d) (fields e)) → d ≡ e
fields_to_eq d e h = ap made (equal_to_eq (fields d) (fields e) h)

same_to_eq : (ds es : List Delegation) → T (same ds es) → ds ≡ es
same_to_eq [] [] h = refl
same_to_eq [] (e ∷ es) h = absurd h
same_to_eq (d ∷ ds) [] h = absurd h
same_to_eq (d ∷ ds) (e ∷ es) h = λ i. fields_to_eq d e (T_left (equal (fields d) (fields e)) (same ds es) h) i ∷ same_to_eq ds es (T_right (equal (fields d) (fields e)) (same ds es) h) i

same_refl : (ds : List Delegation) → T (same ds ds)
same_refl [] = tt
same_refl (d ∷ ds) = T_both (equal (fields d) (fields d)) (same ds ds) (fields_refl d) (same_refl ds)

eq_to_same : {ds es : List Delegation} → ds ≡ es → T (same ds es)
eq_to_same {ds} e = subst (λ (x : List Delegation). T (same ds x)) e (same_refl ds)

-- ── orders ──
pub lifts_refl : (F : Register) → LiftsNothing F F
lifts_refl F d m = (d, m, AtMost_refl d)

pub lifts_trans : (R C F : Register) → LiftsNothing R C → LiftsNothing C F → LiftsNothing R F
lifts_trans R C F p q d m =
    let (e, n, a) = q d m in
    let (f, o, b) = p e n in
    (f, o, AtMost_trans a b)

Within_refl : (F : Register) → Within F F
Within_refl F = record { subjects = refl; marks = refl; retired = refl; held = lifts_refl F }

Within_trans : {F G H : Register} → Within F G → Within G H → Within F H
Within_trans {F} {G} {H} p q = record { subjects = p.subjects ∙ q.subjects; marks = p.marks ∙ q.marks; retired = p.retired ∙ q.retired; held = lifts_trans H G F q.held p.held }

-- ── one delegation in a round ──
pub capped_within : (d : Delegation) (l : ℤ) {e : Delegation} → e ∈ capped d l → AtMost e d
capped_within d (pos r) (Memᴰ.head q) = subst (λ (x : Delegation). AtMost x d) (sym q) (AtMost_reweigh d (min d.weight r) (min-le_left d.weight r))
capped_within d (pos r) (Memᴰ.tail q) = absurd (Memᴰ.not-nil q)
capped_within d (negsuc n) q = absurd (Memᴰ.not-nil q)

capped_keeps : (f d : Delegation) (l : ℤ) → AtMost f d → pos f.weight ≼ l → (e : Delegation) × (e ∈ capped d l) × AtMost f e
capped_keeps f d (pos r) a h = (reweigh d (min d.weight r), Memᴰ.head refl, at_reweigh a (min d.weight r) (omega (arith, a.weight)))
capped_keeps f d (negsuc n) a h = absurd (omega arith)

capped_total : (d : Delegation) (l : ℤ) (xs ys : List Delegation) → total xs ≤ total ys → total (capped d l ++ xs) ≤ total (d ∷ ys)
capped_total d (pos r) xs ys h = omega arith
capped_total d (negsuc n) xs ys h = omega arith

capped_short : (d : Delegation) (l : ℤ) (xs ys : List Delegation) → total xs < total ys → total (capped d l ++ xs) < total (d ∷ ys)
capped_short d (pos r) xs ys h = omega arith
capped_short d (negsuc n) xs ys h = omega arith

capped_lowers : (d : Delegation) (l : ℤ) (xs ys : List Delegation) → code l ≤ d.weight → total xs ≤ total ys → total (capped d l ++ xs) < total (d ∷ ys)
capped_lowers d (pos r) xs ys k h = omega arith
capped_lowers d (negsuc n) xs ys k h = omega arith

capped_same : (d : Delegation) (l : ℤ) (xs ys : List Delegation) → pos d.weight ≼ l → T (same xs ys) → T (same (capped d l ++ xs) (d ∷ ys))
capped_same d (pos r) xs ys k h =
    let e : min d.weight r ≡ d.weight = omega arith in
    T_both (equal (fields (reweigh d (min d.weight r))) (fields d)) (same xs ys) (subst (λ (x : ℕ). T (equal (fields (reweigh d x)) (fields d))) (sym e) (fields_refl d)) h
capped_same d (negsuc n) xs ys k h = absurd (omega arith)

module _ (f : Delegation → ℤ) where
  capped_all_total : (ds : List Delegation) → total (concat_map (λ d. capped d (f d)) ds) ≤ total ds
  capped_all_total [] = le_refl zero
  capped_all_total (d ∷ ds) = capped_total d (f d) (concat_map (λ d. capped d (f d)) ds) ds (capped_all_total ds)

  -- where a bound is below a weight the total falls
  capped_all_falls : {d : Delegation} {ds : List Delegation} → d ∈ ds → code (f d) ≤ d.weight → total (concat_map (λ d. capped d (f d)) ds) < total ds
  capped_all_falls (Memᴰ.head {x = x} {xs = ds} e) h =
      capped_lowers x (f x) (concat_map (λ d. capped d (f d)) ds) ds (subst (λ (y : Delegation). code (f y) ≤ y.weight) e h) (capped_all_total ds)
  capped_all_falls (Memᴰ.tail {x = x} {xs = ds} m) h = capped_short x (f x) (concat_map (λ d. capped d (f d)) ds) ds (capped_all_falls m h)

  -- where no bound is below a weight nothing changes
  capped_all_same : (ds : List Delegation) → ((d : Delegation) → d ∈ ds → pos d.weight ≼ f d) → T (same (concat_map (λ d. capped d (f d)) ds) ds)
  capped_all_same [] h = tt
  capped_all_same (d ∷ ds) h = capped_same d (f d) (concat_map (λ d. capped d (f d)) ds) ds (h d (Memᴰ.head refl)) (capped_all_same ds (λ e m. h e (Memᴰ.tail m)))

  -- a round changes nothing, or lowers the total
  capped_all_either : (ds : List Delegation) → T (same (concat_map (λ d. capped d (f d)) ds) ds) ⊎ (total (concat_map (λ d. capped d (f d)) ds) < total ds)
  capped_all_either [] = inl tt
  capped_all_either (d ∷ ds) = go (capped_all_either ds) (either (leb (suc d.weight) (code (f d))))
    where
      go : T (same (concat_map (λ d. capped d (f d)) ds) ds) ⊎ (total (concat_map (λ d. capped d (f d)) ds) < total ds)
          → T (leb (suc d.weight) (code (f d))) ⊎ T (not (leb (suc d.weight) (code (f d))))
          → T (same (concat_map (λ d. capped d (f d)) (d ∷ ds)) (d ∷ ds)) ⊎ (total (concat_map (λ d. capped d (f d)) (d ∷ ds)) < total (d ∷ ds))
      go (inl s) (inl h) = inl (capped_same d (f d) (concat_map (λ d. capped d (f d)) ds) ds (leb→le (suc d.weight) (code (f d)) h) s)
      go (inr s) (inl h) = inr (capped_short d (f d) (concat_map (λ d. capped d (f d)) ds) ds s)
      go s (inr h) =
          let k = nleb→lt (suc d.weight) (code (f d)) h in
          inr (capped_lowers d (f d) (concat_map (λ d. capped d (f d)) ds) ds (omega arith) (capped_all_total ds))

module _ (t : List ℤ) where
  round_eq : (R : Register) → (round t R).delegations ≡ R.delegations → round t R ≡ R
  round_eq R e = λ i. record { subjects = R.subjects; marks = R.marks; retired = R.retired; delegations = e i }

  -- a round that changes something lowers the total
  pub round_falls : (R : Register) → round t R ≢ R → total (round t R).delegations < total R.delegations
  round_falls R n = go (capped_all_either (allowed t R) R.delegations)
    where
      go : T (same (round t R).delegations R.delegations) ⊎ (total (round t R).delegations < total R.delegations) → total (round t R).delegations < total R.delegations
      go (inl s) = absurd (n (round_eq R (same_to_eq _ _ s)))
      go (inr s) = s

  -- where every weight is at most what counts for it, a round changes nothing
  pub round_stays : (R : Register) → ((d : Delegation) → d ∈ R.delegations → pos d.weight ≼ allowed t R d) → round t R ≡ R
  round_stays R h = round_eq R (same_to_eq _ _ (capped_all_same (allowed t R) R.delegations h))

  -- where some weight is above it, a round changes something
  pub round_changes : (R : Register) (d : Delegation) → d ∈ R.delegations → code (allowed t R d) ≤ d.weight → round t R ≢ R
  round_changes R d m h e = let c = capped_all_falls (allowed t R) m h in omega (arith, c, ap (λ (x : Register). total x.delegations) e)

  -- the fuel is enough
  settle_from_right : (k : ℕ) (R : Register) → total R.delegations < k → SettlesIn t (settle_from t k R).changed R (settle_from t k R).left
  settle_from_right zero R h = absurd (omega arith)
  settle_from_right (suc k) R h = go (same (round t R).delegations R.delegations) refl (settle_from_right k (round t R))
    where
      go : (b : Bool) → same (round t R).delegations R.delegations ≡ b
          → (total (round t R).delegations < k → SettlesIn t (settle_from t k (round t R)).changed (round t R) (settle_from t k (round t R)).left)
          → let s : Settled = elim b [ true ↦ record { left = R; changed = zero } | false ↦ after (settle_from t k (round t R)) ] in
          SettlesIn t s.changed R s.left
      go true e ih = (refl, round_eq R (same_to_eq _ _ (subst T (sym e) tt)))
      go false e ih = (λ c. subst T e (eq_to_same (ap (λ (x : Register). x.delegations) c)), ih (less (capped_all_either (allowed t R) R.delegations)))
        where
          less : T (same (round t R).delegations R.delegations) ⊎ (total (round t R).delegations < total R.delegations) → total (round t R).delegations < k
          less (inl s) = absurd (subst T e s)
          less (inr s) = omega arith

  pub settle_right : (C : Register) → SettlesIn t (settle t C).changed C (settle t C).left
  unfolding settle
  settle_right C = settle_from_right (suc (total C.delegations)) C (le_refl _)

  -- rounds end in one way
  pub settles_unique : (m n : ℕ) (C F G : Register) → SettlesIn t m C F → SettlesIn t n C G → (m ≡ n) × (F ≡ G)
  settles_unique zero zero C F G p q = (refl, sym p.0 ∙ q.0)
  settles_unique zero (suc n) C F G p q = absurd (q.0 p.1)
  settles_unique (suc m) zero C F G p q = absurd (p.0 q.1)
  settles_unique (suc m) (suc n) C F G p q = let (a, b) = settles_unique m n (round t C) F G p.1 q.1 in (ap suc a, b)

  -- ── rounds and remainders ──
  round_within : (R : Register) → Within (round t R) R
  round_within R = record {
    subjects = refl;
    marks = refl;
    retired = refl;
    held = λ d m.
        let (e, m', q) = concat_map_mem (λ x. capped x (allowed t R x)) R.delegations m in
        (e, m', capped_within e (allowed t R e) q);
  }

  rest_supported : (R : Register) → round t R ≡ R → (d : Delegation) → d ∈ R.delegations → pos d.weight ≼ allowed t R d
  rest_supported R e d m = go (either (leb (suc d.weight) (code (allowed t R d))))
    where
      go : T (leb (suc d.weight) (code (allowed t R d))) ⊎ T (not (leb (suc d.weight) (code (allowed t R d)))) → pos d.weight ≼ allowed t R d
      go (inl h) = leb→le (suc d.weight) (code (allowed t R d)) h
      go (inr h) =
          let k = nleb→lt (suc d.weight) (code (allowed t R d)) h in
          let c = capped_all_falls (allowed t R) m (omega arith) in
          absurd (omega (arith, c, ap (λ (x : Register). total x.delegations) e))

  -- a round changes nothing exactly where no weight is above the reach that counts for it
  pub round_right : (R : Register) → (too_heavy t R R.delegations ≡ false → round t R ≡ R) × (round t R ≡ R → too_heavy t R R.delegations ≡ false)
  round_right R = (λ e. round_stays R (light_allowed t R R.delegations e), λ e. allowed_light t R R.delegations (rest_supported R e))

  module _ (rule : TableRule t) where
    -- every remainder of the register before a round is within the register after it
    round_keeps : (C F : Register) → Remainder t C F → Within F (round t C)
    round_keeps C F r = record {
      subjects = r.within.subjects;
      marks = r.within.marks;
      retired = r.within.retired;
      held = λ d m.
          let (e, m', a) = r.within.held d m in
          let (g, m'', b) = capped_keeps d e (allowed t C e) a (le_trans (carried_allowed t rule F d (r.supported d m)) (allowed_mono t rule F C d e r.within a)) in
          (g, mem_concat_map (λ x. capped x (allowed t C x)) m' m'', b);
    }

    settles_best : (n : ℕ) (C F : Register) → SettlesIn t n C F → Best t C F
    settles_best zero C F s = subst (λ (X : Register). Best t C X) s.0 record {
      remainder = record { within = Within_refl C; supported = λ d m. allowed_carried t rule C d (rest_supported C s.1 d m) };
      best = λ G r. r.within;
    }
    settles_best (suc n) C F s =
        let b = settles_best n (round t C) F s.1 in
        record {
          remainder = record { within = Within_trans b.remainder.within (round_within C); supported = b.remainder.supported };
          best = λ G r. b.best G record { within = round_keeps C G r; supported = r.supported };
        }

    -- THE THEOREM: whatever the register after the change, what the rounds leave is its best remainder
    pub settle_best : (C : Register) → Best t C (settle t C).left
    settle_best C = settles_best (settle t C).changed C (settle t C).left (settle_right C)
