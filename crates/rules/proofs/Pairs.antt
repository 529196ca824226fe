-- Laws of pairs in a list of delegations: the weight that stands, a delegation added at its place, removed or set. Assumes nothing.
use mathlib.Core.Path.{◌≡◌, refl, sym, ap, subst, ◌∙◌}
use mathlib.Core.Logic.{◌≢◌, ◌⊎◌, inl, inr}
use mathlib.Core.Bool.{Bool, true, false, not, cond, ◌&&◌, ◌||◌}
use mathlib.Core.List.Memᴰ
use mathlib.Core.List.{List, [], ◌∷◌, map}
use Prim.Native.Nat.{ℕ, zero, suc, ◌≤◌, ◌<◌, zero-le, suc-le-suc}
use native.Mathlib.Omega.{arith}
use lib.Dec.{T, ltb, eqb, eqb→eq, nltb→le, ltb→lt, lt→ltb, T_not}
use lib.ListN.{length}
use lib.IntN.{pos}
use Rattle.rules.specs.List.{◌∈◌, keep, filter}
use Rattle.rules.specs.Limit.{code}
use Rattle.rules.specs.Register.{Delegation, Register}
use Rattle.rules.specs.Pair.{is_pair, weight_at, stands, opens_to, opens}
use Rattle.rules.specs.WellFormed.{Before, Rising}
use Rattle.rules.specs.CallStep.{before, insert}
use Rattle.rules.proofs.Lists.{T_true, yes, T_left, T_right, T_both, T_or_left, T_or_right, either, eq_to_eqb, filter_mem, any_mem, mem_any, map_mem, not_or_left, not_or_right, test_ne}
use Rattle.rules.proofs.WellFormed.{Before_trans, Before_pairs, Before_irrefl}

-- ── what a pair's weight says ──
abbrev pub IsPair : ℕ → ℕ → Delegation → Type 0
IsPair g r d = (d.giver ≡ g) × (d.receiver ≡ r)

pub pair_test : (g r : ℕ) (d : Delegation) → IsPair g r d → T (is_pair g r d)
pair_test g r d p = T_both (eqb d.giver g) (eqb d.receiver r) (eq_to_eqb p.0) (eq_to_eqb p.1)

pub test_pair : (g r : ℕ) (d : Delegation) → T (is_pair g r d) → IsPair g r d
test_pair g r d h = (eqb→eq d.giver g (T_left (eqb d.giver g) (eqb d.receiver r) h), eqb→eq d.receiver r (T_right (eqb d.giver g) (eqb d.receiver r) h))

weight_stands : (g r : ℕ) {d : Delegation} {ds : List Delegation} → d ∈ ds → IsPair g r d → zero < code (weight_at ds g r)
weight_stands g r {d} (Memᴰ.head {x = x} {xs = ds} e) p = go (is_pair g r x) (subst (λ (y : Delegation). T (is_pair g r y)) e (pair_test g r d p))
  where
    go : (b : Bool) → T b → zero < code (cond b (pos x.weight) (weight_at ds g r))
    go true h = suc-le-suc zero-le
    go false h = absurd h
weight_stands g r (Memᴰ.tail {x = x} {xs = ds} m) p = go (weight_stands g r m p) (is_pair g r x)
  where
    go : zero < code (weight_at ds g r) → (b : Bool) → zero < code (cond b (pos x.weight) (weight_at ds g r))
    go h true = suc-le-suc zero-le
    go h false = h

pub pair_stands_lem : (R : Register) (g r : ℕ) (d : Delegation) → d ∈ R.delegations → IsPair g r d → stands R g r ≡ true
pair_stands_lem R g r d m p = T_true (stands R g r) (lt→ltb zero (code (weight_at R.delegations g r)) (weight_stands g r m p))

pub none_stands : (R : Register) (g r : ℕ) → T (not (stands R g r)) → (d : Delegation) → d ∈ R.delegations → IsPair g r d → ⊥
none_stands R g r h d m p = T_not (stands R g r) h (yes (pair_stands_lem R g r d m p))

-- what stands for a pair
pub pair_found : (g r : ℕ) (ds : List Delegation) → zero < code (weight_at ds g r) → (d : Delegation) × (d ∈ ds) × T (is_pair g r d) × (weight_at ds g r ≡ pos d.weight)
pair_found g r [] h = absurd (omega arith)
pair_found g r (x ∷ xs) h = go (is_pair g r x) refl (pair_found g r xs) h
  where
    go : (b : Bool) → is_pair g r x ≡ b → (zero < code (weight_at xs g r) → (d : Delegation) × (d ∈ xs) × T (is_pair g r d) × (weight_at xs g r ≡ pos d.weight))
        → zero < code (cond b (pos x.weight) (weight_at xs g r)) → (d : Delegation) × (d ∈ (x ∷ xs)) × T (is_pair g r d) × (cond b (pos x.weight) (weight_at xs g r) ≡ pos d.weight)
    go true e ih k = (x, Memᴰ.head refl, subst T (sym e) tt, refl)
    go false e ih k = let (d, m, p, q) = ih k in (d, Memᴰ.tail m, p, q)

-- a pair stands once in a rising list
pub pair_one : {d e : Delegation} {ds : List Delegation} → Rising ds → d ∈ ds → e ∈ ds → IsPair d.giver d.receiver e → d ≡ e
pair_one r (Memᴰ.head p) (Memᴰ.head q) s = p ∙ sym q
pair_one {d} {e} r (Memᴰ.head {x = x} p) (Memᴰ.tail m) s =
    absurd (Before_irrefl x e (ap (λ (y : Delegation). y.giver) (sym p) ∙ sym s.0) (ap (λ (y : Delegation). y.receiver) (sym p) ∙ sym s.1) (r.0 e m))
pair_one {d} {e} r (Memᴰ.tail m) (Memᴰ.head {x = x} q) s =
    absurd (Before_irrefl x d (ap (λ (y : Delegation). y.giver) (sym q) ∙ s.0) (ap (λ (y : Delegation). y.receiver) (sym q) ∙ s.1) (r.0 d m))
pair_one r (Memᴰ.tail m) (Memᴰ.tail n) s = pair_one r.1 m n s

-- so the weight that stands for its pair is that of the delegation
pub weight_one : {ds : List Delegation} → Rising ds → {d : Delegation} → d ∈ ds → weight_at ds d.giver d.receiver ≡ pos d.weight
weight_one {ds} rising {d} m =
    let (e, n, p, q) = pair_found d.giver d.receiver ds (weight_stands d.giver d.receiver m (refl, refl)) in
    q ∙ ap (λ (x : Delegation). pos x.weight) (sym (pair_one rising m n (test_pair d.giver d.receiver e p)))

-- some ordinary delegation to r stands exactly where the test says so
pub opens_right : (r : ℕ) (ds : List Delegation) → let Open = (d : Delegation) × (d ∈ ds) × (d.receiver ≡ r) × (d.kind ≡ 0) in (T (opens r ds) → Open) × (Open → T (opens r ds))
opens_right r ds = (found, λ (d, m, e, k). any_mem (opens_to r) m (T_both (eqb d.receiver r) (eqb d.kind 0) (eq_to_eqb e) (eq_to_eqb k)))
  where
    found : T (opens r ds) → (d : Delegation) × (d ∈ ds) × (d.receiver ≡ r) × (d.kind ≡ 0)
    found h =
        let (d, m, p) = mem_any (opens_to r) ds h in
        (d, m, eqb→eq d.receiver r (T_left (eqb d.receiver r) (eqb d.kind 0) p), eqb→eq d.kind 0 (T_right (eqb d.receiver r) (eqb d.kind 0) p))

-- ── a delegation is added ──
pub before_Before : (d e : Delegation) → T (before d e) → Before d e
before_Before d e h = go (either (ltb d.giver e.giver))
  where
    second : (a b : Bool) → T (not a) → T (a || b) → T b
    second true b n q = absurd n
    second false b n q = q

    go : T (ltb d.giver e.giver) ⊎ T (not (ltb d.giver e.giver)) → Before d e
    go (inl q) = inl (ltb→lt d.giver e.giver q)
    go (inr q) =
        let k = second (ltb d.giver e.giver) (eqb d.giver e.giver && ltb d.receiver e.receiver) q h in
        inr (eqb→eq d.giver e.giver (T_left (eqb d.giver e.giver) (ltb d.receiver e.receiver) k), ltb→lt d.receiver e.receiver (T_right (eqb d.giver e.giver) (ltb d.receiver e.receiver) k))

pub Before_before : (d e : Delegation) → Before d e → T (before d e)
Before_before d e (inl p) = T_or_left (ltb d.giver e.giver) (eqb d.giver e.giver && ltb d.receiver e.receiver) (lt→ltb d.giver e.giver p)
Before_before d e (inr p) =
    T_or_right (ltb d.giver e.giver) (eqb d.giver e.giver && ltb d.receiver e.receiver)
    (T_both (eqb d.giver e.giver) (ltb d.receiver e.receiver) (eq_to_eqb p.0) (lt→ltb d.receiver e.receiver p.1))

not_before : (d e : Delegation) → T (not (before d e)) → (IsPair d.giver d.receiver e → ⊥) → Before e d
not_before d e h n = go (either (eqb d.giver e.giver))
  where
    le : e.giver ≤ d.giver
    le = nltb→le d.giver e.giver (not_or_left (ltb d.giver e.giver) (eqb d.giver e.giver && ltb d.receiver e.receiver) h)

    rest : (a b : Bool) → T a → T (not (a && b)) → T (not b)
    rest true b p q = q
    rest false b p q = absurd p

    go : T (eqb d.giver e.giver) ⊎ T (not (eqb d.giver e.giver)) → Before e d
    go (inr q) = let k = test_ne d.giver e.giver q in inl (omega (arith, le))
    go (inl q) =
        let s = eqb→eq d.giver e.giver q in
        let k = rest (eqb d.giver e.giver) (ltb d.receiver e.receiver) q (not_or_right (ltb d.giver e.giver) (eqb d.giver e.giver && ltb d.receiver e.receiver) h) in
        let l = nltb→le d.receiver e.receiver k in
        let o : d.receiver ≢ e.receiver = λ f. n (sym s, sym f) in
        inr (sym s, omega arith)

pub insert_mem : (d : Delegation) (ds : List Delegation) {e : Delegation} → e ∈ insert d ds → (e ≡ d) ⊎ (e ∈ ds)
insert_mem d [] (Memᴰ.head q) = inl q
insert_mem d [] (Memᴰ.tail m) = inr m
insert_mem d (x ∷ xs) {e} m = go (insert_mem d xs) (before d x) m
  where
    deeper : (e ≡ d) ⊎ (e ∈ xs) → (e ≡ d) ⊎ (e ∈ (x ∷ xs))
    deeper (inl q) = inl q
    deeper (inr i) = inr (Memᴰ.tail i)

    go : (e ∈ insert d xs → (e ≡ d) ⊎ (e ∈ xs)) → (b : Bool) → e ∈ cond b (d ∷ x ∷ xs) (x ∷ insert d xs) → (e ≡ d) ⊎ (e ∈ (x ∷ xs))
    go ih true (Memᴰ.head q) = inl q
    go ih true (Memᴰ.tail i) = inr i
    go ih false (Memᴰ.head q) = inr (Memᴰ.head q)
    go ih false (Memᴰ.tail i) = deeper (ih i)

-- what stood still stands, and d stands too
pub mem_insert : (d : Delegation) (ds : List Delegation) {e : Delegation} → (e ≡ d) ⊎ (e ∈ ds) → e ∈ insert d ds
mem_insert d [] (inl q) = Memᴰ.head q
mem_insert d [] (inr m) = absurd (Memᴰ.not-nil m)
mem_insert d (x ∷ xs) {e} h = go (mem_insert d xs) (before d x) h
  where
    go : ((e ≡ d) ⊎ (e ∈ xs) → e ∈ insert d xs) → (b : Bool) → (e ≡ d) ⊎ (e ∈ (x ∷ xs)) → e ∈ cond b (d ∷ x ∷ xs) (x ∷ insert d xs)
    go ih true (inl q) = Memᴰ.head q
    go ih true (inr m) = Memᴰ.tail m
    go ih false (inl q) = Memᴰ.tail (ih (inl q))
    go ih false (inr (Memᴰ.head q)) = Memᴰ.head q
    go ih false (inr (Memᴰ.tail m)) = Memᴰ.tail (ih (inr m))

pub insert_length : (d : Delegation) (ds : List Delegation) → length (insert d ds) ≡ suc (length ds)
insert_length d [] = refl
insert_length d (x ∷ xs) = go (insert_length d xs) (before d x)
  where
    go : length (insert d xs) ≡ suc (length xs) → (b : Bool) → length (cond b (d ∷ x ∷ xs) (x ∷ insert d xs)) ≡ suc (suc (length xs))
    go ih true = refl
    go ih false = ap suc ih

pub insert_rising : (d : Delegation) (ds : List Delegation) → Rising ds → ((e : Delegation) → e ∈ ds → IsPair d.giver d.receiver e → ⊥) → Rising (insert d ds)
insert_rising d [] r n = (λ e m. absurd (Memᴰ.not-nil m), tt)
insert_rising d (x ∷ xs) r n = go (insert_rising d xs r.1 (λ e m. n e (Memᴰ.tail m))) (before d x) (before_Before d x) (λ h. not_before d x h (n x (Memᴰ.head refl)))
  where
    front : Before d x → (e : Delegation) → e ∈ (x ∷ xs) → Before d e
    front h e (Memᴰ.head q) = subst (λ (y : Delegation). Before d y) (sym q) h
    front h e (Memᴰ.tail m) = Before_trans d x e h (r.0 e m)

    back : Before x d → (e : Delegation) → (e ≡ d) ⊎ (e ∈ xs) → Before x e
    back h e (inl q) = subst (λ (y : Delegation). Before x y) (sym q) h
    back h e (inr m) = r.0 e m

    go : Rising (insert d xs) → (b : Bool) → (T b → Before d x) → (T (not b) → Before x d) → Rising (cond b (d ∷ x ∷ xs) (x ∷ insert d xs))
    go ih true f g = (front (f tt), r)
    go ih false f g = (λ e m. back (g tt) e (insert_mem d xs m), ih)

-- ── a delegation is removed, or set ──
pub rising_filter : (f : Delegation → Bool) (ds : List Delegation) → Rising ds → Rising (filter f ds)
rising_filter f [] r = tt
rising_filter f (d ∷ ds) r = go (rising_filter f ds r.1) (f d)
  where
    go : Rising (filter f ds) → (b : Bool) → Rising (keep b d (filter f ds))
    go ih true = (λ e m. r.0 e (filter_mem f ds m).0, ih)
    go ih false = ih

pub rising_map : (f : Delegation → Delegation) → ((d : Delegation) → IsPair d.giver d.receiver (f d)) → (ds : List Delegation) → Rising ds → Rising (map f ds)
rising_map f p [] r = tt
rising_map f p (d ∷ ds) r = (below, rising_map f p ds r.1)
  where
    below : (e : Delegation) → e ∈ map f ds → Before (f d) e
    below e m =
        let (x, m', q) = map_mem f ds m in
        subst (λ (y : Delegation). Before (f d) y) (sym q)
        (Before_pairs d x (f d) (f x) (sym (p d).0) (sym (p d).1) (sym (p x).0) (sym (p x).1) (r.0 x m'))
