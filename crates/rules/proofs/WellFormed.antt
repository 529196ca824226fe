-- Rounds keep a register well formed, and among rising lists of delegations there is one best remainder. Assumes nothing.
use mathlib.Core.Path.{◌≡◌, refl, sym, subst, ◌∙◌}
use mathlib.Core.Logic.{inl, inr}
use mathlib.Core.Bool.{not}
use mathlib.Core.List.Memᴰ
use mathlib.Core.List.{List, [], ◌∷◌, ◌++◌}
use Prim.Native.Nat.{ℕ, zero, suc, ◌≤◌, zero-le, suc-le-suc}
use native.Mathlib.Nat.{le_trans, le_refl}
use native.Mathlib.Omega.{arith}
use lib.Dec.{T}
use lib.ListN.{length}
use lib.IntN.{ℤ, pos, negsuc}
use Rattle.rules.specs.List.{◌∈◌, concat_map}
use Rattle.rules.specs.Table.{TableRule}
use Rattle.rules.specs.Register.{Delegation, Register, is_retired, reweigh, with_delegations}
use Rattle.rules.specs.Support.{allowed}
use Rattle.rules.specs.Round.{capped, round, settle, SettlesIn}
use Rattle.rules.specs.Remainder.{AtMost, Within, Best}
use Rattle.rules.specs.WellFormed.{Before, Rising, DelegationFormed, Apart, WellFormed}
use Rattle.rules.proofs.Lists.{concat_map_mem}
use Rattle.rules.proofs.AtMost.{AtMost_antisym, at_giver, at_receiver}
use Rattle.rules.proofs.Rounds.{capped_within, settle_right, settle_best}

-- ── the order ──
pub Before_trans : (d e f : Delegation) → Before d e → Before e f → Before d f
Before_trans d e f (inl p) (inl q) = inl (omega arith)
Before_trans d e f (inl p) (inr q) = inl (omega arith)
Before_trans d e f (inr p) (inl q) = inl (omega arith)
Before_trans d e f (inr p) (inr q) = inr (omega arith)

-- it looks at the pairs alone
pub Before_pairs : (d e d' e' : Delegation) → d.giver ≡ d'.giver → d.receiver ≡ d'.receiver → e.giver ≡ e'.giver → e.receiver ≡ e'.receiver → Before d e → Before d' e'
Before_pairs d e d' e' a b c f (inl p) = inl (omega arith)
Before_pairs d e d' e' a b c f (inr p) = inr (omega arith)

pub Before_irrefl : (d e : Delegation) → d.giver ≡ e.giver → d.receiver ≡ e.receiver → Before d e → ⊥
Before_irrefl d e a b (inl p) = omega arith
Before_irrefl d e a b (inr p) = omega arith

-- ── other delegations of a well-formed register ──
apart_as : (R : Register) (d e : Delegation) → e.giver ≡ d.giver → e.receiver ≡ d.receiver → Apart R d → Apart R e
apart_as R d e g r a = (subst (λ (s : ℕ). T (not (is_retired R s))) (sym g) a.0, subst (λ (s : ℕ). T (not (is_retired R s))) (sym r) a.1)

pub delegations_formed : (R : Register) (ds : List Delegation) → WellFormed R → length ds ≤ 256 → Rising ds → ((d : Delegation) → d ∈ ds → DelegationFormed R.subjects d × Apart R d) → WellFormed (with_delegations R ds)
delegations_formed R ds f few rising each = record {
  some = f.some;
  most = f.most;
  marked = f.marked;
  marks = f.marks;
  owner = f.owner;
  few = few;
  rising = rising;
  each = λ d m. (each d m).0;
  retired = f.retired;
  apart = λ d m. (each d m).1;
}

-- ── rounds keep a register well formed ──
pub formed_reweigh : {n w : ℕ} {d : Delegation} → w ≤ 255 → DelegationFormed n d → DelegationFormed n (reweigh d w)
formed_reweigh h f = record { giver = f.giver; receiver = f.receiver; differ = f.differ; not_owner = f.not_owner; weight = h; need = f.need; bar = f.bar; disjoint = f.disjoint; kind = f.kind }

formed_lighter : {n : ℕ} {d e : Delegation} → AtMost e d → DelegationFormed n d → DelegationFormed n e
formed_lighter {n} a f = subst (λ (x : Delegation). DelegationFormed n x) (sym a.same) (formed_reweigh (le_trans a.weight f.weight) f)

rising_capped : (d : Delegation) (l : ℤ) (ds : List Delegation) → ((e : Delegation) → e ∈ ds → Before d e) → Rising ds → Rising (capped d l ++ ds)
rising_capped d (pos r) ds h k = (h, k)
rising_capped d (negsuc n) ds h k = k

length_capped : (d : Delegation) (l : ℤ) (ds : List Delegation) → length (capped d l ++ ds) ≤ suc (length ds)
length_capped d (pos r) ds = le_refl (suc (length ds))
length_capped d (negsuc n) ds = omega arith

module _ (f : Delegation → ℤ) where
  capped_all_from : (ds : List Delegation) {e : Delegation} → e ∈ concat_map (λ d. capped d (f d)) ds → (d : Delegation) × (d ∈ ds) × AtMost e d
  capped_all_from ds m = let (d, m', q) = concat_map_mem (λ x. capped x (f x)) ds m in (d, m', capped_within d (f d) q)

  rising_capped_all : (ds : List Delegation) → Rising ds → Rising (concat_map (λ d. capped d (f d)) ds)
  rising_capped_all [] k = tt
  rising_capped_all (d ∷ ds) k = rising_capped d (f d) (concat_map (λ d. capped d (f d)) ds) below (rising_capped_all ds k.1)
    where
      below : (e : Delegation) → e ∈ concat_map (λ d. capped d (f d)) ds → Before d e
      below e m = let (x, m', a) = capped_all_from ds m in Before_pairs d x d e refl refl (sym (at_giver a)) (sym (at_receiver a)) (k.0 x m')

  length_capped_all : (ds : List Delegation) → length (concat_map (λ d. capped d (f d)) ds) ≤ length ds
  length_capped_all [] = zero-le
  length_capped_all (d ∷ ds) = le_trans (length_capped d (f d) (concat_map (λ d. capped d (f d)) ds)) (suc-le-suc (length_capped_all ds))

module _ (t : List ℤ) where
  pub round_formed : (R : Register) → WellFormed R → WellFormed (round t R)
  round_formed R f =
      delegations_formed R (concat_map (λ d. capped d (allowed t R d)) R.delegations) f (le_trans (length_capped_all (allowed t R) R.delegations) f.few) (rising_capped_all (allowed t R) R.delegations f.rising)
      (λ e m. let (d, m', a) = capped_all_from (allowed t R) R.delegations m in (formed_lighter a (f.each d m'), apart_as R d e (at_giver a) (at_receiver a) (f.apart d m')))

  pub settles_formed : (n : ℕ) (C F : Register) → SettlesIn t n C F → WellFormed C → WellFormed F
  settles_formed zero C F s f = subst WellFormed s.0 f
  settles_formed (suc n) C F s f = settles_formed n (round t C) F s.1 (round_formed C f)

-- ── two registers, each within the other ──
-- each of ds stands in es at least as heavy
abbrev Held : List Delegation → List Delegation → Type 0
Held ds es = (d : Delegation) → d ∈ ds → (e : Delegation) × (e ∈ es) × AtMost d e

-- where the first of one list stands in the other, that is the other's first
first_within : (d e : Delegation) (ds es : List Delegation) → Rising (d ∷ ds) → Rising (e ∷ es) → Held (d ∷ ds) (e ∷ es) → Held (e ∷ es) (d ∷ ds) → AtMost d e
first_within d e ds es r s h k = go (h d (Memᴰ.head refl)).1 (h d (Memᴰ.head refl)).2 (k e (Memᴰ.head refl)).1 (k e (Memᴰ.head refl)).2
  where
    go : {x y : Delegation} → x ∈ (e ∷ es) → AtMost d x → y ∈ (d ∷ ds) → AtMost e y → AtMost d e
    go (Memᴰ.head q) a n b = subst (λ (z : Delegation). AtMost d z) q a
    go {x} {y} (Memᴰ.tail m) a (Memᴰ.head q) b =
        let c = subst (λ (z : Delegation). AtMost e z) q b in
        absurd (Before_irrefl e x (at_giver c ∙ at_giver a) (at_receiver c ∙ at_receiver a) (s.0 x m))
    go {x} {y} (Memᴰ.tail m) a (Memᴰ.tail n) b =
        absurd (Before_irrefl d x (at_giver a) (at_receiver a) (Before_trans d e x (Before_pairs d y d e refl refl (sym (at_giver b)) (sym (at_receiver b)) (r.0 y n)) (s.0 x m)))

rest_held : (d e : Delegation) (ds es : List Delegation) → Rising (d ∷ ds) → AtMost e d → Held (d ∷ ds) (e ∷ es) → Held ds es
rest_held d e ds es r b h x m = go (h x (Memᴰ.tail m)).0 (h x (Memᴰ.tail m)).1 (h x (Memᴰ.tail m)).2
  where
    go : (y : Delegation) → y ∈ (e ∷ es) → AtMost x y → (z : Delegation) × (z ∈ es) × AtMost x z
    go y (Memᴰ.tail n) a = (y, n, a)
    go y (Memᴰ.head q) a =
        let c = subst (λ (z : Delegation). AtMost x z) q a in
        absurd (Before_irrefl d x (sym (at_giver c ∙ at_giver b)) (sym (at_receiver c ∙ at_receiver b)) (r.0 x m))

held_antisym : (ds es : List Delegation) → Rising ds → Rising es → Held ds es → Held es ds → ds ≡ es
held_antisym [] [] r s h k = refl
held_antisym [] (e ∷ es) r s h k = absurd (Memᴰ.not-nil (k e (Memᴰ.head refl)).1)
held_antisym (d ∷ ds) [] r s h k = absurd (Memᴰ.not-nil (h d (Memᴰ.head refl)).1)
held_antisym (d ∷ ds) (e ∷ es) r s h k =
    let a = first_within d e ds es r s h k in
    let b = first_within e d es ds s r k h in
    let p = AtMost_antisym a b in
    let q = held_antisym ds es r.1 s.1 (rest_held d e ds es r b h) (rest_held e d es ds s a k) in
    λ i. p i ∷ q i

within_antisym : (F G : Register) → Rising F.delegations → Rising G.delegations → Within F G → Within G F → F ≡ G
within_antisym F G r s h k =
    let p = held_antisym F.delegations G.delegations r s h.held k.held in
    λ i. record { subjects = h.subjects i; marks = h.marks i; retired = h.retired i; delegations = p i }

-- there is one best remainder
best_unique : (t : List ℤ) (C F G : Register) → Rising F.delegations → Rising G.delegations → Best t C F → Best t C G → F ≡ G
best_unique t C F G r s f g = within_antisym F G r s (g.best F f.remainder) (f.best G g.remainder)

settles_rising : (t : List ℤ) (n : ℕ) (C F : Register) → SettlesIn t n C F → Rising C.delegations → Rising F.delegations
settles_rising t zero C F s r = subst (λ (X : Register). Rising X.delegations) s.0 r
settles_rising t (suc n) C F s r = settles_rising t n (round t C) F s.1 (rising_capped_all (allowed t C) C.delegations r)

-- what the rounds leave is the only best remainder that is a rising list
pub settle_only : (t : List ℤ) → TableRule t → (C F : Register) → Rising C.delegations → Rising F.delegations → Best t C F → F ≡ (settle t C).left
settle_only t rule C F c f b = best_unique t C F (settle t C).left f (settles_rising t (settle t C).changed C (settle t C).left (settle_right t C) c) b (settle_best t rule C)
