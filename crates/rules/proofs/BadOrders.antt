-- The order of C-14's example, computed, and wrong orders of it: since there is one order only, none of them is. Assumes nothing.
use mathlib.Core.Path.{◌≡◌, refl, sym, ap, subst, ◌∙◌}
use mathlib.Core.Logic.{◌⊎◌, inl, inr}
use mathlib.Core.Bool.{Bool, true, false, not, ◌&&◌, ◌||◌}
use mathlib.Core.List.Memᴰ
use mathlib.Core.List.{List, [], ◌∷◌, ◌++◌}
use Prim.Native.Nat.{ℕ, zero, ◌<◌}
use native.Mathlib.Omega.{arith}
use lib.Dec.{T, T_not, eqb, eqb→eq, ltb, ltb→lt, leb, leb→le}
use lib.IntN.{ℤ}
use Rattle.rules.specs.List.{◌∈◌, any}
use Rattle.rules.specs.Limit.{code, larger}
use Rattle.rules.specs.Table.{next, TableRule, step, steps}
use Rattle.rules.specs.Register.{Delegation, Register, marks_of}
use Rattle.rules.specs.Condition.{meets}
use Rattle.rules.specs.Chain.{Linked, limit_from}
use Rattle.rules.specs.Reach.{goes_on, chains, reach}
use Rattle.rules.specs.Order.{Due, Precedes, WrittenSo, owner_first, heaviest_next, IsOrder, order_bytes}
use Rattle.rules.specs.Examples.{entry, fanned, fanned_order, fanned_bytes}
use Rattle.rules.proofs.Lists.{T_left, T_right, T_both, either, eq_to_eqb, any_mem, mem_any}
use Rattle.rules.proofs.Limits.{code_inj}
use Rattle.rules.proofs.Table.{steps_rule}
use Rattle.rules.proofs.Links.{last_or, unsnoc_linked}
use Rattle.rules.proofs.Order.{order_one, reach_chain, written_reached}

-- ── an order checked by computation ──
abbrev has : List ℕ → ℕ → Bool
has ws x = any (λ w. eqb w x) ws

has_mem : (ws : List ℕ) (x : ℕ) → T (has ws x) → x ∈ ws
has_mem ws x h = let (w, m, e) = mem_any (λ w. eqb w x) ws h in subst (λ (y : ℕ). y ∈ ws) (eqb→eq w x e) m

mem_has : (ws : List ℕ) (x : ℕ) → x ∈ ws → T (has ws x)
mem_has ws x m = any_mem (λ w. eqb w x) m (eq_to_eqb {m = x} refl)

-- every delegation passes the test
abbrev every : (Delegation → Bool) → List Delegation → Bool
every f ds = not (any (λ d. not (f d)) ds)

every_mem : (f : Delegation → Bool) {d : Delegation} {ds : List Delegation} → T (every f ds) → d ∈ ds → T (f d)
every_mem f {d} {ds} h m = go (either (f d))
  where
    go : T (f d) ⊎ T (not (f d)) → T (f d)
    go (inl k) = k
    go (inr k) = absurd (T_not (any (λ e. not (f e)) ds) h (any_mem (λ e. not (f e)) m k))

or_rest : (a b : Bool) → (T a → ⊥) → T (a || b) → T b
or_rest true b n h = absurd (n tt)
or_rest false b n h = h

module _ (t : List ℤ) (R : Register) (v : ℕ) where
  abbrev code_of : ℕ → ℕ
  code_of s = code (reach t R s v)

  -- d makes its receiver due
  abbrev is_due : List ℕ → Delegation → Bool
  is_due ws d = has ws d.giver && (not (has ws d.receiver) && (meets (marks_of R v) d.need d.bar && (ltb 0 (code_of d.receiver) && eqb (code (next t (reach t R d.giver v) d.weight)) (code_of d.receiver))))

  -- where d could, s precedes its receiver
  abbrev is_before : List ℕ → ℕ → Delegation → Bool
  is_before ws s d = not (has ws d.giver) || (has ws d.receiver || (ltb (code_of d.receiver) (code_of s) || (eqb (code_of d.receiver) (code_of s) && leb s d.receiver)))

  due_by : (ws : List ℕ) (d : Delegation) → d ∈ R.delegations → T (is_due ws d) → Due t R v ws d.receiver
  due_by ws d m h =
      let g = has ws d.giver in
      let n = not (has ws d.receiver) in
      let q = meets (marks_of R v) d.need d.bar in
      let l = ltb 0 (code_of d.receiver) in
      let e = eqb (code (next t (reach t R d.giver v) d.weight)) (code_of d.receiver) in
      let h1 = T_right g (n && (q && (l && e))) h in
      let h2 = T_right n (q && (l && e)) h1 in
      let h3 = T_right q (l && e) h2 in
      let live : zero < code_of d.receiver = ltb→lt 0 (code_of d.receiver) (T_left l e h3) in
      let same : code (next t (reach t R d.giver v) d.weight) ≡ code_of d.receiver = eqb→eq (code (next t (reach t R d.giver v) d.weight)) (code_of d.receiver) (T_right l e h3) in
      record {
        unwritten = λ y i c. T_not (has ws d.receiver) (T_left n (q && (l && e)) h1) (subst (λ (x : ℕ). T (has ws x)) c (mem_has ws y i));
        reached = λ z. omega (arith, live, ap code z);
        comes = record { by = d; standing = m; from = has_mem ws d.giver (T_left g (n && (q && (l && e))) h); to = refl; met = T_left q (l && e) h2; limit = code_inj (next t (reach t R d.giver v) d.weight) (reach t R d.receiver v) same (omega (arith, live, same)) };
      }

  before_all : (ws : List ℕ) (s : ℕ) → T (every (is_before ws s) R.delegations) → (y : ℕ) → Due t R v ws y → Precedes t R v s y
  before_all ws s h y d = subst (λ (x : ℕ). Precedes t R v s x) d.comes.to (go d.comes.by d.comes.standing d.comes.from d.comes.to)
    where
      go : (b : Delegation) → b ∈ R.delegations → b.giver ∈ ws → b.receiver ≡ y → Precedes t R v s b.receiver
      go b m from to = by (either l)
        where
          r : Bool
          r = has ws b.receiver

          l : Bool
          l = ltb (code_of b.receiver) (code_of s)

          e : Bool
          e = eqb (code_of b.receiver) (code_of s)

          p : Bool
          p = leb s b.receiver

          left : T (l || (e && p))
          left =
              or_rest r (l || (e && p)) (λ k. d.unwritten b.receiver (has_mem ws b.receiver k) to)
              (or_rest (not (has ws b.giver)) (r || (l || (e && p))) (λ k. T_not (has ws b.giver) k (mem_has ws b.giver from)) (every_mem (is_before ws s) h m))

          same : T (e && p) → code_of b.receiver ≡ code_of s
          same k = eqb→eq (code_of b.receiver) (code_of s) (T_left e p k)

          live : zero < code_of b.receiver
          live = let (ds, c, q) = reach_chain t R v b.receiver (λ z. d.reached (ap (λ (x : ℕ). reach t R x v) (sym to) ∙ z)) in omega (arith, ap code q, c.live)

          by : T l ⊎ T (not l) → Precedes t R v s b.receiver
          by (inl k) = inl (ltb→lt (code_of b.receiver) (code_of s) k)
          by (inr k) =
              let w = or_rest l (e && p) (λ x. T_not l k x) left in
              inr (code_inj (reach t R b.receiver v) (reach t R s v) (same w) live, leb→le s b.receiver (T_right e p w))

  -- one more, by the delegation d
  one_more : {ws : List ℕ} → WrittenSo t R v ws → (d : Delegation) → d ∈ R.delegations → T (is_due ws d) → T (every (is_before ws d.receiver) R.delegations) → WrittenSo t R v (ws ++ (d.receiver ∷ []))
  one_more {ws} w d m h k = heaviest_next w (due_by ws d m h) (before_all ws d.receiver k)

  -- whole where every receiver is in it
  whole : TableRule t → {ws : List ℕ} → WrittenSo t R v ws → T (has ws 0) → T (every (λ d. has ws d.receiver) R.delegations) → IsOrder t R v ws
  whole rule {ws} w begun h = record { written = w; reached = λ s m. written_reached t R v rule w s m; all = λ s n. let (ds, c, e) = reach_chain t R v s n in go s ds c.linked c.standing (last_or ds) }
    where
      go : (s : ℕ) (ds : List Delegation) → Linked 0 ds s → ((d : Delegation) → d ∈ ds → d ∈ R.delegations) → (ds ≡ []) ⊎ ((xs : List Delegation) × (d : Delegation) × (ds ≡ xs ++ (d ∷ []))) → s ∈ ws
      go s ds p st (inl e) = subst (λ (x : ℕ). x ∈ ws) (subst (λ (xs : List Delegation). Linked 0 xs s) e p) (has_mem ws 0 begun)
      go s ds p st (inr (xs, d, e)) =
          let q = (unsnoc_linked xs d 0 s (subst (λ (zs : List Delegation). Linked 0 zs s) e p)).1 in
          let m = st d (subst (λ (zs : List Delegation). d ∈ zs) (sym e) (Memᴰ.append_right xs (Memᴰ.head refl))) in
          subst (λ (x : ℕ). x ∈ ws) q (has_mem ws d.receiver (every_mem (λ x. has ws x.receiver) h m))

-- ── the example ──
pub fanned_order_lem : IsOrder steps fanned 5 fanned_order
unfolding larger next step steps meets limit_from goes_on chains reach
fanned_order_lem = whole steps fanned 5 steps_rule five tt tt
  where
    one : WrittenSo steps fanned 5 (0 ∷ 4 ∷ [])
    one = one_more steps fanned 5 owner_first (entry 0 4 255) (Memᴰ.tail (Memᴰ.head refl)) tt tt

    two : WrittenSo steps fanned 5 (0 ∷ 4 ∷ 1 ∷ [])
    two = one_more steps fanned 5 one (entry 4 1 255) (Memᴰ.tail (Memᴰ.tail (Memᴰ.tail (Memᴰ.tail (Memᴰ.tail (Memᴰ.head refl)))))) tt tt

    three : WrittenSo steps fanned 5 (0 ∷ 4 ∷ 1 ∷ 3 ∷ [])
    three = one_more steps fanned 5 two (entry 1 3 20) (Memᴰ.tail (Memᴰ.tail (Memᴰ.head refl))) tt tt

    four : WrittenSo steps fanned 5 (0 ∷ 4 ∷ 1 ∷ 3 ∷ 2 ∷ [])
    four = one_more steps fanned 5 three (entry 0 2 9) (Memᴰ.head refl) tt tt

    five : WrittenSo steps fanned 5 fanned_order
    five = one_more steps fanned 5 four (entry 3 5 6) (Memᴰ.tail (Memᴰ.tail (Memᴰ.tail (Memᴰ.tail (Memᴰ.head refl))))) tt tt

pub fanned_bytes_lem : order_bytes steps fanned 5 fanned_order ≡ fanned_bytes
unfolding larger next step steps meets limit_from goes_on chains reach
fanned_bytes_lem = refl

-- ── wrong orders ──

-- by limit, then number; first come, first written; the receiver left out; a subject of no reach written; the owner left out
abbrev pub wrong_orders : List (List ℕ)
wrong_orders = (0 ∷ 1 ∷ 4 ∷ 3 ∷ 2 ∷ 5 ∷ []) ∷ (0 ∷ 2 ∷ 4 ∷ 3 ∷ 1 ∷ 5 ∷ []) ∷ (0 ∷ 4 ∷ 1 ∷ 3 ∷ 2 ∷ []) ∷ (0 ∷ 4 ∷ 1 ∷ 3 ∷ 2 ∷ 5 ∷ 6 ∷ []) ∷ (4 ∷ 1 ∷ 3 ∷ 2 ∷ 5 ∷ []) ∷ []

abbrev equal : List ℕ → List ℕ → Bool
equal [] [] = true
equal [] (y ∷ ys) = false
equal (x ∷ xs) [] = false
equal (x ∷ xs) (y ∷ ys) = eqb x y && equal xs ys

equal_same : (xs : List ℕ) → T (equal xs xs)
equal_same [] = tt
equal_same (x ∷ xs) = T_both (eqb x x) (equal xs xs) (eq_to_eqb {m = x} refl) (equal_same xs)

pub not_ordered_so : (ws : List ℕ) → ws ∈ wrong_orders → IsOrder steps fanned 5 ws → ⊥
not_ordered_so ws m o = T_not (any (λ xs. equal xs fanned_order) wrong_orders) tt (any_mem (λ xs. equal xs fanned_order) m (subst (λ (xs : List ℕ). T (equal xs fanned_order)) (order_one steps fanned 5 fanned_order_lem o) (equal_same fanned_order)))
