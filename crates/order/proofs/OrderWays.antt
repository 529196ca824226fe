-- The ways of the order call: refused in its order; or the order for the receiver, two bytes a subject. Assumes nothing.
use mathlib.Core.Path.{◌≡◌, refl, sym, ap, subst, ◌∙◌}
use mathlib.Core.Logic.{◌≢◌, ◌⊎◌, inl, inr}
use mathlib.Core.Bool.{true}
use mathlib.Core.List.Memᴰ
use mathlib.Core.List.{List, [], ◌∷◌, ◌++◌}
use Prim.Native.Nat.{ℕ, suc, ◌+◌, ◌*◌, ◌≤◌, ◌<◌}
use native.Mathlib.Omega.{arith}
use borrow.Author.Tests.{eq-eqb, ne_eqb}
use lib.ListN.{length, get_or, set, take, drop, length-append, length-drop}
use lib.Seq.{take-suc, take_at, length-take-le}
use lib.IntN.{ℤ, pos, nat_abs}
use Rattle.rules.specs.List.{◌∈◌}
use Rattle.rules.specs.Limit.{none, ◌≼◌}
use Rattle.rules.specs.Table.{TableRule}
use Rattle.rules.specs.Register.{Register}
use Rattle.rules.specs.Reach.{reach}
use Rattle.rules.specs.Order.{order_bytes}
use Rattle.rules.specs.WellFormed.{WellFormed}
use Rattle.rules.proofs.Lists.{eq_or}
use Rattle.rules.proofs.Order.{order_few, order_length, order_small, order_limits}
use Rattle.block.specs.Layout.{most_subjects}
use Rattle.block.specs.Block.{subjects_in, decode}
use Rattle.block.specs.WellFormed.{well_formed}
use Rattle.block.proofs.Bytes.{two_stored}
use Rattle.steptable.specs.TableText.{Given}
use Rattle.refusals.specs.Early.{order_refusal}
use Rattle.refusals.proofs.EarlyTests.{receives}
use Rattle.search.specs.Found.{OrderFound}
use Rattle.order.specs.Items.{item_size, order_size, item_bytes, ItemsHeld}
use Rattle.order.specs.OrderOn.{order_refusal_on, OrderWritten, OrderMade, OrderFront}
use Rattle.order.specs.Listed.{Listed, unlisted_by}

-- ── the bytes of subjects and their limits ──
module _ (l : List ℤ) where
  pub items_length : (ws : List ℕ) → length (item_bytes l ws) ≡ item_size * length ws
  items_length [] = refl
  items_length (w ∷ ws) = omega (arith, items_length ws)

  items_snoc : (ws : List ℕ) (s : ℕ) → item_bytes l (ws ++ (s ∷ [])) ≡ item_bytes l ws ++ (s ∷ nat_abs (get_or l s none) ∷ [])
  items_snoc [] s = refl
  items_snoc (w ∷ ws) s = ap (λ (xs : List ℕ). w ∷ nat_abs (get_or l w none) ∷ xs) (items_snoc ws s)

  -- the first i of xs are written
  abbrev pub Written : List ℕ → List ℕ → ℕ → List ℕ → Type 0
  Written xs before i buf = buf ≡ item_bytes l (take i xs) ++ drop (item_size * i) before

  module _ (xs : List ℕ) (n : ℕ) (before : List ℕ) (held : ItemsHeld l xs n before) where
    pub written_length : (i : ℕ) (buf : List ℕ) → i ≤ n → Written xs before i buf → length buf ≡ length before
    written_length i buf b w =
        ap length w
        ∙ length-append (item_bytes l (take i xs)) (drop (item_size * i) before)
        ∙ omega (arith, items_length (take i xs), length-take-le i xs (omega (arith, b, held.within)), length-drop (item_size * i) before, held.room, b)

    pub written_more : (i : ℕ) (buf : List ℕ) (s z : ℕ) → i < n → s ≡ get_or xs i 0 → z ≡ nat_abs (get_or l s none) → Written xs before i buf → Written xs before (i + 1) (set (set buf (item_size * i) s) (item_size * i + 1) z)
    written_more i buf s z b es ez w =
        let here : length (item_bytes l (take i xs)) ≡ item_size * i = items_length (take i xs) ∙ omega (arith, length-take-le i xs (omega (arith, b, held.within))) in
        let next : item_bytes l (take (suc i) xs) ≡ item_bytes l (take i xs) ++ (s ∷ z ∷ []) =
        ap (item_bytes l) (take-suc xs i 0 (omega (arith, b, held.within))) ∙ items_snoc (take i xs) (get_or xs i 0) ∙ (λ j. item_bytes l (take i xs) ++ (sym es j ∷ (ap (λ (x : ℕ). nat_abs (get_or l x none)) (sym es) ∙ sym ez) j ∷ [])) in
        let two : suc (suc (item_size * i)) ≡ item_size * (i + 1) = omega arith in
        let one : suc i ≡ i + 1 = omega arith in
        ap (λ (x : List ℕ). set (set x (item_size * i) s) (item_size * i + 1) z) w
        ∙ two_stored (item_bytes l (take i xs)) before (item_size * i) s z here (omega (arith, b, held.room))
        ∙ (λ j. sym next j ++ drop (two j) before)
        ∙ ap (λ (k : ℕ). item_bytes l (take k xs) ++ drop (item_size * (i + 1)) before) one

-- ── what a search found, written ──
module _ (t : List ℤ) (rule : TableRule t) (R : Register) (formed : WellFormed R) (v : ℕ) (l : List ℤ) (xs : List ℕ) (n : ℕ) (found : OrderFound t R v l xs n) (before : List ℕ) (size : length before ≡ order_size) where
  limit_of_lem : (s : ℕ) → s ∈ take n xs → get_or l s none ≡ reach t R s v
  limit_of_lem s m = found.limits s (order_small t R v formed found.order s m)

  count : length (take n xs) ≡ n
  count = length-take-le n xs found.within

  few : n ≤ most_subjects
  few = omega (arith, count, (order_few t R v found.order).1 formed)

  pub items_held : ItemsHeld l xs n before
  items_held = record {
    few = few;
    within = found.within;
    room = omega (arith, few, size);
    places = λ s m. omega (arith, found.size, order_small t R v formed found.order s m);
    limits = λ s m. subst (λ (z : ℤ). (pos 0 ≼ z) × (z ≼ pos 255)) (sym (limit_of_lem s m)) (order_limits t R v rule found.order s m);
  }

  -- the entries are the reaches
  items_order : (ws : List ℕ) → ((s : ℕ) → s ∈ ws → s ∈ take n xs) → item_bytes l ws ≡ order_bytes t R v ws
  items_order [] h = refl
  items_order (w ∷ ws) h = λ j. w ∷ nat_abs (limit_of_lem w (h w (Memᴰ.head refl)) j) ∷ items_order ws (λ s m. h s (Memᴰ.tail m)) j

  pub order_written : (after : List ℕ) → after ≡ item_bytes l (take n xs) ++ drop (item_size * n) before → OrderWritten t R v before n after
  order_written after e = record {
    subjects = take n xs;
    order = found.order;
    count = sym count;
    bytes = e ∙ (λ j. items_order (take n xs) (λ s m. m) j ++ drop (item_size * sym count j) before);
  }

-- ── the call ──
module _ (k : Given) (b : List ℕ) (v : ℕ) (buf : List ℕ) where
  refused_by_lem : (n : ℕ) → n ≡ order_refusal_on k b v buf → n ≢ 0 → OrderMade k b v buf (unlisted_by n) buf
  refused_by_lem n e z = record { refusal = e; refused = λ _. (refl, refl); written = λ q. absurd (z q) }

  pub order_buffer : length buf ≢ order_size → OrderMade k b v buf (unlisted_by 1) buf
  unfolding order_refusal_on
  order_buffer h = refused_by_lem 1 (rw (ne_eqb (length buf) order_size h) refl) (λ z. omega (arith, z))

  module _ (size : length buf ≡ order_size) (n : ℕ) (e : n ≡ order_refusal k.refusal b v) where
    past_buffer : n ≡ order_refusal_on k b v buf
    unfolding order_refusal_on
    past_buffer = rw (eq-eqb (length buf) order_size size) e

    pub order_refused : n ≢ 0 → OrderMade k b v buf (unlisted_by n) buf
    order_refused z = refused_by_lem n past_buffer z

    pub order_made : n ≡ 0 → (m : ℕ) (after : List ℕ) → OrderWritten k.steps (decode b) v buf m after → OrderMade k b v buf record { refusal = 0; subjects = m } after
    order_made z m after w = record { refusal = sym z ∙ past_buffer; refused = λ q. absurd (q refl); written = λ _. w }

-- past all tests
pub record OrderThrough (b : List ℕ) (v : ℕ) (buf : List ℕ) : Type 0 where
  pub size : length buf ≡ order_size
  pub formed : well_formed b ≡ true
  pub receiver : v < subjects_in b

pub order_through : (k : Given) (b : List ℕ) (v : ℕ) (buf : List ℕ) → order_refusal_on k b v buf ≡ 0 → OrderThrough b v buf
unfolding order_refusal_on
order_through k b v buf z = go (eq_or (length buf) order_size)
  where
    go : (length buf ≡ order_size) ⊎ (length buf ≢ order_size) → OrderThrough b v buf
    go (inl e) = let h = receives k.refusal b v (rw (eq-eqb (length buf) order_size e) at z) in record { size = e; formed = h.formed; receiver = h.receiver }
    go (inr n) = absurd (omega (arith, rw (ne_eqb (length buf) order_size n) at z))

-- ── the front handed back ──
module _ (k : Given) (b : List ℕ) (v : ℕ) (buf : List ℕ) (o : Listed) (after : List ℕ) (made : OrderMade k b v buf o after) where
  pub front_fits : item_size * o.subjects ≤ length after
  front_fits = go (eq_or o.refusal 0)
    where
      go : (o.refusal ≡ 0) ⊎ (o.refusal ≢ 0) → item_size * o.subjects ≤ length after
      go (inl e) = let w = made.written e in omega (arith, w.count, ap length w.bytes, length-append (order_bytes k.steps (decode b) v w.subjects) (drop (item_size * length w.subjects) buf), order_length k.steps (decode b) v w.subjects)
      go (inr n) = omega (arith, (made.refused n).0)

  pub front_made : OrderFront k b v buf o.refusal (take (item_size * o.subjects) after)
  front_made = record {
    refusal = made.refusal;
    refused = λ n. ap (λ (i : ℕ). take (item_size * i) after) (made.refused n).0;
    order = λ z.
        let w = made.written z in
        (w.subjects, w.order, (λ j. take (item_size * w.count j) (w.bytes j)) ∙ take_at (order_bytes k.steps (decode b) v w.subjects) (drop (item_size * length w.subjects) buf) (item_size * length w.subjects) (order_length k.steps (decode b) v w.subjects));
  }
