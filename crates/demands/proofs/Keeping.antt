-- Demand 1 follows from the definition of the calls on bytes. Assumes nothing.
use mathlib.Core.Path.{◌≡◌, refl, sym, ap, subst, ◌∙◌}
use mathlib.Core.Logic.{◌≢◌, ◌⊎◌, inl, inr}
use mathlib.Core.Bool.{Bool, true, false, cond, not}
use mathlib.Core.List.{List, [], ◌∷◌, ◌++◌}
use Prim.Native.Nat.{ℕ, zero, suc, ◌*◌, ◌≤◌, ◌<◌}
use native.Mathlib.Omega.{arith}
use borrow.Author.Tests.{eq-eqb, ne_eqb}
use lib.Dec.{T, eqb, eqb→eq, T_not}
use lib.ListN.{length, take, drop, replicate, length-append, length-drop}
use lib.Seq.{drop_at}
use lib.IntN.{pos}
use Rattle.rules.specs.Table.{TableRule}
use Rattle.rules.specs.WellFormed.{WellFormed}
use Rattle.rules.specs.Cut.{Cut, removal, lowering}
use Rattle.rules.specs.Call.{Call, fresh, cut_call}
use Rattle.rules.specs.Refusal.{first_of}
use Rattle.rules.specs.CallStep.{Outcome, call_step}
use Rattle.rules.specs.Ranges.{Unused, InRange}
use Rattle.rules.specs.Order.{order_bytes}
use Rattle.rules.proofs.Table.{steps_rule}
use Rattle.rules.proofs.Calls.{fresh_formed, call_step_formed}
use Rattle.rules.proofs.Ranges.{call_step_range}
use Rattle.rules.proofs.Lists.{T_true, not_not, not_or_left, eq_or}
use Rattle.rules.proofs.Refusals.{passes_of}
use Rattle.rules.proofs.Order.{order_some, order_few, order_length}
use Rattle.block.specs.Layout.{block_size, retired_at, retired_size}
use Rattle.block.specs.Bytes.{IsBytes}
use Rattle.block.specs.Block.{decode, encode}
use Rattle.block.specs.WellFormed.{well_formed}
use Rattle.block.specs.Older.{old_size, old_decode, brought}
use Rattle.block.proofs.Older.{brought_same}
use Rattle.block.proofs.Bytes.{bytes_take, bytes_drop, bytes_append, bytes_zeros}
use Rattle.block.proofs.Encode.{bytes_encode}
use Rattle.block.proofs.Form.{encode_formed}
use Rattle.block.proofs.Held.{size_held, held_formed}
use Rattle.steptable.specs.TableText.{ours, given}
use Rattle.steptable.specs.TableText.{Given}
use Rattle.steptable.proofs.Right.{given_keeps}
use Rattle.regfile.specs.FileText.{file_text, filed}
use Rattle.regfile.proofs.Sizes.{file_some, file_short}
use Rattle.refusals.specs.Early.{not_well_formed, early}
use Rattle.register.specs.CallOn.{Result, turned, written, call_on, open_on}
use Rattle.register.specs.Bring.{wrong_sizes, bring_refusal, bring_on}
use Rattle.refusals.specs.Checked.{InLimits}
use Rattle.slips.specs.Slip.{cut_bytes, slip, slip_size, Effect, slipped_on}
use Rattle.slips.specs.TakeBack.{take_back_on}
use Rattle.slips.proofs.Parts.{slip_long}
use Rattle.transfer.specs.FileOn.{WriteMade}
use Rattle.transfer.specs.Filled.{Filled}
use Rattle.transfer.proofs.Writing.{write_through}
use Rattle.transfer.proofs.Reading.{read_turned}
use Rattle.transfer.proofs.RoundTrip.{read_passed, read_formed, read_is_bytes}
use Rattle.order.specs.Items.{item_size, order_size}
use Rattle.order.specs.OrderOn.{OrderMade}
use Rattle.order.specs.Listed.{Listed}
use Rattle.order.proofs.OrderWays.{order_through}
use Rattle.demands.specs.Kept.{Kept, KeptOpen, KeptBring, KeptSlip, KeptBack, KeptRead, KeptFilled, most_written, KeptWrite, KeptOrder}
use Rattle.register.proofs.Through.{accepted_through, accepted_step, accepted_left}
use Rattle.demands.proofs.TakingBack.{slipped_cases, slipped_so, taken, gives_back, restored_so, refused_so, restored_formed}

module _ (g : Given) (b : List ℕ) (c : Call) where
  written_same : (o : Outcome) → o.refusal ≢ 0 → (written b o).bytes ≡ b
  written_same o n = ap (λ (x : Bool). cond x (encode o.left) b) (ne_eqb o.refusal 0 n)

  -- a refused call changes no byte
  refused_same : (call_on g b c).refusal ≢ 0 → (call_on g b c).bytes ≡ b
  unfolding call_on
  refused_same n = go (eqb (first_of (early g.refusal b c)) 0) n
    where
      go : (x : Bool) → (let r : Result = elim x [ true ↦ written b (call_step g.steps (decode b) c) | false ↦ turned (first_of (early g.refusal b c)) b ] in r.refusal ≢ 0)
          → let r : Result = elim x [ true ↦ written b (call_step g.steps (decode b) c) | false ↦ turned (first_of (early g.refusal b c)) b ] in r.bytes ≡ b
      go true k = written_same (call_step g.steps (decode b) c) k
      go false k = refl

  pub kept : TableRule g.steps → IsBytes b → Kept g b c
  kept rule bytes = record {
    refused = refused_same;
    formed = λ e. ap well_formed (accepted_left g b c e) ∙ T_true (well_formed (encode (call_step g.steps (decode b) c).left)) (encode_formed (call_step g.steps (decode b) c).left (left_formed e));
    bytes = go (eqb (call_on g b c).refusal 0) refl;
    range = λ e. let (q, z) = accepted_step g b c e in subst (λ (r : Result). InRange c r.first r.second r.third) (sym q) (call_step_range g.steps rule (decode b) c (found_formed e) z);
  }
    where
      found_formed : (call_on g b c).refusal ≡ 0 → WellFormed (decode b)
      found_formed e = held_formed b bytes (accepted_through g b c e).early.formed

      left_formed : (call_on g b c).refusal ≡ 0 → WellFormed (call_step g.steps (decode b) c).left
      left_formed e = call_step_formed g.steps (decode b) c (found_formed e)

      go : (x : Bool) → eqb (call_on g b c).refusal 0 ≡ x → IsBytes (call_on g b c).bytes
      go true q = let e = eqb→eq (call_on g b c).refusal 0 (subst T (sym q) tt) in subst IsBytes (sym (accepted_left g b c e)) (bytes_encode (call_step g.steps (decode b) c).left (left_formed e))
      go false q = subst IsBytes (sym (refused_same (λ e. absurd (T_not true (subst (λ (x : Bool). T (not x)) (sym (sym (eq-eqb (call_on g b c).refusal 0 e) ∙ q)) tt) tt)))) bytes

-- by the table of any text, and by document 01's own
pub kept_given : (text b : List ℕ) (c : Call) → IsBytes b → Kept (given text) b c
kept_given text b c bytes = kept (given text) b c (given_keeps text) bytes

pub kept_ours : (b : List ℕ) (c : Call) → IsBytes b → Kept ours b c
kept_ours b c bytes = kept ours b c steps_rule bytes

-- ── open ──
open_refused : (b : List ℕ) → (open_on b).refusal ≢ 0 → (open_on b).bytes ≡ b
unfolding open_on
open_refused b = go (eqb (length b) block_size)
  where
    go : (x : Bool) → (cond x record { refusal = 0; first = pos 0; second = pos 0; third = pos 0; bytes = encode fresh } (turned 1 b)).refusal ≢ 0
        → (cond x record { refusal = 0; first = pos 0; second = pos 0; third = pos 0; bytes = encode fresh } (turned 1 b)).bytes ≡ b
    go true n = absurd (n refl)
    go false n = refl

open_formed : (b : List ℕ) → (open_on b).refusal ≡ 0 → well_formed (open_on b).bytes ≡ true
unfolding open_on
open_formed b = go (eqb (length b) block_size)
  where
    go : (x : Bool) → (cond x record { refusal = 0; first = pos 0; second = pos 0; third = pos 0; bytes = encode fresh } (turned 1 b)).refusal ≡ 0
        → well_formed (cond x record { refusal = 0; first = pos 0; second = pos 0; third = pos 0; bytes = encode fresh } (turned 1 b)).bytes ≡ true
    go true e = T_true (well_formed (encode fresh)) (encode_formed fresh fresh_formed)
    go false e = absurd (omega arith)

-- open answers 0, refused or not
open_unused : (b : List ℕ) → Unused (open_on b).first × Unused (open_on b).second × Unused (open_on b).third
unfolding open_on
open_unused b = go (eqb (length b) block_size)
  where
    go : (x : Bool) → let r : Result = cond x record { refusal = 0; first = pos 0; second = pos 0; third = pos 0; bytes = encode fresh } (turned 1 b) in Unused r.first × Unused r.second × Unused r.third
    go true = (refl, refl, refl)
    go false = (refl, refl, refl)

pub kept_open : (b : List ℕ) → KeptOpen b
kept_open b = record { refused = open_refused b; formed = open_formed b; range = λ _. open_unused b }

-- ── a block of the layout before ──
module _ (old b : List ℕ) where
  -- what an accepted one returns and leaves
  abbrev over : Result
  over = record { refusal = 0; first = pos 0; second = pos 0; third = pos 0; bytes = brought old }

  -- refused, or brought
  bring_cases : (P : Result → Type 0) → (bring_refusal old b ≡ 0 → P over) → (bring_refusal old b ≢ 0 → P (turned (bring_refusal old b) b)) → P (bring_on old b)
  unfolding bring_on
  bring_cases P done turn = go (eqb (bring_refusal old b) 0) refl
    where
      go : (x : Bool) → eqb (bring_refusal old b) 0 ≡ x → P (cond x over (turned (bring_refusal old b) b))
      go true e = done (eqb→eq (bring_refusal old b) 0 (subst T (sym e) tt))
      go false e = turn (λ z. T_not true (subst (λ (x : Bool). T (not x)) (sym (sym (eq-eqb (bring_refusal old b) 0 z) ∙ e)) tt) tt)

  brought_bytes : IsBytes old → IsBytes (brought old)
  unfolding brought
  brought_bytes h = bytes_append (take retired_at old) (replicate retired_size 0 ++ drop retired_at old) (bytes_take retired_at old h) (bytes_append (replicate retired_size 0) (drop retired_at old) (bytes_zeros retired_size) (bytes_drop retired_at old h))

  -- none of its tests applies
  bring_through : bring_refusal old b ≡ 0 → (length old ≡ old_size) × (well_formed (brought old) ≡ true)
  bring_through z =
      let p = passes_of (wrong_sizes old b ∷ not_well_formed (brought old) ∷ []) tt z in
      (eqb→eq (length old) old_size (not_not (eqb (length old) old_size) (not_or_left (not (eqb (length old) old_size)) (not (eqb (length b) block_size)) (p 1))), T_true (well_formed (brought old)) (not_not (well_formed (brought old)) (p 8)))

  pub kept_bring : KeptBring old b
  kept_bring = record {
    refused = bring_cases (λ (r : Result). r.refusal ≢ 0 → r.bytes ≡ b) (λ z n. absurd (n refl)) (λ z n. refl);
    formed = bring_cases (λ (r : Result). r.refusal ≡ 0 → well_formed r.bytes ≡ true) (λ z e. (bring_through z).1) (λ z e. absurd (z e));
    range = bring_cases (λ (r : Result). r.refusal ≡ 0 → Unused r.first × Unused r.second × Unused r.third) (λ z e. (refl, refl, refl)) (λ z e. (refl, refl, refl));
    bytes = λ x y. bring_cases (λ (r : Result). IsBytes r.bytes) (λ z. brought_bytes x) (λ z. y);
    same = bring_cases (λ (r : Result). r.refusal ≡ 0 → decode r.bytes ≡ old_decode old) (λ z e. let (l, w) = bring_through z in brought_same old l w) (λ z e. absurd (z e));
  }

-- ── a cut with a slip, and taking it back ──

bytes_cons : (x : ℕ) (xs : List ℕ) → x < 256 → IsBytes xs → IsBytes (x ∷ xs)
bytes_cons x xs l h zero = l
bytes_cons x xs l h (suc i) = h i

-- the five bytes of a cut whose numbers are within their ranges
pub bytes_five : (y : ℕ) (k : Cut) → InLimits (cut_call y k) → IsBytes (cut_bytes y k)
bytes_five y k l = go k l
  where
    five : (n g r w : ℕ) → n < 256 → y ≤ 63 → g ≤ 63 → r ≤ 63 → w ≤ 255 → IsBytes (n ∷ y ∷ g ∷ r ∷ w ∷ [])
    five n g r w p q t u v =
        bytes_cons n (y ∷ g ∷ r ∷ w ∷ []) p
        (bytes_cons y (g ∷ r ∷ w ∷ []) (omega (arith, q)) (bytes_cons g (r ∷ w ∷ []) (omega (arith, t)) (bytes_cons r (w ∷ []) (omega (arith, u)) (bytes_cons w [] (omega (arith, v)) (λ i. omega arith)))))

    go : (k : Cut) → InLimits (cut_call y k) → IsBytes (cut_bytes y k)
    go (removal g r) h = five 2 g r 0 (omega arith) h.0 h.1.0 h.1.1.0 (omega arith)
    go (lowering g r w) h = five 3 g r w (omega arith) h.0.0 h.0.1.0 h.0.1.1.0 h.1

pub kept_slip : (g : Given) → TableRule g.steps → (s : List ℕ) (y : ℕ) (b : List ℕ) (k : Cut) → IsBytes b → KeptSlip g s y b k
kept_slip g rule s y b k bytes = record {
  refused = cases (λ e. e.result.refusal ≢ 0 → (e.result.bytes ≡ b) × (e.slip ≡ s))
      (λ l n. (m.refused n, ap (λ (x : Bool). cond x (slip b y k r.bytes) s) (ne_eqb r.refusal 0 n)))
      (λ l n. (refl, refl));
  formed = cases (λ e. e.result.refusal ≡ 0 → well_formed e.result.bytes ≡ true) (λ l. m.formed) (λ l z. absurd (omega arith));
  bytes = cases (λ e. IsBytes e.result.bytes) (λ l. m.bytes) (λ l. bytes);
  range = cases (λ e. e.result.refusal ≡ 0 → InRange (cut_call y k) e.result.first e.result.second e.result.third) (λ l. m.range) (λ l z. absurd (omega arith));
  size = cases (λ e. e.result.refusal ≡ 0 → length s ≡ slip_size) (λ l z. l) (λ l z. absurd (omega arith));
  written = λ z. let (q, w) = slipped_so g s y b k z in let e = sym (ap (λ (x : Result). x.refusal) q) ∙ z in
      (ap length w ∙ slip_long b y k r.bytes (found e) (left e), subst IsBytes (sym w) (bytes_append b (cut_bytes y k ++ r.bytes) bytes (bytes_append (cut_bytes y k) r.bytes (five e) m.bytes)));
}
  where
    r : Result
    r = call_on g b (cut_call y k)

    m : Kept g b (cut_call y k)
    m = kept g b (cut_call y k) rule bytes

    cases : (P : Effect → Type 0) → (length s ≡ slip_size → P record { result = r; slip = cond (eqb r.refusal 0) (slip b y k r.bytes) s }) → (length s ≢ slip_size → P record { result = turned 1 b; slip = s }) → P (slipped_on g s y b k)
    cases = slipped_cases g s y b k

    found : r.refusal ≡ 0 → length b ≡ block_size
    found e = (accepted_through g b (cut_call y k) e).early.size

    left : r.refusal ≡ 0 → length r.bytes ≡ block_size
    left e = size_held r.bytes m.bytes (m.formed e)

    five : r.refusal ≡ 0 → IsBytes (cut_bytes y k)
    five e = bytes_five y k (accepted_through g b (cut_call y k) e).numbers

pub kept_back : (g : Given) → TableRule g.steps → (b : List ℕ) (y : ℕ) (s : List ℕ) → IsBytes s → KeptBack g b y s
kept_back g rule b y s h = record {
  refused = refused_so g b y s;
  formed = λ e. ap well_formed (restored_so g b y s e) ∙ restored_formed g rule b y s h e;
  bytes = λ f t. go f t (eq_or (take_back_on g b y s).refusal 0);
  range = λ e. let q = gives_back g b y s (taken g b y s e) in (ap (λ (r : Result). r.first) q, ap (λ (r : Result). r.second) q, ap (λ (r : Result). r.third) q);
}
  where
    go : IsBytes b → IsBytes s → ((take_back_on g b y s).refusal ≡ 0) ⊎ ((take_back_on g b y s).refusal ≢ 0) → IsBytes (take_back_on g b y s).bytes
    go f t (inl e) = subst IsBytes (sym (restored_so g b y s e)) (bytes_take block_size s t)
    go f t (inr n) = subst IsBytes (sym (refused_so g b y s n)) f

-- ── read ──
pub kept_read : (text table b : List ℕ) → KeptRead text table b
kept_read text table b = record {
  refused = λ n. ap (λ (r : Result). r.bytes) (read_turned (given table) (filed text) b n);
  formed = read_formed text table b;
  bytes = read_is_bytes text table b;
  range = λ e. let q = (read_passed text table b e).result in (ap (λ (r : Result). r.first) q, ap (λ (r : Result). r.second) q, ap (λ (r : Result). r.third) q);
}

-- ── write and order ──

-- s is in front of the k bytes that were filled
kept_filled : (most : ℕ) (before : List ℕ) (n k : ℕ) (after : List ℕ) → (n ≢ 0 → (k ≡ 0) × (after ≡ before)) → (n ≡ 0 → (1 ≤ k) × (k ≤ most) × (k ≤ length before))
    → (n ≡ 0 → (s : List ℕ) × (length s ≡ k) × (after ≡ s ++ drop k before)) → KeptFilled most before n k after
kept_filled most before n k after refused range front = record { refused = refused; range = range; size = size (eq_or n 0); rest = rest (eq_or n 0) }
  where
    size : (n ≡ 0) ⊎ (n ≢ 0) → length after ≡ length before
    size (inl e) = let (s, l, q) = front e in ap length q ∙ length-append s (drop k before) ∙ omega (arith, l, length-drop k before, (range e).2)
    size (inr z) = ap length (refused z).1

    rest : (n ≡ 0) ⊎ (n ≢ 0) → drop k after ≡ drop k before
    rest (inl e) = let (s, l, q) = front e in ap (drop k) q ∙ drop_at s (drop k before) k l
    rest (inr z) = ap (drop k) (refused z).1

-- no more than `most` bytes, refused or not
pub filled_most : (most : ℕ) (before : List ℕ) (n k : ℕ) (after : List ℕ) → KeptFilled most before n k after → k ≤ most
filled_most most before n k after kept = go (eq_or n 0)
  where
    go : (n ≡ 0) ⊎ (n ≢ 0) → k ≤ most
    go (inl e) = (kept.range e).1
    go (inr z) = omega (arith, (kept.refused z).0)

pub kept_write : (b before : List ℕ) (o : Filled) (after : List ℕ) → IsBytes b → WriteMade b before o after → KeptWrite before o after
kept_write b before o after bytes made = kept_filled most_written before o.refusal o.length after made.refused range (λ e. (file_text (decode b), sym (made.text e).0, (made.text e).1))
  where
    range : o.refusal ≡ 0 → (1 ≤ o.length) × (o.length ≤ most_written) × (o.length ≤ length before)
    range e =
        let w = write_through b before (sym made.refusal ∙ e) in
        let n = (made.text e).0 in
        let some = file_some (decode b) in
        let most = file_short (decode b) (held_formed b bytes w.formed) in
        (omega arith, omega arith, omega (arith, w.room))

pub kept_order : (g : Given) (b : List ℕ) (v : ℕ) (before : List ℕ) (o : Listed) (after : List ℕ) → IsBytes b → OrderMade g b v before o after → KeptOrder before o after
kept_order g b v before o after bytes made = kept_filled order_size before o.refusal (item_size * o.subjects) after (λ n. (ap (λ (k : ℕ). item_size * k) (made.refused n).0, (made.refused n).1)) range front
  where
    range : o.refusal ≡ 0 → (1 ≤ item_size * o.subjects) × (item_size * o.subjects ≤ order_size) × (item_size * o.subjects ≤ length before)
    range e =
        let w = made.written e in
        let p = order_through g b v before (sym made.refusal ∙ e) in
        let some = order_some g.steps (decode b) v w.order in
        let few = (order_few g.steps (decode b) v w.order).1 (held_formed b bytes p.formed) in
        (omega (arith, w.count), omega (arith, w.count), omega (arith, w.count, p.size))

    front : o.refusal ≡ 0 → (s : List ℕ) × (length s ≡ item_size * o.subjects) × (after ≡ s ++ drop (item_size * o.subjects) before)
    front e =
        let w = made.written e in
        let n = ap (λ (k : ℕ). item_size * k) w.count in
        (order_bytes g.steps (decode b) v w.subjects, order_length g.steps (decode b) v w.subjects ∙ sym n, w.bytes ∙ ap (λ (k : ℕ). order_bytes g.steps (decode b) v w.subjects ++ drop k before) (sym n))
