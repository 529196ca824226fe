-- The history theorem: demand 3 in its byte form follows from the relation that every public call promises. Assumes nothing.
use mathlib.Core.Path.{◌≡◌, refl, sym, ap, subst, ◌∙◌}
use mathlib.Core.Logic.{◌≢◌, ◌⊎◌, inl, inr}
use mathlib.Core.Bool.{Bool, true, false, cond}
use mathlib.Core.List.Memᴰ
use mathlib.Core.List.{List, [], ◌∷◌}
use Prim.Native.Nat.{ℕ, zero, suc, ◌<◌}
use native.Mathlib.Omega.{arith}
use lib.Dec.{T, eqb}
use lib.ListN.{length, take}
use lib.IntN.{ℤ, pos}
use Rattle.rules.specs.List.{◌∈◌, At}
use Rattle.rules.specs.Table.{TableRule, Below, steps}
use Rattle.rules.specs.Register.{Register}
use Rattle.rules.specs.Support.{Supported}
use Rattle.rules.specs.Cut.{Cut, removal, lowering}
use Rattle.rules.specs.WellFormed.{WellFormed}
use Rattle.rules.specs.Call.{Call, enrol, grant, revoke, downgrade, ask_reach, ask_use, set_marks, retire, fresh, cut_call}
use Rattle.rules.specs.Refusal.{first_of, held, refusal_of}
use Rattle.rules.specs.CallStep.{accepted, call_step}
use Rattle.rules.proofs.Table.{steps_rule}
use Rattle.rules.proofs.Lists.{eq_or, T_true}
use Rattle.rules.proofs.Support.{supported_under}
use Rattle.rules.proofs.Calls.{fresh_formed, call_step_under, call_step_supported}
use Rattle.rules.proofs.Trace.{stays_each, stays, stays_from, places}
use Rattle.block.specs.Layout.{block_size}
use Rattle.block.specs.Bytes.{IsBytes}
use Rattle.block.specs.Block.{decode, encode}
use Rattle.block.specs.WellFormed.{well_formed}
use Rattle.block.proofs.Bytes.{bytes_take}
use Rattle.block.proofs.Encode.{bytes_encode, decode_encode}
use Rattle.block.proofs.Form.{encode_formed}
use Rattle.block.proofs.Held.{held_formed}
use Rattle.steptable.specs.TableText.{ours, given}
use Rattle.steptable.specs.TableText.{Given}
use Rattle.steptable.proofs.Right.{given_right, given_keeps, given_number}
use Rattle.refusals.specs.Early.{text_refused}
use Rattle.register.specs.CallOn.{Result, turned, call_on, open_on}
use Rattle.register.specs.Made.{result_of, MadeOpen}
use Rattle.register.specs.Cuts.{CutsLeft}
use Rattle.register.specs.Answer.{Answer}
use Rattle.register.proofs.CutWays.{register_left, cuts_left}
use Rattle.register.proofs.Through.{accepted_through}
use Rattle.slips.specs.Slip.{slip_before, slipped_on}
use Rattle.slips.specs.TakeBack.{genuine, take_back_on}
use Rattle.slips.proofs.Parts.{slip_before_lem}
use Rattle.transfer.specs.RoundTrip.{reading}
use Rattle.transfer.proofs.RoundTrip.{read_passed, read_text, read_supported}
use Rattle.demands.specs.History.{Asked, asks, reads, slips, takes_back, reckons, lent_to, asked_on, LeavesRight, bytes_left, block_at, GivenBelow, AllBelow, SlipBears, OwnSlips, Demand3}
use Rattle.demands.specs.Kept.{Kept}
use Rattle.demands.proofs.Keeping.{kept, kept_read}
use Rattle.demands.proofs.TakingBack.{slipped_cases, slipped_so, means_genuine, taken, restored_so, refused_so, restored_formed, restores}

-- what an accepted open writes
open_written : (b : List ℕ) (o : Answer) (after : List ℕ) → MadeOpen b o after → o.refusal ≡ 0 → after ≡ encode fresh
unfolding open_on
open_written b o after q z = go (eqb (length b) block_size) q
  where
    go : (x : Bool) → result_of o after ≡ cond x record { refusal = 0; first = pos 0; second = pos 0; third = pos 0; bytes = encode fresh } (turned 1 b) → after ≡ encode fresh
    go true e = ap (λ (r : Result). r.bytes) e
    go false e = let n = sym z ∙ ap (λ (r : Result). r.refusal) e in absurd (omega arith)

-- ── one call ──

-- every table lent keeps the rule
pub lent_keeps : (c : Call) (text : List ℕ) → TableRule (lent_to c text).steps
lent_keeps c text = go (reckons c)
  where
    go : (x : Bool) → TableRule (cond x (given text) ours).steps
    go true = given_keeps text
    go false = steps_rule

-- a call that is lent no text is given ours
pub lent_ours : (c : Call) → lent_to c [] ≡ ours
lent_ours c = go (reckons c)
  where
    go : (x : Bool) → cond x (given []) ours ≡ ours
    go true = given_right.empty
    go false = refl

-- a cut is given what its own text gives; a read leaves what its own text holds
pub leaves_right : (b : List ℕ) (q : Asked) → IsBytes b → LeavesRight b q (asked_on b q)
leaves_right b (asks text (enrol m)) bytes = λ k i. absurd i
leaves_right b (asks text (grant d)) bytes = λ k i. absurd i
leaves_right b (asks text (revoke y g r)) bytes = cuts_left (given text) (given_keeps text) b bytes (revoke y g r)
leaves_right b (asks text (downgrade y g r w)) bytes = cuts_left (given text) (given_keeps text) b bytes (downgrade y g r w)
leaves_right b (asks text (ask_reach g r)) bytes = λ k i. absurd i
leaves_right b (asks text (ask_use r)) bytes = λ k i. absurd i
leaves_right b (asks text (set_marks y s m)) bytes = cuts_left (given text) (given_keeps text) b bytes (set_marks y s m)
leaves_right b (asks text (retire y s)) bytes = cuts_left (given text) (given_keeps text) b bytes (retire y s)
leaves_right b (reads text table) bytes = λ e. (read_text text table b e, read_supported text table b e)
leaves_right b (slips text y k s) bytes =
    slipped_cases (given text) s y b k (λ e. CutsLeft (given text).steps b (cut_call y k) e.result) (λ l. cuts_left (given text) (given_keeps text) b bytes (cut_call y k)) (λ n c i z. absurd (omega arith))
leaves_right b (takes_back text y s h) bytes = (restores (given text) (given_keeps text) b y s h).within

-- what holds of the block before a read, and after it where it is accepted, holds after it
read_keeps : (P : List ℕ → Type 0) (text table b : List ℕ) → P b → ((reading text table b).refusal ≡ 0 → P (reading text table b).bytes) → P (reading text table b).bytes
read_keeps P text table b p h = go (eq_or (reading text table b).refusal 0)
  where
    go : ((reading text table b).refusal ≡ 0) ⊎ ((reading text table b).refusal ≢ 0) → P (reading text table b).bytes
    go (inl e) = h e
    go (inr n) = subst P (sym ((kept_read text table b).refused n)) p

-- so for a cut with a slip: what holds of the block before it, and after it without one
pub slip_keeps : (P : List ℕ → Type 0) (text : List ℕ) (y : ℕ) (k : Cut) (s b : List ℕ) → P b → P (call_on (given text) b (cut_call y k)).bytes → P (slipped_on (given text) s y b k).result.bytes
slip_keeps P text y k s b p h = slipped_cases (given text) s y b k (λ e. P e.result.bytes) (λ l. h) (λ n. p)

-- and for taking back: what holds of the block before it, and, where it is accepted, of the slip's before
back_keeps : (P : List ℕ → Type 0) (text : List ℕ) (y : ℕ) (s b : List ℕ) → P b → ((take_back_on (given text) b y s).refusal ≡ 0 → P (slip_before s)) → P (take_back_on (given text) b y s).bytes
back_keeps P text y s b p h = go (eq_or (take_back_on (given text) b y s).refusal 0)
  where
    go : ((take_back_on (given text) b y s).refusal ≡ 0) ⊎ ((take_back_on (given text) b y s).refusal ≢ 0) → P (take_back_on (given text) b y s).bytes
    go (inl e) = subst P (sym (restored_so (given text) b y s e)) (h e)
    go (inr n) = subst P (sym (refused_so (given text) b y s n)) p

-- every call leaves bytes so
pub bytes_left_lem : (b : List ℕ) (q : Asked) → IsBytes b → IsBytes (bytes_left (asked_on b q))
bytes_left_lem b (asks text c) bytes = (kept (lent_to c text) b c (lent_keeps c text) bytes).bytes
bytes_left_lem b (reads text table) bytes = read_keeps IsBytes text table b bytes (kept_read text table b).bytes
bytes_left_lem b (slips text y k s) bytes = slip_keeps IsBytes text y k s b bytes (kept (given text) b (cut_call y k) (given_keeps text) bytes).bytes
bytes_left_lem b (takes_back text y s h) bytes = back_keeps IsBytes text y s b bytes (λ e. bytes_take block_size s h)

-- and a well-formed block
abbrev pub Sound : List ℕ → Type 0
Sound b = IsBytes b × (well_formed b ≡ true)

-- by any table that keeps the rule
call_sound : (g : Given) → TableRule g.steps → (b : List ℕ) (c : Call) → Sound b → Sound (call_on g b c).bytes
call_sound g rule b c s = (k.bytes, go (eq_or (call_on g b c).refusal 0))
  where
    k : Kept g b c
    k = kept g b c rule s.0

    go : ((call_on g b c).refusal ≡ 0) ⊎ ((call_on g b c).refusal ≢ 0) → well_formed (call_on g b c).bytes ≡ true
    go (inl e) = k.formed e
    go (inr n) = ap well_formed (k.refused n) ∙ s.1

pub sound : (b : List ℕ) (q : Asked) → Sound b → Sound (bytes_left (asked_on b q))
sound b (asks text c) f = call_sound (lent_to c text) (lent_keeps c text) b c f
sound b (reads text table) f = read_keeps Sound text table b f (λ e. ((kept_read text table b).bytes e, (kept_read text table b).formed e))
sound b (slips text y k s) f = slip_keeps Sound text y k s b f (call_sound (given text) (given_keeps text) b (cut_call y k) f)
sound b (takes_back text y s h) f = back_keeps Sound text y s b f (λ e. (bytes_take block_size s h, restored_formed (given text) (given_keeps text) b y s h e))

pub fresh_sound : Sound (encode fresh)
fresh_sound = (bytes_encode fresh fresh_formed, T_true (well_formed (encode fresh)) (encode_formed fresh fresh_formed))

-- ── support ──

-- a call that reckons no reach is the same by every table
same_step : (t m : List ℤ) (R : Register) (c : Call) → reckons c ≡ false → call_step t R c ≡ call_step m R c
unfolding call_step refusal_of held accepted
same_step t m R (enrol n) e = refl
same_step t m R (grant d) e = absurd (subst T e tt)
same_step t m R (revoke y g r) e = absurd (subst T e tt)
same_step t m R (downgrade y g r w) e = absurd (subst T e tt)
same_step t m R (ask_reach g r) e = absurd (subst T e tt)
same_step t m R (ask_use r) e = refl
same_step t m R (set_marks y s n) e = absurd (subst T e tt)
same_step t m R (retire y s) e = absurd (subst T e tt)

-- a text that no test refuses passes
passes : (text : List ℕ) → first_of (text_refused (given text).refusal) ≡ 0 → (given text).refusal ≡ 0
passes text e = go (given_number text)
  where
    go : ((given text).refusal ≡ 0) ⊎ (((given text).refusal ≡ 7) ⊎ ((given text).refusal ≡ 17)) → (given text).refusal ≡ 0
    go (inl z) = z
    go (inr (inl z)) = absurd (subst (λ (n : ℕ). first_of (text_refused n) ≡ 0 → ⊥) (sym z) (λ f. omega arith) e)
    go (inr (inr z)) = absurd (subst (λ (n : ℕ). first_of (text_refused n) ≡ 0 → ⊥) (sym z) (λ f. omega arith) e)

module _ (m : List ℤ) (rule : TableRule m) where
  -- the register that an accepted call leaves
  step_under : (text : List ℕ) (c : Call) → (T (reckons c) → (given text).refusal ≡ 0 → Below (given text).steps m) → (R : Register) → WellFormed R → Supported m R
      → first_of (text_refused (lent_to c text).refusal) ≡ 0 → Supported m (call_step (lent_to c text).steps R c).left
  step_under text c below R f s = go (reckons c) refl
    where
      go : (x : Bool) → reckons c ≡ x → let g = cond x (given text) ours in first_of (text_refused g.refusal) ≡ 0 → Supported m (call_step g.steps R c).left
      go true e z = call_step_under (given text).steps m (given_keeps text) rule (below (subst T (sym e) tt) (passes text z)) R c f s
      go false e z = subst (λ o. Supported m o.left) (same_step m steps R c e) (call_step_supported m rule R c f s)

  -- what it leaves on a block
  asks_under : (b text : List ℕ) (c : Call) → (T (reckons c) → (given text).refusal ≡ 0 → Below (given text).steps m) → IsBytes b → Supported m (decode b) → Supported m (decode (call_on (lent_to c text) b c).bytes)
  asks_under b text c below bytes s = go (eq_or (call_on g b c).refusal 0)
    where
      g : Given
      g = lent_to c text

      go : ((call_on g b c).refusal ≡ 0) ⊎ ((call_on g b c).refusal ≢ 0) → Supported m (decode (call_on g b c).bytes)
      go (inl e) =
          let h = (accepted_through g b c e).early in
          subst (λ o. Supported m o.left) (sym (register_left g b bytes c e)) (step_under text c below (decode b) (held_formed b bytes h.formed) s h.text)
      go (inr n) = subst (λ (x : List ℕ). Supported m (decode x)) (sym ((kept g b c (lent_keeps c text) bytes).refused n)) s

  -- a cut reckons reach
  cut_under : (b text : List ℕ) (y : ℕ) (k : Cut) → ((given text).refusal ≡ 0 → Below (given text).steps m) → IsBytes b → Supported m (decode b) → Supported m (decode (call_on (given text) b (cut_call y k)).bytes)
  cut_under b text y (removal g r) below = asks_under b text (revoke y g r) (λ _. below)
  cut_under b text y (lowering g r w) below = asks_under b text (downgrade y g r w) (λ _. below)

  pub call_under : (b : List ℕ) (q : Asked) → GivenBelow q m → SlipBears q m → IsBytes b → Supported m (decode b) → Supported m (decode (bytes_left (asked_on b q)))
  call_under b (asks text c) below bears bytes s = asks_under b text c below bytes s
  call_under b (reads text table) below bears bytes s = read_keeps (λ x. Supported m (decode x)) text table b s
      (λ e. supported_under (given table).steps m rule (below (read_passed text table b e).passes) (decode (reading text table b).bytes) (read_supported text table b e))
  call_under b (slips text y k t) below bears bytes s = slip_keeps (λ x. Supported m (decode x)) text y k t b s (cut_under b text y k below bytes s)
  call_under b (takes_back text y t h) below bears bytes s = back_keeps (λ x. Supported m (decode x)) text y t b s
      (λ e. let g = (taken (given text) b y t e).genuine in bears (subst (λ (x : List ℕ). T (genuine (given text) x t)) (sym g.after) (means_genuine (given text) b t g)))

-- a fresh register is supported by every table
pub fresh_supported : (m : List ℤ) → Supported m (decode (encode fresh))
fresh_supported m = subst (Supported m) (sym (decode_encode fresh fresh_formed)) (λ d k. absurd (Memᴰ.not-nil k))

-- ── down a list ──

-- the slip that a cut on a block wrote holds that block
pub written_before : (text : List ℕ) (y : ℕ) (k : Cut) (s b t : List ℕ) → let e = slipped_on (given text) s y b k in e.result.refusal ≡ 0 → t ≡ e.slip → slip_before t ≡ b
written_before text y k s b t z q =
    let (r, w) = slipped_so (given text) s y b k z in
    ap slip_before (q ∙ w) ∙ slip_before_lem b y k (call_on (given text) b (cut_call y k)).bytes (accepted_through (given text) b (cut_call y k) (sym (ap (λ (x : Result). x.refusal) r) ∙ z)).early.size

-- a place is among the first i
pub place_taken : {A : Type 0} (qs : List A) (i j : ℕ) (q : A) → j < i → At qs j q → q ∈ take i qs
place_taken [] i j q l a = absurd a
place_taken (x ∷ qs) zero j q l a = absurd (omega (arith, l))
place_taken (x ∷ qs) (suc i) zero q l a = Memᴰ.head (sym a)
place_taken (x ∷ qs) (suc i) (suc j) q l a = Memᴰ.tail (place_taken qs i j q (omega (arith, l)) a)

-- what is asked of the slips where the list itself wrote them: x is what a call was passed, and t is the slip where it hands one in
pub bears_own : (m : List ℤ) (x : Asked) → ((text : List ℕ) (y : ℕ) (t : List ℕ) (h : IsBytes t) → x ≡ takes_back text y t h → Supported m (decode (slip_before t))) → SlipBears x m
bears_own m (asks text c) own = tt
bears_own m (reads text table) own = tt
bears_own m (slips text y k s) own = tt
bears_own m (takes_back text y t h) own = λ g. own text y t h refl

own_supported : (qs : List Asked) (n : ℕ) (m : List ℤ) → TableRule m → OwnSlips qs n → AllBelow qs n m → Supported m (decode (block_at qs n))
own_supported qs n m rule own all =
    (stays_from asked_on bytes_left (λ b. IsBytes b × Supported m (decode b)) (λ q. GivenBelow q m × SlipBears q m)
    (λ b q u p. (bytes_left_lem b q p.0, call_under m rule b q u.0 u.1 p.0 p.1)) (encode fresh) qs n
    (λ j q l a before. (
      all q (place_taken qs n j q l a),
      bears_own m q (λ text y t h e.
          let w = own j l q a text y t h e in
          let b = block_at qs w.place in
          let z = subst (λ (c : Asked). ((asked_on b c).result.refusal ≡ 0) × (t ≡ (asked_on b c).slip)) w.slips (w.accepted, w.same) in
          subst (λ (x : List ℕ). Supported m (decode x)) (sym (written_before w.text w.by w.cut w.buffer b t z.0 z.1)) (before w.place (omega (arith, w.earlier))).1),
    ))
    (fresh_sound.0, fresh_supported m) n (omega arith)).1

-- THE WHOLE LIST, on bytes
pub demand3 : Demand3
demand3 = record {
  opened = open_written;
  places = places asked_on bytes_left IsBytes bytes_left_lem LeavesRight leaves_right (encode fresh) fresh_sound.0;
  formed = λ qs i. (stays asked_on bytes_left Sound sound (encode fresh) qs i fresh_sound).1;
  supported = λ qs i m rule u. (stays_each asked_on bytes_left (λ b. IsBytes b × Supported m (decode b)) (λ q. GivenBelow q m × SlipBears q m)
      (λ b q v p. (bytes_left_lem b q p.0, call_under m rule b q v.0 v.1 p.0 p.1)) (encode fresh) qs i u (fresh_sound.0, fresh_supported m)).1;
  supported_own = own_supported;
}
