-- Turns of a list of calls: what is stored, one turn, and all of them. Assumes nothing.
use mathlib.Core.Path.{◌≡◌, refl, sym, ap, subst, ◌∙◌}
use mathlib.Core.Bool.{Bool, true, false, not}
use mathlib.Core.List.{List, [], ◌∷◌, ◌++◌, map}
use Prim.Native.Nat.{ℕ, zero, suc, ◌+◌, ◌*◌, ◌≤◌, ◌<◌}
use native.Mathlib.Nat.{add-zero, le_of_suc-le-suc, not-suc-le-zero}
use native.Mathlib.Omega.{arith}
use borrow.Author.Count.{below_more}
use borrow.Author.Tests.{eq-eqb}
use lib.ListN.{length, get_or, take, drop, set, length-set, length-drop}
use lib.Seq.{length-take-le, get_or-set_same, get_or-set_other}
use lib.IntN.{ℤ, pos}
use Rattle.rules.specs.List.{At, tabulate}
use Rattle.rules.specs.Call.{fresh}
use Rattle.rules.specs.Refusal.{first_of}
use Rattle.rules.specs.Trace.{Entry, History, state_from, PlaceRight}
use Rattle.block.specs.Layout.{block_size}
use Rattle.block.specs.Block.{encode}
use Rattle.block.proofs.Bytes.{length_tabulate}
use Rattle.register.specs.CallOn.{Result, open_on}
use Rattle.register.specs.Made.{result_of, MadeOpen}
use Rattle.slips.specs.Slip.{Effect}
use Rattle.demands.specs.History.{Asked, plain, asked_on, LeavesRight, bytes_left, block_at}
use Rattle.std.specs.Prelude as std
use Rattle.rules.specs.declared.refusal.Refusal.{Refusal}
use Rattle.register.proofs.Errors.{open_passes}
use Rattle.register.specs.declared.Answers.{Answers}
use Rattle.register.specs.Answer.{Answer, answer_of}
use Rattle.demands.proofs.History.{demand3}
use Rattle.replay.specs.Replay.{answers_per_call, call_count, asked_in, asked_at, slot, returned_at, entry_in, entries_in, is_sized, all_texts, all_calls, replay_refusal, Replayed, ReplayMade}
use Rattle.replay.specs.Turn.{SlotCopied, Stored, MadeAt, TurnMade}
use Rattle.replay.proofs.Slots.{slot_kept, slot_new, slot_part}

-- ── what is stored ──
module _ (refusals : List ℕ) (answers : List ℤ) (i : ℕ) (o : Answer) (room : i < length refusals) (space : answers_per_call * i + answers_per_call ≤ length answers) where
  pub stored_all : Stored refusals answers i o (set refusals i o.refusal) (set (set (set answers (answers_per_call * i) o.first) (answers_per_call * i + 1) o.second) (answers_per_call * i + 2) o.third)
  stored_all =
      let a : List ℤ = set answers (answers_per_call * i) o.first in
      let b : List ℤ = set a (answers_per_call * i + 1) o.second in
      let s : List ℤ = set b (answers_per_call * i + 2) o.third in
      let la : length a ≡ length answers = length-set answers (answers_per_call * i) o.first in
      let lb : length b ≡ length a = length-set a (answers_per_call * i + 1) o.second in
      let x : get_or (set refusals i o.refusal) i 0 ≡ o.refusal = get_or-set_same refusals i o.refusal 0 room in
      let f : get_or s (answers_per_call * i) (pos 0) ≡ o.first =
      get_or-set_other b (answers_per_call * i + 2) (answers_per_call * i) o.third (pos 0) (λ e. omega arith)
      ∙ get_or-set_other a (answers_per_call * i + 1) (answers_per_call * i) o.second (pos 0) (λ e. omega arith)
      ∙ get_or-set_same answers (answers_per_call * i) o.first (pos 0) (omega arith) in
      let g : get_or s (answers_per_call * i + 1) (pos 0) ≡ o.second =
      get_or-set_other b (answers_per_call * i + 2) (answers_per_call * i + 1) o.third (pos 0) (λ e. omega arith) ∙ get_or-set_same a (answers_per_call * i + 1) o.second (pos 0) (omega arith) in
      let h : get_or s (answers_per_call * i + 2) (pos 0) ≡ o.third = get_or-set_same b (answers_per_call * i + 2) o.third (pos 0) (omega arith) in
      record {
        here = λ p. record { refusal = x p; first = f p; second = g p; third = h p };
        kept = λ j l.
            let x = get_or-set_other refusals i j o.refusal 0 (λ e. omega arith) in
            let f = other (answers_per_call * j) (omega arith) in
            let g = other (answers_per_call * j + 1) (omega arith) in
            let h = other (answers_per_call * j + 2) (omega arith) in
            λ p. record { refusal = x p; first = f p; second = g p; third = h p };
      }
    where
      other : (k : ℕ) → k < answers_per_call * i → get_or (set (set (set answers (answers_per_call * i) o.first) (answers_per_call * i + 1) o.second) (answers_per_call * i + 2) o.third) k (pos 0) ≡ get_or answers k (pos 0)
      other k l =
          get_or-set_other (set (set answers (answers_per_call * i) o.first) (answers_per_call * i + 1) o.second) (answers_per_call * i + 2) k o.third (pos 0) (λ e. omega arith)
          ∙ get_or-set_other (set answers (answers_per_call * i) o.first) (answers_per_call * i + 1) k o.second (pos 0) (λ e. omega arith)
          ∙ get_or-set_other answers (answers_per_call * i) k o.first (pos 0) (λ e. omega arith)

-- ── one turn ──
module _ (calls texts blocks refusals : List ℕ) (answers : List ℤ) (i : ℕ) where
  -- b is the list of blocks after the copy; ys is what the call left in its slot, which begins at m
  pub turned : (b : List ℕ) → SlotCopied blocks i b → (m k : ℕ) → m ≡ block_size * suc i → k ≡ block_size → m + block_size ≤ length b → (o : Answer) (ys R : List ℕ) → length ys ≡ length (take k (drop m b))
      → plain (result_of o ys) ≡ asked_on (take k (drop m b)) (asked_at calls texts i) → (refusals' : List ℕ) (answers' : List ℤ) → Stored refusals answers i o refusals' answers'
      → TurnMade calls texts blocks refusals answers i (take m b ++ (ys ++ R)) refusals' answers'
  turned b copied m k e f space o ys R w made refusals' answers' stored =
      let room : m ≤ length b = omega arith in
      let size : length ys ≡ block_size = w ∙ length-take-le k (drop m b) (simp length-drop (omega arith)) ∙ f in
      let kept : (j : ℕ) → j ≤ i → slot (take m b ++ (ys ++ R)) j ≡ slot blocks j = λ j h. slot_kept b m room (ys ++ R) j (omega arith) ∙ copied.kept j h in
      let new : slot (take m b ++ (ys ++ R)) (suc i) ≡ ys = slot_new b m room ys R (suc i) e size in
      let before : take k (drop m b) ≡ slot (take m b ++ (ys ++ R)) i = slot_part b (suc i) m k e f ∙ copied.copy ∙ sym (kept i (omega arith)) in
      let here = stored.here in
      record {
        made = (λ p. plain (result_of (here p) (new p))) ∙ made ∙ ap (λ (z : List ℕ). asked_on z (asked_at calls texts i)) before;
        slots = kept;
        kept = stored.kept;
      }

-- ── all turns ──

-- open, on the first slot: ys is what it left there
pub opened : (blocks ys R : List ℕ) (o : Answer) → block_size ≤ length blocks → length ys ≡ length (take block_size blocks) → MadeOpen (take block_size blocks) o ys → slot (ys ++ R) 0 ≡ encode fresh
unfolding open_on
opened blocks ys R o room w m =
    let size : length (take block_size blocks) ≡ block_size = length-take-le block_size blocks room in
    slot_new blocks 0 (omega arith) ys R 0 (omega arith) (w ∙ size) ∙ ap (λ (r : Result). r.bytes) m ∙ rw (eq-eqb (length (take block_size blocks)) block_size size)

-- it is never refused
pub opens : (blocks ys : List ℕ) (o : std.Result Answers Refusal) → block_size ≤ length blocks → MadeOpen (take block_size blocks) (answer_of o) ys → {f : Refusal} → o ≡ std.Err f → ⊥
opens blocks ys o room m w = open_passes (take block_size blocks) ys o (length-take-le block_size blocks room) m w

-- the first k calls were made
pub record Through (calls texts blocks refusals : List ℕ) (answers : List ℤ) (k : ℕ) : Type 0 where
  pub first : slot blocks 0 ≡ encode fresh
  pub made : (j : ℕ) → j < k → MadeAt calls texts blocks refusals answers j

pub through_none : (calls texts blocks refusals : List ℕ) (answers : List ℤ) → slot blocks 0 ≡ encode fresh → Through calls texts blocks refusals answers 0
through_none calls texts blocks refusals answers e = record { first = e; made = λ j h. absurd (not-suc-le-zero h) }

pub through_on : (calls texts blocks refusals : List ℕ) (answers : List ℤ) (k : ℕ) → Through calls texts blocks refusals answers k
    → (blocks' refusals' : List ℕ) (answers' : List ℤ) → TurnMade calls texts blocks refusals answers k blocks' refusals' answers' → Through calls texts blocks' refusals' answers' (k + 1)
through_on calls texts blocks refusals answers k h blocks' refusals' answers' t = record {
  first = t.slots 0 (omega arith) ∙ h.first;
  made = below_more (MadeAt calls texts blocks' refusals' answers') k kept t.made;
}
  where
    kept : (j : ℕ) → j < k → MadeAt calls texts blocks' refusals' answers' j
    kept j n =
        let a = t.kept j n in
        let b = t.slots j (omega arith) in
        let d = t.slots (suc j) n in
        (λ p. plain (result_of (a p) (d p))) ∙ h.made j n ∙ ap (λ (z : List ℕ). asked_on z (asked_at calls texts j)) (sym b)

map_tabulate : {A B : Type 0} (g : A → B) (f : ℕ → A) (i n : ℕ) → map g (tabulate f i n) ≡ tabulate (λ k. g (f k)) i n
map_tabulate g f i zero = refl
map_tabulate g f i (suc n) = λ p. g (f i) ∷ map_tabulate g f (suc i) n p

module _ (calls texts blocks refusals : List ℕ) (answers : List ℤ) where
  -- the calls of n places from i on were made
  abbrev MadeFrom : ℕ → ℕ → Type 0
  MadeFrom i n = (j : ℕ) → i ≤ j → j < i + n → MadeAt calls texts blocks refusals answers j

  history_from : (i n : ℕ) (b : List ℕ) → slot blocks i ≡ b → MadeFrom i n → History asked_on bytes_left b (tabulate (entry_in calls texts blocks refusals answers) i n)
  history_from i zero b e h = tt
  history_from i (suc n) b e h = (
    subst (λ (z : List ℕ). plain (result_of (returned_at refusals answers i) (slot blocks (suc i))) ≡ asked_on z (asked_at calls texts i)) e (h i (omega arith) (omega arith)),
    history_from (suc i) n (slot blocks (suc i)) refl (λ j l m. h j (omega arith) (omega arith)),
  )

  slots_from : (i n k : ℕ) (b : List ℕ) → slot blocks i ≡ b → MadeFrom i n → k ≤ n → slot blocks (i + k) ≡ state_from asked_on bytes_left b (tabulate (asked_at calls texts) i n) k
  slots_from i n zero b e h l = ap (slot blocks) (add-zero i) ∙ e
  slots_from i zero (suc k) b e h l = absurd (not-suc-le-zero l)
  slots_from i (suc n) (suc k) b e h l =
      let q : Asked = asked_at calls texts i in
      let after : slot blocks (suc i) ≡ bytes_left (asked_on b q) = ap bytes_left (h i (omega arith) (omega arith)) ∙ ap (λ (z : List ℕ). bytes_left (asked_on z q)) e in
      let z : i + suc k ≡ suc i + k = omega arith in
      ap (slot blocks) z ∙ slots_from (suc i) n k (bytes_left (asked_on b q)) after (λ j x y. h j (omega arith) (omega arith)) (le_of_suc-le-suc l)

  pub replayed : (n : ℕ) → n ≡ call_count calls → Through calls texts blocks refusals answers n → Replayed calls texts blocks refusals answers
  replayed n e h = record { first = h.first; slots = λ i l. slots i l; places = λ i x a. places i x a }
    where
      made : MadeFrom 0 (call_count calls)
      made j l m = h.made j (omega arith)

      size : length (asked_in calls texts) ≡ call_count calls
      size = length_tabulate (asked_at calls texts) 0 (call_count calls)

      slots : (i : ℕ) → i ≤ length (asked_in calls texts) → slot blocks i ≡ block_at (asked_in calls texts) i
      slots i l =
          let q : i ≡ 0 + i = omega arith in
          ap (slot blocks) q ∙ slots_from 0 (call_count calls) i (encode fresh) h.first made (subst (λ (k : ℕ). i ≤ k) size l)

      places : (i : ℕ) (x : Entry Asked Effect) → At (entries_in calls texts blocks refusals answers) i x → PlaceRight asked_on LeavesRight (block_at (asked_in calls texts) i) x.asked x.outcome
      places i x a =
          subst (λ (qs : List Asked). PlaceRight asked_on LeavesRight (block_at qs i) x.asked x.outcome) (map_tabulate (λ (y : Entry Asked Effect). y.asked) (entry_in calls texts blocks refusals answers) 0 (call_count calls))
          (demand3.places (entries_in calls texts blocks refusals answers) (history_from 0 (call_count calls) (encode fresh) h.first made) i x a)

-- ── what is returned ──
module _ (calls texts blocks refusals : List ℕ) (answers : List ℤ) where
  abbrev sized : Bool
  sized = is_sized (length calls) (length blocks) (length refusals) (length answers)

  refusal_of_lem : (x y z : Bool) → sized ≡ x → all_texts calls texts ≡ y → all_calls calls ≡ z → replay_refusal calls texts blocks refusals answers ≡ first_of ((1, not x) ∷ (1, not y) ∷ (7, not z) ∷ [])
  unfolding replay_refusal
  refusal_of_lem x y z e f g = λ p. first_of ((1, not (e p)) ∷ (1, not (f p)) ∷ (7, not (g p)) ∷ [])

  pub made_length : sized ≡ false → ReplayMade calls texts blocks refusals answers 1 blocks refusals answers
  made_length e = record { refusal = sym (refusal_of_lem false (all_texts calls texts) (all_calls calls) e refl refl); refused = λ n. (refl, refl, refl); accepted = λ z. absurd (omega arith) }

  pub made_outside : sized ≡ true → all_texts calls texts ≡ false → ReplayMade calls texts blocks refusals answers 1 blocks refusals answers
  made_outside e f = record { refusal = sym (refusal_of_lem true false (all_calls calls) e f refl); refused = λ n. (refl, refl, refl); accepted = λ z. absurd (omega arith) }

  pub made_number : sized ≡ true → all_texts calls texts ≡ true → all_calls calls ≡ false → ReplayMade calls texts blocks refusals answers 7 blocks refusals answers
  made_number e f g = record { refusal = sym (refusal_of_lem true true false e f g); refused = λ n. (refl, refl, refl); accepted = λ z. absurd (omega arith) }

  pub made_all : sized ≡ true → all_texts calls texts ≡ true → all_calls calls ≡ true → (blocks' refusals' : List ℕ) (answers' : List ℤ) → Replayed calls texts blocks' refusals' answers'
      → ReplayMade calls texts blocks refusals answers 0 blocks' refusals' answers'
  made_all e f g blocks' refusals' answers' h = record { refusal = sym (refusal_of_lem true true true e f g); refused = λ n. absurd (n refl); accepted = λ z. h }
