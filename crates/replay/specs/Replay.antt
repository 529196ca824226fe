-- A list of calls made one after another with every block kept, each lent a text of its own: what the buffers hold, and what is promised of them (document 01, 'Calls'; document 02, C-11, C-15 and C-16). Assumes nothing.
use Rattle.std.specs.Prelude.{◌≡◌, ◌≢◌, Bool, true, cond, not, ◌&&◌, List, [], ◌∷◌, ℕ, suc, ◌+◌, ◌*◌, ◌/◌, ◌%◌, ◌≤◌, T, leb, eqb, length, get_or, take, drop, ℤ, pos}
use Rattle.rules.specs.List.{At, tabulate}
use Rattle.rules.specs.Register.{granted}
use Rattle.rules.specs.Call.{Call, enrol, grant, revoke, downgrade, ask_reach, ask_use, set_marks, retire, fresh}
use Rattle.rules.specs.Refusal.{first_of}
use Rattle.rules.specs.Trace.{Entry, PlaceRight}
use Rattle.block.specs.Layout.{block_size}
use Rattle.block.specs.Bytes.{read_all, all_from}
use Rattle.block.specs.Block.{encode}
use Rattle.register.specs.Made.{result_of, Made}
use Rattle.slips.specs.Slip.{Effect}
use Rattle.demands.specs.History.{Asked, asks, reckons, lent_to, plain, asked_on, LeavesRight, block_at}
use Rattle.register.specs.Answer.{Answer, refused_by}

-- ── one call ──

-- the number is a call's: 0 enrol, 1 grant, 2 revoke, 3 downgrade, 4 reach, 5 use, 6 marks, 7 retire
abbrev pub is_call : ℕ → Bool
is_call n = leb n 7

-- the call that a number and its columns name; the subject whose marks are set, or who is retired, is under receiver, marks are under need
unfoldable pub call_of : (number by giver receiver weight need bar : ℕ) → Call
call_of number by giver receiver weight need bar =
    cond (eqb number 0) (enrol need)
    (cond (eqb number 1) (grant (granted giver receiver weight need bar 0))
    (cond (eqb number 2) (revoke by giver receiver)
    (cond (eqb number 3) (downgrade by giver receiver weight)
    (cond (eqb number 4) (ask_reach giver receiver)
    (cond (eqb number 6) (set_marks by receiver need)
    (cond (eqb number 7) (retire by receiver) (ask_use receiver)))))))

-- what `call` promises: the call d that the numbers name is made by the table of the text, where it takes one; a number that is no call's is refused with 7 and changes nothing
pub record CallMade (number : ℕ) (d : Call) (text before : List ℕ) (r : Answer) (after : List ℕ) : Type 0 where
  pub made : T (is_call number) → Made (lent_to d text) d before r after
  pub other : T (not (is_call number)) → (r ≡ refused_by 7) × (after ≡ before)

-- ── the buffers ──

-- how many numbers a call has in a list, and how many answers
abbrev pub numbers_per_call : ℕ
numbers_per_call = 9

abbrev pub answers_per_call : ℕ
answers_per_call = 3

-- the call whose numbers begin a list: the call's number, by, giver, receiver, weight, need, bar
abbrev pub call_in : List ℕ → Call
call_in s = call_of (get_or s 0 0) (get_or s 1 0) (get_or s 2 0) (get_or s 3 0) (get_or s 4 0) (get_or s 5 0) (get_or s 6 0)

-- the text that it is lent: after those numbers, where it begins in `texts` and how long it is
abbrev pub text_in : List ℕ → List ℕ → List ℕ
text_in texts s = take (get_or s 8 0) (drop (get_or s 7 0) texts)

abbrev pub ask_in : List ℕ → List ℕ → Asked
ask_in texts s = asks (text_in texts s) (call_in s)

-- how many calls a list of numbers has, and which
abbrev pub call_count : List ℕ → ℕ
call_count s = length s / numbers_per_call

abbrev pub asked_in : List ℕ → List ℕ → List Asked
asked_in calls texts = read_all (ask_in texts) numbers_per_call calls (call_count calls)

-- call i with its text, and its number
abbrev pub asked_at : List ℕ → List ℕ → ℕ → Asked
asked_at calls texts i = ask_in texts (drop (numbers_per_call * i) calls)

abbrev pub number_at : List ℕ → ℕ → ℕ
number_at s i = get_or s (numbers_per_call * i) 0

-- block i: 0 is the opened one, i + 1 the one that call i left
unfoldable pub slot : List ℕ → ℕ → List ℕ
slot blocks i = take block_size (drop (block_size * i) blocks)

-- what call i returned
abbrev pub returned_at : List ℕ → List ℤ → ℕ → Answer
returned_at refusals answers i =
    record { refusal = get_or refusals i 0; first = get_or answers (answers_per_call * i) (pos 0); second = get_or answers (answers_per_call * i + 1) (pos 0); third = get_or answers (answers_per_call * i + 2) (pos 0) }

-- every call with what it returned and the block that it left
abbrev pub entry_in : List ℕ → List ℕ → List ℕ → List ℕ → List ℤ → ℕ → Entry Asked Effect
entry_in calls texts blocks refusals answers i = record { asked = asked_at calls texts i; outcome = plain (result_of (returned_at refusals answers i) (slot blocks (suc i))) }

abbrev pub entries_in : List ℕ → List ℕ → List ℕ → List ℕ → List ℤ → List (Entry Asked Effect)
entries_in calls texts blocks refusals answers = tabulate (entry_in calls texts blocks refusals answers) 0 (call_count calls)

-- ── refusals ──

-- the lengths are whole calls, a block more than calls, a refusal and the answers for each call
abbrev pub is_sized : (calls blocks refusals answers : ℕ) → Bool
is_sized calls blocks refusals answers =
    let n = calls / numbers_per_call in
    eqb (calls % numbers_per_call) 0 && eqb blocks (block_size * suc n) && eqb refusals n && eqb answers (answers_per_call * n)

-- the text of the call whose numbers begin a list lies within `size` bytes; where a call takes no table, its two numbers are ignored
abbrev pub text_fits : List ℕ → ℕ → Bool
text_fits s size = cond (reckons (call_in s)) (leb (get_or s 7 0 + get_or s 8 0) size) true

-- the text of call i lies within what is lent, and that of every call
abbrev pub text_fits_at : List ℕ → List ℕ → ℕ → Bool
text_fits_at calls texts i = text_fits (drop (numbers_per_call * i) calls) (length texts)

abbrev pub all_texts : List ℕ → List ℕ → Bool
all_texts calls texts = all_from (text_fits_at calls texts) 0 (call_count calls)

-- every call number is a call's
abbrev pub all_calls : List ℕ → Bool
all_calls calls = all_from (λ i. is_call (number_at calls i)) 0 (call_count calls)

-- 1: the lengths do not fit, or some text lies outside; 7: some number is not a call's; else 0
unfoldable pub replay_refusal : List ℕ → List ℕ → List ℕ → List ℕ → List ℤ → ℕ
replay_refusal calls texts blocks refusals answers =
    first_of ((1, not (is_sized (length calls) (length blocks) (length refusals) (length answers))) ∷ (1, not (all_texts calls texts)) ∷ (7, not (all_calls calls)) ∷ [])

-- ── what `replay` promises ──

-- the buffers hold the whole list of calls: S i in slot i, and at every place what demand 3 asks
pub record Replayed (calls texts blocks refusals : List ℕ) (answers : List ℤ) : Type 0 where
  pub first : slot blocks 0 ≡ encode fresh
  pub slots : (i : ℕ) → i ≤ length (asked_in calls texts) → slot blocks i ≡ block_at (asked_in calls texts) i
  pub places : (i : ℕ) (e : Entry Asked Effect) → At (entries_in calls texts blocks refusals answers) i e → PlaceRight asked_on LeavesRight (block_at (asked_in calls texts) i) e.asked e.outcome

-- r is returned; the buffers held blocks, refusals, answers and hold blocks', refusals', answers'
pub record ReplayMade (calls texts blocks refusals : List ℕ) (answers : List ℤ) (r : ℕ) (blocks' refusals' : List ℕ) (answers' : List ℤ) : Type 0 where
  pub refusal : r ≡ replay_refusal calls texts blocks refusals answers
  pub refused : r ≢ 0 → (blocks' ≡ blocks) × (refusals' ≡ refusals) × (answers' ≡ answers)
  pub accepted : r ≡ 0 → Replayed calls texts blocks' refusals' answers'
