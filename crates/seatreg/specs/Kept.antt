-- Demand 1 for the entry points (document 01, 'Turned back by what was passed'; document 02, C-11, C-13, C-14, C-16 and C-17): refused, no lent byte changes; accepted, the block is well formed and the twelve bytes hold answers in range. Assumes nothing.
use Rattle.std.specs.Prelude.{◌≡◌, ◌≢◌, true, List, ℕ, ◌≤◌, length, drop, ℤ, pos}
use Rattle.rules.specs.Cut.{Cut}
use Rattle.rules.specs.Call.{Call, cut_call}
use Rattle.rules.specs.Ranges.{FromTo, Unused, InRange}
use Rattle.block.specs.Bytes.{IsBytes}
use Rattle.block.specs.WellFormed.{well_formed}
use Rattle.steptable.specs.TableText.{Given}
use Rattle.register.specs.Bring.{bring_on}
use Rattle.slips.specs.Slip.{slip_size, slipped_on}
use Rattle.slips.specs.TakeBack.{take_back_on}
use Rattle.transfer.specs.RoundTrip.{reading}
use Rattle.order.specs.Items.{order_size}
use Rattle.demands.specs.Kept.{most_written}
use Rattle.seatreg.specs.Answers.{answers_size, answer_bytes, answer_in}
use Rattle.seatreg.specs.Entry.{Returned, entry_of, effect_of, entry_on, entry_open}

-- what holds of what an entry point returned, on the block b and the answers buffer a; Range is that of the call's answers
pub record BuffersKept (Range : ℤ → ℤ → ℤ → Type 0) (b a : List ℕ) (r : Returned) : Type 0 where
  pub refused : r.refusal ≢ 0 → (r.block ≡ b) × (r.answers ≡ a)
  pub formed : r.refusal ≡ 0 → well_formed r.block ≡ true
  pub size : r.refusal ≡ 0 → length r.answers ≡ answers_size
  pub answers : r.refusal ≡ 0 → r.answers ≡ answer_bytes (answer_in r.answers 0) (answer_in r.answers 1) (answer_in r.answers 2)
  pub range : r.refusal ≡ 0 → Range (answer_in r.answers 0) (answer_in r.answers 1) (answer_in r.answers 2)
  pub bytes : IsBytes r.block × IsBytes r.answers

abbrev pub EntryKept : Given → Call → List ℕ → List ℕ → Type 0
EntryKept g c b a = BuffersKept (InRange c) b a (entry_on g a b c)

-- open, bringing over, read and taking back answer 0
abbrev pub AllUnused : ℤ → ℤ → ℤ → Type 0
AllUnused x y z = Unused x × Unused y × Unused z

abbrev pub EntryKeptOpen : List ℕ → List ℕ → Type 0
EntryKeptOpen b a = BuffersKept AllUnused b a (entry_open b a)

abbrev pub EntryKeptBring : (old b a : List ℕ) → Type 0
EntryKeptBring old b a = BuffersKept AllUnused b a (entry_of (bring_on old b) b a)

abbrev pub EntryKeptRead : (text table b a : List ℕ) → Type 0
EntryKeptRead text table b a = BuffersKept AllUnused b a (entry_of (reading text table b) b a)

-- a slip s handed in by y
abbrev pub EntryKeptBack : Given → (by : ℕ) → (s b a : List ℕ) → Type 0
EntryKeptBack g y s b a = BuffersKept AllUnused b a (entry_of (take_back_on g b y s) b a)

-- a cut k by y that is lent a slip buffer, which held s
pub record EntryKeptSlip (g : Given) (y : ℕ) (k : Cut) (b s a : List ℕ) : Type 0 where
  pub buffers : BuffersKept (InRange (cut_call y k)) b a (effect_of (slipped_on g s y b k) b a s).returned
  pub refused : (effect_of (slipped_on g s y b k) b a s).returned.refusal ≢ 0 → (effect_of (slipped_on g s y b k) b a s).slip ≡ s
  -- the slip buffer had its length, and every byte of it is written
  pub written : (effect_of (slipped_on g s y b k) b a s).returned.refusal ≡ 0 → (length s ≡ slip_size) × (length (effect_of (slipped_on g s y b k) b a s).slip ≡ slip_size) × IsBytes (effect_of (slipped_on g s y b k) b a s).slip

-- a call that fills the front of a lent buffer, at most `most` bytes, changes no block: what holds of the number returned, the lent buffer and the answers buffer, which held t and a, and hold t' and a'
pub record EntryKeptFilled (most : ℕ) (t a : List ℕ) (n : ℕ) (t' a' : List ℕ) : Type 0 where
  pub refused : n ≢ 0 → (t' ≡ t) × (a' ≡ a)
  pub size : n ≡ 0 → length a' ≡ answers_size
  pub answers : n ≡ 0 → a' ≡ answer_bytes (answer_in a' 0) (answer_in a' 1) (answer_in a' 2)
  pub range : n ≡ 0 → FromTo 1 most (answer_in a' 0) × Unused (answer_in a' 1) × Unused (answer_in a' 2)
  -- as many bytes are filled as the first answer says, no more than the buffer has; those past them don't change
  pub within : length t' ≡ length t
  pub rest : n ≡ 0 → (k : ℕ) → answer_in a' 0 ≡ pos k → (k ≤ length t) × (drop k t' ≡ drop k t)

-- a write, and an order
abbrev pub EntryKeptWrite : (t a : List ℕ) → ℕ → List ℕ → List ℕ → Type 0
EntryKeptWrite t a n t' a' = EntryKeptFilled most_written t a n t' a'

abbrev pub EntryKeptOrder : (t a : List ℕ) → ℕ → List ℕ → List ℕ → Type 0
EntryKeptOrder t a n t' a' = EntryKeptFilled order_size t a n t' a'
