-- What the functions below `replay` promise, for one call. Assumes nothing.
use Rattle.std.specs.Prelude.{◌≡◌, Bool, List, ℕ, suc, ◌*◌, ◌-◌, ◌≤◌, ◌<◌, T, leb, length, take, drop, ℤ}
use Rattle.block.specs.Layout.{block_size}
use Rattle.register.specs.Made.{result_of}
use Rattle.register.specs.Answer.{Answer}
use Rattle.demands.specs.History.{reckons, lent_to, plain, asked_on}
use Rattle.replay.specs.Replay.{is_call, call_of, answers_per_call, call_in, text_in, call_count, asked_at, number_at, slot, returned_at, text_fits, text_fits_at}
use Rattle.replay.specs.declared.Place.{Place}

-- r tells whether the call of a number reckons reach, whatever its columns
abbrev pub Reckoning : ℕ → Bool → Type 0
Reckoning number r = (by giver receiver weight need bar : ℕ) → r ≡ reckons (call_of number by giver receiver weight need bar)

-- where the text of the call whose numbers begin the list s lies, the empty text for a call that takes no table
pub record TextPlaced (s : List ℕ) (p : Place) : Type 0 where
  pub ordered : p.begin ≤ p.end
  pub fits : (size : ℕ) → leb p.end size ≡ text_fits s size
  pub same : (texts : List ℕ) → lent_to (call_in s) (take (p.end - p.begin) (drop p.begin texts)) ≡ lent_to (call_in s) (text_in texts s)

-- slot i was copied to the slot after it
pub record SlotCopied (before : List ℕ) (i : ℕ) (after : List ℕ) : Type 0 where
  pub copy : slot after (suc i) ≡ slot before i
  pub kept : (j : ℕ) → j ≤ i → slot after j ≡ slot before j

-- what call i returned was stored
pub record Stored (refusals : List ℕ) (answers : List ℤ) (i : ℕ) (o : Answer) (refusals' : List ℕ) (answers' : List ℤ) : Type 0 where
  pub here : returned_at refusals' answers' i ≡ o
  pub kept : (j : ℕ) → j < i → returned_at refusals' answers' j ≡ returned_at refusals answers j

-- the lengths of the buffers b, r and a for a list of calls
pub record Sized (calls b r : List ℕ) (a : List ℤ) : Type 0 where
  pub blocks : length b ≡ block_size * suc (call_count calls)
  pub refusals : length r ≡ call_count calls
  pub answers : length a ≡ answers_per_call * call_count calls

-- call i can be made: its number is a call's, its text lies within what is lent, and the buffers have their lengths
pub record Ready (calls texts : List ℕ) (i : ℕ) (b r : List ℕ) (a : List ℤ) : Type 0 where
  pub place : i < call_count calls
  pub number : T (is_call (number_at calls i))
  pub text : T (text_fits_at calls texts i)
  pub sizes : Sized calls b r a

-- call i, made on slot i, returned what is stored for it and left the slot after it
abbrev pub MadeAt : List ℕ → List ℕ → List ℕ → List ℕ → List ℤ → ℕ → Type 0
MadeAt calls texts blocks refusals answers i = plain (result_of (returned_at refusals answers i) (slot blocks (suc i))) ≡ asked_on (slot blocks i) (asked_at calls texts i)

-- call i was made; the slots and answers before it were kept
pub record TurnMade (calls texts blocks refusals : List ℕ) (answers : List ℤ) (i : ℕ) (blocks' refusals' : List ℕ) (answers' : List ℤ) : Type 0 where
  pub made : MadeAt calls texts blocks' refusals' answers' i
  pub slots : (j : ℕ) → j ≤ i → slot blocks' j ≡ slot blocks j
  pub kept : (j : ℕ) → j < i → returned_at refusals' answers' j ≡ returned_at refusals answers j
