-- Taking a cut back (document 02, C-17): what was cut directly before is restored; which slips exactly; what any slip can do, whoever wrote it; and that it does so once. On any bytes and by any step table.
-- Assumes nothing.
use Rattle.std.specs.Prelude.{◌≡◌, ◌⊎◌, true, not, List, ℕ, ◌≤◌, ◌<◌, T, pos, length}
use Rattle.rules.specs.Register.{is_retired}
use Rattle.rules.specs.Support.{Supported}
use Rattle.rules.specs.Cut.{Cut, giver_of}
use Rattle.rules.specs.Remainder.{Within}
use Rattle.rules.specs.Call.{cut_call}
use Rattle.rules.specs.Refusal.{first_of}
use Rattle.block.specs.Layout.{block_size}
use Rattle.block.specs.Block.{decode}
use Rattle.block.specs.WellFormed.{well_formed}
use Rattle.steptable.specs.TableText.{Given}
use Rattle.refusals.specs.Early.{text_refused}
use Rattle.register.specs.CallOn.{turned, call_on}
use Rattle.register.specs.Answer.{Answer, answered_by}
use Rattle.slips.specs.Slip.{slip, slip_size, slip_before, slip_giver, SlipMade}
use Rattle.slips.specs.TakeBack.{restored, take_back_on, TakeBackMade}

-- of a cut k by y that is accepted on the block b, by the table given: its slip, handed in directly under the same table, gives b back, byte for byte
pub record TakenBack (g : Given) (b : List ℕ) (y : ℕ) (k : Cut) : Type 0 where
  -- by the same caller, and by the owner or the giver, whichever made the cut
  pub same : let b' = (call_on g b (cut_call y k)).bytes in take_back_on g b' y (slip b y k b') ≡ restored b
  pub either : (z : ℕ) → (z ≡ 0) ⊎ (z ≡ giver_of k) → let b' = (call_on g b (cut_call y k)).bytes in take_back_on g b' z (slip b y k b') ≡ restored b
  -- so of what the functions did: the cut left the block b' and the slip s', which was handed in
  pub made : (s : List ℕ) (o : Answer) (b' s' : List ℕ) → SlipMade g y k b s o b' s' → o.refusal ≡ 0
      → (p : Answer) (b'' : List ℕ) → TakeBackMade g y s' b' p b'' → (p ≡ answered_by (pos 0) (pos 0) (pos 0)) × (b'' ≡ b)

-- what a slip s and the caller z must have on the block b: some cut, accepted on the slip's before, left b and wrote this same slip
pub record Returnable (g : Given) (b : List ℕ) (z : ℕ) (s : List ℕ) : Type 0 where
  pub size : length b ≡ block_size
  pub long : length s ≡ slip_size
  pub subject : z ≤ 63
  pub text : first_of (text_refused g.refusal) ≡ 0
  pub formed : well_formed b ≡ true
  pub enrolled : z < (decode b).subjects
  pub stays : T (not (is_retired (decode b) z))
  pub may : (z ≡ 0) ⊎ (z ≡ slip_giver s)
  pub by : ℕ
  pub cut : Cut
  pub accepted : (call_on g (slip_before s) (cut_call by cut)).refusal ≡ 0
  pub left : (call_on g (slip_before s) (cut_call by cut)).bytes ≡ b
  pub same : s ≡ slip (slip_before s) by cut b

-- taking back is accepted exactly then
pub record TakeBackExactly (g : Given) (b : List ℕ) (z : ℕ) (s : List ℕ) : Type 0 where
  pub only : (take_back_on g b z s).refusal ≡ 0 → Returnable g b z s
  pub whenever : Returnable g b z s → (take_back_on g b z s).refusal ≡ 0

-- what an accepted one does, whoever wrote the slip
pub record Restores (g : Given) (b : List ℕ) (z : ℕ) (s : List ℕ) : Type 0 where
  -- subjects, marks and who is retired stay; every delegation stays, with its conditions, at least as heavy
  pub within : (take_back_on g b z s).refusal ≡ 0 → Within (decode b) (decode (take_back_on g b z s).bytes)
  -- the register that it is handed in on is supported by the table given, as what every cut leaves is: on another register every slip is refused
  pub supported : (take_back_on g b z s).refusal ≡ 0 → Supported g.steps (decode b)
  -- handed in once more, by the same caller and under the same table, the slip gets 20
  pub once : (take_back_on g b z s).refusal ≡ 0 → let b' = (take_back_on g b z s).bytes in take_back_on g b' z s ≡ turned 20 b'
