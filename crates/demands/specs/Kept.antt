-- Demand 1, as what holds of every call on every list of bytes (document 01, 'Turned back by what was passed'; document 02, C-11, C-13, C-14, C-16 and C-17): a refused call changes no byte, an accepted one leaves a
-- well-formed block and answers in range. Assumes nothing.
use Rattle.std.specs.Prelude.{◌≡◌, ◌≢◌, true, List, ℕ, ◌*◌, ◌≤◌, length, drop}
use Rattle.rules.specs.Cut.{Cut}
use Rattle.rules.specs.Call.{Call, cut_call}
use Rattle.rules.specs.Ranges.{Unused, InRange}
use Rattle.block.specs.Bytes.{IsBytes}
use Rattle.block.specs.Block.{decode}
use Rattle.block.specs.WellFormed.{well_formed}
use Rattle.block.specs.Older.{old_decode}
use Rattle.steptable.specs.TableText.{Given}
use Rattle.register.specs.CallOn.{call_on, open_on}
use Rattle.register.specs.Bring.{bring_on}
use Rattle.slips.specs.Slip.{slip_size, slipped_on}
use Rattle.slips.specs.TakeBack.{take_back_on}
use Rattle.transfer.specs.RoundTrip.{reading}
use Rattle.transfer.specs.Filled.{Filled}
use Rattle.order.specs.Items.{item_size, order_size}
use Rattle.order.specs.Listed.{Listed}

pub record Kept (g : Given) (b : List ℕ) (c : Call) : Type 0 where
  pub refused : (call_on g b c).refusal ≢ 0 → (call_on g b c).bytes ≡ b
  pub formed : (call_on g b c).refusal ≡ 0 → well_formed (call_on g b c).bytes ≡ true
  pub bytes : IsBytes (call_on g b c).bytes
  pub range : (call_on g b c).refusal ≡ 0 → InRange c (call_on g b c).first (call_on g b c).second (call_on g b c).third

-- open, on any bytes
pub record KeptOpen (b : List ℕ) : Type 0 where
  pub refused : (open_on b).refusal ≢ 0 → (open_on b).bytes ≡ b
  pub formed : (open_on b).refusal ≡ 0 → well_formed (open_on b).bytes ≡ true
  pub range : (open_on b).refusal ≡ 0 → Unused (open_on b).first × Unused (open_on b).second × Unused (open_on b).third

-- bringing a block of the layout before over, into any bytes
pub record KeptBring (old b : List ℕ) : Type 0 where
  pub refused : (bring_on old b).refusal ≢ 0 → (bring_on old b).bytes ≡ b
  pub formed : (bring_on old b).refusal ≡ 0 → well_formed (bring_on old b).bytes ≡ true
  pub range : (bring_on old b).refusal ≡ 0 → Unused (bring_on old b).first × Unused (bring_on old b).second × Unused (bring_on old b).third
  pub bytes : IsBytes old → IsBytes b → IsBytes (bring_on old b).bytes
  -- the register is the old block's, and nobody is retired
  pub same : (bring_on old b).refusal ≡ 0 → decode (bring_on old b).bytes ≡ old_decode old

-- a cut k by y on the block b with a slip buffer that held s
pub record KeptSlip (g : Given) (s : List ℕ) (y : ℕ) (b : List ℕ) (k : Cut) : Type 0 where
  pub refused : (slipped_on g s y b k).result.refusal ≢ 0 → ((slipped_on g s y b k).result.bytes ≡ b) × ((slipped_on g s y b k).slip ≡ s)
  pub formed : (slipped_on g s y b k).result.refusal ≡ 0 → well_formed (slipped_on g s y b k).result.bytes ≡ true
  pub bytes : IsBytes (slipped_on g s y b k).result.bytes
  pub range : (slipped_on g s y b k).result.refusal ≡ 0 → InRange (cut_call y k) (slipped_on g s y b k).result.first (slipped_on g s y b k).result.second (slipped_on g s y b k).result.third
  -- the slip buffer has its length, and every byte of it is written
  pub size : (slipped_on g s y b k).result.refusal ≡ 0 → length s ≡ slip_size
  pub written : (slipped_on g s y b k).result.refusal ≡ 0 → (length (slipped_on g s y b k).slip ≡ slip_size) × IsBytes (slipped_on g s y b k).slip

-- a slip s handed in by y on the block b
pub record KeptBack (g : Given) (b : List ℕ) (y : ℕ) (s : List ℕ) : Type 0 where
  pub refused : (take_back_on g b y s).refusal ≢ 0 → (take_back_on g b y s).bytes ≡ b
  pub formed : (take_back_on g b y s).refusal ≡ 0 → well_formed (take_back_on g b y s).bytes ≡ true
  pub bytes : IsBytes b → IsBytes s → IsBytes (take_back_on g b y s).bytes
  pub range : (take_back_on g b y s).refusal ≡ 0 → Unused (take_back_on g b y s).first × Unused (take_back_on g b y s).second × Unused (take_back_on g b y s).third

-- a read of a register's text with a step table's, over any bytes
pub record KeptRead (text table b : List ℕ) : Type 0 where
  pub refused : (reading text table b).refusal ≢ 0 → (reading text table b).bytes ≡ b
  pub formed : (reading text table b).refusal ≡ 0 → well_formed (reading text table b).bytes ≡ true
  pub bytes : (reading text table b).refusal ≡ 0 → IsBytes (reading text table b).bytes
  pub range : (reading text table b).refusal ≡ 0 → Unused (reading text table b).first × Unused (reading text table b).second × Unused (reading text table b).third

-- a call that fills the front of a lent buffer, at most `most` bytes, and changes no block: what holds of the buffer where n was returned and k bytes were filled
pub record KeptFilled (most : ℕ) (before : List ℕ) (n k : ℕ) (after : List ℕ) : Type 0 where
  pub refused : n ≢ 0 → (k ≡ 0) × (after ≡ before)
  pub range : n ≡ 0 → (1 ≤ k) × (k ≤ most) × (k ≤ length before)
  pub size : length after ≡ length before
  -- the bytes past those that are filled
  pub rest : drop k after ≡ drop k before

-- the bytes of the longest text of a register
abbrev pub most_written : ℕ
most_written = 6893

-- a write of a register's text
abbrev pub KeptWrite : List ℕ → Filled → List ℕ → Type 0
KeptWrite before o after = KeptFilled most_written before o.refusal o.length after

-- an order, two bytes a subject
abbrev pub KeptOrder : List ℕ → Listed → List ℕ → Type 0
KeptOrder before o after = KeptFilled order_size before o.refusal (item_size * o.subjects) after
