-- The order call on bytes (document 02, C-14): its refusal, and what it writes into the lent buffer, for every block, buffer and table's text of any length and content. Assumes nothing.
use Rattle.std.specs.Prelude.{◌≡◌, ◌≢◌, cond, List, [], ◌++◌, ℕ, ◌*◌, eqb, length, drop, ℤ}
use Rattle.rules.specs.Register.{Register}
use Rattle.rules.specs.Order.{IsOrder, order_bytes}
use Rattle.block.specs.Block.{decode}
use Rattle.steptable.specs.TableText.{Given}
use Rattle.refusals.specs.Early.{order_refusal}
use Rattle.order.specs.Items.{item_size, order_size}
use Rattle.order.specs.Listed.{Listed}

-- 1 where the buffer is not 128 bytes; else the first that applies of 1 for the block, what was passed, 7 and 17 by the step table's text, 8, what the register holds
unfoldable pub order_refusal_on : Given → List ℕ → ℕ → List ℕ → ℕ
order_refusal_on k b v buf = cond (eqb (length buf) order_size) (order_refusal k.refusal b v) 1

-- the order for v was written, n subjects, two bytes each; the bytes past them don't change
pub record OrderWritten (t : List ℤ) (R : Register) (v : ℕ) (before : List ℕ) (n : ℕ) (after : List ℕ) : Type 0 where
  pub subjects : List ℕ
  pub order : IsOrder t R v subjects
  pub count : n ≡ length subjects
  pub bytes : after ≡ order_bytes t R v subjects ++ drop (item_size * length subjects) before

-- what the order call promises: of the register that the block holds, by the table given
pub record OrderMade (k : Given) (b : List ℕ) (v : ℕ) (before : List ℕ) (o : Listed) (after : List ℕ) : Type 0 where
  pub refusal : o.refusal ≡ order_refusal_on k b v before
  -- a refused call changes nothing
  pub refused : o.refusal ≢ 0 → (o.subjects ≡ 0) × (after ≡ before)
  pub written : o.refusal ≡ 0 → OrderWritten k.steps (decode b) v before o.subjects after

-- s are the bytes of the order for v
abbrev pub IsOrderBytes : Given → List ℕ → ℕ → List ℕ → Type 0
IsOrderBytes k b v s = (ws : List ℕ) × IsOrder k.steps (decode b) v ws × (s ≡ order_bytes k.steps (decode b) v ws)

-- what it tells and hands back where it hands back the front: the refusal n; no bytes where refused, else those of the order
pub record OrderFront (k : Given) (b : List ℕ) (v : ℕ) (before : List ℕ) (n : ℕ) (part : List ℕ) : Type 0 where
  pub refusal : n ≡ order_refusal_on k b v before
  pub refused : n ≢ 0 → part ≡ []
  pub order : n ≡ 0 → IsOrderBytes k b v part
