-- Taking a cut back (document 02, C-17): which slips are genuine, the refusals, and what handing one in returns and leaves, for every block and slip of any length and content. Assumes nothing.
use Rattle.std.specs.Prelude.{◌≡◌, Bool, cond, not, ◌&&◌, List, [], ◌∷◌, ◌++◌, ℕ, eqb, length, pos}
use Rattle.rules.specs.Round.{equal}
use Rattle.rules.specs.Call.{cut_call}
use Rattle.rules.specs.Refusal.{first_of, back_passed, back_held}
use Rattle.block.specs.Block.{decode}
use Rattle.steptable.specs.TableText.{Given}
use Rattle.refusals.specs.Early.{early_by}
use Rattle.register.specs.CallOn.{Result, turned, call_on}
use Rattle.register.specs.Made.{result_of}
use Rattle.register.specs.Answer.{Answer}
use Rattle.slips.specs.Slip.{slip, slip_size, slip_before, slip_after, slip_by, slip_giver, slip_cut}

-- the register equals the slip's after, and the cut, accepted on the slip's before, writes this same slip
unfoldable pub genuine : Given → (block slip : List ℕ) → Bool
genuine g b s =
    let o = call_on g (slip_before s) (cut_call (slip_by s) (slip_cut s)) in
    equal (slip_after s) b && (eqb o.refusal 0 && equal (slip (slip_before s) (slip_by s) (slip_cut s) o.bytes) s)

-- 1: the slip is not 4,381 bytes
abbrev pub wrong_slip : List ℕ → ℕ × Bool
wrong_slip s = (1, not (eqb (length s) slip_size))

-- 20: the slip is not genuine
abbrev pub other_slip : Given → (block slip : List ℕ) → ℕ × Bool
other_slip g b s = (20, not (genuine g b s))

-- by y: 1, 2, 7, 17, 8, 9, 19, 14, 20; 14 by the giver on the slip
unfoldable pub take_back_refusal : Given → (block : List ℕ) → (by : ℕ) → (slip : List ℕ) → ℕ
take_back_refusal g b y s = first_of (wrong_slip s ∷ ((early_by g.refusal b (back_passed y) ++ back_held (decode b) y (slip_giver s)) ++ (other_slip g b s ∷ [])))

-- accepted: no answers, and the block before, byte for byte
abbrev pub restored : List ℕ → Result
restored b = record { refusal = 0; first = pos 0; second = pos 0; third = pos 0; bytes = b }

unfoldable pub take_back_on : Given → (block : List ℕ) → (by : ℕ) → (slip : List ℕ) → Result
take_back_on g b y s = let n = take_back_refusal g b y s in cond (eqb n 0) (restored (slip_before s)) (turned n b)

abbrev pub TakeBackMade : Given → (by : ℕ) → (slip before : List ℕ) → Answer → (after : List ℕ) → Type 0
TakeBackMade g y s before o after = result_of o after ≡ take_back_on g before y s
