-- An example of document 02's C-17 on P2's register: 1 downgrades 1-3 to 1 and takes it back; and a slip that nobody wrote. Assumes nothing.
use Rattle.std.specs.Prelude.{◌≡◌, ◌⊎◌, List, [], ◌∷◌, ℕ, ◌≤◌, length, pos}
use Rattle.rules.specs.Table.{steps}
use Rattle.rules.specs.Register.{Register, with_delegations}
use Rattle.rules.specs.Support.{Supported}
use Rattle.rules.specs.Cut.{Cut, removal, lowering}
use Rattle.rules.specs.Call.{cut_call}
use Rattle.rules.specs.CallStep.{call_step}
use Rattle.rules.specs.History.{register_at}
use Rattle.rules.specs.Examples.{P2, entry}
use Rattle.block.specs.Block.{encode}
use Rattle.steptable.specs.TableText.{ours}
use Rattle.register.specs.CallOn.{turned}
use Rattle.slips.specs.Slip.{cut_bytes, slip, slip_size, slipped_on}
use Rattle.slips.specs.TakeBack.{restored, take_back_on}

-- P2's register, the cut, and the register that it leaves
abbrev pub found : Register
found = register_at steps P2.given 9

abbrev pub wrong_line : Cut
wrong_line = lowering 1 3 1

abbrev pub left : Register
left = (call_step steps found (cut_call 1 wrong_line)).left

-- these two blocks, with another by or another cut on the slip
abbrev pub slip_with : ℕ → Cut → List ℕ
slip_with y k = slip (encode found) y k (encode left)

pub record SlipShown : Type 0 where
  -- 3-4 falls to 1: nothing dropped, one lowered, two rounds
  pub made : (s : List ℕ) → length s ≡ slip_size → slipped_on ours s 1 (encode found) wrong_line ≡ record { result = record { refusal = 0; first = pos 0; second = pos 1; third = pos 2; bytes = encode left }; slip = slip_with 1 wrong_line }
  pub standing : left.delegations ≡ entry 0 1 5 ∷ entry 0 2 3 ∷ entry 1 3 1 ∷ entry 2 3 2 ∷ entry 3 4 1 ∷ []
  pub bytes : cut_bytes 1 wrong_line ≡ 3 ∷ 1 ∷ 1 ∷ 3 ∷ 1 ∷ []
  -- by the owner or by 1
  pub back : (z : ℕ) → (z ≡ 0) ⊎ (z ≡ 1) → take_back_on ours (encode left) z (slip_with 1 wrong_line) ≡ restored (encode found)
  pub others : (z : ℕ) → 2 ≤ z → z ≤ 4 → take_back_on ours (encode left) z (slip_with 1 wrong_line) ≡ turned 14 (encode left)
  pub again : (z : ℕ) → (z ≡ 0) ⊎ (z ≡ 1) → take_back_on ours (encode found) z (slip_with 1 wrong_line) ≡ turned 20 (encode found)
  -- with the owner as by the slip is as good, with 2 it is not
  pub owner's : (z : ℕ) → (z ≡ 0) ⊎ (z ≡ 1) → take_back_on ours (encode left) z (slip_with 0 wrong_line) ≡ restored (encode found)
  pub by_two : (z : ℕ) → (z ≡ 0) ⊎ (z ≡ 1) → take_back_on ours (encode left) z (slip_with 2 wrong_line) ≡ turned 20 (encode left)
  -- with 4 as giver: 14 to 1, 20 to the owner and to 4
  pub giver_four : take_back_on ours (encode left) 1 (slip_with 1 (lowering 4 3 1)) ≡ turned 14 (encode left)
  pub four : (z : ℕ) → (z ≡ 0) ⊎ (z ≡ 4) → take_back_on ours (encode left) z (slip_with 1 (lowering 4 3 1)) ≡ turned 20 (encode left)

-- ── a slip that nobody wrote ──

-- three subjects, and no delegation
abbrev pub nothing : Register
nothing = record { subjects = 3; marks = 0 ∷ 0 ∷ 0 ∷ []; retired = 0; delegations = [] }

-- the same with 1-2 at 5, which no chain carries: 1 was given nothing
abbrev pub lone : Register
lone = with_delegations nothing (entry 1 2 5 ∷ [])

-- made up by 1, who names himself as the giver: it is consistent, and accepted, and what it restores is not supported
pub record ForgedShown : Type 0 where
  pub accepted : take_back_on ours (encode nothing) 1 (slip (encode lone) 1 (removal 1 2) (encode nothing)) ≡ restored (encode lone)
  pub unsupported : Supported steps lone → ⊥
