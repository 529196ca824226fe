-- The slip of a cut (document 02, C-17): what it holds, and what a cut that writes one comes to, for every block and slip buffer of any length and content. Assumes nothing.
use Rattle.std.specs.Prelude.{Bool, cond, ◌&&◌, ◌||◌, List, [], ◌∷◌, ◌++◌, ℕ, ◌+◌, eqb, length, get_or, take, drop}
use Rattle.rules.specs.Cut.{Cut, removal, lowering}
use Rattle.rules.specs.Call.{cut_call}
use Rattle.rules.specs.Trace.{PlaceRight}
use Rattle.block.specs.Layout.{block_size}
use Rattle.steptable.specs.TableText.{Given}
use Rattle.register.specs.CallOn.{Result, turned, call_on}
use Rattle.register.specs.Made.{result_of}
use Rattle.register.specs.Cuts.{CutsLeft}
use Rattle.register.specs.Answer.{Answer}

-- ── what it holds ──

-- a cut by y as five bytes: 2 revoke or 3 downgrade, by, giver, receiver, new weight, 0 for revoke
abbrev pub cut_bytes : ℕ → Cut → List ℕ
cut_bytes y (removal g r) = 2 ∷ y ∷ g ∷ r ∷ 0 ∷ []
cut_bytes y (lowering g r w) = 3 ∷ y ∷ g ∷ r ∷ w ∷ []

-- the slip of the cut k by y that found the block b and left the block b'
abbrev pub slip : List ℕ → ℕ → Cut → List ℕ → List ℕ
slip b y k b' = b ++ (cut_bytes y k ++ b')

-- where the block after begins, and the length: 4,381
abbrev pub after_at : ℕ
after_at = block_size + 5

abbrev pub slip_size : ℕ
slip_size = after_at + block_size

-- ── read back, of any bytes ──

abbrev pub slip_before : List ℕ → List ℕ
slip_before s = take block_size s

abbrev pub slip_after : List ℕ → List ℕ
slip_after s = drop after_at s

-- one of the five bytes
abbrev pub slip_byte : List ℕ → ℕ → ℕ
slip_byte s i = get_or s (block_size + i) 0

-- the cut that a number and its columns name; a number other than 2 is taken for a downgrade
abbrev pub cut_of : (number giver receiver weight : ℕ) → Cut
cut_of n g r w = cond (eqb n 2) (removal g r) (lowering g r w)

abbrev pub slip_by : List ℕ → ℕ
slip_by s = slip_byte s 1

abbrev pub slip_giver : List ℕ → ℕ
slip_giver s = slip_byte s 2

abbrev pub slip_cut : List ℕ → Cut
slip_cut s = cut_of (slip_byte s 0) (slip_giver s) (slip_byte s 3) (slip_byte s 4)

-- ── a cut that writes one ──

-- what a call came to: its result, and the slip buffer afterwards, empty where none was lent
pub record Effect : Type 0 where
  pub result : Result
  pub slip : List ℕ

-- 1 where the slip buffer has another length, else what the cut k by y returns and leaves; its slip where it is accepted
unfoldable pub slipped_on : Given → (buffer : List ℕ) → (by : ℕ) → List ℕ → Cut → Effect
slipped_on g s y b k =
    let r = cond (eqb (length s) slip_size) (call_on g b (cut_call y k)) (turned 1 b) in
    record { result = r; slip = cond (eqb r.refusal 0) (slip b y k r.bytes) s }

-- what such a cut promises: that, and, where it is accepted, the best remainder, with nothing lifted, as without a slip. The buffers held b and s, and hold b' and s'
abbrev pub SlipMade : Given → (by : ℕ) → Cut → (b s : List ℕ) → Answer → (b' s' : List ℕ) → Type 0
SlipMade g y k b s o b' s' = PlaceRight (slipped_on g s y) (λ c d e. CutsLeft g.steps c (cut_call y d) e.result) b k record { result = result_of o b'; slip = s' }

-- the five bytes of the cut that they name are these: a number that is a cut's, and no weight for a revocation
abbrev pub is_cut : (number weight : ℕ) → Bool
is_cut n w = eqb n 2 && eqb w 0 || eqb n 3
