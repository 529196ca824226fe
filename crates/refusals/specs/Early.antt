-- The refusals of a call on any list of bytes (document 01, 'Turned back by what was passed' and 'by what the register holds'; document 02, C-11, C-13, C-14 and C-17). Assumes nothing.
use Rattle.std.specs.Prelude.{Bool, not, ◌||◌, List, [], ◌∷◌, ◌++◌, ℕ, eqb, ltb, length}
use Rattle.rules.specs.Call.{Call}
use Rattle.rules.specs.Refusal.{first_of, passed, held, order_passed, order_held, back_passed, back_held}
use Rattle.block.specs.Layout.{block_size}
use Rattle.block.specs.Block.{decode}
use Rattle.block.specs.WellFormed.{well_formed}
use Rattle.steptable.specs.TableText.{Given}

-- 1: the block is not 2,188 bytes
abbrev pub wrong_length : List ℕ → ℕ × Bool
wrong_length b = (1, not (eqb (length b) block_size))

-- 1: so, or a lent buffer is under n bytes
abbrev pub wrong_lengths : ℕ → List ℕ → List ℕ → ℕ × Bool
wrong_lengths n b buf = (1, not (eqb (length b) block_size) || ltb (length buf) n)

-- 8: the block is not well formed
abbrev pub not_well_formed : List ℕ → ℕ × Bool
not_well_formed b = (8, not (well_formed b))

-- 7: the step table's text is of another form; 17: the table breaks a rule. n is the number with which the text is refused, 0 where it passes
abbrev pub text_refused : ℕ → List (ℕ × Bool)
text_refused n = (7, eqb n 7) ∷ (17, eqb n 17) ∷ []

-- what comes before the refusals by what the register holds: 1, those by what was passed, ps, 7 and 17 by the table's text, 8
abbrev pub early_by : ℕ → List ℕ → List (ℕ × Bool) → List (ℕ × Bool)
early_by n b ps = wrong_length b ∷ (ps ++ (text_refused n ++ (not_well_formed b ∷ [])))

abbrev pub early : ℕ → List ℕ → Call → List (ℕ × Bool)
early n b c = early_by n b (passed c)

-- the whole refusal of a call on a block: the first that applies of these and of those by what the register holds
unfoldable pub refusal_on : Given → List ℕ → Call → ℕ
refusal_on g b c = first_of (early g.refusal b c ++ held g.steps (decode b) c)

-- the refusal of the order call for the receiver v on a block, where the table's text is refused with n
unfoldable pub order_refusal : ℕ → List ℕ → ℕ → ℕ
order_refusal n b v = first_of (early_by n b (order_passed v) ++ order_held (decode b) v)

-- of taking a cut back by y, where g is the giver on the slip: but for 1 by the slip's length and for 20
unfoldable pub back_refusal : ℕ → List ℕ → (by giver : ℕ) → ℕ
back_refusal n b y g = first_of (early_by n b (back_passed y) ++ back_held (decode b) y g)
