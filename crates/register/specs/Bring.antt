-- A block of the layout before brought over (document 02, C-16): it begins lists of calls, as open does. Assumes nothing.
use Rattle.std.specs.Prelude.{◌≡◌, Bool, cond, not, ◌||◌, List, [], ◌∷◌, ℕ, eqb, length, pos}
use Rattle.rules.specs.Refusal.{first_of}
use Rattle.block.specs.Layout.{block_size}
use Rattle.block.specs.Older.{old_size, brought}
use Rattle.refusals.specs.Early.{not_well_formed}
use Rattle.register.specs.CallOn.{Result, turned}
use Rattle.register.specs.Made.{result_of}
use Rattle.register.specs.Answer.{Answer}

-- 1: the old block is not 2,180 bytes, or the new one not 2,188
abbrev pub wrong_sizes : List ℕ → List ℕ → ℕ × Bool
wrong_sizes old b = (1, not (eqb (length old) old_size) || not (eqb (length b) block_size))

-- 8: the old block is not well formed
abbrev pub bring_refusal : List ℕ → List ℕ → ℕ
bring_refusal old b = first_of (wrong_sizes old b ∷ not_well_formed (brought old) ∷ [])

-- over any content of b
unfoldable pub bring_on : List ℕ → List ℕ → Result
bring_on old b = let n = bring_refusal old b in cond (eqb n 0) record { refusal = 0; first = pos 0; second = pos 0; third = pos 0; bytes = brought old } (turned n b)

abbrev pub BringMade : List ℕ → List ℕ → Answer → List ℕ → Type 0
BringMade old before o after = result_of o after ≡ bring_on old before
