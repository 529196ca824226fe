-- Taking a cut back over the entry points (document 02, C-17). Assumes nothing.
use Rattle.std.specs.Prelude.{◌≡◌, List, ℕ, length, pos}
use Rattle.rules.specs.Cut.{Cut}
use Rattle.steptable.specs.TableText.{Given}
use Rattle.seatreg.specs.Answers.{answers_size, answer_bytes}
use Rattle.seatreg.specs.Entry.{EntrySlipMade, EntryTakeBackMade}

-- of a cut k by y on the block b: where it was accepted and left the block b' and the slip s', this slip handed in by y, under the same table and with twelve bytes c for the answers, is accepted and gives b back
abbrev pub EntryTakenBack : Given → (b : List ℕ) → ℕ → Cut → Type 0
EntryTakenBack g b y k = (s a b' s' a' : List ℕ) → EntrySlipMade g y k b s a 0 b' s' a'
    → (c : List ℕ) → length c ≡ answers_size → (n : ℕ) (b'' c' : List ℕ) → EntryTakeBackMade g y s' b' c n b'' c' → (n ≡ 0) × (b'' ≡ b) × (c' ≡ answer_bytes (pos 0) (pos 0) (pos 0))
