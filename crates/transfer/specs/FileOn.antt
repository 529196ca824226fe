-- The register as a file, out and in, on bytes (document 02, C-13): what is returned and what is left, for every block, buffer and text of any length and content. Assumes nothing.
use Rattle.std.specs.Prelude.{◌≡◌, ◌≢◌, Bool, true, false, ◌||◌, List, [], ◌∷◌, ◌++◌, ℕ, eqb, pos, length, drop}
use Rattle.rules.specs.Register.{Register}
use Rattle.rules.specs.Refusal.{first_of, unsupported}
use Rattle.block.specs.Block.{decode, encode}
use Rattle.steptable.specs.TableText.{given}
use Rattle.steptable.specs.TableText.{Given}
use Rattle.refusals.specs.Early.{wrong_length, wrong_lengths, not_well_formed}
use Rattle.regfile.specs.FileText.{Filed, file_text, filed}
use Rattle.register.specs.CallOn.{Result, turned}
use Rattle.register.specs.Made.{result_of}
use Rattle.register.specs.Answer.{Answer}
use Rattle.transfer.specs.Filled.{Filled}

-- ── out ──

-- the least length of the lent buffer
abbrev pub text_size : ℕ
text_size = 8192

-- the first that applies of 1 and 8
unfoldable pub write_refusal : List ℕ → List ℕ → ℕ
write_refusal b buf = first_of (wrong_lengths text_size b buf ∷ not_well_formed b ∷ [])

-- what a write promises
pub record WriteMade (b before : List ℕ) (o : Filled) (after : List ℕ) : Type 0 where
  pub refusal : o.refusal ≡ write_refusal b before
  -- a refused one changes nothing
  pub refused : o.refusal ≢ 0 → (o.length ≡ 0) × (after ≡ before)
  -- an accepted one writes the text of the register; the bytes past it don't change
  pub text : o.refusal ≡ 0 → (o.length ≡ length (file_text (decode b))) × (after ≡ file_text (decode b) ++ drop o.length before)

-- what it tells and hands back where it hands back the front: the refusal n; no bytes where refused, else the text
pub record WriteFront (b before : List ℕ) (n : ℕ) (part : List ℕ) : Type 0 where
  pub refusal : n ≡ write_refusal b before
  pub refused : n ≢ 0 → part ≡ []
  pub text : n ≡ 0 → part ≡ file_text (decode b)

-- ── in ──

-- 7: the file's text or the step table's is of another form
abbrev pub malformed : Given → Filed → ℕ × Bool
malformed g f = (7, eqb g.refusal 7 || eqb f.refusal 7)

-- 17: the table breaks a rule
abbrev pub table_broken : Given → ℕ × Bool
table_broken g = (17, eqb g.refusal 17)

-- 8: the file's lines make no well-formed block
abbrev pub unformed : Filed → ℕ × Bool
unformed f = (8, eqb f.refusal 8)

-- the first that applies of 1, 7, 17, 8 and, after all others, 18 by the table given
unfoldable pub read_refusal : Given → Filed → List ℕ → ℕ
read_refusal g f b = first_of (wrong_length b ∷ malformed g f ∷ table_broken g ∷ unformed f ∷ unsupported g.steps f.register ∷ [])

-- what an accepted read returns and leaves
abbrev pub holding : Register → Result
holding R = record { refusal = 0; first = pos 0; second = pos 0; third = pos 0; bytes = encode R }

-- a read of what a text holds, over a block of any content
unfoldable pub read_on : Given → Filed → List ℕ → Result
read_on g f b = let n = read_refusal g f b in elim (eqb n 0) [ true ↦ holding f.register | false ↦ turned n b ]

-- what a read promises
abbrev pub ReadMade : List ℕ → List ℕ → List ℕ → Answer → List ℕ → Type 0
ReadMade text table before o after = result_of o after ≡ read_on (given table) (filed text) before
