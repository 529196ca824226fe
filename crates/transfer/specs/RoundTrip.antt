-- Out and in (document 02, C-13): a written register that is supported reads to the same block, and an accepted text is exactly what its block would write. Assumes nothing.
use Rattle.std.specs.Prelude.{◌≡◌, true, List, ℕ, length}
use Rattle.rules.specs.Register.{Register}
use Rattle.rules.specs.Support.{Supported}
use Rattle.rules.specs.WellFormed.{WellFormed}
use Rattle.block.specs.Layout.{block_size}
use Rattle.block.specs.Bytes.{IsBytes}
use Rattle.block.specs.Block.{decode}
use Rattle.block.specs.WellFormed.{well_formed}
use Rattle.steptable.specs.TableText.{given}
use Rattle.regfile.specs.FileText.{file_text, filed}
use Rattle.register.specs.CallOn.{Result}
use Rattle.transfer.specs.FileOn.{read_on}

-- a read of a text, with a step table's text, over a block
abbrev pub reading : List ℕ → List ℕ → List ℕ → Result
reading text table before = read_on (given table) (filed text) before

-- the block has its length, the table's text passes, and the text is that of a well-formed register that is supported by the table
pub record Readable (text table before : List ℕ) : Type 0 where
  pub long : length before ≡ block_size
  pub passes : (given table).refusal ≡ 0
  pub register : Register
  pub formed : WellFormed register
  pub same : text ≡ file_text register
  pub supported : Supported (given table).steps register

pub record RoundTrip : Type 0 where
  -- out and in
  pub back : (b table before : List ℕ) → IsBytes b → well_formed b ≡ true → length before ≡ block_size → (given table).refusal ≡ 0 → Supported (given table).steps (decode b)
      → ((reading (file_text (decode b)) table before).refusal ≡ 0) × ((reading (file_text (decode b)) table before).bytes ≡ b)
  -- in and out
  pub same : (text table before : List ℕ) → (reading text table before).refusal ≡ 0 → let b = (reading text table before).bytes in
      (well_formed b ≡ true) × (file_text (decode b) ≡ text) × Supported (given table).steps (decode b)
  -- a written register that is not supported is refused with 18
  pub unsupported : (b table before : List ℕ) → IsBytes b → well_formed b ≡ true → length before ≡ block_size → (given table).refusal ≡ 0 → (Supported (given table).steps (decode b) → ⊥)
      → (reading (file_text (decode b)) table before).refusal ≡ 18
  -- accepted exactly when
  pub accepted : (text table before : List ℕ) → (reading text table before).refusal ≡ 0 → Readable text table before
  pub readable : (text table before : List ℕ) → Readable text table before → (reading text table before).refusal ≡ 0
