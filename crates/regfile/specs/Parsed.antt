-- What is read of a register's text into a block, row by row. Assumes nothing.
use Rattle.std.specs.Prelude.{◌≡◌, ◌≢◌, Bool, true, false, cond, List, [], ◌∷◌, ◌++◌, ℕ, ◌^◌, ◌≤◌, eqb, ℤ, length, drop}
use Rattle.std.specs.Int.Bits.{bit_or}
use Rattle.rules.specs.List.{concat_map}
use Rattle.rules.specs.Register.{Delegation, Register, granted, with_delegations, with_retired}
use Rattle.rules.specs.WellFormed.{WellFormed}
use Rattle.rules.specs.Call.{enrolled}
use Rattle.block.specs.Block.{encode}
use Rattle.block.specs.Fits.{Fits}
use Rattle.text.specs.Text.{line, AllAllowed}
use Rattle.regfile.specs.FileText.{subject_columns, delegation_columns, rows_of, AreRows, value_at, delegation_of, filed}
use Rattle.regfile.specs.declared.Part.{Part}
use Rattle.regfile.specs.declared.Part.TheVariants.{Subjects, Delegations}
use Rattle.regfile.specs.declared.Rows.{Rows}
use Rattle.regfile.specs.declared.read.Record.{Record}

-- the columns of a part
abbrev pub columns : Part → ℕ
columns Subjects = subject_columns
columns Delegations = delegation_columns

-- ── the rows of w columns ──

-- the bits n, that of subject s set where v is 1
abbrev pub bit_with : ℕ → ℕ → ℕ → ℕ
bit_with n s v = cond (eqb v 1) (bit_or n (2 ^ s)) n

-- the register with one more subject, who has these marks and is retired where v is 1
abbrev pub enrolled_as : Register → ℕ → ℕ → Register
enrolled_as R m v = with_retired (enrolled R m) (bit_with R.retired R.subjects v)

-- the register with one more
abbrev pub with_row : ℕ → Register → List ℤ → Register
with_row w R row = cond (eqb w subject_columns) (enrolled_as R (value_at row 1) (value_at row 2)) (with_delegations R (R.delegations ++ (delegation_of row ∷ [])))

-- with all of these
abbrev pub with_rows : ℕ → Register → List (List ℤ) → Register
with_rows w R [] = R
with_rows w R (row ∷ rows) = with_rows w (with_row w R row) rows

-- the block is that of a register with room in it, whose rows these are
pub record RowsHeld (w : ℕ) (R : Register) (rows : List (List ℤ)) (b : List ℕ) : Type 0 where
  pub fits : Fits R
  pub bytes : b ≡ encode R
  pub same : rows_of w R ≡ rows

-- no well-formed register's rows begin with these
abbrev pub Unformed : ℕ → List (List ℤ) → Type 0
Unformed w rows = (S : Register) → WellFormed S → (more : List (List ℤ)) → rows_of w S ≢ rows ++ more

-- ── one row ──

-- the delegation that a record's numbers are
abbrev pub delegation_in : Record → Delegation
delegation_in r = granted r.giver r.receiver r.weight r.need r.bar r.kind

-- a row stored after those of R, or left out
pub record RowPut (w : ℕ) (R : Register) (row : List ℤ) (r : Bool) (after : List ℕ) : Type 0 where
  pub put : r ≡ true → RowsHeld w (with_row w R row) (rows_of w R ++ (row ∷ [])) after
  pub out : r ≡ false → Unformed w (rows_of w R ++ (row ∷ []))

-- ── the rows at the start of a text ──

-- lines of w values, as many as there are: all were stored after those of R, or not all make a well-formed block's
pub record RowsRead (text : List ℕ) (w : ℕ) (R : Register) (fits : Bool) (r : Rows) (after : List ℕ) : Type 0 where
  pub rows : List (List ℤ)
  pub formed : AreRows w rows
  pub front : text ≡ concat_map line rows ++ drop r.next text
  pub within : r.next ≤ length text
  pub last : (row : List ℤ) (rest : List ℕ) → length row ≡ w → AllAllowed false row → drop r.next text ≢ line row ++ rest
  pub held : r.fits ≡ true → (fits ≡ true) × RowsHeld w (with_rows w R rows) (rows_of w R ++ rows) after
  pub out : fits ≡ true → r.fits ≡ false → Unformed w (rows_of w R ++ rows)

-- ── the whole text ──

-- the refusal, and the block of the register that the text holds
pub record Parsed (text : List ℕ) (r : ℕ) (after : List ℕ) : Type 0 where
  pub refusal : r ≡ (filed text).refusal
  pub bytes : r ≡ 0 → after ≡ encode (filed text).register
