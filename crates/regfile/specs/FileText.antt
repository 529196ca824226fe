-- A register as text (document 02, C-13, C-16 and C-18): a line of names and a line for each subject from 0 on, an empty line, a line of names and a line for each delegation in block order. Assumes nothing.
use Rattle.std.specs.Prelude.{◌≡◌, ◌≢◌, Bool, true, false, cond, ◌&&◌, List, [], ◌∷◌, ◌++◌, map, ℕ, suc, ◌+◌, ◌*◌, ◌%◌, eqb, leb, ℤ, pos, negsuc, length, get_or, drop}
use Rattle.rules.specs.List.{concat_map}
use Rattle.rules.specs.Bits.{bit}
use Rattle.rules.specs.Register.{Delegation, Register, granted, fields}
use Rattle.rules.specs.WellFormed.{WellFormed}
use Rattle.rules.specs.Call.{fresh}
use Rattle.rules.specs.Round.{equal}
use Rattle.block.specs.Block.{decode, encode}
use Rattle.block.specs.WellFormed.{well_formed}
use Rattle.text.specs.Text.{line, most, AllAllowed}
use Rattle.text.specs.Bytes.{bytes_of}
use Rattle.text.specs.Rows.{rows}

-- ── the text of a register ──

unfoldable pub subject_names : List ℕ
subject_names = bytes_of "subject marks retired\n"

-- an empty line stands before these
unfoldable pub delegation_names : List ℕ
delegation_names = bytes_of "\ngiver receiver weight need bar pass\n"

-- the values of each line: those of subjects with these marks, from s on, retired by the bits n, and that of a delegation
abbrev pub subject_rows : ℕ → ℕ → List ℕ → List (List ℤ)
subject_rows n s [] = []
subject_rows n s (m ∷ ms) = (pos s ∷ pos m ∷ pos (bit n s) ∷ []) ∷ subject_rows n (suc s) ms

abbrev pub delegation_row : Delegation → List ℤ
delegation_row d = map pos (fields d)

-- the columns of each
abbrev pub subject_columns : ℕ
subject_columns = 3

abbrev pub delegation_columns : ℕ
delegation_columns = 6

-- the rows of w columns of a register: its subjects', or its delegations'
abbrev pub rows_of : ℕ → Register → List (List ℤ)
rows_of w R = cond (eqb w subject_columns) (subject_rows R.retired 0 R.marks) (map delegation_row R.delegations)

-- the text of these lines
abbrev pub file_of : List (List ℤ) → List (List ℤ) → List ℕ
file_of ss ds = subject_names ++ (concat_map line ss ++ (delegation_names ++ concat_map line ds))

unfoldable pub file_text : Register → List ℕ
file_text R = file_of (rows_of subject_columns R) (rows_of delegation_columns R)

-- ── the form of a text ──

-- each line has w values, numbers without sign
abbrev pub AreRows : ℕ → List (List ℤ) → Type 0
AreRows w [] = Unit {0}
AreRows w (r ∷ rs) = (length r ≡ w) × AllAllowed false r × AreRows w rs

-- every line has its form, and nothing else is there
pub record FileLines (text : List ℕ) (ss ds : List (List ℤ)) : Type 0 where
  pub subjects : AreRows subject_columns ss
  pub delegations : AreRows delegation_columns ds
  pub same : text ≡ file_of ss ds

-- ── what is read of a text: its rows are made a block, written again and compared; `FiledRight` fixes it on every text ──

-- the text is refused with this number, 0 where it passes; the register that it holds
pub record Filed : Type 0 where
  pub refusal : ℕ
  pub register : Register

abbrev pub passing_file : Register → Filed
passing_file R = record { refusal = 0; register = R }

-- no refused call looks at the register
abbrev pub refused_file : ℕ → Filed
refused_file n = record { refusal = n; register = fresh }

-- the rows before the first that has no value, and those after it
abbrev pub rows_before : List (List ℤ) → List (List ℤ)
rows_before [] = []
rows_before ([] ∷ rs) = []
rows_before ((z ∷ zs) ∷ rs) = (z ∷ zs) ∷ rows_before rs

abbrev pub rows_after : List (List ℤ) → List (List ℤ)
rows_after [] = []
rows_after ([] ∷ rs) = rs
rows_after ((z ∷ zs) ∷ rs) = rows_after rs

-- the rows of each part, after its line of names
unfoldable pub subjects_of : List ℕ → List (List ℤ)
subjects_of text = rows_before (drop 1 (rows text))

unfoldable pub delegations_of : List ℕ → List (List ℤ)
delegations_of text = drop 1 (rows_after (drop 1 (rows text)))

-- the test of AreRows
abbrev pub plain : ℤ → Bool
plain (pos n) = leb n most
plain (negsuc n) = false

abbrev pub all_plain : List ℤ → Bool
all_plain [] = true
all_plain (z ∷ zs) = plain z && all_plain zs

abbrev pub are_rows : ℕ → List (List ℤ) → Bool
are_rows w [] = true
are_rows w (r ∷ rs) = (eqb (length r) w && all_plain r) && are_rows w rs

-- the test of FileLines
unfoldable pub is_file : List ℕ → List (List ℤ) → List (List ℤ) → Bool
is_file text ss ds = are_rows subject_columns ss && (are_rows delegation_columns ds && equal text (file_of ss ds))

-- the value of a column
abbrev pub plain_of : ℤ → ℕ
plain_of (pos n) = n
plain_of (negsuc n) = 0

abbrev pub value_at : List ℤ → ℕ → ℕ
value_at row i = plain_of (get_or row i (pos 0))

abbrev pub delegation_of : List ℤ → Delegation
delegation_of row = granted (value_at row 0) (value_at row 1) (value_at row 2) (value_at row 3) (value_at row 4) (value_at row 5)

-- the number with these bits, the lowest first
abbrev pub bits_of : List ℕ → ℕ
bits_of [] = 0
bits_of (v ∷ vs) = v + 2 * bits_of vs

-- the register of these rows
abbrev pub register_of : List (List ℤ) → List (List ℤ) → Register
register_of ss ds = record {
  subjects = length ss;
  marks = map (λ row. value_at row 1) ss;
  retired = bits_of (map (λ row. value_at row 2) ss);
  delegations = map delegation_of ds;
}

-- the block of these rows, each number cut to a byte: it holds what the text holds exactly if it is well formed and writes the same text
unfoldable pub block_of : List (List ℤ) → List (List ℤ) → List ℕ
block_of ss ds = map (λ x. x % 256) (encode (register_of ss ds))

-- by whether the lines have their form, and whether they make a well-formed block
abbrev pub judged : Bool → Bool → Register → Filed
judged false formed R = refused_file 7
judged true false R = refused_file 8
judged true true R = passing_file R

abbrev pub filed_from : List ℕ → List (List ℤ) → List (List ℤ) → Filed
filed_from text ss ds = let b = block_of ss ds in judged (is_file text ss ds) (well_formed b && equal text (file_text (decode b))) (decode b)

unfoldable pub filed : List ℕ → Filed
filed text = filed_from text (subjects_of text) (delegations_of text)

-- what is read of every text, by the texts of registers alone: another form is refused with 7, lines that make no well-formed block with 8
pub record FiledRight : Type 0 where
  pub malformed : (text : List ℕ) → ((ss ds : List (List ℤ)) → FileLines text ss ds → ⊥) → filed text ≡ refused_file 7
  pub unformed : (text : List ℕ) (ss ds : List (List ℤ)) → FileLines text ss ds → ((R : Register) → WellFormed R → text ≢ file_text R) → filed text ≡ refused_file 8
  pub formed : (R : Register) → WellFormed R → filed (file_text R) ≡ passing_file R
