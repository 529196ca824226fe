-- A step table lent as text (document 02, C-11): the line of names, then a line for each weight from 0 to 255 in order, each with its next. Assumes nothing.
use Rattle.std.specs.Prelude.{◌≡◌, ◌≢◌, Bool, true, false, ◌&&◌, List, [], ◌∷◌, ◌++◌, map, ℕ, suc, T, eqb, leb, ℤ, pos, length, get_or, drop}
use Rattle.rules.specs.Limit.{none, code, from_none}
use Rattle.rules.specs.Table.{TableRule, table_test, steps}
use Rattle.text.specs.Text.{line, most, Allowed}
use Rattle.text.specs.Bytes.{bytes_of}
use Rattle.text.specs.Rows.{rows}

-- ── the text of a table ──

unfoldable pub table_names : List ℕ
table_names = bytes_of "weight next\n"

-- the line of a weight and its next
abbrev pub entry_line : ℕ → ℤ → List ℕ
entry_line w x = line (pos w ∷ x ∷ [])

-- the lines of the entries, counted from w
abbrev pub table_lines : ℕ → List ℤ → List ℕ
table_lines w [] = []
table_lines w (x ∷ xs) = entry_line w x ++ table_lines (suc w) xs

abbrev pub table_text : List ℤ → List ℕ
table_text t = table_names ++ table_lines 0 t

-- a number that may stand as a next: only -1 has a sign
abbrev pub IsNext : ℤ → Type 0
IsNext x = Allowed true x × T (from_none x)

abbrev pub AreNexts : List ℤ → Type 0
AreNexts [] = Unit {0}
AreNexts (x ∷ xs) = IsNext x × AreNexts xs

-- the text is that of the table t
pub record Holds (text : List ℕ) (t : List ℤ) : Type 0 where
  pub size : length t ≡ 256
  pub entries : AreNexts t
  pub same : text ≡ table_text t

-- ── what is given with a text ──

-- the number with which it is refused, 0 where it passes; and the table
pub record Given : Type 0 where
  pub refusal : ℕ
  pub steps : List ℤ

-- the text is refused with n, 0 where it passes; the table is t
abbrev pub lent : ℕ → List ℤ → Given
lent n t = record { refusal = n; steps = t }

abbrev pub passing : List ℤ → Given
passing t = lent 0 t

-- document 01's own table
abbrev pub ours : Given
ours = passing steps

-- no refused call looks at the table
abbrev pub refused_text : ℕ → Given
refused_text n = lent n steps

-- the second value of each line after the first
unfoldable pub nexts_of : List ℕ → List ℤ
nexts_of text = map (λ row. get_or row 1 none) (drop 1 (rows text))

abbrev pub equal : List ℕ → List ℕ → Bool
equal [] [] = true
equal [] (b ∷ s) = false
equal (a ∷ r) [] = false
equal (a ∷ r) (b ∷ s) = eqb a b && equal r s

abbrev pub are_nexts : List ℤ → Bool
are_nexts [] = true
are_nexts (x ∷ xs) = (from_none x && leb (code x) (suc most)) && are_nexts xs

-- the test of Holds
unfoldable pub holds : List ℕ → List ℤ → Bool
holds text t = eqb (length t) 256 && (are_nexts t && equal text (table_text t))

-- by whether the text is a table's, and whether that keeps the rule
abbrev pub verdict : Bool → Bool → List ℤ → Given
verdict false rule t = refused_text 7
verdict true false t = refused_text 17
verdict true true t = passing t

unfoldable pub given : List ℕ → Given
given [] = ours
given (b ∷ s) = verdict (holds (b ∷ s) (nexts_of (b ∷ s))) (table_test (nexts_of (b ∷ s))) (nexts_of (b ∷ s))

-- what is given with every text, by the texts of tables alone: another form is refused with 7, a broken rule with 17
pub record GivenRight : Type 0 where
  pub empty : given [] ≡ ours
  pub passes : (text : List ℕ) (t : List ℤ) → Holds text t → TableRule t → given text ≡ passing t
  pub breaks : (text : List ℕ) (t : List ℤ) → Holds text t → (TableRule t → ⊥) → given text ≡ refused_text 17
  pub other : (text : List ℕ) → text ≢ [] → ((t : List ℤ) → Holds text t → ⊥) → given text ≡ refused_text 7
