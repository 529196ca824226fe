-- Examples of the register file (document 02, C-13, C-16 and C-18): the text of a fresh register and of a register with three subjects, and texts beside the latter: those that differ from every file in their form
-- are refused with 7, those that hold the lines of no well-formed register with 8. Assumes nothing.
use Rattle.std.specs.Prelude.{◌≡◌, List, [], ◌∷◌, ◌++◌, ℕ, ℤ, length}
use Prim.Native.String.{String}
use Rattle.rules.specs.Register.{Delegation, Register, granted}
use Rattle.rules.specs.Call.{fresh}
use Rattle.text.specs.Bytes.{bytes_of}
use Rattle.regfile.specs.FileText.{file_text, FileLines, passing_file, refused_file, filed}

-- three subjects with marks 0, 4 and m
abbrev pub three : ℕ → List Delegation → Register
three m ds = record { subjects = 3; marks = 0 ∷ 4 ∷ m ∷ []; retired = 0; delegations = ds }

-- 0-1 needs the mark of value 4 and is pass-only
abbrev pub pairs : List Delegation
pairs = granted 0 1 9 4 0 1 ∷ granted 1 2 8 0 0 0 ∷ []

abbrev pub sample : Register
sample = three 4 pairs

-- subject 2 is retired
abbrev pub left_off : Register
left_off = record { subjects = 3; marks = 0 ∷ 4 ∷ 0 ∷ []; retired = 4; delegations = granted 0 1 9 4 0 1 ∷ [] }

-- the lines of names, with these lines after each
abbrev pub file_with : String → String → List ℕ
file_with ss ds = bytes_of "subject marks retired\n" ++ (bytes_of ss ++ (bytes_of "\ngiver receiver weight need bar pass\n" ++ bytes_of ds))

-- the text is no file's
abbrev pub NoLines : List ℕ → Type 0
NoLines text = (ss ds : List (List ℤ)) → FileLines text ss ds → ⊥

pub record Examples : Type 0 where
  pub fresh_text : file_text fresh ≡ bytes_of "subject marks retired\n0 0 0\n\ngiver receiver weight need bar pass\n"
  pub fresh_size : length (file_text fresh) ≡ 65
  pub sample_text : file_text sample ≡ bytes_of "subject marks retired\n0 0 0\n1 4 0\n2 4 0\n\ngiver receiver weight need bar pass\n0 1 9 4 0 1\n1 2 8 0 0 0\n"
  pub sample_read : filed (file_with "0 0 0\n1 4 0\n2 4 0\n" "0 1 9 4 0 1\n1 2 8 0 0 0\n") ≡ passing_file sample
  -- 08 in place of 8
  pub leading_zero : NoLines (file_with "0 0 0\n1 4 0\n2 4 0\n" "0 1 9 4 0 1\n1 2 08 0 0 0\n")
  pub leading_zero_read : filed (file_with "0 0 0\n1 4 0\n2 4 0\n" "0 1 9 4 0 1\n1 2 08 0 0 0\n") ≡ refused_file 7
  -- one more byte 10 after the end
  pub after_end : NoLines (file_with "0 0 0\n1 4 0\n2 4 0\n" "0 1 9 4 0 1\n1 2 8 0 0 0\n\n")
  pub after_end_read : filed (file_with "0 0 0\n1 4 0\n2 4 0\n" "0 1 9 4 0 1\n1 2 8 0 0 0\n\n") ≡ refused_file 7
  -- 3 in place of 2
  pub skipped : filed (file_with "0 0 0\n1 4 0\n3 4 0\n" "0 1 9 4 0 1\n1 2 8 0 0 0\n") ≡ refused_file 8
  -- marks whose last two bytes are those of 4
  pub wide : filed (file_with "0 0 0\n1 65540 0\n2 4 0\n" "0 1 9 4 0 1\n1 2 8 0 0 0\n") ≡ refused_file 8
  -- a weight whose last byte is that of 8
  pub heavy : filed (file_with "0 0 0\n1 4 0\n2 4 0\n" "0 1 9 4 0 1\n1 2 264 0 0 0\n") ≡ refused_file 8
  -- a retired subject, who has no marks and no delegation
  pub retired_text : file_text left_off ≡ bytes_of "subject marks retired\n0 0 0\n1 4 0\n2 0 1\n\ngiver receiver weight need bar pass\n0 1 9 4 0 1\n"
  pub retired_read : filed (file_with "0 0 0\n1 4 0\n2 0 1\n" "0 1 9 4 0 1\n") ≡ passing_file left_off
  -- 2 in its place; retired with marks, with a delegation; the owner retired
  pub twice : filed (file_with "0 0 0\n1 4 0\n2 0 2\n" "0 1 9 4 0 1\n") ≡ refused_file 8
  pub marked : filed (file_with "0 0 0\n1 4 0\n2 4 1\n" "0 1 9 4 0 1\n") ≡ refused_file 8
  pub standing : filed (file_with "0 0 0\n1 0 1\n2 4 0\n" "0 1 9 4 0 1\n") ≡ refused_file 8
  pub owner : filed (file_with "0 0 1\n1 4 0\n2 4 0\n" "0 1 9 4 0 1\n") ≡ refused_file 8
  -- no column for the retired
  pub no_column : (rest : List ℕ) → filed (bytes_of "subject marks\n" ++ rest) ≡ refused_file 7
  -- pass-only at weight 0; a kind above 1, one whose last byte is that of 1
  pub pass_light : filed (file_with "0 0 0\n1 4 0\n2 4 0\n" "0 1 0 4 0 1\n") ≡ passing_file (three 4 (granted 0 1 0 4 0 1 ∷ []))
  pub kind_two : filed (file_with "0 0 0\n1 4 0\n2 4 0\n" "0 1 9 4 0 2\n1 2 8 0 0 0\n") ≡ refused_file 8
  pub kind_wide : filed (file_with "0 0 0\n1 4 0\n2 4 0\n" "0 1 9 4 0 257\n1 2 8 0 0 0\n") ≡ refused_file 8
  -- no column for the kinds
  pub no_pass : (rest : List ℕ) → filed (bytes_of "subject marks retired\n0 0 0\n1 4 0\n2 4 0\n" ++ (bytes_of "\ngiver receiver weight need bar\n" ++ rest)) ≡ refused_file 7
  -- the lines of the delegations turned
  pub falling : filed (file_with "0 0 0\n1 4 0\n2 4 0\n" "1 2 8 0 0 0\n0 1 9 4 0 1\n") ≡ refused_file 8
