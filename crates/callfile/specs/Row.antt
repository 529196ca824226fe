-- What the functions below `run` promise: one line of a call file, read and answered. Assumes nothing.
use Rattle.std.specs.Prelude.{◌≡◌, Bool, false, cond, List, [], ◌∷◌, ◌++◌, ℕ, ◌+◌, ◌≤◌, T, eqb, ℤ, length, drop, Option, None, IfSome}
use Rattle.std.specs.List.{list_all}
use Rattle.rules.specs.Call.{Call}
use Rattle.steptable.specs.TableText.{ours}
use Rattle.register.specs.CallOn.{call_on}
use Rattle.text.specs.Write.{Written}
use Rattle.replay.specs.Replay.{is_call, call_of}
use Rattle.callfile.specs.CallFile.{row, FileCall, enrols, grants, revokes, downgrades, asks_reach, asks_use, meant, Writable, AllWritable, call_line, call_lines, answer_line, answer_lines, ending, NoCall}
use Rattle.callfile.specs.declared.Row.{Row}

abbrev pub all_zero : List ℕ → Bool
all_zero = list_all (λ n. eqb n 0)

-- the number is a call's, and the columns that it does not use are 0
unfoldable pub is_row : (number by giver receiver weight need bar : ℕ) → Bool
is_row number by giver receiver weight need bar =
    cond (eqb number 0) (all_zero (by ∷ giver ∷ receiver ∷ weight ∷ bar ∷ []))
    (cond (eqb number 1) (eqb by 0)
    (cond (eqb number 2) (all_zero (weight ∷ need ∷ bar ∷ []))
    (cond (eqb number 3) (all_zero (need ∷ bar ∷ []))
    (cond (eqb number 4) (all_zero (by ∷ weight ∷ need ∷ bar ∷ []))
    (cond (eqb number 5) (all_zero (by ∷ giver ∷ weight ∷ need ∷ bar ∷ [])) false)))))

abbrev pub row_of : Row → List ℤ
row_of r = row r.call r.by r.giver r.receiver r.weight r.need r.bar

-- the file's call that seven numbers name
unfoldable pub file_call_of : (number by giver receiver weight need bar : ℕ) → FileCall
file_call_of number by giver receiver weight need bar =
    cond (eqb number 0) (enrols need)
    (cond (eqb number 1) (grants giver receiver weight need bar)
    (cond (eqb number 2) (revokes by giver receiver)
    (cond (eqb number 3) (downgrades by giver receiver weight)
    (cond (eqb number 4) (asks_reach giver receiver) (asks_use receiver)))))

-- the call of a row, as the file's and as the one that is made
abbrev pub call_of_row : Row → FileCall
call_of_row r = file_call_of r.call r.by r.giver r.receiver r.weight r.need r.bar

abbrev pub made_of_row : Row → Call
made_of_row r = call_of r.call r.by r.giver r.receiver r.weight r.need r.bar

-- a call is read from `at` exactly where the text goes on with its line, and next is where it goes on after that
pub record CallRead (text : List ℕ) (at : ℕ) (r : Option Row) (next : ℕ) : Type 0 where
  pub known : IfSome r (λ q. T (is_call q.call) × (meant (call_of_row q) ≡ made_of_row q))
  pub read : IfSome r (λ q. Writable (call_of_row q) × (next ≡ at + length (call_line (call_of_row q))) × (drop at text ≡ call_line (call_of_row q) ++ drop next text))
  pub none : r ≡ None → NoCall (drop at text) × (next ≡ at)

-- a call was made on the block b, and its line of answers was written at `at`; n is the place after it
pub record Answered (c : Call) (b out : List ℕ) (at n : ℕ) (b' out' : List ℕ) : Type 0 where
  pub block : b' ≡ (call_on ours b c).bytes
  pub line : Written at (answer_line (call_on ours b c)) out n out'
  pub short : n ≤ at + 48

-- lines were run on the block b, and what they print was written at `to`; n is the place after it
pub record Finished (lines : List ℕ) (b out : List ℕ) (to n : ℕ) (out' : List ℕ) : Type 0 where
  pub calls : List FileCall
  pub rest : List ℕ
  pub ranges : AllWritable calls
  pub same : lines ≡ call_lines calls ++ rest
  pub none : NoCall rest
  pub line : Written to (answer_lines b calls ++ ending (2 + length calls) rest) out n out'
  pub fits : n ≤ length out
