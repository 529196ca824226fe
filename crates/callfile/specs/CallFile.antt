-- The call file (document 01, 'The call file'): what is printed, for every text. A line is a call exactly when it is the rendering of one. Assumes nothing.
use Rattle.std.specs.Prelude.{◌≡◌, ◌≢◌, ◌⊎◌, false, List, [], ◌∷◌, ◌++◌, map, ℕ, ◌+◌, ◌≤◌, ◌<◌, ℤ, pos, length, drop}
use Rattle.rules.specs.List.{concat_map}
use Rattle.rules.specs.Register.{granted}
use Rattle.rules.specs.Call.{Call, enrol, grant, revoke, downgrade, ask_reach, ask_use, fresh}
use Rattle.rules.specs.Trace.{trace_from}
use Rattle.block.specs.Block.{encode}
use Rattle.steptable.specs.TableText.{ours}
use Rattle.register.specs.CallOn.{Result, call_on}
use Rattle.text.specs.Text.{line, AllAllowed}
use Rattle.text.specs.Bytes.{bytes_of}
use Rattle.callfile.specs.Printed.{Printed, printed_to}

-- ── lines ──

-- the line of names of a call file, and that of what is printed
unfoldable pub call_names : List ℕ
call_names = bytes_of "call by giver receiver weight need bar\n"

unfoldable pub answer_names : List ℕ
answer_names = bytes_of "refusal first second third\n"

-- seven values in the order of the names
abbrev pub row : (call by giver receiver weight need bar : ℕ) → List ℤ
row call by giver receiver weight need bar = pos call ∷ pos by ∷ pos giver ∷ pos receiver ∷ pos weight ∷ pos need ∷ pos bar ∷ []

-- the calls that a call file can have
pub data FileCall : Type 0 where
  enrols : (marks : ℕ) → FileCall
  grants : (giver receiver weight need bar : ℕ) → FileCall
  revokes : (by giver receiver : ℕ) → FileCall
  downgrades : (by giver receiver weight : ℕ) → FileCall
  asks_reach : (giver receiver : ℕ) → FileCall
  asks_use : (receiver : ℕ) → FileCall

-- the call that is meant
abbrev pub meant : FileCall → Call
meant (enrols marks) = enrol marks
meant (grants giver receiver weight need bar) = grant (granted giver receiver weight need bar 0)
meant (revokes by giver receiver) = revoke by giver receiver
meant (downgrades by giver receiver weight) = downgrade by giver receiver weight
meant (asks_reach giver receiver) = ask_reach giver receiver
meant (asks_use receiver) = ask_use receiver

-- the values of a call: 0 in a column that it does not use
abbrev pub values : FileCall → List ℤ
values (enrols marks) = row 0 0 0 0 0 marks 0
values (grants giver receiver weight need bar) = row 1 0 giver receiver weight need bar
values (revokes by giver receiver) = row 2 by giver receiver 0 0 0
values (downgrades by giver receiver weight) = row 3 by giver receiver weight 0 0
values (asks_reach giver receiver) = row 4 0 giver receiver 0 0 0
values (asks_use receiver) = row 5 0 0 receiver 0 0 0

-- no value is above 4,294,967,295
abbrev pub Writable : FileCall → Type 0
Writable c = AllAllowed false (values c)

abbrev pub AllWritable : List FileCall → Type 0
AllWritable [] = Unit {0}
AllWritable (c ∷ cs) = Writable c × AllWritable cs

abbrev pub call_line : FileCall → List ℕ
call_line c = line (values c)

abbrev pub call_lines : List FileCall → List ℕ
call_lines [] = []
call_lines (c ∷ cs) = call_line c ++ call_lines cs

-- the refusal and the three answers of one call, and of calls made one after another, the first on b
abbrev pub answer_line : Result → List ℕ
answer_line o = line (pos o.refusal ∷ o.first ∷ o.second ∷ o.third ∷ [])

abbrev pub answer_lines : List ℕ → List FileCall → List ℕ
answer_lines b cs = concat_map answer_line (trace_from (call_on ours) (λ r. r.bytes) b (map meant cs))

-- ── the whole ──

-- line n is malformed
abbrev pub malformed : ℕ → List ℕ
malformed n = line (pos 7 ∷ pos n ∷ [])

-- what ends the run where rest is left at line n
abbrev pub ending : ℕ → List ℕ → List ℕ
ending n [] = []
ending n (b ∷ bs) = malformed n

-- a text that begins with no call's line
abbrev pub NoCall : List ℕ → Type 0
NoCall s = (c : FileCall) (rest : List ℕ) → Writable c → s ≢ call_line c ++ rest

-- the bytes that are read at most
abbrev pub most_text : ℕ
most_text = 65536

-- out is printed for a text
pub data Prints (text out : List ℕ) : Type 0 where
  -- too long, or without the line of names: malformed at line 1
  unnamed : (most_text < length text) ⊎ ((rest : List ℕ) → text ≢ call_names ++ rest) → out ≡ answer_names ++ malformed 1 → Prints text out
  -- the names, the lines of calls, and a rest that is empty or malformed; the calls are made from a fresh register on
  named : (calls : List FileCall) (rest : List ℕ) → length text ≤ most_text → AllWritable calls → text ≡ call_names ++ (call_lines calls ++ rest) → NoCall rest
      → out ≡ answer_names ++ (answer_lines (encode fresh) calls ++ ending (2 + length calls) rest) → Prints text out

-- a text prints one thing, so that what `run` promises is an equation
pub record Determined : Type 0 where
  pub one : (text out out' : List ℕ) → Prints text out → Prints text out' → out ≡ out'

-- ── what `run` promises ──

-- an output buffer of this length always suffices
abbrev pub out_size : ℕ
out_size = 262144

-- what the text prints is the front of the buffer, and the bytes past it are kept
pub record Ran (text before : List ℕ) (r : Printed) (after : List ℕ) : Type 0 where
  pub printed : List ℕ
  pub prints : Prints text printed
  pub fits : length printed ≤ length before
  pub result : r ≡ printed_to (length printed)
  pub bytes : after ≡ printed ++ drop (length printed) before

-- the buffer held before and holds after
pub record RunMade (text before : List ℕ) (r : Printed) (after : List ℕ) : Type 0 where
  -- a buffer that is too short: refused with 1, nothing is written
  pub short : length before < out_size → (r ≡ record { refusal = 1; length = 0 }) × (after ≡ before)
  pub ran : out_size ≤ length before → Ran text before r after
