-- The examples of call files hold. Assumes nothing.
use mathlib.Core.Path.{◌≡◌, refl, sym, ap, ◌∙◌}
use mathlib.Core.Logic.{inr}
use mathlib.Core.Bool.{Bool, true, false, ◌&&◌}
use mathlib.Core.List.{List, [], ◌∷◌, ◌++◌, append_assoc, map}
use Prim.Native.Nat.{ℕ, ◌≤◌}
use native.Mathlib.Omega.{arith}
use lib.Dec.{T, leb, leb→le, lit≤}
use lib.IntN.{ℤ, pos, negsuc}
use lib.ListN.{length, length-append}
use Rattle.rules.specs.Call.{fresh}
use Rattle.rules.specs.Trace.{trace_from}
use Rattle.rules.specs.Examples.{Line, Shown, P1}
use Rattle.rules.proofs.Lists.{T_left, T_right}
use Rattle.block.specs.Block.{encode}
use Rattle.steptable.specs.TableText.{ours}
use Rattle.steptable.specs.TableText.{Given}
use Rattle.register.specs.CallOn.{call_on}
use Rattle.demands.specs.History.{asks, asked_on, bytes_left}
use Rattle.demands.specs.Examples.{line_on}
use Rattle.demands.proofs.History.{lent_ours}
use Rattle.demands.proofs.ByteExamples.{examples_on_bytes}
use Rattle.text.specs.Text.{digits, line, most, AllAllowed}
use Rattle.text.proofs.Injective.{line_inj}
use Rattle.callfile.specs.CallFile.{call_names, answer_names, row, FileCall, enrols, grants, revokes, asks_use, meant, values, Writable, AllWritable, call_line, answer_line, answer_lines, malformed, ending, NoCall, most_text, Prints, unnamed, named}
use Rattle.callfile.specs.Row.{is_row}
use Rattle.callfile.specs.Examples.{Examples}
use Rattle.callfile.proofs.Rows.{row_none}
use Rattle.callfile.proofs.Lines.{seven_values}
use Rattle.callfile.proofs.Going.{no_call_end}
use Rattle.callfile.proofs.Determined.{signed}

-- ── P1 ──
shown : List Line → List ℕ
shown [] = []
shown (l ∷ ls) = line (pos l.refusal ∷ l.first ∷ l.second ∷ l.third ∷ []) ++ shown ls

-- a file's calls are lent no text
abbrev traced : List ℕ → List FileCall → List Line
traced b cs = map line_on (trace_from asked_on bytes_left b (map (asks []) (map meant cs)))

answers_shown : (b : List ℕ) (cs : List FileCall) → answer_lines b cs ≡ shown (traced b cs)
unfolding shown
answers_shown b [] = refl
answers_shown b (c ∷ cs) =
    ap (λ (s : List ℕ). answer_line (call_on ours b (meant c)) ++ s) (answers_shown (call_on ours b (meant c)).bytes cs)
    ∙ ap (λ (g : Given). answer_line (call_on g b (meant c)) ++ shown (traced (call_on g b (meant c)).bytes cs)) (sym (lent_ours (meant c)))

first_printed : List Shown → List Line
first_printed [] = []
first_printed (s ∷ ss) = s.printed

-- the calls of P1, as the file's
abbrev listed : List FileCall
listed = enrols 0 ∷ enrols 0 ∷ grants 0 1 255 0 0 ∷ grants 1 2 255 0 0 ∷ grants 2 1 255 0 0 ∷ revokes 0 0 1 ∷ asks_use 2 ∷ []

listing_answers : answer_lines (encode fresh) listed ≡ shown P1.printed
unfolding first_printed
listing_answers = answers_shown (encode fresh) listed ∙ ap (λ (ss : List Shown). shown (first_printed ss)) examples_on_bytes

-- ── ranges, by a test ──
small : List ℤ → Bool
small [] = true
small (pos n ∷ zs) = leb n most && small zs
small (negsuc n ∷ zs) = false

small_allowed : (zs : List ℤ) → T (small zs) → AllAllowed false zs
unfolding small
small_allowed [] h = tt
small_allowed (pos n ∷ zs) h = (leb→le n most (T_left (leb n most) (small zs) h), small_allowed zs (T_right (leb n most) (small zs) h))
small_allowed (negsuc n ∷ zs) h = absurd h

small_calls : List FileCall → Bool
small_calls [] = true
small_calls (c ∷ cs) = small (values c) && small_calls cs

small_ranges : (cs : List FileCall) → T (small_calls cs) → AllWritable cs
unfolding small_calls
small_ranges [] h = tt
small_ranges (c ∷ cs) h = (small_allowed (values c) (T_left (small (values c)) (small_calls cs) h), small_ranges cs (T_right (small (values c)) (small_calls cs) h))

-- ── texts that begin with no call's line ──
other_row : (number by giver receiver weight need bar : ℕ) → is_row number by giver receiver weight need bar ≡ false → AllAllowed false (row number by giver receiver weight need bar) → (s : List ℕ)
    → s ≡ line (row number by giver receiver weight need bar) ++ [] → NoCall s
other_row number by giver receiver weight need bar f h s q c rest a e =
    let r = line_inj (row number by giver receiver weight need bar) (values c) [] rest (sym (seven_values c)) (signed (row number by giver receiver weight need bar) h) (signed (values c) a) (sym q ∙ e) in
    row_none number by giver receiver weight need bar f c r.0

unended_line : (c : FileCall) → Writable c → (s : List ℕ) → s ++ (10 ∷ []) ≡ call_line c ++ [] → NoCall s
unended_line c h s q d rest a e =
    let r = line_inj (values c) (values d) [] (rest ++ (10 ∷ [])) (seven_values c ∙ sym (seven_values d)) (signed (values c) h) (signed (values d) a)
    (sym q ∙ ap (λ (x : List ℕ). x ++ (10 ∷ [])) e ∙ append_assoc (call_line d) rest (10 ∷ [])) in
    absurd (omega (arith, ap length r.1, length-append rest (10 ∷ [])))

-- ── the examples ──
-- a text whose line 2 is malformed
second : (s : List ℕ) (b : ℕ) (bs : List ℕ) → s ≡ b ∷ bs → NoCall s → length (call_names ++ s) ≤ most_text → Prints (call_names ++ s) (answer_names ++ malformed 2)
second s b bs e n l = named [] s l tt refl n (ap (λ (x : List ℕ). answer_names ++ ending 2 x) (sym e))

pub examples_hold : Examples
unfolding digits call_names answer_names is_row shown small small_calls
examples_hold = record {
  enrolled = refl;
  granted = refl;
  revoked = refl;
  lowered = refl;
  reached = refl;
  used = refl;
  none = refl;
  listing = named listed [] (lit≤ tt) (small_ranges listed tt) refl no_call_end (ap (λ (s : List ℕ). answer_names ++ (s ++ [])) (sym listing_answers));
  empty = unnamed (inr (λ rest e. absurd (omega (arith, ap length e)))) refl;
  names = named [] [] (lit≤ tt) tt refl no_call_end refl;
  unended = second _ 48 _ refl (unended_line (enrols 0) (small_allowed (values (enrols 0)) tt) _ refl) (lit≤ tt);
  by = second _ 49 _ refl (other_row 1 1 0 1 255 0 0 refl (small_allowed (row 1 1 0 1 255 0 0) tt) _ refl) (lit≤ tt);
  six = second _ 54 _ refl (other_row 6 0 0 0 0 0 0 refl (small_allowed (row 6 0 0 0 0 0 0) tt) _ refl) (lit≤ tt);
}
