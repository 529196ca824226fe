-- The whole of a call file: what was written is what the text prints. Assumes nothing.
use mathlib.Core.Path.{◌≡◌, refl, ap, ◌∙◌}
use mathlib.Core.Logic.{◌≢◌, ◌⊎◌}
use mathlib.Core.Bool.{Bool, true, false}
use mathlib.Core.List.{List, [], ◌∷◌, ◌++◌}
use Prim.Native.Nat.{ℕ, ◌+◌, ◌≤◌, ◌<◌}
use native.Mathlib.Nat.{zero-add}
use native.Mathlib.Omega.{arith}
use borrow.Author.Tests.{eq-eqb, ltb-true, ltb-false}
use lib.Dec.{ltb}
use lib.IntN.{pos}
use lib.ListN.{length, drop, length-append}
use Rattle.rules.specs.Call.{fresh}
use Rattle.block.specs.Layout.{block_size}
use Rattle.block.specs.Block.{encode}
use Rattle.register.specs.CallOn.{Result, open_on}
use Rattle.register.specs.Made.{MadeOpen}
use Rattle.register.specs.Answer.{Answer}
use Rattle.text.specs.Text.{AllAllowed}
use Rattle.text.specs.Write.{put, Room, Written}
use Rattle.text.proofs.Sizes.{line_short}
use Rattle.text.proofs.Writing.{put_length, then_written}
use Rattle.callfile.specs.CallFile.{call_names, answer_names, answer_lines, malformed, ending, most_text, out_size, Prints, unnamed, named, RunMade}
use Rattle.callfile.specs.Row.{Finished}
use Rattle.callfile.specs.Printed.{Printed, printed_to}

pub run_short : (text before : List ℕ) → length before < out_size → RunMade text before (record { refusal = 1; length = 0 }) before
run_short text before h = record { short = λ l. (refl, refl); ran = λ l. absurd (omega arith) }

-- the names are 39 bytes, those of the answers 27
pub names_length : length call_names ≡ 39
unfolding call_names
names_length = refl

answer_names_length : length answer_names ≡ 27
unfolding answer_names
answer_names_length = refl

-- what was written at the front, with the bytes past it kept
front : (text before : List ℕ) → out_size ≤ length before → (xs : List ℕ) (n : ℕ) (last : List ℕ) → Prints text xs → n ≤ length before → Written 0 xs before n last → (r : Printed) → r ≡ printed_to n → RunMade text before r last
unfolding put
front text before h xs n last p l w r e =
    let k : n ≡ length xs = w.next ∙ zero-add (length xs) in
    record {
      short = λ m. absurd (omega arith);
      ran = λ m. record {
        printed = xs;
        prints = p;
        fits = omega arith;
        result = e ∙ ap printed_to k;
        bytes = w.bytes ∙ ap (λ (j : ℕ). xs ++ drop j before) (zero-add (length xs));
      };
    }

module _ (text before : List ℕ) (h : out_size ≤ length before) (start : ℕ) (mid : List ℕ) (w : Written 0 answer_names before start mid) where
  pub mid_length : (start ≡ 27) × (length mid ≡ length before)
  mid_length = (w.next ∙ zero-add (length answer_names) ∙ answer_names_length, ap length w.bytes ∙ put_length 0 answer_names before (omega (arith, answer_names_length)))

  pub run_unnamed : (most_text < length text) ⊎ ((rest : List ℕ) → text ≢ call_names ++ rest) → (n : ℕ) (last : List ℕ) → Written start (malformed 1) mid n last → (r : Printed) → r ≡ printed_to n → RunMade text before r last
  run_unnamed q n last v r e =
      let a : AllAllowed true (pos 7 ∷ pos 1 ∷ []) = (omega arith, (omega arith, tt)) in
      let m : Room 0 (answer_names ++ malformed 1) before = omega (arith, length-append answer_names (malformed 1), answer_names_length, line_short (pos 7 ∷ pos 1 ∷ []) a) in
      let u = then_written 0 answer_names (malformed 1) before start mid n last m w v in
      front text before h (answer_names ++ malformed 1) n last (unnamed q refl) (omega (arith, m, u.next)) u r e

  pub run_named : length text ≤ most_text → (lines : List ℕ) → text ≡ call_names ++ lines → (n : ℕ) (last : List ℕ) → Finished lines (encode fresh) mid start n last → (r : Printed) → r ≡ printed_to n → RunMade text before r last
  run_named l lines d n last f r e =
      let m : Room 0 (answer_names ++ (answer_lines (encode fresh) f.calls ++ ending (2 + length f.calls) f.rest)) before =
      omega (arith, length-append answer_names (answer_lines (encode fresh) f.calls ++ ending (2 + length f.calls) f.rest), w.next, f.line.next, f.fits, mid_length.1) in
      let u = then_written 0 answer_names (answer_lines (encode fresh) f.calls ++ ending (2 + length f.calls) f.rest) before start mid n last m w f.line in
      front text before h (answer_names ++ (answer_lines (encode fresh) f.calls ++ ending (2 + length f.calls) f.rest)) n last
      (named f.calls f.rest l f.ranges (d ∙ ap (λ (s : List ℕ). call_names ++ s) f.same) f.none refl) (omega (arith, m, u.next)) u r e

-- a fresh register
pub opened : (b : List ℕ) (o : Answer) (b' : List ℕ) → length b ≡ block_size → MadeOpen b o b' → b' ≡ encode fresh
unfolding open_on
opened b o b' e m = ap (λ (x : Result). x.bytes) m ∙ rw (eq-eqb (length b) block_size e)

-- what is written lies within the buffer
pub run_fits : {text before : List ℕ} {r : Printed} {last : List ℕ} → RunMade text before r last → length last ≡ length before → r.length ≤ length last
run_fits {before} {r} {last} m e = go (ltb (length before) out_size) refl
  where
    go : (x : Bool) → ltb (length before) out_size ≡ x → r.length ≤ length last
    go true q = omega (arith, ap (λ (p : Printed). p.length) (m.short (ltb-true (length before) out_size q)).0)
    go false q =
        let a = m.ran (ltb-false (length before) out_size q) in
        omega (arith, ap (λ (p : Printed). p.length) a.result, a.fits)
