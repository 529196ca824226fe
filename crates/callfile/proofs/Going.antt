-- The run over a text, line by line: the calls made so far, and what is left of the text. Assumes nothing.
use mathlib.Core.Path.{◌≡◌, refl, sym, ap, subst, ◌∙◌}
use mathlib.Core.Bool.{true}
use mathlib.Core.List.{List, [], ◌∷◌, ◌++◌, append_assoc, append-nil}
use Prim.Native.Nat.{ℕ, ◌+◌, ◌*◌, ◌≤◌, ◌<◌}
use native.Mathlib.Omega.{arith}
use lib.Dec.{T}
use lib.IntN.{pos}
use lib.ListN.{length, drop, length-append, length-drop, drop_of_length-le}
use lib.Seq.{drop-cons}
use Rattle.replay.specs.Replay.{is_call}
use Rattle.rules.specs.Call.{Call}
use Rattle.steptable.specs.TableText.{ours}
use Rattle.register.specs.CallOn.{call_on}
use Rattle.text.specs.Text.{AllAllowed}
use Rattle.text.specs.Write.{Room, Written}
use Rattle.text.proofs.Sizes.{line_short, line_long}
use Rattle.std.specs.Prelude.{Some}
use Rattle.text.proofs.Writing.{put_nil, then_written}
use Rattle.callfile.specs.CallFile.{FileCall, meant, values, Writable, AllWritable, call_line, call_lines, answer_line, answer_lines, malformed, ending, NoCall, most_text, out_size}
use Rattle.callfile.specs.Row.{call_of_row, made_of_row, CallRead, Answered, Finished}
use Rattle.callfile.specs.declared.Row.{Row}
use Rattle.callfile.proofs.Lines.{seven_values}

-- the block that calls leave
abbrev left_by : List ℕ → List FileCall → List ℕ
left_by b [] = b
left_by b (c ∷ cs) = left_by (call_on ours b (meant c)).bytes cs

-- ── one call more ──
lines_join : (cs : List FileCall) (c : FileCall) → call_lines (cs ++ (c ∷ [])) ≡ call_lines cs ++ call_line c
lines_join [] c = append-nil (call_line c)
lines_join (d ∷ cs) c = ap (λ (s : List ℕ). call_line d ++ s) (lines_join cs c) ∙ sym (append_assoc (call_line d) (call_lines cs) (call_line c))

left_join : (b : List ℕ) (cs : List FileCall) (c : FileCall) → left_by b (cs ++ (c ∷ [])) ≡ (call_on ours (left_by b cs) (meant c)).bytes
left_join b [] c = refl
left_join b (d ∷ cs) c = left_join (call_on ours b (meant d)).bytes cs c

answers_join : (b : List ℕ) (cs : List FileCall) (c : FileCall) → answer_lines b (cs ++ (c ∷ [])) ≡ answer_lines b cs ++ answer_line (call_on ours (left_by b cs) (meant c))
answers_join b [] c = append-nil (answer_line (call_on ours b (meant c)))
answers_join b (d ∷ cs) c =
    ap (λ (s : List ℕ). answer_line (call_on ours b (meant d)) ++ s) (answers_join (call_on ours b (meant d)).bytes cs c)
    ∙ sym (append_assoc (answer_line (call_on ours b (meant d))) (answer_lines (call_on ours b (meant d)).bytes cs) (answer_line (call_on ours (left_by (call_on ours b (meant d)).bytes cs) (meant c))))

ranges_join : (cs : List FileCall) (c : FileCall) → AllWritable cs → Writable c → AllWritable (cs ++ (c ∷ []))
ranges_join [] c a h = (h, tt)
ranges_join (d ∷ cs) c a h = (a.0, ranges_join cs c a.1 h)

-- a call's line has at least 14 bytes
line_min : (c : FileCall) → 14 ≤ length (call_line c)
line_min c = omega (arith, line_long (values c), seven_values c)

pub no_call_end : NoCall []
no_call_end c rest a e = absurd (omega (arith, line_min c, ap length e, length-append (call_line c) rest))

-- ── the loop ──

-- what `run_calls` asks
abbrev pub Asked : (lines out : List ℕ) (to : ℕ) → Type 0
Asked lines out to = (length lines + 39 ≤ most_text) × (to ≤ 132) × (out_size ≤ length out)

-- the calls that were made on the block and answered, up to the line at next
pub record Going (lines b out : List ℕ) (to next end number : ℕ) (b' out' : List ℕ) : Type 0 where
  pub calls : List FileCall
  pub ranges : AllWritable calls
  pub front : lines ≡ call_lines calls ++ drop next lines
  pub count : number ≡ 2 + length calls
  pub block : b' ≡ left_by b calls
  pub answers : Written to (answer_lines b calls) out end out'
  pub within : next ≤ length lines
  pub room : end ≤ 4 * next + 132
  pub few : number ≤ next + 2
  pub size : length out' ≡ length out

module _ (lines b out : List ℕ) (to : ℕ) (h : Asked lines out to) where
  pub going_start : Going lines b out to 0 to 2 b out
  going_start = record { calls = []; ranges = tt; front = refl; count = refl; block = refl; answers = record { next = omega arith; bytes = sym (put_nil to out) }; within = omega arith; room = omega (arith, h.1); few = omega arith; size = refl }

  module _ (next end number : ℕ) (b' out' : List ℕ) (g : Going lines b out to next end number b' out') where
    pub going_room : (number ≤ most_text) × (end + 24 ≤ length out')
    going_room = (omega (arith, g.few, g.within, h.0), omega (arith, g.room, g.within, g.size, h.0, h.2))

    pub going_stop : next < length lines → NoCall (drop next lines) → (k : ℕ) (last : List ℕ) → Written end (malformed number) out' k last → Finished lines b out to k last
    going_stop l c k last w =
        let a : AllAllowed true (pos 7 ∷ pos number ∷ []) = (omega arith, (omega (arith, going_room.0), tt)) in
        let q : ending (2 + length g.calls) (drop next lines) ≡ malformed number = ap (λ (s : List ℕ). ending (2 + length g.calls) s) (drop-cons lines next 0 l) ∙ ap malformed (sym g.count) in
        let m : Room to (answer_lines b g.calls ++ malformed number) out =
        omega (arith, length-append (answer_lines b g.calls) (malformed number), line_short (pos 7 ∷ pos number ∷ []) a, g.answers.next, g.room, g.within, h.0, h.2) in
        record {
          calls = g.calls;
          rest = drop next lines;
          ranges = g.ranges;
          same = g.front;
          none = c;
          line = rw q (then_written to (answer_lines b g.calls) (malformed number) out end out' k last m g.answers w);
          fits = omega (arith, m, (then_written to (answer_lines b g.calls) (malformed number) out end out' k last m g.answers w).next);
        }

    pub going_end : length lines ≤ next → Finished lines b out to end out'
    going_end l =
        let e : drop next lines ≡ [] = drop_of_length-le lines l in
        record {
          calls = g.calls;
          rest = [];
          ranges = g.ranges;
          same = g.front ∙ ap (λ (s : List ℕ). call_lines g.calls ++ s) e;
          none = no_call_end;
          line = subst (λ (s : List ℕ). Written to s out end out') (sym (append-nil (answer_lines b g.calls))) g.answers;
          fits = omega (arith, g.room, g.within, h.0, h.2);
        }

    module _ (r : Row) (onward : ℕ) (c : CallRead lines next (Some r) onward) where
      -- the line lies within the text
      pub line_inside : (next + 14 ≤ onward) × (onward ≤ length lines)
      line_inside =
          let q = c.read in
          let w : length (drop next lines) ≡ length (call_line (call_of_row r)) + length (drop onward lines) = ap length q.2 ∙ length-append (call_line (call_of_row r)) (drop onward lines) in
          (omega (arith, q.1, line_min (call_of_row r)), omega (arith, q.1, w, length-drop next lines, length-drop onward lines, g.within, line_min (call_of_row r)))

      -- what making the call asks
      pub going_asks : T (is_call r.call) × (end + 48 ≤ length out')
      going_asks = (c.known.0, omega (arith, g.room, g.size, h.0, h.2, line_inside.0, line_inside.1))

      pub going_more : (n : ℕ) (b'' out'' : List ℕ) → Answered (made_of_row r) b' out' end n b'' out'' → length out'' ≡ length out' → Going lines b out to onward n (number + 1) b'' out''
      going_more n b'' out'' made y =
          let d = call_of_row r in
          let w = subst (λ (k : Call). Answered k b' out' end n b'' out'') (sym c.known.1) made in
          let q = c.read in
          let v : Written end (answer_line (call_on ours (left_by b g.calls) (meant d))) out' n out'' = subst (λ (s : List ℕ). Written end (answer_line (call_on ours s (meant d))) out' n out'') g.block w.line in
          let m : Room to (answer_lines b g.calls ++ answer_line (call_on ours (left_by b g.calls) (meant d))) out =
          omega (arith, length-append (answer_lines b g.calls) (answer_line (call_on ours (left_by b g.calls) (meant d))), g.answers.next, v.next, w.short, g.room, h.0, h.2, line_inside.0, line_inside.1) in
          record {
            calls = g.calls ++ (d ∷ []);
            ranges = ranges_join g.calls d g.ranges q.0;
            front = g.front ∙ ap (λ (s : List ℕ). call_lines g.calls ++ s) q.2 ∙ sym (append_assoc (call_lines g.calls) (call_line d) (drop onward lines)) ∙ ap (λ (s : List ℕ). s ++ drop onward lines) (sym (lines_join g.calls d));
            count = omega (arith, g.count, length-append g.calls (d ∷ []));
            block = w.block ∙ ap (λ (s : List ℕ). (call_on ours s (meant d)).bytes) g.block ∙ sym (left_join b g.calls d);
            answers = subst (λ (s : List ℕ). Written to s out n out'') (sym (answers_join b g.calls d)) (then_written to (answer_lines b g.calls) (answer_line (call_on ours (left_by b g.calls) (meant d))) out end out' n out'' m g.answers v);
            within = line_inside.1;
            room = omega (arith, w.short, g.room, line_inside.0);
            few = omega (arith, g.few, line_inside.0);
            size = y ∙ g.size;
          }
