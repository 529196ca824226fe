-- The examples on bytes: the trace of the calls on bytes is the trace of the definitions, written; so the calls on bytes make of each example what
-- is said of it. And the trace is the one that demand 3 cites. Assumes nothing.
use mathlib.Core.Path.{◌≡◌, refl, ap, ◌∙◌}
use mathlib.Core.List.{List, [], ◌∷◌, ◌++◌, map}
use Prim.Native.Nat.{ℕ, zero, suc}
use lib.ListN.{length, take, drop}
use lib.Seq.{take_at}
use Rattle.rules.specs.List.{At, concat_map}
use Rattle.rules.specs.Limit.{larger}
use Rattle.rules.specs.Table.{next, step, steps}
use Rattle.rules.specs.Register.{Delegation, Register}
use Rattle.rules.specs.Condition.{meets}
use Rattle.rules.specs.Chain.{limit_from}
use Rattle.rules.specs.Reach.{goes_on, chains, reach}
use Rattle.rules.specs.Support.{allowed}
use Rattle.rules.specs.Round.{settle}
use Rattle.rules.specs.Cut.{named}
use Rattle.rules.specs.WellFormed.{WellFormed}
use Rattle.rules.specs.Call.{Call, retire, fresh}
use Rattle.rules.specs.Refusal.{passed, held, refusal_of}
use Rattle.rules.specs.CallStep.{Outcome, cut, accepted, call_step}
use Rattle.rules.specs.Trace.{Entry, all_asked, trace_from, state_from, History}
use Rattle.rules.specs.History.{left_by, trace, register_at}
use Rattle.rules.specs.Examples.{Example, last_left, computed, said, leaving, leaving_idle, passing, pass_only, entry, examples}
use Rattle.rules.proofs.Calls.{fresh_formed, call_step_formed}
use Rattle.rules.proofs.Trace.{trace_at, history_from}
use Rattle.rules.proofs.History.{demand3_steps}
use Rattle.rules.proofs.Answers.{examples_hold}
use Rattle.block.specs.Layout.{retired_at, retired_size, records_size, records_at, record_size}
use Rattle.block.specs.Bytes.{wide_bytes, padded}
use Rattle.block.specs.Block.{record_bytes, decode, encode}
use Rattle.block.proofs.Wide.{length_wide_bytes}
use Rattle.block.proofs.Fitting.{records_part, records_encode, retired_drop, formed_fits}
use Rattle.block.proofs.Encode.{decode_encode}
use Rattle.steptable.specs.TableText.{Given}
use Rattle.register.specs.CallOn.{call_on}
use Rattle.slips.specs.Slip.{Effect}
use Rattle.demands.specs.History.{Asked, asks, plain, asked_on, bytes_left, trace_on, block_at}
use Rattle.demands.specs.Examples.{line_on, computed_on, bits_after, RetiredBytes, first_record, PassBytes}
use Rattle.demands.proofs.History.{lent_ours}
use Rattle.register.proofs.OnBytes.{on_bytes, call_on_encode}

module _ {A B C : Type 0} (g : A → B) (f : B → C) where
  map_take : (n : ℕ) (xs : List A) → map f (take n (map g xs)) ≡ map (λ x. f (g x)) (take n xs)
  map_take zero xs = refl
  map_take (suc n) [] = refl
  map_take (suc n) (x ∷ xs) = ap (λ (ys : List C). f (g x) ∷ ys) (map_take n xs)

  map_drop : (n : ℕ) (xs : List A) → map f (drop n (map g xs)) ≡ map (λ x. f (g x)) (drop n xs)
  map_drop zero [] = refl
  map_drop zero (x ∷ xs) = ap (λ (ys : List C). f (g x) ∷ ys) (map_drop zero xs)
  map_drop (suc n) [] = refl
  map_drop (suc n) (x ∷ xs) = map_drop n xs

-- a call that is lent no text, and no slip buffer
abbrev made : Outcome → Effect
made o = plain (on_bytes o)

pub asked_encode : (R : Register) → WellFormed R → (c : Call) → asked_on (encode R) (asks [] c) ≡ made (call_step steps R c)
asked_encode R f c = ap plain (ap (λ (g : Given). call_on g (encode R) c) (lent_ours c) ∙ call_on_encode steps R f c)

-- ── the trace on bytes is the trace on registers, written ──
trace_on_from_encode : (R : Register) → WellFormed R → (cs : List Call) → trace_from asked_on bytes_left (encode R) (map (asks []) cs) ≡ map made (trace_from (call_step steps) left_by R cs)
trace_on_from_encode R f [] = refl
trace_on_from_encode R f (c ∷ cs) =
    ap (λ (e : Effect). e ∷ trace_from asked_on bytes_left (bytes_left e) (map (asks []) cs)) (asked_encode R f c)
    ∙ ap (λ (es : List Effect). made (call_step steps R c) ∷ es) (trace_on_from_encode (call_step steps R c).left (call_step_formed steps R c f) cs)

trace_on_encode : (cs : List Call) → trace_on (map (asks []) cs) ≡ map made (trace steps cs)
trace_on_encode cs = trace_on_from_encode fresh fresh_formed cs

last_block : (R : Register) → WellFormed R → (c : Call) (cs : List Call)
    → (decode (state_from asked_on bytes_left (encode R) (map (asks []) (c ∷ cs)) (suc (length (map (asks []) cs))))).delegations ≡ last_left (trace_from (call_step steps) left_by R (c ∷ cs))
last_block R f c [] =
    ap (λ (e : Effect). (decode (bytes_left e)).delegations) (asked_encode R f c)
    ∙ ap (λ (S : Register). S.delegations) (decode_encode (call_step steps R c).left (call_step_formed steps R c f))
last_block R f c (d ∷ ds) =
    ap (λ (e : Effect). (decode (state_from asked_on bytes_left (bytes_left e) (map (asks []) (d ∷ ds)) (suc (length (map (asks []) ds))))).delegations) (asked_encode R f c)
    ∙ last_block (call_step steps R c).left (call_step_formed steps R c f) d ds

-- the last block holds the delegations that the last call left
block_at_last : (cs : List Call) → (decode (block_at (map (asks []) cs) (length (map (asks []) cs)))).delegations ≡ last_left (trace steps cs)
block_at_last [] = ap (λ (S : Register). S.delegations) (decode_encode fresh fresh_formed)
block_at_last (c ∷ cs) = last_block fresh fresh_formed c cs

-- ── the trace is the one that demand 3 cites ──

-- what stands at place i is what the call at place i on the block S i comes to
pub trace_blocks : (qs : List Asked) (i : ℕ) (e : Effect) → At (trace_on qs) i e → (q : Asked) × At qs i q × (e ≡ asked_on (block_at qs i) q)
trace_blocks qs i e a = trace_at asked_on bytes_left (encode fresh) qs i e a

-- what the calls of a history returned and left is the trace of its calls
pub history_trace : (es : List (Entry Asked Effect)) → History asked_on bytes_left (encode fresh) es → map (λ (e : Entry Asked Effect). e.outcome) es ≡ trace_on (all_asked es)
history_trace es h = history_from asked_on bytes_left (encode fresh) es h

-- ── the examples ──

-- the calls on bytes make of an example what the definitions make of it
computed_on_lem : (e : Example) → computed_on e ≡ computed e
computed_on_lem e = λ i. record { refusals = refusals i; printed = printed i; standing = block_at_last (e.given ++ e.calls) i }
  where
    refusals : (computed_on e).refusals ≡ (computed e).refusals
    refusals =
        ap (λ (es : List Effect). map (λ (x : Effect). x.result.refusal) (take (length e.given) es)) (trace_on_encode (e.given ++ e.calls))
        ∙ map_take made (λ (x : Effect). x.result.refusal) (length e.given) (trace steps (e.given ++ e.calls))

    printed : (computed_on e).printed ≡ (computed e).printed
    printed =
        ap (λ (es : List Effect). map line_on (drop (length e.given) es)) (trace_on_encode (e.given ++ e.calls))
        ∙ map_drop made line_on (length e.given) (trace steps (e.given ++ e.calls))

computed_all : (es : List Example) → map computed_on es ≡ map computed es
computed_all es = λ i. map (λ (e : Example). computed_on_lem e i) es

-- P1 TO P8, on bytes
pub examples_on_bytes : map computed_on examples ≡ map said examples
examples_on_bytes = computed_all examples ∙ examples_hold

-- ── the bytes of the bits ──
blocks_written : (R : Register) → WellFormed R → (cs : List Call) (n : ℕ) → state_from asked_on bytes_left (encode R) (map (asks []) cs) n ≡ encode (state_from (call_step steps) left_by R cs n)
blocks_written R f cs zero = refl
blocks_written R f [] (suc n) = refl
blocks_written R f (c ∷ cs) (suc n) =
    ap (λ (e : Effect). state_from asked_on bytes_left (bytes_left e) (map (asks []) cs) n) (asked_encode R f c) ∙ blocks_written (call_step steps R c).left (call_step_formed steps R c f) cs n

bits_after_lem : (cs : List Call) (n : ℕ) → bits_after cs n ≡ wide_bytes retired_size (register_at steps cs n).retired
bits_after_lem cs n =
    let S = register_at steps cs n in
    let f = formed_fits S (demand3_steps.well_formed cs n) in
    ap (λ (b : List ℕ). take retired_size (drop retired_at b)) (blocks_written fresh fresh_formed cs n)
    ∙ ap (take retired_size) (retired_drop S f)
    ∙ take_at (wide_bytes retired_size S.retired) (records_part S) retired_size (length_wide_bytes retired_size S.retired)

-- those retired after each
one_retired : (register_at steps (leaving.given ++ (retire 0 1 ∷ [])) 10).retired ≡ 2
unfolding larger next step steps meets limit_from goes_on chains reach allowed settle named passed held refusal_of cut accepted call_step
one_retired = refl

nine_retired : (register_at steps (leaving_idle.given ++ (retire 0 9 ∷ [])) 10).retired ≡ 512
unfolding larger next step steps meets limit_from goes_on chains reach allowed settle named passed held refusal_of cut accepted call_step
nine_retired = refl

pub retired_bytes : RetiredBytes
retired_bytes = record {
  one = bits_after_lem (leaving.given ++ (retire 0 1 ∷ [])) 10 ∙ ap (wide_bytes retired_size) one_retired;
  nine = bits_after_lem (leaving_idle.given ++ (retire 0 9 ∷ [])) 10 ∙ ap (wide_bytes retired_size) nine_retired;
}

-- ── the bytes of a pass-only delegation ──
first_record_lem : (cs : List Call) (n : ℕ) (ds : List Delegation) → (register_at steps cs n).delegations ≡ ds → first_record cs n ≡ take record_size (padded records_size (concat_map record_bytes ds))
first_record_lem cs n ds e =
    let S = register_at steps cs n in
    ap (λ (b : List ℕ). take record_size (drop records_at b)) (blocks_written fresh fresh_formed cs n)
    ∙ ap (take record_size) (records_encode S (formed_fits S (demand3_steps.well_formed cs n)))
    ∙ ap (λ (xs : List Delegation). take record_size (padded records_size (concat_map record_bytes xs))) e

pass_granted : (register_at steps passing.given 4).delegations ≡ pass_only 0 1 3 ∷ entry 1 2 2 ∷ []
unfolding larger next step steps meets limit_from goes_on chains reach allowed settle named passed held refusal_of cut accepted call_step
pass_granted = refl

pass_lowered : (register_at steps (passing.given ++ passing.calls) 10).delegations ≡ pass_only 0 1 0 ∷ []
unfolding larger next step steps meets limit_from goes_on chains reach allowed settle named passed held refusal_of cut accepted call_step
pass_lowered = refl

pub pass_bytes : PassBytes
pass_bytes = record {
  place = refl;
  granted = first_record_lem passing.given 4 (pass_only 0 1 3 ∷ entry 1 2 2 ∷ []) pass_granted;
  lowered = first_record_lem (passing.given ++ passing.calls) 10 (pass_only 0 1 0 ∷ []) pass_lowered;
}
