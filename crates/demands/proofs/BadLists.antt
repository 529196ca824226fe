-- What is not true of every list of calls: that each block is supported by the table that the call there is given, or by every table that no table given to the calls other than reads exceeds, or by every one that no table given exceeds, whatever slips are handed in. Assumes nothing.
use mathlib.Core.Path.{◌≡◌, refl, sym, ap, subst, ◌∙◌}
use mathlib.Core.Bool.{Bool, true, false}
use mathlib.Core.List.Memᴰ
use mathlib.Core.List.{List, [], ◌∷◌, ◌++◌, map}
use Prim.Native.Nat.{ℕ}
use native.Mathlib.Omega.{arith}
use lib.Dec.{T}
use lib.ListN.{length, take}
use lib.IntN.{ℤ}
use Rattle.rules.specs.List.{◌∈◌, At}
use Rattle.rules.specs.Limit.{from_none}
use Rattle.rules.specs.Table.{TableRule, steps}
use Rattle.rules.specs.Register.{Register}
use Rattle.rules.specs.Support.{Supported}
use Rattle.rules.specs.WellFormed.{WellFormed}
use Rattle.rules.specs.Cut.{removal}
use Rattle.rules.specs.Call.{Call, enrol, revoke, fresh}
use Rattle.rules.specs.CallStep.{call_step}
use Rattle.rules.specs.Trace.{state_from}
use Rattle.rules.specs.History.{left_by, register_at}
use Rattle.rules.specs.Examples.{two, twos, twos_given}
use Rattle.rules.proofs.Table.{steps_rule}
use Rattle.rules.proofs.Answers.{twos_rule}
use Rattle.rules.proofs.BadOutcomes.{not_supported_next}
use Rattle.rules.proofs.Calls.{fresh_formed, call_step_formed}
use Rattle.rules.proofs.Lists.{clash}
use Rattle.rules.proofs.History.{demand3_steps}
use Rattle.block.specs.Bytes.{IsBytes}
use Rattle.block.specs.Block.{decode, encode}
use Rattle.block.proofs.Bytes.{bytes_append}
use Rattle.block.proofs.Encode.{length_encode, decode_encode, bytes_encode}
use Rattle.steptable.specs.TableText.{table_text, AreNexts, passing, given}
use Rattle.steptable.specs.TableText.{Given}
use Rattle.steptable.proofs.Right.{given_right, test_entries}
use Rattle.regfile.specs.FileText.{file_text}
use Rattle.register.specs.CallOn.{Result}
use Rattle.slips.specs.Slip.{cut_bytes, slip, Effect}
use Rattle.slips.specs.TakeBack.{take_back_on}
use Rattle.transfer.proofs.RoundTrip.{written_left}
use Rattle.demands.specs.History.{Asked, asks, reads, slips, takes_back, reckons, asked_on, bytes_left, block_at, GivenBelow, AllBelow}
use Rattle.demands.specs.SlipExample.{nothing, lone}
use Rattle.demands.proofs.ByteExamples.{asked_encode}
use Rattle.demands.proofs.Keeping.{bytes_five}
use Rattle.demands.proofs.BadSlips.{nothing_left, nothing_formed, lone_formed, forged_shown}

abbrev SupportedByOwn : Type 0
SupportedByOwn = (qs : List Asked) (i : ℕ) (text : List ℕ) (c : Call) → At qs i (asks text c) → T (reckons c) → (given text).refusal ≡ 0 → Supported (given text).steps (decode (block_at qs i))

-- ── the text of the table that falls by two ──
twos_nexts : AreNexts twos
unfolding two twos from_none
twos_nexts = test_entries twos tt

twos_size : length twos ≡ 256
unfolding twos
twos_size = refl

twos_passes : given (table_text twos) ≡ passing twos
twos_passes = given_right.passes (table_text twos) twos record { size = twos_size; entries = twos_nexts; same = refl } twos_rule

-- ── calls that are lent no text, and others after them ──
blocks_encode : (R : Register) → WellFormed R → (cs : List Call) (rest : List Asked)
    → state_from asked_on bytes_left (encode R) (map (asks []) cs ++ rest) (length cs) ≡ encode (state_from (call_step steps) left_by R cs (length cs))
blocks_encode R f [] rest = refl
blocks_encode R f (c ∷ cs) rest =
    ap (λ (e : Effect). state_from asked_on bytes_left (bytes_left e) (map (asks []) cs ++ rest) (length cs)) (asked_encode R f c)
    ∙ blocks_encode (call_step steps R c).left (call_step_formed steps R c f) cs rest

-- granted by our table; then a cut is lent the other
abbrev mixed : List Asked
mixed = map (asks []) twos_given ++ (asks (table_text twos) (revoke 0 0 4) ∷ [])

mixed_register : decode (block_at mixed 8) ≡ register_at steps twos_given 8
mixed_register =
    ap decode (blocks_encode fresh fresh_formed twos_given (asks (table_text twos) (revoke 0 0 4) ∷ []))
    ∙ decode_encode (register_at steps twos_given 8) (demand3_steps.well_formed twos_given 8)

pub not_supported_by_own : SupportedByOwn → ⊥
not_supported_by_own claim =
    let s = claim mixed 8 (table_text twos) (revoke 0 0 4) refl tt (ap (λ (g : Given). g.refusal) twos_passes) in
    not_supported_next.1 (subst (Supported twos) mixed_register (subst (λ (g : Given). Supported g.steps (decode (block_at mixed 8))) twos_passes s))

-- ── a read, of whose table nothing is asked ──
abbrev SupportedAfterReads : Type 0
SupportedAfterReads = (qs : List Asked) (i : ℕ) (m : List ℤ) → TableRule m → ((text : List ℕ) (c : Call) → asks text c ∈ take i qs → GivenBelow (asks text c) m) → Supported m (decode (block_at qs i))

-- what our table granted is read by our table
granted_register : Register
granted_register = register_at steps twos_given 8

granted_formed : WellFormed granted_register
unfolding granted_register
granted_formed = demand3_steps.well_formed twos_given 8

read_once : List Asked
read_once = reads (file_text granted_register) [] ∷ []

read_left : decode (block_at read_once 1) ≡ granted_register
unfolding granted_register read_once
read_left =
    ap decode
    (written_left granted_register granted_formed [] (encode fresh) (length_encode fresh fresh_formed) (ap (λ (g : Given). g.refusal) given_right.empty)
    (subst (λ (g : Given). Supported g.steps granted_register) (sym given_right.empty) not_supported_next.0))
    ∙ decode_encode granted_register granted_formed

is_read : Asked → Bool
is_read (asks text c) = false
is_read (reads text table) = true
is_read (slips text y k s) = false
is_read (takes_back text y s h) = false

pub not_supported_after_reads : SupportedAfterReads → ⊥
unfolding granted_register read_once is_read
not_supported_after_reads claim = not_supported_next.1 (subst (Supported twos) read_left (claim read_once 1 twos twos_rule none))
  where
    none : (text : List ℕ) (c : Call) → asks text c ∈ take 1 read_once → GivenBelow (asks text c) twos
    none text c (Memᴰ.head e) = clash (sym (ap is_read e))
    none text c (Memᴰ.tail k) = absurd (Memᴰ.not-nil k)

-- ── a slip, of which nothing is asked ──
abbrev SupportedAfterSlips : Type 0
SupportedAfterSlips = (qs : List Asked) (i : ℕ) (m : List ℤ) → TableRule m → AllBelow qs i m → Supported m (decode (block_at qs i))

-- two subjects are enrolled, and one hands in a slip that nobody wrote
abbrev forged : List ℕ
forged = slip (encode lone) 1 (removal 1 2) (encode nothing)

forged_bytes : IsBytes forged
forged_bytes = bytes_append (encode lone) (cut_bytes 1 (removal 1 2) ++ encode nothing) (bytes_encode lone lone_formed) (bytes_append (2 ∷ 1 ∷ 1 ∷ 2 ∷ 0 ∷ []) (encode nothing) five (bytes_encode nothing nothing_formed))
  where
    five : IsBytes (2 ∷ 1 ∷ 1 ∷ 2 ∷ 0 ∷ [])
    five = bytes_five 1 (removal 1 2) (omega arith, (omega arith, (omega arith, tt)))

handed_in : List Asked
handed_in = map (asks []) (enrol 0 ∷ enrol 0 ∷ []) ++ (takes_back [] 1 forged forged_bytes ∷ [])

handed_left : decode (block_at handed_in 3) ≡ lone
unfolding handed_in
handed_left =
    ap (λ (b : List ℕ). decode (take_back_on (given []) b 1 forged).bytes) (blocks_encode fresh fresh_formed (enrol 0 ∷ enrol 0 ∷ []) (takes_back [] 1 forged forged_bytes ∷ []) ∙ ap encode nothing_left)
    ∙ ap (λ (g : Given). decode (take_back_on g (encode nothing) 1 forged).bytes) given_right.empty
    ∙ ap (λ (r : Result). decode r.bytes) forged_shown.accepted
    ∙ decode_encode lone lone_formed

pub not_supported_after_slips : SupportedAfterSlips → ⊥
unfolding handed_in
not_supported_after_slips claim = forged_shown.unsupported (subst (Supported steps) handed_left (claim handed_in 3 steps steps_rule below))
  where
    below : AllBelow handed_in 3 steps
    below q (Memᴰ.head e) = subst (λ (x : Asked). GivenBelow x steps) (sym e) (λ h. absurd h)
    below q (Memᴰ.tail (Memᴰ.head e)) = subst (λ (x : Asked). GivenBelow x steps) (sym e) (λ h. absurd h)
    below q (Memᴰ.tail (Memᴰ.tail (Memᴰ.head e))) = subst (λ (x : Asked). GivenBelow x steps) (sym e) tt
    below q (Memᴰ.tail (Memᴰ.tail (Memᴰ.tail k))) = absurd (Memᴰ.not-nil k)
