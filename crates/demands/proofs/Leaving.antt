-- Retired subjects stay retired and idle along every list of calls, and their numbers are not given again. Assumes nothing.
use mathlib.Core.Path.{◌≡◌, sym, ap, subst, ◌∙◌}
use mathlib.Core.Logic.{◌≢◌, ◌⊎◌, inl, inr}
use mathlib.Core.Bool.{not}
use mathlib.Core.List.{List, [], ◌∷◌}
use Prim.Native.Nat.{ℕ, zero, suc, ◌+◌}
use native.Mathlib.Nat.{suc-add, add-zero, zero-add}
use native.Mathlib.Omega.{arith}
use lib.Dec.{T, T_not, not_T}
use lib.IntN.{ℤ, pos, negsuc}
use lib.ListN.{take, drop}
use Rattle.rules.specs.List.{◌∈◌}
use Rattle.rules.specs.Bits.{is_set}
use Rattle.rules.specs.Table.{TableRule}
use Rattle.rules.specs.Register.{Register, is_retired}
use Rattle.rules.specs.WellFormed.{WellFormed}
use Rattle.rules.specs.Call.{Call, enrol, fresh, cut_call}
use Rattle.rules.specs.CallStep.{Outcome, accepted, call_step}
use Rattle.rules.specs.Trace.{state_from}
use Rattle.rules.proofs.Lists.{eq_or}
use Rattle.rules.proofs.Calls.{call_step_cases}
use Rattle.rules.proofs.Retiring.{retired_stays}
use Rattle.rules.proofs.Trace.{stays, stays_each}
use Rattle.block.specs.Bytes.{IsBytes}
use Rattle.block.specs.Block.{decode, encode}
use Rattle.block.proofs.Held.{held_formed}
use Rattle.steptable.specs.TableText.{ours, given}
use Rattle.steptable.specs.TableText.{Given}
use Rattle.steptable.proofs.Right.{given_keeps}
use Rattle.register.specs.CallOn.{call_on}
use Rattle.register.proofs.CutWays.{register_left}
use Rattle.slips.specs.TakeBack.{take_back_on}
use Rattle.demands.specs.History.{Asked, asks, reads, slips, takes_back, lent_to, asked_on, bytes_left, block_at}
use Rattle.demands.specs.Retired.{NotRead, Idle, RetiredRight}
use Rattle.demands.proofs.Keeping.{kept}
use Rattle.demands.proofs.TakingBack.{refused_so, restores}
use Rattle.demands.proofs.History.{lent_keeps, slip_keeps, bytes_left_lem, Sound, sound, fresh_sound}

-- the state after i and k more calls
state_add : {S A O : Type 0} (step : S → A → O) (left : O → S) (s : S) (qs : List A) (i k : ℕ) → state_from step left s qs (i + k) ≡ state_from step left (state_from step left s qs i) (drop i qs) k
state_add step left s qs zero k = ap (state_from step left s qs) (zero-add k)
state_add step left s [] (suc i) zero = ap (state_from step left s []) (add-zero (suc i))
state_add step left s [] (suc i) (suc k) = ap (state_from step left s []) (suc-add i (suc k))
state_add step left s (q ∷ qs) (suc i) k = ap (state_from step left s (q ∷ qs)) (suc-add i k) ∙ state_add step left (left (step s q)) qs i k

-- every block of a list holds a well-formed register
block_sound : (qs : List Asked) (i : ℕ) → Sound (block_at qs i)
block_sound qs i = stays asked_on bytes_left Sound sound (encode fresh) qs i fresh_sound

-- one call that is not a read
abbrev Gone : ℕ → List ℕ → Type 0
Gone s b = IsBytes b × T (is_retired (decode b) s)

-- by any table that keeps the rule
made_stays : (s : ℕ) (g : Given) → TableRule g.steps → (b : List ℕ) (c : Call) → Gone s b → Gone s (call_on g b c).bytes
made_stays s g rule b c h = ((kept g b c rule h.0).bytes, go (eq_or (call_on g b c).refusal 0))
  where
    go : ((call_on g b c).refusal ≡ 0) ⊎ ((call_on g b c).refusal ≢ 0) → T (is_retired (decode (call_on g b c).bytes) s)
    go (inl e) = subst (λ (o : Outcome). T (is_retired o.left s)) (sym (register_left g b h.0 c e)) (retired_stays g.steps (decode b) s h.1 c)
    go (inr z) = subst (λ (x : List ℕ). T (is_retired (decode x) s)) (sym ((kept g b c rule h.0).refused z)) h.1

call_stays : (s : ℕ) (b : List ℕ) (q : Asked) → NotRead q → Gone s b → Gone s (bytes_left (asked_on b q))
call_stays s b (asks text c) n h = made_stays s (lent_to c text) (lent_keeps c text) b c h
call_stays s b (reads text table) n h = absurd n
call_stays s b (slips text y k t) n h = slip_keeps (Gone s) text y k t b h (made_stays s (given text) (given_keeps text) b (cut_call y k) h)
call_stays s b (takes_back text y t bytes) n h = (bytes_left_lem b (takes_back text y t bytes) h.0, go (eq_or (take_back_on (given text) b y t).refusal 0))
  where
    go : ((take_back_on (given text) b y t).refusal ≡ 0) ⊎ ((take_back_on (given text) b y t).refusal ≢ 0) → T (is_retired (decode (take_back_on (given text) b y t).bytes) s)
    go (inl e) = subst (λ (x : ℕ). T (is_set x s)) ((restores (given text) (given_keeps text) b y t bytes).within e).retired h.1
    go (inr z) = subst (λ (x : List ℕ). T (is_retired (decode x) s)) (sym (refused_so (given text) b y t z)) h.1

-- an enrolment answers how many were enrolled
enrol_answer : (t : List ℤ) (R : Register) (m n : ℕ) → (call_step t R (enrol m)).refusal ≡ 0 → (call_step t R (enrol m)).first ≡ pos n → n ≡ R.subjects
unfolding accepted
enrol_answer t R m n = call_step_cases t R (enrol m) (λ (o : Outcome). o.refusal ≡ 0 → o.first ≡ pos n → n ≡ R.subjects) (λ z p. yes) (λ k z q. absurd (k z))
  where
    number : ℤ → ℕ
    number (pos x) = x
    number (negsuc x) = 0

    yes : (accepted t R (enrol m)).refusal ≡ 0 → (accepted t R (enrol m)).first ≡ pos n → n ≡ R.subjects
    yes z q = ap number (sym q)

idle_at : (R : Register) → WellFormed R → (s : ℕ) → T (is_retired R s) → Idle R s
idle_at R f s h = record {
  giver = λ d i e. T_not (is_retired R s) (subst (λ (v : ℕ). T (not (is_retired R v))) e (f.apart d i).0) h;
  receiver = λ d i e. T_not (is_retired R s) (subst (λ (v : ℕ). T (not (is_retired R v))) e (f.apart d i).1) h;
  unmarked = (f.retired s h).2;
}

pub retired_right : RetiredRight
retired_right = record { stays = along; idle = λ qs i s h. idle_at (decode (block_at qs i)) (formed qs i) s h; new = fresh_number }
  where
    formed : (qs : List Asked) (i : ℕ) → WellFormed (decode (block_at qs i))
    formed qs i = let (bytes, w) = block_sound qs i in held_formed (block_at qs i) bytes w

    along : (qs : List Asked) (i k s : ℕ) → ((q : Asked) → q ∈ take k (drop i qs) → NotRead q) → T (is_retired (decode (block_at qs i)) s) → T (is_retired (decode (block_at qs (i + k))) s)
    along qs i k s n h =
        subst (λ (b : List ℕ). T (is_retired (decode b) s)) (sym (state_add asked_on bytes_left (encode fresh) qs i k))
        (stays_each asked_on bytes_left (Gone s) NotRead (λ b q. call_stays s b q) (block_at qs i) (drop i qs) k n ((block_sound qs i).0, h)).1

    fresh_number : (qs : List Asked) (i m n : ℕ) → let r = call_on ours (block_at qs i) (enrol m) in r.refusal ≡ 0 → r.first ≡ pos n → T (not (is_retired (decode (block_at qs i)) n))
    fresh_number qs i m n e q =
        let b = block_at qs i in
        let o = register_left ours b (block_sound qs i).0 (enrol m) e in
        let count : n ≡ (decode b).subjects = enrol_answer ours.steps (decode b) m n (sym (ap (λ (x : Outcome). x.refusal) o) ∙ e) (sym (ap (λ (x : Outcome). x.first) o) ∙ q) in
        not_T (is_retired (decode b) n) (λ h. let (l, z, u) = (formed qs i).retired n h in omega (arith, count))
