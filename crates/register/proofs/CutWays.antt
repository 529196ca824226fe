-- The ways of a call that makes a change: what the rounds after it leave, and that it is the best remainder. Assumes nothing.
use mathlib.Core.Path.{◌≡◌, refl, sym, ap, subst, ◌∙◌}
use mathlib.Core.Logic.{◌≢◌}
use mathlib.Core.Bool.{true}
use mathlib.Core.List.{List}
use Prim.Native.Nat.{ℕ, ◌≤◌}
use native.Mathlib.Omega.{arith}
use lib.IntN.{ℤ, pos}
use Rattle.rules.specs.Table.{TableRule}
use Rattle.rules.specs.Register.{Register}
use Rattle.rules.specs.Round.{settle}
use Rattle.rules.specs.Cut.{Change, changed}
use Rattle.rules.specs.Remainder.{LiftsNothing}
use Rattle.rules.specs.WellFormed.{WellFormed}
use Rattle.rules.specs.Call.{Call, Makes}
use Rattle.rules.specs.CallStep.{Outcome, cut, call_step}
use Rattle.rules.specs.History.{CutRight}
use Rattle.rules.proofs.Calls.{changed_formed, accepted_change, call_step_formed}
use Rattle.rules.proofs.History.{call_step_cut}
use Rattle.rules.proofs.Bound.{rounds_most}
use Rattle.rules.proofs.Ranges.{both_few}
use Rattle.rules.proofs.Lists.{T_true}
use Rattle.block.specs.Bytes.{IsBytes}
use Rattle.block.specs.Block.{decode, encode}
use Rattle.block.specs.WellFormed.{well_formed}
use Rattle.block.proofs.Encode.{decode_encode}
use Rattle.block.proofs.Form.{encode_formed}
use Rattle.block.proofs.Held.{held_formed}
use Rattle.rounds.specs.Settled.{SettledMade}
use Rattle.rounds.specs.declared.Tally.{Tally}
use Rattle.register.specs.CallOn.{Result, written, call_on}
use Rattle.register.specs.Made.{result_of, Made}
use Rattle.register.specs.Cuts.{on_register, CutsLeft, CutMade}
use Rattle.register.specs.Answer.{Answer, refused_by, answered_by}
use Rattle.steptable.specs.TableText.{Given}
use Rattle.refusals.specs.Early.{refusal_on}
use Rattle.refusals.proofs.EarlyTests.{Through, through}
use Rattle.register.proofs.Made.{accepted_passes, made_done, made_refused}
use Rattle.register.proofs.Through.{accepted_through, accepted_step, accepted_left}

-- what `settled` promises, as the outcome of a cut
pub settled_cut : (t : List ℤ) (b : List ℕ) (C : Register) (o : Tally) (after : List ℕ) → SettledMade t C o after → result_of (answered_by (pos o.dropped) (pos o.lowered) (pos o.rounds)) after ≡ written b (cut t C)
unfolding cut
settled_cut t b C o after s = λ i. record { refusal = 0; first = pos (s.dropped i); second = pos (s.lowered i); third = pos (s.rounds i); bytes = s.left i }

-- its counts fit
pub settled_few : (t : List ℤ) → TableRule t → (C : Register) → WellFormed C → (o : Tally) (after : List ℕ) → SettledMade t C o after → (o.dropped ≤ 256) × (o.lowered ≤ 256) × (o.rounds ≤ 512)
settled_few t rule C f o after s =
    let k = both_few C (settle t C).left in
    (omega (arith, s.dropped, k, f.few), omega (arith, s.lowered, k, f.few), omega (arith, s.rounds, (rounds_most t rule C f).1))

-- an accepted cut leaves its register, whatever block it was made on
written_cut : (t : List ℤ) (b d : List ℕ) (C : Register) → written b (cut t C) ≡ written d (cut t C)
unfolding cut
written_cut t b d C = refl

-- an accepted call leaves, on every block, the register that the definitions leave
pub register_left : (g : Given) (b : List ℕ) → IsBytes b → (c : Call) → (call_on g b c).refusal ≡ 0 → on_register (call_on g b c) ≡ call_step g.steps (decode b) c
register_left g b bytes c e =
    let o = call_step g.steps (decode b) c in
    let f = call_step_formed g.steps (decode b) c (held_formed b bytes (accepted_through g b c e).early.formed) in
    let q = ap (λ (r : Result). on_register r) (accepted_step g b c e).0 in
    let l = ap decode (sym (ap (λ (r : Result). r.bytes) (accepted_step g b c e).0) ∙ accepted_left g b c e) ∙ decode_encode o.left f in
    q ∙ (λ i. record { refusal = o.refusal; first = o.first; second = o.second; third = o.third; left = l i })

-- so an accepted cut leaves the best remainder, and lifts nothing
pub cuts_left : (g : Given) → TableRule g.steps → (b : List ℕ) → IsBytes b → (c : Call) → CutsLeft g.steps b c (call_on g b c)
cuts_left g rule b bytes c k i e =
    let q = register_left g b bytes c e in
    let f = held_formed b bytes (accepted_through g b c e).early.formed in
    subst (λ (o : Outcome). CutRight g.steps (changed (decode b) k) o × LiftsNothing (decode b) o.left) (sym q) (call_step_cut g.steps rule (decode b) f c k i (sym (ap (λ (o : Outcome). o.refusal) q) ∙ e))

-- and every call that is made keeps what demand 3 claims
pub cut_made : (g : Given) → TableRule g.steps → (c : Call) (b : List ℕ) → IsBytes b → (o : Answer) (after : List ℕ) → Made g c b o after → CutMade g c b o after
cut_made g rule c b bytes o after q = record { outcome = q; leaves = subst (λ (r : Result). CutsLeft g.steps b c r) (sym q) (cuts_left g rule b bytes c) }

-- a refused cut leaves nothing to say of its remainder
pub cut_refused : (g : Given) (c : Call) (b : List ℕ) (n : ℕ) → n ≡ refusal_on g b c → n ≢ 0 → CutMade g c b (refused_by n) b
cut_refused g c b n e h = record { outcome = made_refused g c b n e h; leaves = λ k i z. absurd (h z) }

-- ── a call that makes the change k, past its tests ──
pub record CutThrough (g : Given) (b : List ℕ) (c : Call) (k : Change) : Type 0 where
  pub rule : TableRule g.steps
  pub bytes : IsBytes b
  pub makes : Makes c k
  pub through : Through g b c

-- n is the refusal that the code finds
pub cut_past : {g : Given} {b : List ℕ} {c : Call} {k : Change} {n : ℕ} → TableRule g.steps → IsBytes b → Makes c k → n ≡ refusal_on g b c → n ≡ 0 → CutThrough g b c k
cut_past {g} {b} {c} rule bytes makes e z = record { rule = rule; bytes = bytes; makes = makes; through = through g b c (sym e ∙ z) }

-- d is the block after the change
module _ {g : Given} {b : List ℕ} {c : Call} {k : Change} (h : CutThrough g b c k) {d : List ℕ} (e : d ≡ encode (changed (decode b) k)) where
  formed : WellFormed (changed (decode b) k)
  formed = changed_formed g.steps (decode b) c k h.makes (accepted_passes g c b h.through.early h.through.held) (held_formed b h.bytes h.through.early.formed)

  pub changed_block : well_formed d ≡ true
  changed_block = ap well_formed e ∙ T_true (well_formed (encode (changed (decode b) k))) (encode_formed (changed (decode b) k) formed)

  -- the rounds are made on it, by the steps t
  pub cut_done : (o : Answer) (after : List ℕ) {t : List ℤ} → t ≡ g.steps → result_of o after ≡ written d (cut t (decode d)) → CutMade g c b o after
  cut_done o after s q =
      let C = changed (decode b) k in
      cut_made g h.rule c b h.bytes o after
      (made_done g c b h.through.early h.through.held o after
      (q ∙ ap (λ (u : List ℤ). written d (cut u (decode d))) s ∙ ap (λ (x : List ℕ). written x (cut g.steps (decode x))) e ∙ ap (λ (D : Register). written (encode C) (cut g.steps D)) (decode_encode C formed) ∙ written_cut g.steps (encode C) b C ∙ ap (written b) (sym (accepted_change g.steps (decode b) c k h.makes))))
