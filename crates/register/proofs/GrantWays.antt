-- The ways of reach and grant. Assumes nothing.
use mathlib.Core.Path.{◌≡◌, refl, sym, ap, subst, ◌∙◌}
use mathlib.Core.Bool.{true, not}
use mathlib.Core.List.{List}
use Prim.Native.Nat.{ℕ, ◌+◌, ◌≤◌, ◌<◌}
use lib.Dec.{T}
use lib.ListN.{length, set}
use lib.IntN.{ℤ, pos}
use Rattle.rules.specs.Register.{Delegation}
use Rattle.rules.specs.Reach.{reach}
use Rattle.rules.specs.Pair.{is_pair, stands}
use Rattle.rules.specs.Call.{grant, ask_reach}
use Rattle.rules.specs.Refusal.{held}
use Rattle.rules.specs.WellFormed.{WellFormed}
use Rattle.rules.specs.CallStep.{after_grant, accepted}
use Rattle.rules.proofs.Refusals.{passes_of}
use Rattle.rules.proofs.Granting.{after_raise}
use Rattle.rules.proofs.Calls.{accepted_formed}
use Rattle.block.specs.Layout.{weight_byte}
use Rattle.block.specs.Bytes.{IsBytes, leading}
use Rattle.block.specs.Block.{count_in, decode, encode}
use Rattle.block.specs.Records.{record_place, delegation_at, delegations_to}
use Rattle.block.proofs.Encode.{count_encode, decode_encode}
use Rattle.block.proofs.Held.{held_formed, held_written, pair_held, found_stands}
use Rattle.change.proofs.Changing.{reweigh_held}
use Rattle.steptable.specs.TableText.{Given}
use Rattle.refusals.specs.Checked.{BothEnrolled}
use Rattle.refusals.proofs.EarlyTests.{Through}
use Rattle.refusals.proofs.Holding.{both_of}
use Rattle.register.specs.CallOn.{Result, call_on}
use Rattle.register.specs.Answer.{answered_by}
use Rattle.register.specs.Made.{Made}
use Rattle.register.proofs.Made.{call_on_accepted, accepted_passes, made_done}

module _ (t : Given) (b : List ℕ) (bytes : IsBytes b) (g r : ℕ) where
  -- ── reach ──
  module _ (h : Through t b (ask_reach g r)) where
    pub reach_both : BothEnrolled b g r
    unfolding held
    reach_both = both_of b bytes h.early.formed g r (passes_of (held t.steps (decode b) (ask_reach g r)) tt h.held 9)

    pub reach_done : (k : ℤ) → k ≡ reach t.steps (decode b) g r → Made t (ask_reach g r) b (answered_by k (pos 0) (pos 0)) b
    unfolding accepted
    reach_done k q =
        made_done t (ask_reach g r) b h.early h.held (answered_by k (pos 0) (pos 0)) b (λ j. record { refusal = 0; first = q j; second = pos 0; third = pos 0; bytes = held_written b bytes h.early.formed j })

-- ── grant ──
module _ (t : Given) (b : List ℕ) (bytes : IsBytes b) (d : Delegation) (h : Through t b (grant d)) where
  granted_formed : WellFormed (after_grant (decode b) d)
  unfolding accepted
  granted_formed = accepted_formed t.steps (decode b) (grant d) (accepted_passes t (grant d) b h.early h.held) (held_formed b bytes h.early.formed)

  -- what an accepted grant leaves
  pub grant_bytes : (call_on t b (grant d)).bytes ≡ encode (after_grant (decode b) d)
  unfolding accepted
  grant_bytes = ap (λ (r : Result). r.bytes) (call_on_accepted t (grant d) b h.early h.held)

  pub grant_register : decode (call_on t b (grant d)).bytes ≡ after_grant (decode b) d
  grant_register = ap decode grant_bytes ∙ decode_encode (after_grant (decode b) d) granted_formed

  -- where the pair stands: one byte is another, the weight of its record
  pub raise_left : stands (decode b) d.giver d.receiver ≡ true
      → (k : ℕ) × (k < count_in b) × T (is_pair d.giver d.receiver (delegation_at b k)) × ((call_on t b (grant d)).bytes ≡ set b (record_place k + weight_byte) d.weight)
  raise_left s =
      let formed = h.early.formed in
      let g = d.giver in
      let r = d.receiver in
      let k = leading (λ e. not (is_pair g r e)) (delegations_to b (count_in b)) in
      let l = found_stands b bytes formed g r k refl s in (
        k,
        l,
        pair_held b bytes formed g r k refl l,
        grant_bytes ∙ ap encode (after_raise (decode b) d s) ∙ sym (reweigh_held b bytes formed (count_in b) refl g r k refl s d.weight),
      )

  module _ (after : List ℕ) (e : after ≡ encode (after_grant (decode b) d)) where
    counted : count_in after ≡ length (after_grant (decode b) d).delegations
    counted = ap count_in e ∙ count_encode (after_grant (decode b) d) granted_formed

    pub granted_few : count_in after ≤ 256
    granted_few = subst (λ (n : ℕ). n ≤ 256) (sym counted) granted_formed.few

    pub grant_done : Made t (grant d) b (answered_by (pos (count_in after)) (pos 0) (pos 0)) after
    unfolding accepted
    grant_done =
        made_done t (grant d) b h.early h.held (answered_by (pos (count_in after)) (pos 0) (pos 0)) after (λ j. record { refusal = 0; first = pos (counted j); second = pos 0; third = pos 0; bytes = e j })
