-- Along every list of calls a pair that stands keeps its kind, reads aside. Assumes nothing.
use mathlib.Core.Path.{◌≡◌, sym, ap, subst}
use mathlib.Core.Logic.{◌≢◌, ◌⊎◌, inl, inr}
use mathlib.Core.List.{List}
use Prim.Native.Nat.{ℕ}
use Rattle.rules.specs.List.{◌∈◌}
use Rattle.rules.specs.Table.{TableRule}
use Rattle.rules.specs.Register.{Delegation, Register}
use Rattle.rules.specs.WellFormed.{WellFormed, Rising}
use Rattle.rules.specs.Call.{Call, fresh, cut_call}
use Rattle.rules.specs.CallStep.{Outcome}
use Rattle.rules.proofs.Lists.{eq_or}
use Rattle.rules.proofs.Pairs.{pair_one}
use Rattle.rules.proofs.Trace.{stays}
use Rattle.rules.proofs.Unnoticed.{one_kind, kinds_stay}
use Rattle.block.specs.Block.{decode, encode}
use Rattle.block.proofs.Held.{held_formed}
use Rattle.steptable.specs.TableText.{given}
use Rattle.steptable.specs.TableText.{Given}
use Rattle.steptable.proofs.Right.{given_keeps}
use Rattle.register.specs.CallOn.{call_on}
use Rattle.register.proofs.CutWays.{register_left}
use Rattle.slips.specs.TakeBack.{take_back_on}
use Rattle.demands.specs.History.{Asked, asks, reads, slips, takes_back, lent_to, asked_on, bytes_left, block_at}
use Rattle.demands.specs.Retired.{NotRead}
use Rattle.demands.specs.Kinds.{KindsKept}
use Rattle.demands.proofs.Keeping.{kept}
use Rattle.demands.proofs.TakingBack.{refused_so, restores}
use Rattle.demands.proofs.History.{lent_keeps, slip_keeps, Sound, sound, fresh_sound}

-- each pair that stands in both registers has one kind
abbrev SameKinds : Register → Register → Type 0
SameKinds R S = (d e : Delegation) → d ∈ R.delegations → e ∈ S.delegations → d.giver ≡ e.giver → d.receiver ≡ e.receiver → d.kind ≡ e.kind

itself : (R : Register) → Rising R.delegations → SameKinds R R
itself R rising d e m n g r = ap (λ (x : Delegation). x.kind) (pair_one rising m n (sym g, sym r))

-- by any table that keeps the rule
call_keeps : (g : Given) → TableRule g.steps → (b : List ℕ) (c : Call) → Sound b → SameKinds (decode b) (decode (call_on g b c).bytes)
call_keeps g rule b c (bytes, formed) = go (eq_or (call_on g b c).refusal 0)
  where
    f : WellFormed (decode b)
    f = held_formed b bytes formed

    go : ((call_on g b c).refusal ≡ 0) ⊎ ((call_on g b c).refusal ≢ 0) → SameKinds (decode b) (decode (call_on g b c).bytes)
    go (inl e) = subst (λ (o : Outcome). SameKinds (decode b) o.left) (sym (register_left g b bytes c e)) (kinds_stay g.steps rule (decode b) f c)
    go (inr z) = subst (λ (x : List ℕ). SameKinds (decode b) (decode x)) (sym ((kept g b c rule bytes).refused z)) (itself (decode b) f.rising)

asked_keeps : (b : List ℕ) (q : Asked) → NotRead q → Sound b → SameKinds (decode b) (decode (bytes_left (asked_on b q)))
asked_keeps b (asks text c) n s = call_keeps (lent_to c text) (lent_keeps c text) b c s
asked_keeps b (reads text table) n s = absurd n
asked_keeps b (slips text y k t) n s =
    slip_keeps (λ (x : List ℕ). SameKinds (decode b) (decode x)) text y k t b (itself (decode b) (held_formed b s.0 s.1).rising) (call_keeps (given text) (given_keeps text) b (cut_call y k) s)
asked_keeps b (takes_back text y t bytes) n s = go (eq_or (take_back_on (given text) b y t).refusal 0)
  where
    left : List ℕ
    left = (take_back_on (given text) b y t).bytes

    go : ((take_back_on (given text) b y t).refusal ≡ 0) ⊎ ((take_back_on (given text) b y t).refusal ≢ 0) → SameKinds (decode b) (decode left)
    go (inl e) =
        let after = sound b (takes_back text y t bytes) s in
        one_kind (decode left) (decode b) (held_formed left after.0 after.1).rising ((restores (given text) (given_keeps text) b y t bytes).within e).held
    go (inr z) = subst (λ (x : List ℕ). SameKinds (decode b) (decode x)) (sym (refused_so (given text) b y t z)) (itself (decode b) (held_formed b s.0 s.1).rising)

-- THE THEOREM
pub cut_kinds : KindsKept
cut_kinds qs i q n = asked_keeps (block_at qs i) q n (stays asked_on bytes_left Sound sound (encode fresh) qs i fresh_sound)
