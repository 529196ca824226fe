-- A delegation that is another but for its weight, which is at most as there. Assumes nothing.
use mathlib.Core.Path.{◌≡◌, refl, ap, subst, ◌∙◌}
use Prim.Native.Nat.{ℕ, ◌≤◌}
use native.Mathlib.Nat.{le_refl, le_trans}
use native.Mathlib.Omega.{arith}
use lib.Dec.{T}
use Rattle.rules.specs.Register.{Delegation, reweigh}
use Rattle.rules.specs.Condition.{meets}
use Rattle.rules.specs.Remainder.{AtMost}

pub AtMost_refl : (d : Delegation) → AtMost d d
AtMost_refl d = record { same = refl; weight = le_refl d.weight }

pub AtMost_reweigh : (d : Delegation) (w : ℕ) → w ≤ d.weight → AtMost (reweigh d w) d
AtMost_reweigh d w h = record { same = refl; weight = h }

pub AtMost_trans : {d e f : Delegation} → AtMost d e → AtMost e f → AtMost d f
AtMost_trans {d} p q = record { same = p.same ∙ ap (λ (x : Delegation). reweigh x d.weight) q.same; weight = le_trans p.weight q.weight }

pub AtMost_antisym : {d e : Delegation} → AtMost d e → AtMost e d → d ≡ e
AtMost_antisym {d} {e} a b =
    let w : d.weight ≡ e.weight = omega (arith, a.weight, b.weight) in
    a.same ∙ ap (reweigh e) w

module _ {d e : Delegation} (a : AtMost d e) where
  pub at_giver : d.giver ≡ e.giver
  at_giver = ap (λ (x : Delegation). x.giver) a.same

  pub at_receiver : d.receiver ≡ e.receiver
  at_receiver = ap (λ (x : Delegation). x.receiver) a.same

  pub at_kind : d.kind ≡ e.kind
  at_kind = ap (λ (x : Delegation). x.kind) a.same

  -- whoever meets the condition of the one meets that of the other
  pub at_meets : (m : ℕ) → T (meets m d.need d.bar) → T (meets m e.need e.bar)
  at_meets m h = subst (λ (x : Delegation). T (meets m x.need x.bar)) a.same h

  -- at most a delegation at another weight, if that is enough
  pub at_reweigh : (w : ℕ) → d.weight ≤ w → AtMost d (reweigh e w)
  at_reweigh w h = record { same = a.same; weight = h }
