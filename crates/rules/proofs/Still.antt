-- A supported register that a change leaves as it is stays so: no round changes it, nothing is dropped and nothing lowered. Assumes nothing.
use mathlib.Core.Path.{◌≡◌, refl, ap, ◌∙◌}
use mathlib.Core.Bool.{false, not, ◌&&◌}
use mathlib.Core.List.{List}
use Prim.Native.Nat.{ℕ, zero, suc}
use native.Mathlib.Omega.{arith}
use lib.Dec.{leb, leb→le, not_T}
use lib.ListN.{length}
use lib.Seq.{set-get_or}
use lib.IntN.{ℤ, pos}
use Rattle.rules.specs.List.{◌∈◌}
use Rattle.rules.specs.Limit.{code}
use Rattle.rules.specs.Table.{TableRule}
use Rattle.rules.specs.Register.{Delegation, Register, marks_of}
use Rattle.rules.specs.Support.{Supported}
use Rattle.rules.specs.Round.{settle, rounds}
use Rattle.rules.specs.Cut.{marking, changed, is_dropped, is_lowered, dropped, lowered}
use Rattle.rules.specs.WellFormed.{Rising}
use Rattle.rules.specs.Call.{set_marks}
use Rattle.rules.specs.CallStep.{answered, cut, accepted}
use Rattle.rules.proofs.Lists.{unset, filter_none}
use Rattle.rules.proofs.Support.{carried_allowed}
use Rattle.rules.proofs.Rounds.{round_stays, settle_right, settles_unique}
use Rattle.rules.proofs.Pairs.{pair_stands_lem, weight_one}

-- no round changes a supported register
pub settle_still : (t : List ℤ) → TableRule t → (C : Register) → Supported t C → settle t C ≡ record { left = C; changed = zero }
settle_still t rule C s =
    let stays = round_stays t C (λ d m. carried_allowed t rule C d (s d m)) in
    let (n, e) = settles_unique t (settle t C).changed zero C (settle t C).left C (settle_right t C) (refl, stays) in
    λ i. record { left = e i; changed = n i }

-- ── a register compared with itself ──
none_dropped : (R : Register) → dropped R R ≡ 0
none_dropped R = ap length (filter_none (is_dropped R) R.delegations (λ d m. ap not (pair_stands_lem R d.giver d.receiver d m (refl, refl))))

none_lowered : (R : Register) → Rising R.delegations → lowered R R ≡ 0
none_lowered R rising = ap length (filter_none (is_lowered R) R.delegations same)
  where
    same : (d : Delegation) → d ∈ R.delegations → is_lowered R d ≡ false
    same d m =
        (λ j. pair_stands_lem R d.giver d.receiver d m (refl, refl) j && leb (code (weight_one rising m j)) d.weight)
        ∙ unset (leb (suc d.weight) d.weight) (not_T (leb (suc d.weight) d.weight) (λ h. let l = leb→le (suc d.weight) d.weight h in omega arith))

module _ (t : List ℤ) (rule : TableRule t) (R : Register) (rising : Rising R.delegations) (s : Supported t R) where
  cut_still : cut t R ≡ answered (pos 0) (pos 0) (pos 1) R
  unfolding cut
  cut_still =
      let e = settle_still t rule R s in
      (λ i. answered (pos (dropped R (e i).left)) (pos (lowered R (e i).left)) (pos (rounds (e i))) (e i).left)
      ∙ (λ i. answered (pos (none_dropped R i)) (pos (none_lowered R rising i)) (pos 1) R)

  -- setting the marks that stand
  pub marks_still : (y v : ℕ) → accepted t R (set_marks y v (marks_of R v)) ≡ answered (pos 0) (pos 0) (pos 1) R
  unfolding accepted
  marks_still y v = ap (cut t) same ∙ cut_still
    where
      same : changed R (marking v (marks_of R v)) ≡ R
      same = λ i. record { subjects = R.subjects; marks = set-get_or R.marks v 0 i; retired = R.retired; delegations = R.delegations }
