-- The ways of one record's step, as the code takes them. Assumes nothing.
use mathlib.Core.Path.{◌≡◌, refl, sym, ap, subst, ◌∙◌}
use mathlib.Core.Logic.{◌≢◌, ◌⊎◌, inl, inr}
use mathlib.Core.Bool.{Bool, true, false}
use mathlib.Core.List.{List, ◌∷◌}
use Prim.Native.Nat.{ℕ, ◌<◌}
use native.Mathlib.Omega.{arith}
use lib.Dec.{T}
use lib.IntN.{ℤ, pos, nat_abs}
use lib.Signed.{lt_z, mag, non_neg}
use lib.ListN.{length, get_or, set}
use lib.Seq.{get_or-set_same, get_or-set_other}
use mir.Syntax.{w16}
use mir.Val.{SFits}
use mir.Facts.{to_z-of_z}
use Rattle.rules.specs.Limit.{none, ◌≼◌}
use Rattle.rules.specs.Table.{next, TableRule}
use Rattle.rules.specs.Register.{Delegation}
use Rattle.rules.specs.Condition.{meets}
use Rattle.rules.proofs.Lists.{eq_or, yes, no}
use Rattle.rules.proofs.Limits.{next_top}
use Rattle.queue.specs.Queue.{levels, BitSet, place_of, Covered}
use Rattle.runs.specs.Steps.{Stepped, Waiting}
use Rattle.rules.proofs.Signed.{kept, more, read_limit, live_natural}

-- a limit from 0 to 255 is a level
pub limit_level : (limit : ℤ) → SFits w16 limit → pos 0 ≼ limit → limit ≼ pos 255 → T (non_neg (kept limit)) × (nat_abs (kept limit) < levels)
limit_level limit f live most = live_natural (kept limit) (subst (λ (z : ℤ). pos 0 ≼ z) (sym (to_z-of_z f)) live) (subst (λ (z : ℤ). z ≼ pos 255) (sym (to_z-of_z f)) most)

module _ (t : List ℤ) (d : Delegation) (place : ℕ) (limit : ℤ) (marks : ℕ) (l : List ℤ) (p q : List ℕ) (here near far need bar : ℕ) (m : Bool)
    (en : need ≡ d.need) (eb : bar ≡ d.bar) (em : m ≡ meets marks need bar) (w : Waiting l q far) where
  -- what the step makes of the limits, the parents, those who wait here and near, and the queue
  abbrev Made : List ℤ → List ℕ → ℕ → ℕ → List ℕ → ℕ → Type 0
  Made l' p' here' near' q' far' = Stepped t limit marks d place l p (here ∷ near ∷ q) l' p' (here' ∷ near' ∷ q') × Waiting l' q' far'

  met : m ≡ meets marks d.need d.bar
  met = em ∙ (λ i. meets marks (en i) (eb i))

  pub step_unmet : m ≡ false → Made l p here near q far
  step_unmet f = (inl ((λ k. no f (subst T (sym met) k.0)), refl, refl, refl), w)

  module _ (who weight : ℕ) (er : who ≡ d.receiver) (ew : weight ≡ d.weight) (given : ℤ) (f : SFits w16 limit) (h : who < length l) (b : mag (get_or l who (pos 0)) < 32768)
      (g : SFits w16 given) (eg : given ≡ next t (kept limit) weight) where
    gives : kept given ≡ next t limit d.weight
    gives = to_z-of_z g ∙ eg ∙ (λ i. next t (to_z-of_z f i) (ew i))

    test : lt_z (kept (get_or l who (pos 0))) (kept given) ≡ lt_z (get_or l d.receiver none) (next t limit d.weight)
    test = (λ i. lt_z (read_limit l who h b i) (gives i)) ∙ ap (λ (x : ℕ). lt_z (get_or l x none) (next t limit d.weight)) er

    pub step_not_raised : lt_z (kept (get_or l who (pos 0))) (kept given) ≡ false → Made l p here near q far
    step_not_raised k = (inl ((λ r. no k (subst T (sym test) r.1)), refl, refl, refl), w)

    module _ (k : lt_z (kept (get_or l who (pos 0))) (kept given) ≡ true) where
      -- what raises a limit is from 0 on
      given_live : pos 0 ≼ kept given
      given_live = omega (arith, more (get_or l who none) (kept given) (w.limits who) (subst (λ (z : ℤ). T (lt_z z (kept given))) (read_limit l who h b) (yes k)))

      -- and is a level
      pub given_level : TableRule t → limit ≼ pos 255 → T (non_neg (kept given)) × (nat_abs (kept given) < levels)
      given_level rule small = live_natural (kept given) given_live (subst (λ (z : ℤ). z ≼ pos 255) (sym gives) (next_top t rule limit d.weight small))

      pub step_raised : m ≡ true → (here' near' : ℕ) (q' : List ℕ) (far' : ℕ) → BitSet (here ∷ near ∷ q) (place_of (nat_abs (kept limit)) (nat_abs (kept given))) who 1 (here' ∷ near' ∷ q') → Covered q' far'
          → Made (set l who (kept given)) (set p who place) here' near' q' far'
      step_raised y here' near' q' far' put covered = (
        inr (
          (subst T met (yes y), subst T test (yes k)),
          (λ i. set l (er i) (gives i)),
          (λ i. set p (er i) place),
          (subst (λ (z : ℤ). BitSet (here ∷ near ∷ q) (place_of (nat_abs z) (nat_abs (next t limit d.weight))) d.receiver 1 (here' ∷ near' ∷ q')) (to_z-of_z f) (subst (λ (z : ℤ). BitSet (here ∷ near ∷ q) (place_of (nat_abs (kept limit)) (nat_abs z)) d.receiver 1 (here' ∷ near' ∷ q')) gives
              (subst (λ (x : ℕ). BitSet (here ∷ near ∷ q) (place_of (nat_abs (kept limit)) (nat_abs (kept given))) x 1 (here' ∷ near' ∷ q')) er put))),
        ),
        record { queue = record { size = omega (arith, put.size, w.queue.size); covered = covered }; limits = λ y. go y (eq_or who y) },
      )
        where
          go : (y : ℕ) → (who ≡ y) ⊎ (who ≢ y) → (get_or (set l who (kept given)) y none ≡ none) ⊎ (pos 0 ≼ get_or (set l who (kept given)) y none)
          go y (inl e) = inr (subst (λ (i : ℕ). pos 0 ≼ get_or (set l who (kept given)) i none) e (subst (λ (z : ℤ). pos 0 ≼ z) (sym (get_or-set_same l who (kept given) none h)) given_live))
          go y (inr n) = subst (λ (z : ℤ). (z ≡ none) ⊎ (pos 0 ≼ z)) (sym (get_or-set_other l who y (kept given) none (λ e. n (sym e)))) (w.limits y)
