-- Refusals of a cut by what the register holds, test by test as the code makes them; and what a call that makes a change and is not refused may rely on. Assumes nothing.
use mathlib.Core.Path.{◌≡◌, refl, sym, ap, ◌∙◌}
use mathlib.Core.Logic.{◌≢◌}
use mathlib.Core.Bool.{Bool, true, not}
use mathlib.Core.List.{List, [], ◌∷◌, ◌++◌}
use Prim.Native.Nat.{ℕ, suc, ◌≤◌, ◌<◌, zero-le}
use borrow.Author.Tests.{le-leb}
use lib.Dec.{T, leb, nleb→lt, leb-suc-suc}
use lib.IntN.{ℤ, pos}
use Rattle.rules.specs.Limit.{code}
use Rattle.rules.specs.Register.{Register}
use Rattle.rules.specs.Pair.{is_pair, stands}
use Rattle.rules.specs.Call.{revoke, downgrade, set_marks, retire}
use Rattle.rules.specs.Refusal.{first_of, subjects_held, owner_only, held, not_below}
use Rattle.rules.proofs.Lists.{not_not, second_not, T_true}
use Rattle.rules.proofs.Refusals.{numbered, first_of_none, first_of_some, passes_of}
use Rattle.block.specs.Bytes.{IsBytes, leading}
use Rattle.block.specs.Block.{count_in, decode}
use Rattle.block.specs.WellFormed.{well_formed}
use Rattle.block.specs.Records.{delegation_at, delegations_to}
use Rattle.refusals.proofs.Holding.{weight_stands, weight_missing}

module _ (t : List ℤ) (R : Register) (y g r : ℕ) where
  revoke_numbered : T (numbered (held t R (revoke y g r)))
  unfolding held
  revoke_numbered = tt

  -- the pair of a revocation that is not refused stands
  pub revoke_stands : first_of (held t R (revoke y g r)) ≡ 0 → stands R g r ≡ true
  unfolding held
  revoke_stands e = let p = passes_of (held t R (revoke y g r)) tt e in T_true (stands R g r) (not_not (stands R g r) (p 13))

  module _ (w : ℕ) where
    downgrade_list : held t R (downgrade y g r w) ≡ held t R (revoke y g r) ++ (not_below R g r w ∷ [])
    unfolding held
    downgrade_list = refl

    -- a downgrade is refused as a revocation is, or by its weight
    pub downgrade_early : first_of (held t R (revoke y g r)) ≢ 0 → first_of (held t R (revoke y g r)) ≡ first_of (held t R (downgrade y g r w))
    downgrade_early n = sym (ap first_of downgrade_list ∙ first_of_some (held t R (revoke y g r)) (not_below R g r w ∷ []) (first_of (held t R (revoke y g r))) revoke_numbered refl n)

    pub downgrade_late : first_of (held t R (revoke y g r)) ≡ 0 → first_of (not_below R g r w ∷ []) ≡ first_of (held t R (downgrade y g r w))
    downgrade_late e = sym (ap first_of downgrade_list ∙ first_of_none (held t R (revoke y g r)) (not_below R g r w ∷ []) revoke_numbered e)

    pub downgrade_stands : first_of (held t R (downgrade y g r w)) ≡ 0 → stands R g r ≡ true
    unfolding held
    downgrade_stands e = let p = passes_of (held t R (downgrade y g r w)) tt e in T_true (stands R g r) (not_not (stands R g r) (p 13))

-- the tests of what only the owner may do to a subject, who is enrolled where none applies
module _ (t : List ℤ) (R : Register) (y s : ℕ) where
  abbrev owners : List (ℕ × Bool)
  owners = subjects_held R (y ∷ s ∷ []) ++ (owner_only y ∷ [])

  pub marks_owners : (m : ℕ) → first_of owners ≡ first_of (held t R (set_marks y s m))
  unfolding held
  marks_owners m = refl

  pub retire_owners : first_of owners ≡ first_of (held t R (retire y s))
  unfolding held
  retire_owners = refl

  owners_enrolled : first_of owners ≡ 0 → s < R.subjects
  owners_enrolled e = nleb→lt R.subjects s (second_not (leb R.subjects y) (leb R.subjects s) (passes_of owners tt e 9))

  pub marks_enrolled : (m : ℕ) → first_of (held t R (set_marks y s m)) ≡ 0 → s < R.subjects
  marks_enrolled m e = owners_enrolled (marks_owners m ∙ e)

  pub retire_enrolled : first_of (held t R (retire y s)) ≡ 0 → s < R.subjects
  retire_enrolled e = owners_enrolled (retire_owners ∙ e)

-- the test of 15, as the code makes it; k is the pair's place
module _ (b : List ℕ) (bytes : IsBytes b) (formed : well_formed b ≡ true) (g r k : ℕ) (place : k ≡ leading (λ d. not (is_pair g r d)) (delegations_to b (count_in b))) where
  pub below_missing : count_in b ≤ k → (w : ℕ) → (not_below (decode b) g r w).1 ≡ true
  below_missing l w = ap (λ (z : ℤ). leb (code z) (suc w)) (weight_missing b bytes formed g r k place l) ∙ le-leb 0 (suc w) zero-le

  pub below_found : (l : k < count_in b) (w v : ℕ) → v ≡ (delegation_at b k).weight → (not_below (decode b) g r w).1 ≡ leb v w
  below_found l w v e = ap (λ (z : ℤ). leb (code z) (suc w)) (weight_stands b bytes formed g r k place l ∙ ap pos (sym e)) ∙ leb-suc-suc v w
