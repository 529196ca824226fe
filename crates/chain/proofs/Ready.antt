-- What a caller has after a search: the reach of each subject, and that the links up to a subject with a reach may be written. Assumes nothing.
use mathlib.Core.Path.{◌≡◌, sym, ap, ◌∙◌, refl}
use mathlib.Core.Logic.{◌≢◌, ◌⊎◌, inl, inr}
use mathlib.Core.List.Memᴰ
use mathlib.Core.List.{List, [], ◌∷◌}
use Prim.Native.Nat.{ℕ, ◌<◌}
use native.Mathlib.Nat.{zero-add}
use native.Mathlib.Omega.{arith}
use lib.ListN.{length, get_or}
use lib.IntN.{ℤ}
use Rattle.rules.specs.Limit.{none}
use Rattle.rules.specs.Register.{Delegation, no_delegation}
use Rattle.rules.specs.Chain.{limit, IsChain}
use Rattle.rules.specs.Reach.{reach}
use Rattle.rules.proofs.Lists.{mem_length, get_d_tabulate}
use Rattle.block.proofs.Bytes.{length_tabulate}
use Rattle.block.specs.Layout.{most_subjects}
use Rattle.search.specs.Search.{under_marks, parent_in, most_links}
use Rattle.runs.specs.Lent.{record_count, record_at, Lent, delegations_in}
use Rattle.search.specs.Found.{Searched}
use Rattle.runs.proofs.Records.{delegation_at_lem}
use Rattle.chain.specs.Links.{Traceable, links_of}

-- the parent of a subject is the record at its place
pub parent_record : (s p : List ℕ) (u : ℕ) → get_or p u 0 < record_count s → parent_in (delegations_in s) p u ≡ record_at s (get_or p u 0)
parent_record s p u h = delegation_at_lem s (record_count s) (get_or p u 0) no_delegation h

module _ (t : List ℤ) (s : List ℕ) (marks : ℕ) (l : List ℤ) (p : List ℕ) (f : Searched t s marks l p) where
  -- the limit found is the reach
  pub limit_reach : (u : ℕ) → u < most_subjects → get_or l u none ≡ reach t (under_marks (delegations_in s) marks) u 0
  limit_reach u h =
      ap (λ (x : List ℤ). get_or x u none) f.limits ∙ get_d_tabulate (λ v. reach t (under_marks (delegations_in s) marks) v 0) none 0 most_subjects u h
      ∙ ap (λ (v : ℕ). reach t (under_marks (delegations_in s) marks) v 0) (zero-add u)

  -- the links up to a subject that has a reach can be followed back
  pub traceable : Lent t s (record_count s) → length p ≡ most_subjects → (u : ℕ) → u < most_subjects → get_or l u none ≢ none → Traceable s p u
  traceable lent size u h n = record { size = size; subject = h; placed = λ z. f.among (some z (f.leads u h)); givers = lent.givers }
    where
      count : (ds : List Delegation) → u ≢ 0 → IsChain t (under_marks (delegations_in s) marks) u 0 ds → 0 < length (delegations_in s)
      count [] z c = absurd (z (sym c.linked))
      count (d ∷ ds) z c = mem_length (c.standing d (Memᴰ.head refl))

      some : u ≢ 0 → (reach t (under_marks (delegations_in s) marks) u 0 ≡ none)
          ⊎ (IsChain t (under_marks (delegations_in s) marks) u 0 (links_of s p most_links u) × (reach t (under_marks (delegations_in s) marks) u 0 ≡ limit t (links_of s p most_links u)))
          → 0 < record_count s
      some z (inl e) = absurd (n (limit_reach u h ∙ e))
      some z (inr q) = omega (arith, count (links_of s p most_links u) z q.0, length_tabulate (record_at s) 0 (record_count s))
