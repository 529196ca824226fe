-- A field of a block, read from where its part begins. Assumes nothing.
use mathlib.Core.Path.{◌≡◌, sym, subst}
use mathlib.Core.Bool.{true}
use mathlib.Core.List.{List}
use Prim.Native.Nat.{ℕ, ◌+◌, ◌≤◌}
use native.Mathlib.Nat.{add_assoc}
use lib.Dec.{T, leb→le}
use lib.ListN.{drop}
use lib.Seq.{get_or-drop}
use Rattle.block.specs.Layout.{most_records}
use Rattle.block.specs.Bytes.{two}
use Rattle.block.specs.Block.{subjects_in, count_in}
use Rattle.block.specs.WellFormed.{head_tests, head_formed}
use Rattle.block.proofs.Tests.{Each, end, ◌▸◌, each}

-- two bytes at j of the part that begins at `at`
pub two_in : (s : List ℕ) (at j : ℕ) → two s (at + j) ≡ two (drop at s) j
two_in s at j = simp (get_or-drop, add_assoc)

-- a formed head: some are enrolled, and at most so many delegations are counted
pub head_some : (b : List ℕ) → head_formed b ≡ true → 1 ≤ subjects_in b
head_some b t = go (each head_tests b (subst T (sym t) tt))
  where
    go : Each b head_tests → 1 ≤ subjects_in b
    go (some ▸ most ▸ free ▸ few ▸ end) = leb→le 1 (subjects_in b) some

pub head_few : (b : List ℕ) → head_formed b ≡ true → count_in b ≤ most_records
head_few b t = go (each head_tests b (subst T (sym t) tt))
  where
    go : Each b head_tests → count_in b ≤ most_records
    go (some ▸ most ▸ free ▸ few ▸ end) = leb→le (count_in b) most_records few
