-- What a search on a block takes, and what a search hands out: the reaches, the parents, which lead back along chains, and the order in which subjects are settled. Assumes nothing.
use Rattle.std.specs.Prelude.{◌≡◌, List, true, ℕ, ◌≤◌, ◌<◌, length, get_or, take, ℤ}
use Rattle.rules.specs.Limit.{none}
use Rattle.rules.specs.Table.{TableRule}
use Rattle.rules.specs.Register.{Register}
use Rattle.rules.specs.Reach.{reach}
use Rattle.rules.specs.Order.{IsOrder}
use Rattle.block.specs.Layout.{most_subjects}
use Rattle.block.specs.Block.{records_in}
use Rattle.block.specs.WellFormed.{well_formed}
use Rattle.queue.specs.Queue.{Empty}
use Rattle.runs.specs.Lent.{record_count, delegations_in, SubjectLists}
use Rattle.runs.specs.Steps.{Starts}
use Rattle.search.specs.Search.{under_marks, reaches, LeadBack}

-- a well-formed block, and a table that keeps the rule
pub record Searchable (t : List ℤ) (b : List ℕ) : Type 0 where
  pub formed : well_formed b ≡ true
  pub rule : TableRule t

-- such a block and table, and where the run of each giver starts in the block's records
pub record Prepared (t : List ℤ) (b places : List ℕ) : Type 0 where
  pub block : Searchable t b
  pub starts : Starts (records_in b) places

-- what a search fills, and a queue in which none waits
pub record SearchLent (l : List ℤ) (p q : List ℕ) : Type 0 where
  pub lists : SubjectLists l p
  pub queue : Empty q

-- such, and room for the subjects in their order
pub record OrderLent (l : List ℤ) (p q xs : List ℕ) : Type 0 where
  pub search : SearchLent l p q
  pub order : length xs ≡ most_subjects

-- room for the limits and for the subjects in their order
pub record ItemsLent (l : List ℤ) (xs : List ℕ) : Type 0 where
  pub limits : length l ≡ most_subjects
  pub order : length xs ≡ most_subjects

-- the parent of every subject is the place of one of n records
abbrev pub ParentsAmong : List ℕ → ℕ → Type 0
ParentsAmong p n = (u : ℕ) → u < most_subjects → get_or p u 0 < n

pub record Searched (t : List ℤ) (s : List ℕ) (marks : ℕ) (l : List ℤ) (p : List ℕ) : Type 0 where
  pub limits : l ≡ reaches t (delegations_in s) marks
  pub leads : LeadBack t (delegations_in s) marks p
  pub among : 0 < record_count s → ParentsAmong p (record_count s)

-- the first n of xs are the subjects that have a reach, in the order in which they are settled
pub record SettledSo (t : List ℤ) (s : List ℕ) (marks : ℕ) (xs : List ℕ) (n : ℕ) : Type 0 where
  pub within : n ≤ length xs
  pub order : IsOrder t (under_marks (delegations_in s) marks) 0 (take n xs)

-- all that a search hands out; it leaves the queue empty
pub record SearchMade (t : List ℤ) (s : List ℕ) (marks : ℕ) (l : List ℤ) (p q xs : List ℕ) (n : ℕ) : Type 0 where
  pub searched : Searched t s marks l p
  pub empty : Empty q
  pub settled : SettledSo t s marks xs n

-- l are the reaches of all subjects for the receiver v in the register R, and the first n of xs are the order for v
pub record OrderFound (t : List ℤ) (R : Register) (v : ℕ) (l : List ℤ) (xs : List ℕ) (n : ℕ) : Type 0 where
  pub size : length l ≡ most_subjects
  pub limits : (u : ℕ) → u < most_subjects → get_or l u none ≡ reach t R u v
  pub within : n ≤ length xs
  pub order : IsOrder t R v (take n xs)
