-- The records that a search is lent, as bytes, and what is asked of them and of the lists that it fills. Assumes nothing.
use Rattle.std.specs.Prelude.{◌≡◌, List, ℕ, ◌+◌, ◌*◌, ◌/◌, ◌≤◌, ◌<◌, length, drop, ℤ}
use Rattle.rules.specs.List.{◌∈◌}
use Rattle.rules.specs.Table.{TableRule}
use Rattle.rules.specs.Register.{Delegation}
use Rattle.rules.specs.WellFormed.{Rising}
use Rattle.block.specs.Layout.{most_subjects, most_records, record_size}
use Rattle.block.specs.Bytes.{read_all}
use Rattle.block.specs.Block.{delegation_in}

-- how many records these bytes are
abbrev pub record_count : List ℕ → ℕ
record_count s = length s / record_size

-- the delegation whose record is at place k
abbrev pub record_at : List ℕ → ℕ → Delegation
record_at s k = delegation_in (drop (record_size * k) s)

-- the delegations of the first n records
abbrev pub delegations_of : List ℕ → ℕ → List Delegation
delegations_of s n = read_all delegation_in record_size s n

-- the delegations whose records these bytes are
abbrev pub delegations_in : List ℕ → List Delegation
delegations_in s = delegations_of s (record_count s)

-- what is lent to a search: a table that keeps the rule, and records that rise and name subjects
pub record Lent (t : List ℤ) (s : List ℕ) (n : ℕ) : Type 0 where
  pub rule : TableRule t
  pub size : length s ≡ record_size * n
  pub few : n ≤ most_records
  pub rising : Rising (delegations_of s n)
  pub givers : (d : Delegation) → d ∈ delegations_of s n → d.giver < most_subjects
  pub receivers : (d : Delegation) → d ∈ delegations_of s n → d.receiver < most_subjects

-- a run of records, the first of which is at the place `first`
pub record RunLent (run : List ℕ) (first : ℕ) : Type 0 where
  pub few : first + record_count run ≤ most_records
  pub receivers : (k : ℕ) → k < record_count run → (record_at run k).receiver < most_subjects

-- one record, which begins at `at` and is at this place
pub record RecordLent (s : List ℕ) (at place : ℕ) : Type 0 where
  pub whole : at + record_size ≤ length s
  pub few : place < most_records
  pub receiver : (delegation_in (drop at s)).receiver < most_subjects

-- what a search finds has a limit and a parent for each subject
pub record SubjectLists (l : List ℤ) (p : List ℕ) : Type 0 where
  pub limits : length l ≡ most_subjects
  pub parents : length p ≡ most_subjects
