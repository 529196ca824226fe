-- What is left of the records of a block, written from the first place on. Assumes nothing.
use Rattle.std.specs.Prelude.{◌≡◌, List, ◌++◌, ℕ, ◌≤◌, ◌<◌, ℤ, pos, length, get_or, take, drop}
use Rattle.rules.specs.List.{concat_map}
use Rattle.rules.specs.Limit.{◌≼◌}
use Rattle.block.specs.Layout.{most_records, records_at}
use Rattle.block.specs.Block.{record_bytes}
use Rattle.block.specs.Records.{record_place, HasRecord, HasRecords, delegation_at, left_to}

-- record `from` of b may be written at the place `to` with this weight
pub record Movable (b : List ℕ) (from to : ℕ) (weight : ℤ) : Type 0 where
  pub down : to ≤ from
  pub few : from < most_records
  pub room : HasRecord b from
  pub most : weight ≼ pos 255

-- each of the first n records of b has a weight
pub record Weighed (b : List ℕ) (weights : List ℤ) (n : ℕ) : Type 0 where
  pub few : n ≤ most_records
  pub room : HasRecords b n
  pub given : n ≤ length weights
  pub most : (k : ℕ) → k < n → get_or weights k (pos 0) ≼ pos 255

-- c is b with what is left of its first n records, each at its new weight, written from the first place on: m of them
pub record LeftWritten (b : List ℕ) (weights : List ℤ) (n m : ℕ) (c : List ℕ) : Type 0 where
  pub count : m ≡ length (left_to (delegation_at b) weights n)
  pub bytes : c ≡ take records_at b ++ (concat_map record_bytes (left_to (delegation_at b) weights n) ++ drop (record_place m) b)
