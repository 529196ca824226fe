-- The marks and the records of a block by their place. Assumes nothing.
use Rattle.std.specs.Prelude.{List, [], ◌++◌, ℕ, zero, suc, ◌+◌, ◌*◌, ◌≤◌, ℤ, pos, length, get_or, drop}
use Rattle.rules.specs.Register.{Delegation}
use Rattle.rules.specs.Round.{placed}
use Rattle.block.specs.Layout.{marks_at, retired_at, records_at, mark_size, retired_size, record_size}
use Rattle.block.specs.Bytes.{read_all}
use Rattle.block.specs.Block.{marks_in, delegation_in}

-- where the marks of subject v begin, and where record k begins
abbrev pub mark_place : ℕ → ℕ
mark_place v = marks_at + mark_size * v

abbrev pub record_place : ℕ → ℕ
record_place k = records_at + record_size * k

-- the bytes reach as far as the head, the marks of subject v, the bits of the retired subjects, record k, the first n records
abbrev pub HasHead : List ℕ → Type 0
HasHead b = marks_at ≤ length b

abbrev pub HasMarks : List ℕ → ℕ → Type 0
HasMarks b v = mark_place v + mark_size ≤ length b

abbrev pub HasRetired : List ℕ → Type 0
HasRetired b = retired_at + retired_size ≤ length b

abbrev pub HasRecord : List ℕ → ℕ → Type 0
HasRecord b k = record_place k + record_size ≤ length b

abbrev pub HasRecords : List ℕ → ℕ → Type 0
HasRecords b n = record_place n ≤ length b

-- the marks of subject v
abbrev pub marks_for : List ℕ → ℕ → ℕ
marks_for b v = marks_in (drop (mark_size * v) (drop marks_at b))

-- the bytes from record k on
abbrev pub record_from : List ℕ → ℕ → List ℕ
record_from b k = drop (record_size * k) (drop records_at b)

-- the delegation of record k, and those of the first n records
abbrev pub delegation_at : List ℕ → ℕ → Delegation
delegation_at b k = delegation_in (record_from b k)

abbrev pub delegations_to : List ℕ → ℕ → List Delegation
delegations_to b n = read_all delegation_in record_size (drop records_at b) n

-- what is left of the first k delegations, each at its new weight; -1 removes it
abbrev pub left_to : (ℕ → Delegation) → List ℤ → ℕ → List Delegation
left_to f weights zero = []
left_to f weights (suc k) = left_to f weights k ++ placed (f k) (get_or weights k (pos 0))
