-- The sizes and offsets of the block (document 01, 'The block'; document 02, C-16 and C-18). Assumes nothing.
use Rattle.std.specs.Prelude.{ℕ, ◌+◌, ◌*◌}

abbrev pub block_size : ℕ
block_size = 2188

-- the most subjects, and the most delegations
abbrev pub most_subjects : ℕ
most_subjects = 64

abbrev pub most_records : ℕ
most_records = 256

-- the bytes of a subject's marks, and of a record
abbrev pub mark_size : ℕ
mark_size = 2

abbrev pub record_size : ℕ
record_size = 8

-- the bytes of all marks, of the bits of the retired subjects, and of all records
abbrev pub marks_size : ℕ
marks_size = mark_size * most_subjects

abbrev pub retired_size : ℕ
retired_size = 8

abbrev pub records_size : ℕ
records_size = record_size * most_records

-- where the unused byte of the head, the count of delegations, the marks, the bits of the retired subjects and the records begin
abbrev pub free_at : ℕ
free_at = 1

abbrev pub count_at : ℕ
count_at = 2

abbrev pub marks_at : ℕ
marks_at = 4

abbrev pub retired_at : ℕ
retired_at = marks_at + marks_size

abbrev pub records_at : ℕ
records_at = retired_at + retired_size

-- where each field of a record begins
abbrev pub giver_byte : ℕ
giver_byte = 0

abbrev pub receiver_byte : ℕ
receiver_byte = 1

abbrev pub weight_byte : ℕ
weight_byte = 2

abbrev pub kind_byte : ℕ
kind_byte = 3

abbrev pub need_byte : ℕ
need_byte = 4

abbrev pub bar_byte : ℕ
bar_byte = 6
