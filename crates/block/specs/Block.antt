-- A register as a block of bytes, and back (document 01, 'The block'; document 02, C-16 and C-18). Assumes nothing.
use Rattle.std.specs.Prelude.{List, ◌∷◌, ◌++◌, ℕ, ◌*◌, length, get_or, take, drop}
use Rattle.rules.specs.List.{concat_map}
use Rattle.rules.specs.Register.{Delegation, Register}
use Rattle.block.specs.Layout.{count_at, marks_at, retired_at, records_at, mark_size, record_size, marks_size, retired_size, records_size, giver_byte, receiver_byte, weight_byte, kind_byte, need_byte, bar_byte}
use Rattle.block.specs.Bytes.{two, two_bytes, wide, wide_bytes, read_all, padded}

-- the marks that begin a list of bytes
abbrev pub marks_in : List ℕ → ℕ
marks_in s = two s 0

-- the delegation whose record begins a list of bytes: giver, receiver, weight, kind, need, bar
abbrev pub delegation_in : List ℕ → Delegation
delegation_in s = record { giver = get_or s giver_byte 0; receiver = get_or s receiver_byte 0; weight = get_or s weight_byte 0; need = two s need_byte; bar = two s bar_byte; kind = get_or s kind_byte 0 }

abbrev pub record_bytes : Delegation → List ℕ
record_bytes d = d.giver ∷ d.receiver ∷ d.weight ∷ d.kind ∷ (two_bytes d.need ++ two_bytes d.bar)

-- how many subjects are enrolled, and how many delegations stand
abbrev pub subjects_in : List ℕ → ℕ
subjects_in b = get_or b 0 0

abbrev pub count_in : List ℕ → ℕ
count_in b = two b count_at

-- the retired subjects: bit s of the number is subject s
abbrev pub retired_in : List ℕ → ℕ
retired_in b = wide retired_size b retired_at

-- the bytes of the records that stand
abbrev pub records_in : List ℕ → List ℕ
records_in b = take (record_size * count_in b) (drop records_at b)

-- the register that a block holds
unfoldable pub decode : List ℕ → Register
decode b = record {
  subjects = subjects_in b;
  marks = read_all marks_in mark_size (drop marks_at b) (subjects_in b);
  retired = retired_in b;
  delegations = read_all delegation_in record_size (drop records_at b) (count_in b);
}

-- the block that holds a register: four bytes, the marks, the bits of the retired subjects, the records
unfoldable pub encode : Register → List ℕ
encode R =
    (R.subjects ∷ 0 ∷ two_bytes (length R.delegations))
    ++ (padded marks_size (concat_map two_bytes R.marks) ++ (wide_bytes retired_size R.retired ++ padded records_size (concat_map record_bytes R.delegations)))
