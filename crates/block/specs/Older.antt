-- Blocks of the layout before retired subjects were marked (document 01, 'The block'): no bits stand between the marks and the records. Assumes nothing.
use Rattle.std.specs.Prelude.{◌≡◌, true, List, ◌++◌, ℕ, ◌-◌, length, take, drop, replicate}
use Rattle.rules.specs.Register.{Register}
use Rattle.block.specs.Layout.{block_size, marks_at, retired_at, mark_size, retired_size, record_size}
use Rattle.block.specs.Bytes.{read_all}
use Rattle.block.specs.Block.{marks_in, delegation_in, subjects_in, count_in, decode}
use Rattle.block.specs.WellFormed.{well_formed}

abbrev pub old_size : ℕ
old_size = block_size - retired_size

-- the register that such a block holds: its records follow its marks, and nobody is retired
abbrev pub old_decode : List ℕ → Register
old_decode b = record {
  subjects = subjects_in b;
  marks = read_all marks_in mark_size (drop marks_at b) (subjects_in b);
  retired = 0;
  delegations = read_all delegation_in record_size (drop retired_at b) (count_in b);
}

-- the block in the present layout: zero bits after the marks
unfoldable pub brought : List ℕ → List ℕ
brought b = take retired_at b ++ (replicate retired_size 0 ++ drop retired_at b)

-- where it is well formed it holds the same register
abbrev pub BroughtSame : Type 0
BroughtSame = (b : List ℕ) → length b ≡ old_size → well_formed (brought b) ≡ true → decode (brought b) ≡ old_decode b
