-- Room made for a record, and closed again. Assumes nothing.
use Rattle.std.specs.Prelude.{List, ◌++◌, ℕ, ◌+◌, ◌-◌, take, drop}
use Rattle.std.proofs.Math.Seq.{paste}
use Rattle.block.specs.Layout.{record_size}

-- the bytes from at to end, moved up by the size of a record
unfoldable pub moved_up : List ℕ → ℕ → ℕ → List ℕ
moved_up b at end = take (at + record_size) b ++ (take (end - at) (drop at b) ++ drop (end + record_size) b)

-- the bytes after the record at `at` up to end, moved down by the size of a record
unfoldable pub moved_down : List ℕ → ℕ → ℕ → List ℕ
moved_down b at end = paste b at (drop (at + record_size) b) (end - (at + record_size))
