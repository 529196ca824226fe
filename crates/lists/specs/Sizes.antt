-- The sizes of a list of calls. Assumes nothing.
use Rattle.std.specs.Prelude.{ℕ, suc, ◌*◌}
use Rattle.block.specs.Layout.{block_size}

-- the most calls of a list
abbrev pub most_calls : ℕ
most_calls = 200

-- the bytes of the blocks that are kept: a slot more than calls
abbrev pub slots_size : ℕ
slots_size = block_size * suc most_calls
