-- `block::retired` is the number of eight bytes. Assumes nothing.
use mathlib.Core.Path.{ap, ◌∙◌}
use Rattle.std.specs.Int.{w64, from_le_bytes}
use Rattle.block.specs.Layout.{retired_at}
use Rattle.block.proofs.Wide.{wide_eight}
use Rattle.block.proofs.read.retired.Goals as goal

pub returns : goal.returns
returns c =
    let eight = rw c.unwrap.ensures at c.try_into.ensures.1 in
    c.from_le_bytes.ensures ∙ ap (from_le_bytes w64) eight.same ∙ wide_eight c.args.b.now retired_at
