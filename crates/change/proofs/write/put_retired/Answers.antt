-- `change::put_retired` stores the eight bytes. Assumes nothing.
use mathlib.Core.Path.{refl, ◌∙◌}
use native.Mathlib.Omega.{arith}
use Rattle.block.specs.Layout.{retired_at, retired_size}
use Rattle.block.specs.Bytes.{wide_bytes}
use Rattle.block.proofs.Wide.{eight_bytes}
use Rattle.change.proofs.Storing.{stored}
use Rattle.change.proofs.write.put_retired.Goals as goal

pub returns : goal.returns
returns c =
    let a = c.args in
    stored a.b.now (wide_bytes retired_size a.bits) _ retired_at retired_size (c.copy_from_slice.ensures.after ∙ c.to_le_bytes.ensures ∙ eight_bytes a.bits) refl (omega arith)
