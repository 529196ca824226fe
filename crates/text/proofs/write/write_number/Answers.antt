-- `text::write_number` writes a number with its sign. Assumes nothing.
use mathlib.Core.Path.{subst}
use mathlib.Core.List.{List}
use Prim.Native.Nat.{ℕ}
use Rattle.text.specs.Text.{digits}
use Rattle.text.specs.Write.{Room}
use Rattle.text.proofs.Signed.{kept, negative_number}
use Rattle.text.proofs.Writing.{byte_then}
use Rattle.text.proofs.write.write_number.Goals as goal

pub returns : goal.returns
returns c =
    let k = kept c.args.z c.ranges.z in
    let e = negative_number c.args.z c.unsigned-2.result (rw k at c.if-z-ge0.false) c.unsigned-2.ensures c.requires.0 in
    rw e (byte_then c.args.at 45 (digits c.unsigned-2.result) c.args.buf.now _ _ (subst (λ (x : List ℕ). Room c.args.at x c.args.buf.now) e c.requires.1) c.write_plain-2.ensures)
