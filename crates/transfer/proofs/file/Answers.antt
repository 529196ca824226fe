-- `transfer::file` hands back the front of the buffer that it filled. Assumes nothing.
use Rattle.std.proofs.Common.{◌≡◌, ◌≤◌, length, sym, ap, subst, Ok, arith, rules}
use lib.Seq.{length-take-le}
use Rattle.transfer.specs.Filled.{Filled, filled_of}
use Rattle.transfer.specs.FileOn.{WriteMade}
use Rattle.transfer.proofs.Writing.{front_fits}
use Rattle.transfer.proofs.file.Goals as goal
use Rattle.transfer.proofs.file.Goals.{In_ok-length}

fits : (c : In_ok-length) → c.in_ok-length.length ≤ length c.write_file.new.buf
fits c =
    let a = c.args in
    let was : c.write_file.result ≡ Ok c.in_ok-length.length = search rules in
    let made = subst (λ (o : Filled). WriteMade a.block.now a.buf.now o c.write_file.new.buf) (ap filled_of was) c.write_file.ensures in
    front_fits a.block.now a.buf.now _ c.write_file.new.buf made

pub slice_bounds-result-end : goal.slice_bounds-result-end
slice_bounds-result-end c = sym (length-take-le _ _ (omega (arith, fits (goal.at.slice_bounds-result-end c).In_ok-length)))
