-- `callfile::CallReader::read_next` reads the call of a line, and moves on where there is one. Assumes nothing.
use Rattle.std.proofs.Common.{refl, sym, ◌∙◌}
use Rattle.callfile.proofs.Lines.{call_missing, call_other, call_there}
use Rattle.callfile.proofs.CallReader.read_next.Goals as goal

pub returns-in_err-next : goal.returns-in_err-next
returns-in_err-next c = rw c.from_residual.ensures (call_missing c.args.self.now.lines.now c.args.self.now.at _ c.read_line.new.values refl c.in_err-next.ensures, refl)

pub row_of-row-requires : goal.row_of-row-requires
row_of-row-requires c = let m = c.in_ok-next.ensures in (c.read_line.auto.values, m.read.0)

pub returns-then-not-is_row : goal.returns-then-not-is_row
returns-then-not-is_row c = (call_other c.args.self.now.lines.now c.args.self.now.at _ c.read_line.new.values refl c.in_ok-next.next c.in_ok-next.ensures c.row_of-row.result c.row_of-row.ensures (sym c.is_row.ensures ∙ c.if-not-is_row.true), refl)

pub returns : goal.returns
returns c = (call_there c.args.self.now.lines.now c.args.self.now.at _ c.read_line.new.values refl c.in_ok-next.next c.in_ok-next.ensures c.row_of-row.result c.row_of-row.ensures (sym c.is_row.ensures ∙ c.if-not-is_row.false), refl)
