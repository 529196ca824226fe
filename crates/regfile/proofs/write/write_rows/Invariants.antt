-- `regfile::write_rows` writes row by row. Assumes nothing.
use Rattle.block.specs.Block.{decode}
use Rattle.regfile.specs.FileText.{rows_of}
use Rattle.regfile.specs.Parsed.{columns}
use Rattle.regfile.proofs.Writing.{RowsWritten}
use Rattle.regfile.proofs.write.write_rows.Given as goal

abbrev pub invariant-loop-k : goal.invariant-loop-k
invariant-loop-k l = RowsWritten (rows_of (columns l.part) (decode l.b)) l.at l.initial.buf l.k l.next l.buf
