-- `regfile::write_subject` writes a subject's number, its marks and whether it is retired. Assumes nothing.
use Rattle.std.proofs.Common.{◌≡◌, ◌∙◌, ap, List, [], ◌∷◌, ℕ, ℤ, pos, map, arith}
use mir.Syntax.{w64}
use mir.Val.{of_z, to_z, bool_byte}
use mir.Facts.{to_z_pos}
use Rattle.rules.specs.Bits.{bit}
use Rattle.rules.proofs.Bits.{bit_small}
use Rattle.block.specs.Block.{retired_in}
use Rattle.block.specs.Records.{marks_for}
use Rattle.regfile.proofs.Writing.{Small, column_is, row_room, row_written, retired_is}
use Rattle.regfile.proofs.write.write_subject.Goals as goal
use Rattle.regfile.proofs.write.write_subject.Goals.{After-from-retired}

-- the numbers read
module _ (c : After-from-retired) where
  abbrev values : List ℕ
  values = let a = c.args in a.s ∷ marks_for a.b.now a.s ∷ bit (retired_in a.b.now) a.s ∷ []

  number : bool_byte c.is_retired.result ≡ bit (retired_in c.args.b.now) c.args.s
  number = retired_is c.retired.result c.args.s c.is_retired.result c.is_retired.ensures ∙ ap (λ (n : ℕ). bit n c.args.s) c.retired.ensures

  abbrev held : ℤ → ℤ
  held x = to_z w64 (of_z w64 x)

  meant : to_z w64 c.args.s ∷ held c.from-marks.result ∷ held c.from-retired.result ∷ [] ≡ map pos values
  meant = λ i. to_z_pos w64 {n = c.args.s} (omega (arith, c.requires.1)) i ∷ column_is c.from-marks.ensures c.marks.ensures (omega arith) i
      ∷ column_is c.from-retired.ensures number (omega (arith, number, bit_small (retired_in c.args.b.now) c.args.s)) i ∷ []

  small : Small values
  small = (omega (arith, c.requires.1), (omega (arith, c.marks.ensures), (omega (arith, bit_small (retired_in c.args.b.now) c.args.s), tt)))

pub write_line-requires : goal.write_line-requires
write_line-requires c =
    let d = (goal.at.write_line-requires c).After-from-retired in
    row_room _ (values d) (small d) (meant d) c.args.at c.args.buf.now c.requires.2

pub returns : goal.returns
returns c =
    let d = (goal.at.returns c).After-from-retired in
    row_written _ (values d) (small d) (meant d) c.args.at c.args.buf.now c.write_line.result c.write_line.new.buf c.write_line.ensures
