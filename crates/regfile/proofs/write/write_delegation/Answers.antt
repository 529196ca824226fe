-- `regfile::write_delegation` writes the fields of a record. Assumes nothing.
use Rattle.std.proofs.Common.{◌≡◌, [], ◌∷◌, ℤ, pos, map, arith}
use mir.Syntax.{w64}
use mir.Val.{of_z, to_z}
use Rattle.rules.specs.Register.{fields}
use Rattle.block.specs.Records.{delegation_at}
use Rattle.regfile.proofs.Writing.{Small, column_is, row_room, row_written}
use Rattle.regfile.proofs.write.write_delegation.Goals as goal
use Rattle.regfile.proofs.write.write_delegation.Goals.{After-from-kind}

-- the fields read
module _ (c : After-from-kind) where
  abbrev held : ℤ → ℤ
  held x = to_z w64 (of_z w64 x)

  meant : held c.from-giver.result ∷ held c.from-receiver.result ∷ held c.from-weight.result ∷ held c.from-need.result ∷ held c.from-bar.result ∷ held c.from-kind.result ∷ [] ≡ map pos (fields (delegation_at c.args.b.now c.args.k))
  meant = λ i. column_is c.from-giver.ensures c.giver.ensures (omega arith) i ∷ column_is c.from-receiver.ensures c.receiver.ensures (omega arith) i ∷ column_is c.from-weight.ensures c.weight.ensures (omega arith) i
      ∷ column_is c.from-need.ensures c.need.ensures (omega arith) i ∷ column_is c.from-bar.ensures c.bar.ensures (omega arith) i ∷ column_is c.from-kind.ensures c.kind.ensures (omega arith) i ∷ []

  small : Small (fields (delegation_at c.args.b.now c.args.k))
  small = (omega (arith, c.giver.ensures), (omega (arith, c.receiver.ensures), (omega (arith, c.weight.ensures), (omega (arith, c.need.ensures), (omega (arith, c.bar.ensures), (omega (arith, c.kind.ensures), tt))))))

pub write_line-requires : goal.write_line-requires
write_line-requires c =
    let d = (goal.at.write_line-requires c).After-from-kind in
    row_room _ (fields (delegation_at c.args.b.now c.args.k)) (small d) (meant d) c.args.at c.args.buf.now c.requires.1

pub returns : goal.returns
returns c =
    let d = (goal.at.returns c).After-from-kind in
    row_written _ (fields (delegation_at c.args.b.now c.args.k)) (small d) (meant d) c.args.at c.args.buf.now c.write_line.result c.write_line.new.buf c.write_line.ensures
