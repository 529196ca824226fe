-- `regfile::write_row` writes the line of a place. Assumes nothing.
use mathlib.Core.Path.{sym, subst, ap}
use native.Mathlib.Omega.{arith}
use Rattle.regfile.specs.Parsed.{columns}
use mathlib.Core.List.{List}
use lib.IntN.{ℤ}
use Rattle.text.specs.Text.{line}
use Rattle.text.specs.Write.{Room, Written}
use Rattle.block.proofs.Bytes.{fits_bytes}
use Rattle.regfile.proofs.Writing.{subject_at, delegation_at_lem}
use Rattle.regfile.proofs.write.write_row.Goals as goal

pub write_subject-requires : goal.write_subject-requires
write_subject-requires c =
    let (m, l, e) = subject_at c.args.b.now (fits_bytes c.args.b.now c.type_inv.b) c.requires.0 (columns c.args.part) c.args.k c.requires.1 (ap columns c.in-Subjects.is) in
    (m, l, subst (λ (zs : List ℤ). Room c.args.at (line zs) c.args.buf.now) e c.requires.2)

pub returns-in-Subjects : goal.returns-in-Subjects
returns-in-Subjects c =
    let (m, l, e) = subject_at c.args.b.now (fits_bytes c.args.b.now c.type_inv.b) c.requires.0 (columns c.args.part) c.args.k c.requires.1 (ap columns c.in-Subjects.is) in
    let w = c.write_subject in
    subst (λ (zs : List ℤ). Written c.args.at (line zs) c.args.buf.now w.result w.new.buf) (sym e) w.ensures

pub write_delegation-requires : goal.write_delegation-requires
write_delegation-requires c =
    let (m, e) = delegation_at_lem c.args.b.now (fits_bytes c.args.b.now c.type_inv.b) c.requires.0 (columns c.args.part) c.args.k c.requires.1 (λ q. absurd (omega (arith, ap columns c.in-Delegations.is, q))) in
    (m, subst (λ (zs : List ℤ). Room c.args.at (line zs) c.args.buf.now) e c.requires.2)

pub returns-in-Delegations : goal.returns-in-Delegations
returns-in-Delegations c =
    let (m, e) = delegation_at_lem c.args.b.now (fits_bytes c.args.b.now c.type_inv.b) c.requires.0 (columns c.args.part) c.args.k c.requires.1 (λ q. absurd (omega (arith, ap columns c.in-Delegations.is, q))) in
    let w = c.write_delegation in
    subst (λ (zs : List ℤ). Written c.args.at (line zs) c.args.buf.now w.result w.new.buf) (sym e) w.ensures
