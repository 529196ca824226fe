-- `regfile::render` writes the text of the register that a block holds. Assumes nothing.
use mathlib.Core.Path.{sym, ◌∙◌}
use native.Mathlib.Omega.{arith}
use Rattle.block.specs.Block.{decode}
use Rattle.block.proofs.Bytes.{fits_bytes}
use Rattle.block.proofs.Held.{has_head}
use Rattle.regfile.specs.FileText.{subject_names, delegation_names}
use Rattle.regfile.proofs.Writing.{subject_count, delegation_count, names_room, subjects_room, more_room, delegations_room, all_written}
use Rattle.regfile.proofs.write.render.Goals as goal

pub write_bytes-subjects-requires : goal.write_bytes-subjects-requires
unfolding subject_names
write_bytes-subjects-requires c = names_room (decode c.args.b.now) c.args.buf.now c.requires.1

pub subjects-requires : goal.subjects-requires
subjects-requires c =
    omega (arith, has_head c.args.b.now (fits_bytes c.args.b.now c.type_inv.b) c.requires.0)

pub write_rows-names-requires : goal.write_rows-names-requires
unfolding subject_names
write_rows-names-requires c =
    let a = c.write_bytes-subjects in (
      c.requires.0,
      c.from-enrolled.ensures ∙ c.subjects.ensures ∙ sym (subject_count c.args.b.now (fits_bytes c.args.b.now c.type_inv.b) c.requires.0),
      subjects_room (decode c.args.b.now) c.args.buf.now c.requires.1 a.result a.new.buf a.ensures,
    )

pub write_bytes-delegations-requires : goal.write_bytes-delegations-requires
unfolding subject_names delegation_names
write_bytes-delegations-requires c =
    let a = c.write_bytes-subjects in
    let d = c.write_rows-names in
    more_room (decode c.args.b.now) c.args.buf.now c.requires.1 a.result a.new.buf a.ensures d.result d.new.buf d.ensures

pub count-requires : goal.count-requires
count-requires c =
    has_head c.args.b.now (fits_bytes c.args.b.now c.type_inv.b) c.requires.0

pub write_rows-requires : goal.write_rows-requires
unfolding subject_names delegation_names
write_rows-requires c =
    let a = c.write_bytes-subjects in
    let d = c.write_rows-names in
    let e = c.write_bytes-delegations in (
      c.requires.0,
      c.count.ensures ∙ sym (delegation_count c.args.b.now (fits_bytes c.args.b.now c.type_inv.b) c.requires.0),
      delegations_room (decode c.args.b.now) c.args.buf.now c.requires.1 a.result a.new.buf a.ensures d.result d.new.buf d.ensures e.result e.new.buf e.ensures,
    )

pub returns : goal.returns
unfolding subject_names delegation_names
returns c =
    let a = c.write_bytes-subjects in
    let d = c.write_rows-names in
    let e = c.write_bytes-delegations in
    let f = c.write_rows in
    all_written (decode c.args.b.now) c.args.buf.now c.requires.1 a.result a.new.buf a.ensures d.result d.new.buf d.ensures e.result e.new.buf e.ensures f.result f.new.buf f.ensures
