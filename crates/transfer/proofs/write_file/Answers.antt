-- `transfer::write_file` writes the text of a register or refuses. Assumes nothing.
use mathlib.Core.Path.{sym, ◌∙◌}
use native.Mathlib.Omega.{arith}
use Rattle.rules.proofs.Lists.{not_true, not_false}
use Rattle.block.proofs.Bytes.{fits_bytes}
use Rattle.transfer.proofs.Writing.{Writable, write_long, write_short, write_unformed, write_refused, write_room, write_filled}
use Rattle.transfer.proofs.write_file.Goals as goal
use Rattle.transfer.proofs.write_file.Goals.{Else-not-well_formed}

past : (c : Else-not-well_formed) → let a = c.args in Writable a.block.now a.buf.now
past c = record {
  long = c.if-block-ne-BLOCK_SIZE.false;
  room = c.if-buf-lt-TEXT_SIZE.false;
  formed = sym c.well_formed-2.ensures ∙ not_false c.well_formed-2.result c.if-not-well_formed.false-raw;
}

pub returns-then-block-ne-BLOCK_SIZE : goal.returns-then-block-ne-BLOCK_SIZE
returns-then-block-ne-BLOCK_SIZE c =
    let a = c.args in
    (write_refused a.block.now a.buf.now 1 (write_long a.block.now a.buf.now c.if-block-ne-BLOCK_SIZE.true) (λ e. omega arith))

pub returns-then-buf-lt-TEXT_SIZE : goal.returns-then-buf-lt-TEXT_SIZE
returns-then-buf-lt-TEXT_SIZE c =
    let a = c.args in
    (write_refused a.block.now a.buf.now 1 (write_short a.block.now a.buf.now c.if-block-ne-BLOCK_SIZE.false c.if-buf-lt-TEXT_SIZE.true) (λ e. omega arith))

pub returns-then-not-well_formed : goal.returns-then-not-well_formed
returns-then-not-well_formed c =
    let w = c.well_formed-2 in
    let a = c.args in
    (write_refused a.block.now a.buf.now 8 (write_unformed a.block.now a.buf.now c.if-block-ne-BLOCK_SIZE.false c.if-buf-lt-TEXT_SIZE.false (sym w.ensures ∙ not_true w.result c.if-not-well_formed.true-raw)) (λ e. omega arith))

pub render-requires : goal.render-requires
render-requires c = let a = c.args in ((past (goal.at.render-requires c).Else-not-well_formed).formed, write_room a.block.now a.buf.now (fits_bytes c.args.block.now c.shared_slice_known-1.given) (past (goal.at.render-requires c).Else-not-well_formed))

pub returns : goal.returns
returns c =
    let r = c.render in
    let a = c.args in
    write_filled a.block.now a.buf.now (fits_bytes c.args.block.now c.shared_slice_known-1.given) (past (goal.at.returns c).Else-not-well_formed) r.result r.new.buf r.ensures
