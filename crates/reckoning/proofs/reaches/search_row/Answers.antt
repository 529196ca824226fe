-- `reckoning::search_row` writes the reaches of one receiver into its row. Assumes nothing.
use mathlib.Core.Path.{◌≡◌, ◌∙◌}
use Prim.Native.Nat.{◌+◌, ◌*◌, ◌-◌, ◌≤◌}
use native.Mathlib.Omega.{arith}
use lib.ListN.{length}
use lib.IntN.{pos}
use Rattle.block.specs.Layout.{most_subjects}
use Rattle.block.proofs.Bytes.{fits_bytes}
use Rattle.block.proofs.Held.{rules_of}
use Rattle.search.proofs.Searching.{reach_found}
use Rattle.reckoning.proofs.Filling.{row_length, put_in, put_out}
use Rattle.reckoning.proofs.reaches.search_row.Goals as goal
use mathlib.Core.Bool.{true}
use mathlib.Core.List.{List}
use Prim.Native.Nat.{ℕ, ◌<◌}
use lib.IntN.{ℤ}
use Rattle.block.specs.Bytes.{IsBytes}
use Rattle.block.specs.Block.{subjects_in}
use Rattle.block.specs.WellFormed.{well_formed}
use Rattle.reckoning.specs.Reckoned.{reach_count}

-- the row lies in the table
room : (b : List ℕ) (receiver : ℕ) (reaches : List ℤ) → IsBytes b → well_formed b ≡ true → receiver < subjects_in b → length reaches ≡ reach_count → most_subjects * receiver + most_subjects ≤ length reaches
room b receiver reaches bytes formed small size = omega (arith, (rules_of b bytes formed).most)

pub slice_bounds-limits_by-end : goal.slice_bounds-limits_by-end
slice_bounds-limits_by-end c = omega (arith, room c.args.block.now c.args.receiver c.args.reaches.now (fits_bytes c.args.block.now c.type_inv.block) c.requires.0.block.formed c.requires.1 c.requires.2.size)

pub returns : goal.returns
returns c =
    let a = c.args in
    let r = a.receiver in
    let f = c.limits_by in
    let row = f.new.limits in
    let w : most_subjects * r + most_subjects - most_subjects * r ≡ most_subjects = omega arith in
    let size : length row ≡ most_subjects = row_length _ _ _ row _ f.ensures.0 in
    rw w (
      record {
        row = λ u h. put_in a.reaches.now row (most_subjects * r) most_subjects (pos 0) (room c.args.block.now c.args.receiver c.args.reaches.now (fits_bytes c.args.block.now c.type_inv.block) c.requires.0.block.formed c.requires.1 c.requires.2.size) size u h
            ∙ reach_found a.block.now (fits_bytes a.block.now c.type_inv.block) c.requires.0.block.formed a.table.now r row _ f.ensures.0 u h;
        rest = λ i h. put_out a.reaches.now row (most_subjects * r) most_subjects (pos 0) (room c.args.block.now c.args.receiver c.args.reaches.now (fits_bytes c.args.block.now c.type_inv.block) c.requires.0.block.formed c.requires.1 c.requires.2.size) size i h;
      },
      f.ensures.1,
    )
