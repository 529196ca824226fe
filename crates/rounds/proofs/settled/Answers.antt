-- `rounds::settled` makes rounds until one changes nothing, and counts what became of the delegations. Assumes nothing.
use borrow.Author.Rules.{rules}
use mathlib.Core.Path.{refl, sym, ap, subst, ◌∙◌}
use mathlib.Core.List.{List}
use Prim.Native.Nat.{ℕ, suc}
use native.Mathlib.Numerals.{add-one}
use native.Mathlib.Omega.{arith}
use Rattle.rules.specs.Remainder.{Within}
use Rattle.rules.specs.Cut.{dropped, lowered}
use Rattle.block.specs.Block.{decode}
use Rattle.block.specs.WellFormed.{well_formed}
use Rattle.block.proofs.Bytes.{fits_bytes}
use Rattle.block.proofs.Held.{size_held, held_formed}
use Rattle.rounds.proofs.Settling.{left_decoded, left_block, left_within, few_rounds}
use Rattle.rounds.proofs.settled.Goals as goal

pub copy_from_slice-requires : goal.copy_from_slice-requires
copy_from_slice-requires c = sym (size_held c.args.block.now (fits_bytes c.args.block.now (search rules)) c.requires.0)

pub counts-dropped-requires : goal.counts-dropped-requires
counts-dropped-requires c =
    let m = c.make_rounds-changed in
    let b = c.copy_from_slice.ensures.after in
    (ap well_formed b ∙ c.requires.0, left_block c.args.table.now c.requires.1 (decode c.args.block.now) (held_formed c.args.block.now (fits_bytes c.args.block.now (search rules)) c.requires.0) m.result m.new.block m.ensures, subst (λ (x : List ℕ). Within (decode m.new.block) (decode x)) (sym b) (left_within c.args.table.now c.requires.1 (decode c.args.block.now) (held_formed c.args.block.now (fits_bytes c.args.block.now (search rules)) c.requires.0) m.result m.new.block m.ensures))

pub overflow_add-result : goal.overflow_add-result
overflow_add-result c =
    let m = c.make_rounds-changed in
    record { fits = omega (arith, few_rounds c.args.table.now c.requires.1 (decode c.args.block.now) (held_formed c.args.block.now (fits_bytes c.args.block.now (search rules)) c.requires.0) m.result m.new.block m.ensures) }

pub returns : goal.returns
returns c =
    let m = c.make_rounds-changed in
    let b = c.copy_from_slice.ensures.after in
    let F = left_decoded c.args.table.now c.requires.1 (decode c.args.block.now) (held_formed c.args.block.now (fits_bytes c.args.block.now (search rules)) c.requires.0) m.result m.new.block m.ensures in
    record {
      left = (m.ensures.all refl).1;
      dropped = c.counts-dropped.ensures.0 ∙ (λ i. dropped (decode (b i)) (F i));
      lowered = c.counts-dropped.ensures.1 ∙ (λ i. lowered (decode (b i)) (F i));
      rounds = add-one m.result ∙ ap suc (m.ensures.all refl).0;
    }
