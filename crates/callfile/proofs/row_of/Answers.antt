-- `callfile::row_of` is the row of seven values. Assumes nothing.
use mathlib.Core.Path.{sym, ◌∙◌}
use mathlib.Core.List.{[], ◌∷◌}
use native.Mathlib.Omega.{arith}
use Rattle.callfile.proofs.Lines.{value_allowed, value_is, seven}
use Rattle.callfile.proofs.row_of.Goals as goal

pub unsigned-requires : goal.unsigned-requires
unsigned-requires c = value_allowed c.args.values.now c.requires.1 0 (omega arith)

pub unsigned-requires-2 : goal.unsigned-requires-2
unsigned-requires-2 c = value_allowed c.args.values.now c.requires.1 1 (omega arith)

pub unsigned-requires-3 : goal.unsigned-requires-3
unsigned-requires-3 c = value_allowed c.args.values.now c.requires.1 2 (omega arith)

pub unsigned-requires-4 : goal.unsigned-requires-4
unsigned-requires-4 c = value_allowed c.args.values.now c.requires.1 3 (omega arith)

pub unsigned-requires-5 : goal.unsigned-requires-5
unsigned-requires-5 c = value_allowed c.args.values.now c.requires.1 4 (omega arith)

pub unsigned-requires-6 : goal.unsigned-requires-6
unsigned-requires-6 c = value_allowed c.args.values.now c.requires.1 5 (omega arith)

pub unsigned-requires-7 : goal.unsigned-requires-7
unsigned-requires-7 c = value_allowed c.args.values.now c.requires.1 6 (omega arith)

pub returns : goal.returns
returns c =
    let vs = c.args.values.now in
    let a = c.requires.1 in
    (λ p. value_is vs a 0 (omega arith) c.unsigned.ensures p ∷ value_is vs a 1 (omega arith) c.unsigned-2.ensures p ∷ value_is vs a 2 (omega arith) c.unsigned-3.ensures p ∷ value_is vs a 3 (omega arith) c.unsigned-4.ensures p ∷ value_is vs a 4 (omega arith) c.unsigned-5.ensures p ∷ value_is vs a 5 (omega arith) c.unsigned-6.ensures p ∷ value_is vs a 6 (omega arith) c.unsigned-7.ensures p ∷ []) ∙ sym (seven vs c.requires.0)
