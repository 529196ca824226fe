-- `text::read_value` reads a number with or without its sign. Assumes nothing.
use mathlib.Core.Path.{sym, subst, ◌∙◌}
use mathlib.Core.Bool.{Bool}
use Rattle.text.specs.Read.{ValueRead}
use Rattle.text.proofs.Values.{sign_there, plain_signed}
use Rattle.text.proofs.read.read_value.Goals as goal

pub read_negative-requires : goal.read_negative-requires
read_negative-requires c =
    let s = sign_there c.args.text.now c.args.at c.args.signed (sym c.has_sign.ensures ∙ c.if-has_sign.true) in
    (c.requires, s.1, s.2)

pub returns-then-has_sign : goal.returns-then-has_sign
returns-then-has_sign c =
    let s = sign_there c.args.text.now c.args.at c.args.signed (sym c.has_sign.ensures ∙ c.if-has_sign.true) in
    subst (λ (x : Bool). ValueRead c.args.text.now c.args.at c.args.end x c.read_negative.result) (sym s.0) c.read_negative.ensures

pub returns : goal.returns
returns c = plain_signed c.args.text.now c.args.at c.args.end c.args.signed c.read_plain.result (sym c.has_sign.ensures ∙ c.if-has_sign.false) c.read_plain.ensures
