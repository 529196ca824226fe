-- `regfile::put_delegation` stores a delegation's row, or no well-formed register has it there. Assumes nothing.
use Rattle.std.proofs.Common.{◌∙◌, ap, arith, [], ◌∷◌, ◌++◌}
use Rattle.rules.specs.Register.{Delegation, with_delegations}
use Rattle.block.specs.Block.{decode, encode}
use Rattle.block.proofs.Fitting.{fitting_size}
use Rattle.regfile.specs.FileText.{delegation_of}
use Rattle.regfile.proofs.Storing.{six_plain, delegations_full, delegation_large, delegation_put}
use Rattle.regfile.proofs.read.put_delegation.Goals as goal

pub count-requires : goal.count-requires
count-requires c = omega (arith, fitting_size c.args.b.now c.requires.0)

pub returns-then-count-ge-MOST_RECORDS : goal.returns-then-count-ge-MOST_RECORDS
returns-then-count-ge-MOST_RECORDS c =
    delegations_full c.args.b.now c.requires.0 c.args.row.now (omega (arith, c.if-count-ge-MOST_RECORDS.true, c.count.ensures))

pub returns-in_default : goal.returns-in_default
returns-in_default c =
    let row = c.args.row.now in
    delegation_large c.args.b.now c.requires.0 row (delegation_of row) (six_plain row c.requires.1 c.requires.2) c.in_default.ensures

pub returns : goal.returns
returns c =
    let b = c.args.b.now in
    let row = c.args.row.now in
    delegation_put b c.requires.0 row (delegation_of row) (six_plain row c.requires.1 c.requires.2) (omega (arith, c.if-count-ge-MOST_RECORDS.false, c.count.ensures)) c.in-Some.ensures.0 c.append.new.b
    (c.append.ensures ∙ ap (λ (d : Delegation). encode (with_delegations (decode b) ((decode b).delegations ++ (d ∷ [])))) c.in-Some.ensures.1)
