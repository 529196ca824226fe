-- `slips::is_cut` tests a cut's number and weight. Assumes nothing.
use mathlib.Core.Path.{sym}
use Rattle.slips.proofs.Parts.{cut_revoke, cut_other}
use Rattle.slips.proofs.slip.is_cut.Goals as goal

pub returns-then-number-eq-REVOKE : goal.returns-then-number-eq-REVOKE
returns-then-number-eq-REVOKE c = let a = c.args in sym (cut_revoke a.number a.weight c.if-number-eq-REVOKE.true)

pub returns : goal.returns
returns c = let a = c.args in sym (cut_other a.number a.weight c.if-number-eq-REVOKE.false)
