-- `block::records_formed` tests the first records in one pass. Assumes nothing.
use mathlib.Core.Path.{◌≡◌, sym, ◌∙◌}
use mathlib.Core.Bool.{◌&&◌}
use Prim.Native.Nat.{◌-◌}
use native.Mathlib.Omega.{arith}
use borrow.Author.Tests.{not-true, not-false}
use Rattle.block.specs.Bytes.{all_from}
use Rattle.block.specs.Records.{delegation_at, delegations_to}
use Rattle.block.specs.WellFormed.{delegation_formed, rises}
use Rattle.block.proofs.Bytes.{fits_bytes}
use Rattle.block.proofs.Rise.{pair_number, passes, pass_end, pass_low, pass_stop, pass_on, pass_kind, passes_all}
use Rattle.block.proofs.read.records_formed.Goals as goal
use Rattle.block.proofs.read.records_formed.Goals.{After-from_be_bytes-pair, After-shared_slice_known-1}

-- the whole answer
whole : (c : After-shared_slice_known-1)
    → let a = c.args in
    passes a.subjects a.b.now 0 0 0 a.count ≡ (all_from (λ k. delegation_formed a.subjects (delegation_at a.b.now k)) 0 a.count && rises (delegations_to a.b.now a.count))
whole c =
    let a = c.args in
    passes_all a.subjects a.b.now (fits_bytes a.b.now c.shared_slice_known-1.given) c.requires.0 a.count

-- the number of the pair of record k
number_is : (c : After-from_be_bytes-pair)
    → c.from_be_bytes-pair.result ≡ pair_number (delegation_at c.args.b.now c.loop-k.k)
number_is c = c.from_be_bytes-pair.ensures ∙ rw (c.giver.ensures, c.receiver.ensures)

pub loop-k-init : goal.loop-k-init
loop-k-init c =
    let a = c.args in
    let z : a.count - 0 ≡ a.count = omega arith in rw z

pub returns-then-pair-last : goal.returns-then-pair-last
returns-then-pair-last c =
    let a = c.args in
    let l = c.loop-k in
    pass_low a.subjects a.b.now l.kinds l.last l.k a.count l.invariant (omega arith) (rw (← number_is (goal.at.returns-then-pair-last c).After-from_be_bytes-pair) c.if-pair-last.true) ∙ whole (goal.at.returns-then-pair-last c).After-shared_slice_known-1

pub returns-then-not-formed_otherwise : goal.returns-then-not-formed_otherwise
returns-then-not-formed_otherwise c =
    let a = c.args in
    let l = c.loop-k in
    pass_stop a.subjects a.b.now l.kinds l.last l.k a.count l.invariant (omega arith) (rw (← number_is (goal.at.returns-then-not-formed_otherwise c).After-from_be_bytes-pair) c.if-pair-last.false) (sym c.formed_otherwise.ensures ∙ not-true c.formed_otherwise.result c.if-not-formed_otherwise.true-raw) ∙ whole (goal.at.returns-then-not-formed_otherwise c).After-shared_slice_known-1

pub loop-k-preserved : goal.loop-k-preserved
loop-k-preserved c =
    let a = c.args in
    let l = c.loop-k in
    rw (number_is (goal.at.loop-k-preserved c).After-from_be_bytes-pair, c.kind-kinds.ensures) (pass_on a.subjects a.b.now l.kinds l.last l.k a.count l.invariant (omega arith) (rw (← number_is (goal.at.loop-k-preserved c).After-from_be_bytes-pair) c.if-pair-last.false) (sym c.formed_otherwise.ensures ∙ not-false c.formed_otherwise.result c.if-not-formed_otherwise.false-raw))

pub returns-then-kinds-gt-PASS_ONLY : goal.returns-then-kinds-gt-PASS_ONLY
returns-then-kinds-gt-PASS_ONLY c =
    let a = c.args in
    let l = c.loop-k in
    pass_kind a.subjects a.b.now l.kinds l.last l.k a.count l.invariant (omega arith) c.if-kinds-gt-PASS_ONLY.true ∙ whole (goal.at.returns-then-kinds-gt-PASS_ONLY c).After-shared_slice_known-1

pub returns : goal.returns
returns c =
    let a = c.args in
    let l = c.loop-k in
    pass_end a.subjects a.b.now l.kinds l.last l.k a.count l.invariant (omega arith) c.if-kinds-gt-PASS_ONLY.false ∙ whole (goal.at.returns c).After-shared_slice_known-1
