-- `slips::is_genuine` tests a slip by making its cut again. Assumes nothing.
use mathlib.Core.Path.{◌≡◌, sym, ap, ◌∙◌}
use mathlib.Core.List.{List}
use Prim.Native.Nat.{ℕ, ◌-◌}
use native.Mathlib.Omega.{arith}
use lib.ListN.{length, drop, length-drop}
use lib.Seq.{take_all, length-take-le}
use Rattle.rules.specs.Round.{equal}
use Rattle.rules.specs.Call.{cut_call}
use Rattle.block.specs.Layout.{block_size}
use Rattle.block.proofs.Bytes.{fits_bytes}
use Rattle.steptable.specs.Lent.{given_by}
use Rattle.register.specs.Answer.{answer_of}
use Rattle.register.proofs.Errors.{error_refused, no_error_accepted}
use Rattle.steptable.specs.TableText.{Given}
use Rattle.register.specs.CallOn.{Result, call_on}
use Rattle.register.specs.Made.{result_of}
use Rattle.slips.specs.Slip.{after_at, slip_before, slip_after, slip_by, slip_cut}
use Rattle.slips.proofs.SlipWays.{other_after, other_cut, other_refused, genuine_left}
use Rattle.slips.proofs.is_genuine.Goals as goal
use Rattle.slips.proofs.is_genuine.Goals.{After-cut_by-made, After-equal, Start}

abbrev with_table : Start → Given
with_table s = given_by s.args.table.now

-- the register is compared with the slip's after
after_test : (c : After-equal) → let a = c.args in c.equal.result ≡ equal (slip_after a.slip.now) a.block.now
after_test c =
    let a = c.args in
    let s = a.slip.now in
    c.equal.ensures ∙ ap (λ (r : List ℕ). equal r a.block.now) (take_all (length s - after_at) (drop after_at s) (omega (arith, length-drop after_at s)))

-- the cut was made on the slip's before
made_again : (c : After-cut_by-made) → let a = c.args in
    result_of (answer_of c.cut_by-made.result) c.cut_by-made.new.block ≡ call_on (given_by c.args.table.now) (slip_before a.slip.now) (cut_call (slip_by a.slip.now) (slip_cut a.slip.now))
made_again c =
    let a = c.args in
    c.cut_by-made.ensures.outcome ∙ ap (λ (b : List ℕ). call_on (given_by c.args.table.now) b (cut_call (slip_by a.slip.now) (slip_cut a.slip.now))) c.copy.ensures

pub returns-then-not-equal : goal.returns-then-not-equal
returns-then-not-equal c =
    other_after (with_table (goal.at.returns-then-not-equal c).Start) c.args.block.now c.args.slip.now c.requires.2 (sym (after_test (goal.at.returns-then-not-equal c).After-equal) ∙ c.if-not-equal.true)

pub returns-then-not-is_cut : goal.returns-then-not-is_cut
returns-then-not-is_cut c =
    other_cut (with_table (goal.at.returns-then-not-is_cut c).Start) c.args.block.now c.args.slip.now c.requires.2 (sym c.is_cut.ensures ∙ c.if-not-is_cut.true)

pub slice_bounds-copy-end : goal.slice_bounds-copy-end
slice_bounds-copy-end c = sym (length-take-le block_size c.args.slip.now (omega (arith, c.requires.2)))

pub copy-requires : goal.copy-requires
copy-requires c = length-take-le block_size c.args.slip.now (omega (arith, c.requires.2))

pub overflow_cast-slip : goal.overflow_cast-slip
overflow_cast-slip c = omega (arith, fits_bytes c.args.slip.now c.shared_slice_known-6-1.given 2189)

pub overflow_cast-slip-2 : goal.overflow_cast-slip-2
overflow_cast-slip-2 c = omega (arith, fits_bytes c.args.slip.now c.shared_slice_known-7-1.given 2190)

pub overflow_cast-slip-3 : goal.overflow_cast-slip-3
overflow_cast-slip-3 c = omega (arith, fits_bytes c.args.slip.now c.shared_slice_known-8-1.given 2191)

pub overflow_cast-slip-4 : goal.overflow_cast-slip-4
overflow_cast-slip-4 c = omega (arith, fits_bytes c.args.slip.now c.shared_slice_known-9-1.given 2192)

pub returns-then-is_err : goal.returns-then-is_err
returns-then-is_err c =
    other_refused (with_table (goal.at.returns-then-is_err c).Start) c.args.block.now c.args.slip.now c.requires.2 (λ z. error_refused c.cut_by-made.result (sym c.is_err.ensures.value ∙ c.if-is_err.true) (ap (λ (r : Result). r.refusal) (made_again (goal.at.returns-then-is_err c).After-cut_by-made) ∙ z))

pub returns : goal.returns
returns c =
    let b = c.args.block.now in
    c.equal-2.ensures
    ∙ ap (λ (r : Result). equal r.bytes b) (made_again (goal.at.returns c).After-cut_by-made)
    ∙ sym (genuine_left (with_table (goal.at.returns c).Start) b c.args.slip.now c.requires.2 (sym (after_test (goal.at.returns c).After-equal) ∙ c.if-not-equal.false) (sym c.is_cut.ensures ∙ c.if-not-is_cut.false) (sym (ap (λ (r : Result). r.refusal) (made_again (goal.at.returns c).After-cut_by-made)) ∙ no_error_accepted c.cut_by-made.result (sym c.is_err.ensures.value ∙ c.if-is_err.false)))
