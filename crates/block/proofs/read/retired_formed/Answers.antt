-- `block::retired_formed` tests the bits, where one is set. Assumes nothing.
use mathlib.Core.Path.{◌≡◌, sym, ap, ◌∙◌}
use mathlib.Core.Bool.{Bool, true, ◌&&◌}
use mathlib.Core.List.{List}
use Prim.Native.Nat.{ℕ}
use borrow.Author.Tests.{not-true, not-false}
use Rattle.block.specs.Layout.{most_subjects}
use Rattle.block.specs.Bytes.{all_from}
use Rattle.block.specs.Records.{delegation_at}
use Rattle.block.specs.WellFormed.{subject_formed, is_apart}
use Rattle.block.proofs.Form.{none_retired_formed, none_retired_apart}
use Rattle.block.proofs.Loops.{all_true}
use Rattle.block.proofs.read.retired_formed.Goals as goal

-- both tests, by the bits n
abbrev tests : ℕ → List ℕ → ℕ → Bool
tests n b count = all_from (subject_formed n b) 0 most_subjects && all_from (λ k. is_apart n (delegation_at b k)) 0 count

none_set : (b : List ℕ) (count : ℕ) → true ≡ tests 0 b count
none_set b count = λ j. all_true (subject_formed 0 b) 0 most_subjects (none_retired_formed b) j && all_true (λ k. is_apart 0 (delegation_at b k)) 0 count (λ k. none_retired_apart (delegation_at b k)) j

pub returns-then-retired-eq0 : goal.returns-then-retired-eq0
returns-then-retired-eq0 c =
    let r = c.retired-retired in
    let a = c.args in
    none_set a.b.now a.count ∙ ap (λ (n : ℕ). tests n a.b.now a.count) (sym c.if-retired-eq0.true ∙ r.ensures)

pub returns-then-not-subjects_formed : goal.returns-then-not-subjects_formed
returns-then-not-subjects_formed c =
    let f = c.subjects_formed in
    rw (← c.retired-retired.ensures, ← f.ensures, not-true f.result c.if-not-subjects_formed.true-raw)

pub returns : goal.returns
returns c =
    let f = c.subjects_formed in
    rw (← c.retired-retired.ensures, ← f.ensures, not-false f.result c.if-not-subjects_formed.false-raw) c.records_apart.ensures
