-- `block::well_formed` is the definition's `well_formed`, for any bytes. Assumes nothing.
use mathlib.Core.Path.{◌≡◌, refl, sym, ap, ◌∙◌}
use mathlib.Core.Bool.{Bool, true, ◌&&◌, and-true}
use mathlib.Core.List.{List, [], ◌∷◌, ◌++◌}
use Prim.Native.Nat.{ℕ, ◌≤◌}
use native.Mathlib.Omega.{arith}
use borrow.Author.Tests.{eq-eqb, ne_eqb, not-true, not-false}
use Rattle.block.specs.Layout.{most_records}
use Rattle.block.specs.Bytes.{all_from}
use Rattle.block.specs.Block.{retired_in}
use Rattle.block.specs.Records.{delegation_at}
use Rattle.block.specs.WellFormed.{all_pass, right_size, head_tests, head_formed, owner_unmarked, rest_unmarked, retired_formed, records_formed, records_rise, is_apart, records_apart, rest_zero, well_formed}
use Rattle.block.proofs.Fields.{head_few}
use Rattle.block.proofs.Tests.{tests_group, tests_on, tests_stop, tests_last}
use Rattle.block.proofs.read.well_formed.Goals as goal
use Rattle.block.proofs.read.well_formed.Goals.{After-count-records, After-records_formed, After-retired_formed, After-zero_range}

-- the tests from each one on
abbrev from_rest : List (List ℕ → Bool)
from_rest = rest_zero ∷ []

-- those of the records, which one call makes
abbrev of_records : List (List ℕ → Bool)
of_records = records_formed ∷ records_rise ∷ []

-- and those of the bits
abbrev of_retired : List (List ℕ → Bool)
of_retired = retired_formed ∷ records_apart ∷ []

abbrev from_retired : List (List ℕ → Bool)
from_retired = of_retired ++ from_rest

abbrev from_records : List (List ℕ → Bool)
from_records = of_records ++ from_retired

abbrev from_marks : List (List ℕ → Bool)
from_marks = rest_unmarked ∷ from_records

abbrev from_owner : List (List ℕ → Bool)
from_owner = owner_unmarked ∷ from_marks

-- ── the tests that are left past each early return, of a block ──
module _ (b : List ℕ) (size : right_size b ≡ true) where
  past_size : well_formed b ≡ all_pass (head_formed ∷ from_owner) b
  unfolding well_formed
  past_size = tests_on right_size (head_tests ++ from_owner) b refl size ∙ tests_group head_tests from_owner b

  module _ (head : head_formed b ≡ true) where
    past_head : well_formed b ≡ all_pass from_owner b
    past_head = tests_on head_formed from_owner b past_size head

    module _ (owner : owner_unmarked b ≡ true) where
      past_owner : well_formed b ≡ all_pass from_marks b
      past_owner = tests_on owner_unmarked from_marks b past_head owner

      module _ (rest : rest_unmarked b ≡ true) where
        past_rest : well_formed b ≡ all_pass (all_pass of_records ∷ from_retired) b
        past_rest = tests_on rest_unmarked from_records b past_owner rest ∙ tests_group of_records from_retired b

        module _ (records : all_pass of_records b ≡ true) where
          past_records : well_formed b ≡ all_pass (all_pass of_retired ∷ from_rest) b
          past_records = tests_on (all_pass of_records) from_retired b past_rest records ∙ tests_group of_retired from_rest b

          past_retired : all_pass of_retired b ≡ true → well_formed b ≡ all_pass from_rest b
          past_retired retired = tests_on (all_pass of_retired) from_rest b past_records retired

-- ── what each call answers ──
few : (c : After-count-records) → c.count-records.result ≤ most_records
few c = rw c.count-records.ensures (head_few c.args.b.now (sym c.head_formed.ensures ∙ not-false c.head_formed.result c.if-not-head_formed.false-raw))

rest_is : (c : After-zero_range) → c.zero_range.result ≡ rest_unmarked c.args.b.now
rest_is c = c.zero_range.ensures ∙ simp c.subjects-n.ensures

records_are : (c : After-records_formed) → c.records_formed.result ≡ all_pass of_records c.args.b.now
records_are c = c.records_formed.ensures ∙ simp (c.subjects-n.ensures, c.count-records.ensures, and-true)

retired_are : (c : After-retired_formed) → c.retired_formed.result ≡ all_pass of_retired c.args.b.now
retired_are c =
    let b = c.args.b.now in
    c.retired_formed.ensures
    ∙ ap (λ (n : ℕ). retired_formed b && all_from (λ k. is_apart (retired_in b) (delegation_at b k)) 0 n) c.count-records.ensures
    ∙ ap (λ (x : Bool). retired_formed b && x) (sym (and-true (records_apart b)))

-- ── the goals ──
pub returns-then-b-ne-BLOCK_SIZE : goal.returns-then-b-ne-BLOCK_SIZE
unfolding well_formed
returns-then-b-ne-BLOCK_SIZE c = tests_stop right_size (head_tests ++ from_owner) c.args.b.now refl (ne_eqb _ _ c.if-b-ne-BLOCK_SIZE.true)

pub returns-then-not-head_formed : goal.returns-then-not-head_formed
returns-then-not-head_formed c = tests_stop head_formed from_owner c.args.b.now (past_size c.args.b.now (eq-eqb _ _ c.if-b-ne-BLOCK_SIZE.false)) (sym c.head_formed.ensures ∙ not-true c.head_formed.result c.if-not-head_formed.true-raw)

pub returns-then-read_two-ne0 : goal.returns-then-read_two-ne0
returns-then-read_two-ne0 c =
    tests_stop owner_unmarked from_marks c.args.b.now (past_head c.args.b.now (eq-eqb _ _ c.if-b-ne-BLOCK_SIZE.false) (sym c.head_formed.ensures ∙ not-false c.head_formed.result c.if-not-head_formed.false-raw)) (rw (← c.read_two.ensures) (ne_eqb _ _ c.if-read_two-ne0.true))

pub returns-then-not-zero_range : goal.returns-then-not-zero_range
returns-then-not-zero_range c =
    tests_stop rest_unmarked from_records c.args.b.now (past_owner c.args.b.now (eq-eqb _ _ c.if-b-ne-BLOCK_SIZE.false) (sym c.head_formed.ensures ∙ not-false c.head_formed.result c.if-not-head_formed.false-raw) (eq-eqb _ _ (sym c.read_two.ensures ∙ c.if-read_two-ne0.false))) (sym (rest_is (goal.at.returns-then-not-zero_range c).After-zero_range) ∙ not-true c.zero_range.result c.if-not-zero_range.true-raw)

pub returns-then-not-records_formed : goal.returns-then-not-records_formed
returns-then-not-records_formed c =
    tests_stop (all_pass of_records) from_retired c.args.b.now (past_rest c.args.b.now (eq-eqb _ _ c.if-b-ne-BLOCK_SIZE.false) (sym c.head_formed.ensures ∙ not-false c.head_formed.result c.if-not-head_formed.false-raw) (eq-eqb _ _ (sym c.read_two.ensures ∙ c.if-read_two-ne0.false)) (sym (rest_is (goal.at.returns-then-not-records_formed c).After-zero_range) ∙ not-false c.zero_range.result c.if-not-zero_range.false-raw)) (sym (records_are (goal.at.returns-then-not-records_formed c).After-records_formed) ∙ not-true c.records_formed.result c.if-not-records_formed.true-raw)

pub returns-then-not-retired_formed : goal.returns-then-not-retired_formed
returns-then-not-retired_formed c =
    tests_stop (all_pass of_retired) from_rest c.args.b.now (past_records c.args.b.now (eq-eqb _ _ c.if-b-ne-BLOCK_SIZE.false) (sym c.head_formed.ensures ∙ not-false c.head_formed.result c.if-not-head_formed.false-raw) (eq-eqb _ _ (sym c.read_two.ensures ∙ c.if-read_two-ne0.false)) (sym (rest_is (goal.at.returns-then-not-retired_formed c).After-zero_range) ∙ not-false c.zero_range.result c.if-not-zero_range.false-raw) (sym (records_are (goal.at.returns-then-not-retired_formed c).After-records_formed) ∙ not-false c.records_formed.result c.if-not-records_formed.false-raw)) (sym (retired_are (goal.at.returns-then-not-retired_formed c).After-retired_formed) ∙ not-true c.retired_formed.result c.if-not-retired_formed.true-raw)

pub zero_range-requires-2 : goal.zero_range-requires-2
zero_range-requires-2 c = (omega (arith, few (goal.at.zero_range-requires-2 c).After-count-records), omega (arith, c.if-b-ne-BLOCK_SIZE.false))

pub overflow_mul-records : goal.overflow_mul-records
overflow_mul-records c = omega (arith, few (goal.at.overflow_mul-records c).After-count-records)

pub overflow_add-records : goal.overflow_add-records
overflow_add-records c = omega (arith, few (goal.at.overflow_add-records c).After-count-records)

pub returns : goal.returns
returns c =
    c.zero_range-2.ensures ∙ rw c.count-records.ensures (sym (tests_last rest_zero c.args.b.now (past_retired c.args.b.now (eq-eqb _ _ c.if-b-ne-BLOCK_SIZE.false) (sym c.head_formed.ensures ∙ not-false c.head_formed.result c.if-not-head_formed.false-raw) (eq-eqb _ _ (sym c.read_two.ensures ∙ c.if-read_two-ne0.false)) (sym (rest_is (goal.at.returns c).After-zero_range) ∙ not-false c.zero_range.result c.if-not-zero_range.false-raw) (sym (records_are (goal.at.returns c).After-records_formed) ∙ not-false c.records_formed.result c.if-not-records_formed.false-raw) (sym (retired_are (goal.at.returns c).After-retired_formed) ∙ not-false c.retired_formed.result c.if-not-retired_formed.false-raw))))
