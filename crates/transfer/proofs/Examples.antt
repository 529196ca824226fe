-- The examples of reads hold. Assumes nothing.
use mathlib.Core.Path.{◌≡◌, refl, ap, ◌∙◌}
use mathlib.Core.Bool.{Bool, true, false, cond}
use mathlib.Core.List.{List, []}
use Prim.Native.Nat.{ℕ}
use native.Mathlib.Omega.{arith}
use lib.IntN.{ℤ}
use lib.ListN.{length}
use Rattle.rules.specs.Limit.{larger, from_none}
use Rattle.rules.specs.Table.{next, step, steps}
use Rattle.rules.specs.Register.{Register}
use Rattle.rules.specs.WellFormed.{WellFormed}
use Rattle.rules.specs.Condition.{meets}
use Rattle.rules.specs.Chain.{limit_from}
use Rattle.rules.specs.Reach.{goes_on, chains, reach}
use Rattle.rules.specs.Support.{allowed}
use Rattle.rules.specs.Refusal.{too_heavy}
use Rattle.rules.specs.Examples.{two, twos}
use Rattle.rules.proofs.Answers.{twos_rule}
use Rattle.block.specs.Layout.{block_size}
use Rattle.text.specs.Text.{digits}
use Rattle.steptable.specs.TableText.{table_text, AreNexts, passing, given}
use Rattle.steptable.proofs.Right.{test_entries, given_right}
use Rattle.regfile.specs.FileText.{subject_names, delegation_names, file_text, passing_file}
use Rattle.regfile.specs.Examples.{three, pairs, sample}
use Rattle.regfile.proofs.FileRight.{filed_right}
use Rattle.regfile.proofs.Examples.{pairs_formed, none_formed}
use Rattle.register.specs.CallOn.{turned}
use Rattle.transfer.specs.FileOn.{holding, read_on}
use Rattle.transfer.specs.RoundTrip.{reading}
use Rattle.transfer.specs.Examples.{Examples}
use Rattle.transfer.proofs.Reading.{read_heavy, read_refused, read_accepted}

-- ── the text of a well-formed register, by a table that passes ──
module _ (R : Register) (f : WellFormed R) (table : List ℕ) (t : List ℤ) (g : given table ≡ passing t) (before : List ℕ) (long : length before ≡ block_size) where
  as_passing : reading (file_text R) table before ≡ read_on (passing t) (passing_file R) before
  as_passing = λ i. read_on (g i) (filed_right.formed R f i) before

  light_read : too_heavy t R R.delegations ≡ false → reading (file_text R) table before ≡ holding R
  light_read e = as_passing ∙ read_accepted (passing t) (passing_file R) before (read_heavy (passing t) (passing_file R) before long refl refl ∙ ap (λ (x : Bool). cond x 18 0) e)

  heavy_read : too_heavy t R R.delegations ≡ true → reading (file_text R) table before ≡ turned 18 before
  heavy_read e = as_passing ∙ read_refused (passing t) (passing_file R) before 18 (read_heavy (passing t) (passing_file R) before long refl refl ∙ ap (λ (x : Bool). cond x 18 0) e) (λ z. absurd (omega arith))

-- ── support, computed ──
ours_light : too_heavy steps sample pairs ≡ false
unfolding larger next step steps meets limit_from goes_on chains reach allowed
ours_light = refl

ours_heavy : too_heavy steps (three 0 pairs) pairs ≡ true
unfolding larger next step steps meets limit_from goes_on chains reach allowed
ours_heavy = refl

twos_heavy : too_heavy twos sample pairs ≡ true
unfolding larger next two twos meets limit_from goes_on chains reach allowed
twos_heavy = refl

twos_size : length twos ≡ 256
unfolding two twos
twos_size = refl

twos_entries : AreNexts twos
unfolding two twos from_none
twos_entries = test_entries twos tt

twos_given : given (table_text twos) ≡ passing twos
twos_given = given_right.passes (table_text twos) twos record { size = twos_size; entries = twos_entries; same = refl } twos_rule

pub examples_hold : Examples
unfolding subject_names delegation_names file_text digits
examples_hold = record {
  accepted = λ before long. light_read sample (pairs_formed 4 (omega arith)) [] steps given_right.empty before long ours_light;
  unsupported = λ before long. heavy_read (three 0 pairs) (pairs_formed 0 (omega arith)) [] steps given_right.empty before long ours_heavy;
  without = λ before long. light_read (three 4 []) (none_formed 4 (omega arith)) [] steps given_right.empty before long refl;
  by_twos = λ before long. heavy_read sample (pairs_formed 4 (omega arith)) (table_text twos) twos twos_given before long twos_heavy;
}
