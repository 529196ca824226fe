-- P1 to P8 and the examples of raises, of marks, of retirements and of pass-only delegations: the definitions make of each what is said of it, computed as one list; so do the refusals where several apply, and a list in which the step table
-- changes from call to call. Assumes nothing.
use mathlib.Core.Path.{◌≡◌, refl}
use mathlib.Core.List.{[], ◌∷◌, map}
use Prim.Native.Nat.{ℕ}
use Rattle.rules.specs.Limit.{larger, from_none}
use Rattle.rules.specs.Table.{next, TableRule, step, steps}
use Rattle.rules.specs.Condition.{meets}
use Rattle.rules.specs.Chain.{limit_from}
use Rattle.rules.specs.Reach.{goes_on, chains, reach}
use Rattle.rules.specs.Support.{allowed}
use Rattle.rules.specs.Round.{settle}
use Rattle.rules.specs.Cut.{named}
use Rattle.rules.specs.Refusal.{passed, held, refusal_of}
use Rattle.rules.specs.Call.{Call}
use Rattle.rules.specs.History.{register_at}
use Rattle.rules.specs.CallStep.{cut, accepted, call_step}
use Rattle.rules.specs.Examples.{computed, said, examples, P2, orders, two, twos, twos_computed, twos_said}
use Rattle.rules.proofs.Table.{table_rule}

pub examples_hold : map computed examples ≡ map said examples
unfolding larger next step steps meets limit_from goes_on chains reach allowed settle named passed held refusal_of cut accepted call_step
examples_hold = refl

pub orders_hold : map (λ (o : Call × ℕ). refusal_of steps (register_at steps P2.given 9) o.0) orders ≡ map (λ (o : Call × ℕ). o.1) orders
unfolding larger next step steps meets limit_from goes_on chains reach allowed settle named passed held refusal_of cut accepted call_step
orders_hold = refl

pub twos_rule : TableRule twos
unfolding two twos from_none
twos_rule = table_rule twos tt

pub twos_hold : map twos_computed (steps ∷ twos ∷ []) ≡ twos_said
unfolding larger next step steps two twos meets limit_from goes_on chains reach allowed settle named passed held refusal_of cut accepted call_step
twos_hold = refl
