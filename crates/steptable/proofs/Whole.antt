-- What is read of a text is what is given with it. Assumes nothing.
use mathlib.Core.Path.{◌≡◌, sym, ap, ◌∙◌}
use mathlib.Core.Logic.{◌≢◌}
use mathlib.Core.Bool.{Bool, true, false}
use mathlib.Core.List.{List, [], ◌∷◌}
use Prim.Native.Nat.{ℕ}
use native.Mathlib.Omega.{arith}
use lib.IntN.{ℤ}
use lib.ListN.{length}
use Rattle.rules.specs.Table.{table_test, steps}
use Rattle.rules.proofs.Lists.{clash, yes, T_true}
use Rattle.rules.proofs.Table.{table_rule}
use Rattle.steptable.specs.TableText.{passing, refused_text, given}
use Rattle.steptable.specs.Read.{EntriesRead, TableMade}
use Rattle.rules.proofs.Table.{rule_test}
use Rattle.steptable.proofs.Right.{given_right}

pub given_empty : (text : List ℕ) (t : List ℤ) → length text ≡ 0 → t ≡ steps → passing t ≡ given text
given_empty [] t e q = ap passing q ∙ sym given_right.empty
given_empty (b ∷ s) t e q = absurd (omega arith)

module _ (text : List ℕ) (b : Bool) (entries : List ℤ) (m : EntriesRead text b entries) where
  pub given_other : length text ≢ 0 → b ≡ false → refused_text 7 ≡ given text
  given_other n e = sym (given_right.other text (λ z. n (ap length z)) (m.no e))

  module _ (f : b ≡ true) (o : Bool) (table : List ℤ) (t : TableMade entries o table) where
    pub given_broken : o ≡ false → refused_text 17 ≡ given text
    given_broken e = sym (given_right.breaks text entries (m.yes f) (λ rule. clash (sym (T_true (table_test entries) (rule_test entries rule)) ∙ sym t.result ∙ e)))

    pub given_passed : o ≡ true → passing table ≡ given text
    given_passed e = ap passing (t.same e) ∙ sym (given_right.passes text entries (m.yes f) (table_rule entries (yes (sym t.result ∙ e))))
