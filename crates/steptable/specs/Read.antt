-- What is read of a step table's text: exactly what the text of a table gives. Assumes nothing.
use Rattle.std.specs.Prelude.{◌≡◌, Bool, true, false, List, ◌++◌, ℕ, ℤ, drop, Option, IfSome, IsSomeAnd}
use Rattle.rules.specs.Table.{table_test}
use Rattle.text.specs.declared.Found.{Found}
use Rattle.steptable.specs.TableText.{entry_line, IsNext, Holds}

-- a next is read from `at` exactly where the text goes on with the line of weight w and that next
pub record EntryRead (text : List ℕ) (at w : ℕ) (r : Option (Found ℤ)) : Type 0 where
  pub read : IfSome r (λ m. IsNext m.value × (drop at text ≡ entry_line w m.value ++ drop m.next text))
  pub each : (x : ℤ) (rest : List ℕ) → IsNext x → drop at text ≡ entry_line w x ++ rest → IsSomeAnd r (λ m. (m.value ≡ x) × (drop m.next text ≡ rest))

-- r tells whether the text is that of a table; `entries` are its entries then
pub record EntriesRead (text : List ℕ) (r : Bool) (entries : List ℤ) : Type 0 where
  pub yes : r ≡ true → Holds text entries
  pub no : r ≡ false → (t : List ℤ) → Holds text t → ⊥

-- r tells whether the entries keep the rule; the table is theirs then
pub record TableMade (entries : List ℤ) (r : Bool) (table : List ℤ) : Type 0 where
  pub result : r ≡ table_test entries
  pub same : r ≡ true → table ≡ entries
