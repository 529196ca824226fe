-- What is read of a text: exactly what a rendering gives. Assumes nothing.
use Rattle.std.specs.Prelude.{◌≡◌, Bool, cond, ◌&&◌, List, ◌∷◌, ◌++◌, ℕ, suc, ◌+◌, ◌≤◌, leb, ltb, eqb, ℤ, length, get_or, drop, Option, None, IfSome, IsSomeAnd}
use Rattle.text.specs.Text.{digits, number, line, most, Allowed, AllAllowed}
use Rattle.text.specs.declared.Found.{Found}

abbrev pub is_digit : ℕ → Bool
is_digit b = leb 48 b && leb b 57

-- a minus sign stands at `at`, where one is allowed
abbrev pub has_sign : List ℕ → ℕ → Bool → Bool
has_sign text at signed = signed && (ltb at (length text) && eqb (get_or text at 0) 45)

-- what follows value i of n
abbrev pub column_end : ℕ → ℕ → ℕ
column_end i n = cond (ltb (i + 1) n) 32 10

-- digits are read from `at` exactly where the text goes on with those of a number and the byte `end`
pub record NumberRead (text : List ℕ) (at end : ℕ) (r : Option (Found ℕ)) : Type 0 where
  pub read : IfSome r (λ m. (m.value ≤ most) × (m.next ≡ at + suc (length (digits m.value))) × (drop at text ≡ digits m.value ++ (end ∷ drop m.next text)))
  pub each : (n : ℕ) (rest : List ℕ) → n ≤ most → drop at text ≡ digits n ++ (end ∷ rest) → IsSomeAnd r (λ m. (m.value ≡ n) × (drop m.next text ≡ rest))

-- a number is read from `at` exactly where the text goes on with its rendering and the byte `end`
pub record ValueRead (text : List ℕ) (at end : ℕ) (signed : Bool) (r : Option (Found ℤ)) : Type 0 where
  pub read : IfSome r (λ m. Allowed signed m.value × (m.next ≡ at + suc (length (number m.value))) × (drop at text ≡ number m.value ++ (end ∷ drop m.next text)))
  pub each : (z : ℤ) (rest : List ℕ) → Allowed signed z → drop at text ≡ number z ++ (end ∷ rest) → IsSomeAnd r (λ m. (m.value ≡ z) × (drop m.next text ≡ rest))

-- a line of as many values as `before` has is read from `at` exactly where the text goes on with its rendering, and r is where it goes on after that; `after` are the values then. Where none is read the values are as before
pub record LineRead (text : List ℕ) (at : ℕ) (signed : Bool) (before : List ℤ) (r : Option ℕ) (after : List ℤ) : Type 0 where
  pub read : IfSome r (λ next. AllAllowed signed after × (next ≡ at + length (line after)) × (drop at text ≡ line after ++ drop next text))
  pub each : (zs : List ℤ) (rest : List ℕ) → length zs ≡ length before → AllAllowed signed zs → drop at text ≡ line zs ++ rest → IsSomeAnd r (λ next. (after ≡ zs) × (drop next text ≡ rest))
  pub none : r ≡ None → after ≡ before
