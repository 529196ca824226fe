-- The definitions followed down a list of calls, and what was made of such a list (document 01, 'Calls', the third demand). Said once for any states, calls and outcomes: `step` is
-- what a call on a state comes to, `left` the state that an outcome leaves. Assumes nothing.
use Rattle.std.specs.Prelude.{◌≡◌, List, [], ◌∷◌, map, ℕ, zero, suc}
use Rattle.rules.specs.List.{At}

-- what a call was passed, and what it came to
pub record Entry (A O : Type 0) : Type 0 where
  pub asked : A
  pub outcome : O

abbrev pub all_asked : {A O : Type 0} → List (Entry A O) → List A
all_asked es = map (λ e. e.asked) es

module _ {S A O : Type 0} (step : S → A → O) (left : O → S) where
  -- the outcomes, from the state s on
  abbrev pub trace_from : S → List A → List O
  trace_from s [] = []
  trace_from s (c ∷ cs) = let o = step s c in o ∷ trace_from (left o) cs

  -- the state that the first i calls lead to, from s on; i past the end: all calls. By what the calls were passed alone, never by a state that was left
  abbrev pub state_from : S → List A → ℕ → S
  state_from s cs zero = s
  state_from s [] (suc i) = s
  state_from s (c ∷ cs) (suc i) = state_from (left (step s c)) cs i

  -- each call was made on the state that the one before it left, the first on s
  abbrev pub History : S → List (Entry A O) → Type 0
  History s [] = Unit {0}
  History s (e ∷ es) = (e.outcome ≡ step s e.asked) × History (left e.outcome) es

  -- at every place of every history from s on: P of the state that the definitions lead to, of what the call was passed and of what it came to
  abbrev pub AtEveryPlace : S → (S → A → O → Type 0) → Type 0
  AtEveryPlace s P = (es : List (Entry A O)) → History s es → (i : ℕ) (e : Entry A O) → At es i e → P (state_from s (all_asked es) i) e.asked e.outcome

-- what holds where the definitions lead to the state s
pub record PlaceRight {S A O : Type 0} (step : S → A → O) (Leaves : S → A → O → Type 0) (s : S) (c : A) (o : O) : Type 0 where
  -- (a) the refusal, the answers and what is left are those of the definitions
  pub outcome : o ≡ step s c
  -- (b) what else is claimed of what is left: where rounds follow, that it is the best remainder
  pub leaves : Leaves s c o
