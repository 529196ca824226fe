-- The calls of a list (document 01, 'Calls'; document 02, C-15 to C-17). Every number is what the caller passed, whatever it is. Assumes nothing.
use Rattle.std.specs.Prelude.{◌≡◌, [], ◌∷◌, ◌++◌, ℕ, suc}
use Rattle.rules.specs.Register.{Delegation, Register}
use Rattle.rules.specs.Cut.{Cut, Change, cutting, marking, retirement, removal, lowering}

pub data Call : Type 0 where
  enrol : (marks : ℕ) → Call
  grant : (delegation : Delegation) → Call
  revoke : (by giver receiver : ℕ) → Call
  downgrade : (by giver receiver weight : ℕ) → Call
  ask_reach : (giver receiver : ℕ) → Call
  ask_use : (receiver : ℕ) → Call
  set_marks : (by subject marks : ℕ) → Call
  retire : (by subject : ℕ) → Call

-- what open writes: one subject, none retired, no delegation
abbrev pub fresh : Register
fresh = record { subjects = 1; marks = 0 ∷ []; retired = 0; delegations = [] }

-- the register with one more subject, who has these marks
abbrev pub enrolled : Register → ℕ → Register
enrolled R m = record { subjects = suc R.subjects; marks = R.marks ++ (m ∷ []); retired = R.retired; delegations = R.delegations }

-- the call makes this change, and rounds follow
abbrev pub Makes : Call → Change → Type 0
Makes (enrol m) k = ⊥
Makes (grant d) k = ⊥
Makes (revoke y g r) k = k ≡ cutting (removal g r)
Makes (downgrade y g r w) k = k ≡ cutting (lowering g r w)
Makes (ask_reach g r) k = ⊥
Makes (ask_use r) k = ⊥
Makes (set_marks y s m) k = k ≡ marking s m
Makes (retire y s) k = k ≡ retirement s

-- the call by y that makes a cut
abbrev pub cut_call : ℕ → Cut → Call
cut_call y (removal g r) = revoke y g r
cut_call y (lowering g r w) = downgrade y g r w
