-- Refusals (document 01, 'Turned back by what was passed' and 'Turned back by what the register holds'; document 02, C-12 to C-18): each number with the test under which it applies, and for each call
-- two ordered lists of them. The refusal is the first that applies of 1, `passed`, 8 and `held`; 1 and 8 speak of bytes and have no place in a register. Assumes nothing.
use Rattle.std.specs.Prelude.{Bool, cond, not, ◌&&◌, ◌||◌, List, [], ◌∷◌, ◌++◌, ℕ, suc, leb, ltb, eqb, length, ℤ}
use Rattle.std.specs.Int.Bits.{bit_and}
use Rattle.rules.specs.List.{filter, any}
use Rattle.rules.specs.Limit.{code}
use Rattle.rules.specs.Register.{Delegation, Register, is_retired}
use Rattle.rules.specs.Support.{allowed}
use Rattle.rules.specs.Pair.{is_pair, weight_at, stands, raises}
use Rattle.rules.specs.Call.{Call, enrol, grant, revoke, downgrade, ask_reach, ask_use, set_marks, retire}

-- the number of the first that applies, or 0
abbrev pub first_of : List (ℕ × Bool) → ℕ
first_of [] = 0
first_of (p ∷ ps) = cond p.1 p.0 (first_of ps)

-- ── by what was passed ──

-- 2: a subject number above 63
abbrev pub no_subject : List ℕ → ℕ × Bool
no_subject xs = (2, any (λ x. ltb 63 x) xs)

-- 3: a weight above 255
abbrev pub no_weight : ℕ → ℕ × Bool
no_weight w = (3, ltb 255 w)

-- 4: marks above 65,535
abbrev pub no_marks : ℕ → ℕ × Bool
no_marks m = (4, ltb 65535 m)

-- 4: need or bar above 65,535, or they share a mark
abbrev pub no_condition : ℕ → ℕ → ℕ × Bool
no_condition n b = (4, ltb 65535 n || ltb 65535 b || not (eqb (bit_and n b) 0))

-- 5: giver and receiver equal
abbrev pub equal_pair : ℕ → ℕ → ℕ × Bool
equal_pair g r = (5, eqb g r)

-- 6: the receiver, or the subject whose marks are set or who is retired, is the owner
abbrev pub to_owner : ℕ → ℕ × Bool
to_owner r = (6, eqb r 0)

-- 21: a kind above 1, or pass-only of weight 0
abbrev pub no_kind : ℕ → ℕ → ℕ × Bool
no_kind w k = (21, ltb 1 k || (eqb k 1 && eqb w 0))

-- ── by what the register holds ──

-- 9: a named subject is not enrolled
abbrev pub not_enrolled : Register → List ℕ → ℕ × Bool
not_enrolled R xs = (9, any (λ x. leb R.subjects x) xs)

-- 19: a named subject is retired
abbrev pub gone : Register → List ℕ → ℕ × Bool
gone R xs = (19, any (is_retired R) xs)

-- 9, and straight after it 19, of the subjects that a call names
abbrev pub subjects_held : Register → List ℕ → List (ℕ × Bool)
subjects_held R xs = not_enrolled R xs ∷ gone R xs ∷ []

-- 10: 64 subjects enrolled
abbrev pub all_enrolled : Register → ℕ × Bool
all_enrolled R = (10, leb 64 R.subjects)

-- 11: the pair stands, and d does not raise it
abbrev pub pair_stands : Register → Delegation → ℕ × Bool
pair_stands R d = (11, stands R d.giver d.receiver && not (raises R d))

-- 12: 256 delegations stand, and the pair is not among them
abbrev pub all_stand : Register → Delegation → ℕ × Bool
all_stand R d = (12, not (stands R d.giver d.receiver) && leb 256 (length R.delegations))

-- 13: the pair does not stand
abbrev pub no_pair : Register → ℕ → ℕ → ℕ × Bool
no_pair R g r = (13, not (stands R g r))

-- 14: by is neither giver nor owner
abbrev pub may_not : ℕ → ℕ → ℕ × Bool
may_not by g = (14, not (eqb by g || eqb by 0))

-- 14: by is not the owner, and only the owner may
abbrev pub owner_only : ℕ → ℕ × Bool
owner_only by = may_not by 0

-- 15: the new weight is not below the present
abbrev pub not_below : Register → ℕ → ℕ → ℕ → ℕ × Bool
not_below R g r w = (15, leb (code (weight_at R.delegations g r)) (suc w))

-- the reach that counts for one of these delegations is below its weight
abbrev pub too_heavy : List ℤ → Register → List Delegation → Bool
too_heavy t R ds = any (λ d. ltb (code (allowed t R d)) (suc d.weight)) ds

-- 16: so for a delegation that a call asks for
abbrev pub overweight : List ℤ → Register → List Delegation → ℕ × Bool
overweight t R ds = (16, too_heavy t R ds)

-- 18: so for a delegation of a register that is read
abbrev pub unsupported : List ℤ → Register → ℕ × Bool
unsupported t R = (18, too_heavy t R R.delegations)

-- ── the lists of each call ──
unfoldable pub passed : Call → List (ℕ × Bool)
passed (enrol m) = no_marks m ∷ []
passed (grant d) =
    no_subject (d.giver ∷ d.receiver ∷ []) ∷ no_weight d.weight ∷ no_condition d.need d.bar ∷ equal_pair d.giver d.receiver ∷ to_owner d.receiver ∷ no_kind d.weight d.kind ∷ []
passed (revoke y g r) = no_subject (y ∷ g ∷ r ∷ []) ∷ equal_pair g r ∷ to_owner r ∷ []
passed (downgrade y g r w) = no_subject (y ∷ g ∷ r ∷ []) ∷ no_weight w ∷ equal_pair g r ∷ to_owner r ∷ []
passed (ask_reach g r) = no_subject (g ∷ r ∷ []) ∷ equal_pair g r ∷ to_owner r ∷ []
passed (ask_use r) = no_subject (r ∷ []) ∷ []
passed (set_marks y s m) = no_subject (y ∷ s ∷ []) ∷ no_marks m ∷ to_owner s ∷ []
passed (retire y s) = no_subject (y ∷ s ∷ []) ∷ to_owner s ∷ []

unfoldable pub held : List ℤ → Register → Call → List (ℕ × Bool)
held t R (enrol m) = all_enrolled R ∷ []
held t R (grant d) = subjects_held R (d.giver ∷ d.receiver ∷ []) ++ (pair_stands R d ∷ all_stand R d ∷ overweight t R (d ∷ []) ∷ [])
held t R (revoke y g r) = subjects_held R (y ∷ g ∷ r ∷ []) ++ (no_pair R g r ∷ may_not y g ∷ [])
held t R (downgrade y g r w) = subjects_held R (y ∷ g ∷ r ∷ []) ++ (no_pair R g r ∷ may_not y g ∷ not_below R g r w ∷ [])
held t R (ask_reach g r) = subjects_held R (g ∷ r ∷ [])
held t R (ask_use r) = subjects_held R (r ∷ [])
held t R (set_marks y s m) = subjects_held R (y ∷ s ∷ []) ++ (owner_only y ∷ [])
held t R (retire y s) = subjects_held R (y ∷ s ∷ []) ++ (owner_only y ∷ [])

-- the refusal of a call on a register, or 0
unfoldable pub refusal_of : List ℤ → Register → Call → ℕ
refusal_of t R c = first_of (passed c ++ held t R c)

-- ── the chain call, which is in no list: what it writes is free ──
abbrev pub chain_passed : ℕ → ℕ → List (ℕ × Bool)
chain_passed g r = no_subject (g ∷ r ∷ []) ∷ equal_pair g r ∷ to_owner r ∷ []

abbrev pub chain_held : List ℤ → Register → ℕ → ℕ → List (ℕ × Bool)
chain_held t R g r = subjects_held R (g ∷ r ∷ []) ++ (no_pair R g r ∷ overweight t R (filter (is_pair g r) R.delegations) ∷ [])

-- ── the order call (document 02, C-14), which is in no list: it changes no register ──
abbrev pub order_passed : ℕ → List (ℕ × Bool)
order_passed v = no_subject (v ∷ []) ∷ to_owner v ∷ []

abbrev pub order_held : Register → ℕ → List (ℕ × Bool)
order_held R v = subjects_held R (v ∷ [])

-- ── taking a cut back (document 02, C-17) by y, g being the giver on the slip: only y is named. 1 of the slip, and 20, which follows these, speak of bytes and have no place in a register ──
abbrev pub back_passed : ℕ → List (ℕ × Bool)
back_passed y = no_subject (y ∷ []) ∷ []

abbrev pub back_held : Register → (by giver : ℕ) → List (ℕ × Bool)
back_held R y g = subjects_held R (y ∷ []) ++ (may_not y g ∷ [])
