-- Cuts (document 01, 'Calls'; document 02, C-15 and C-16): the named change, what rounds follow, and the counts that compare the register C after it with the register F left. Assumes nothing.
use Rattle.std.specs.Prelude.{Bool, not, ◌&&◌, ◌||◌, ℕ, ◌^◌, leb, eqb, length, set}
use Rattle.std.specs.Int.Bits.{bit_or}
use Rattle.rules.specs.List.{filter}
use Rattle.rules.specs.Limit.{code}
use Rattle.rules.specs.Register.{Delegation, Register, with_delegations, with_marks}
use Rattle.rules.specs.Pair.{is_pair, weight_at, stands, reweighed}

-- what a cut names: a pair whose delegation is removed, or set to a new weight
pub data Cut : Type 0 where
  removal : (giver receiver : ℕ) → Cut
  lowering : (giver receiver weight : ℕ) → Cut

-- the giver of that pair
abbrev pub giver_of : Cut → ℕ
giver_of (removal g r) = g
giver_of (lowering g r w) = g

-- the named change (document 01's term)
unfoldable pub named : Register → Cut → Register
named R (removal g r) = with_delegations R (filter (λ d. not (is_pair g r d)) R.delegations)
named R (lowering g r w) = reweighed R g r w

-- what a call changes before its rounds: a cut, its named change; all marks of a subject; or a subject retired
pub data Change : Type 0 where
  cutting : Cut → Change
  marking : (subject marks : ℕ) → Change
  retirement : (subject : ℕ) → Change

-- the subject gives or receives it
abbrev pub touches : ℕ → Delegation → Bool
touches s d = eqb d.giver s || eqb d.receiver s

abbrev pub changed : Register → Change → Register
changed R (cutting k) = named R k
changed R (marking s m) = with_marks R (set R.marks s m)
changed R (retirement s) = record {
  subjects = R.subjects;
  marks = set R.marks s 0;
  retired = bit_or R.retired (2 ^ s);
  delegations = filter (λ d. not (touches s d)) R.delegations;
}

abbrev pub is_dropped : Register → Delegation → Bool
is_dropped F d = not (stands F d.giver d.receiver)

abbrev pub is_lowered : Register → Delegation → Bool
is_lowered F d = stands F d.giver d.receiver && leb (code (weight_at F.delegations d.giver d.receiver)) d.weight

-- how many delegations of C do not stand in F
abbrev pub dropped : Register → Register → ℕ
dropped C F = length (filter (is_dropped F) C.delegations)

-- how many stand in F at a smaller weight
abbrev pub lowered : Register → Register → ℕ
lowered C F = length (filter (is_lowered F) C.delegations)
