-- What stands for a pair of giver and receiver (document 01, 'Subjects, marks, weights'; document 02, C-12 and C-18): at most one delegation in a well-formed register. Assumes nothing.
use Rattle.std.specs.Prelude.{Bool, cond, ◌&&◌, List, [], ◌∷◌, map, ℕ, zero, eqb, ltb, ℤ, pos}
use Rattle.rules.specs.List.{any}
use Rattle.rules.specs.Limit.{none, code}
use Rattle.rules.specs.Register.{Delegation, Register, reweigh, with_delegations}

abbrev pub is_pair : ℕ → ℕ → Delegation → Bool
is_pair g r d = eqb d.giver g && eqb d.receiver r

-- the weight that stands for a pair, or -1
abbrev pub weight_at : List Delegation → ℕ → ℕ → ℤ
weight_at [] g r = none
weight_at (d ∷ ds) g r = cond (is_pair g r d) (pos d.weight) (weight_at ds g r)

abbrev pub stands : Register → ℕ → ℕ → Bool
stands R g r = ltb zero (code (weight_at R.delegations g r))

-- all but the weight is the same
abbrev pub same_terms : Delegation → Delegation → Bool
same_terms d e = is_pair d.giver d.receiver e && eqb e.need d.need && eqb e.bar d.bar && eqb e.kind d.kind

-- d raises e: the same terms at a larger weight
abbrev pub is_raise : Delegation → Delegation → Bool
is_raise d e = same_terms d e && ltb e.weight d.weight

-- d raises what stands
abbrev pub raises : Register → Delegation → Bool
raises R d = any (is_raise d) R.delegations

-- a delegation of the pair at another weight, any other as it is
abbrev pub set_for : ℕ → ℕ → ℕ → Delegation → Delegation
set_for g r w d = cond (is_pair g r d) (reweigh d w) d

-- the register with the delegation of the pair at another weight
abbrev pub reweighed : Register → ℕ → ℕ → ℕ → Register
reweighed R g r w = with_delegations R (map (set_for g r w) R.delegations)

-- d is an ordinary delegation to r: it lets r use the right
abbrev pub opens_to : ℕ → Delegation → Bool
opens_to r d = eqb d.receiver r && eqb d.kind 0

-- some ordinary delegation to r stands
abbrev pub opens : ℕ → List Delegation → Bool
opens r ds = any (opens_to r) ds
