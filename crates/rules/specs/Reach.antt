-- All chains of a pair, and its reach (document 01, 'Support chains and reach'; reach is its term; source 004, Definition 3 taken for one receiver). Assumes nothing.
use Rattle.std.specs.Prelude.{◌≡◌, ◌⊎◌, Bool, true, false, not, ◌&&◌, List, [], ◌∷◌, ◌++◌, map, ℕ, zero, suc, eqb, ltb, length, ℤ, pos}
use Rattle.rules.specs.List.{filter, concat_map}
use Rattle.rules.specs.Limit.{none, code, ◌≼◌, larger}
use Rattle.rules.specs.Table.{next}
use Rattle.rules.specs.Register.{Delegation, Register, marks_of}
use Rattle.rules.specs.Condition.{meets}
use Rattle.rules.specs.Chain.{limit, IsChain}

-- k is the reach of giver u and receiver v: the largest limit over all chains of the pair, or -1
pub record IsReach (t : List ℤ) (R : Register) (u v : ℕ) (k : ℤ) : Type 0 where
  pub bounds : (ds : List Delegation) → IsChain t R u v ds → limit t ds ≼ k
  pub attained : (k ≡ none) ⊎ ((ds : List Delegation) × IsChain t R u v ds × (k ≡ limit t ds))

-- ── reach as a function: the chains are listed from the owner on ──

-- the delegations that do not lead to x
abbrev pub avoiding : ℕ → List Delegation → List Delegation
avoiding x ds = filter (λ d. not (eqb d.receiver x)) ds

-- d comes from a, the marks m meet its condition, and the limit l is not -1 past it
unfoldable pub goes_on : List ℤ → ℕ → ℕ → ℤ → Delegation → Bool
goes_on t m a l d = eqb d.giver a && meets m d.need d.bar && ltb zero (code (next t l d.weight))

-- the empty list, where it ends at u
abbrev pub ended : Bool → List (List Delegation)
ended true = [] ∷ []
ended false = []

-- the lists over `free`, the delegations to subjects not passed yet, that go on from a at the limit l and end at u; k is at least the length of `free`
abbrev pub chains_from : List ℤ → ℕ → ℕ → ℕ → List Delegation → ℕ → ℤ → List (List Delegation)
chains_from t m u zero free a l = ended (eqb a u)
chains_from t m u (suc k) free a l =
    ended (eqb a u)
    ++ concat_map
    (λ d. map (λ ds. d ∷ ds) (chains_from t m u k (avoiding d.receiver free) d.receiver (next t l d.weight)))
    (filter (goes_on t m a l) free)

unfoldable pub chains : List ℤ → Register → ℕ → ℕ → List (List Delegation)
chains t R u v = let free = avoiding 0 R.delegations in chains_from t (marks_of R v) u (length free) free 0 (pos 255)

-- the largest limit of some lists, or none
abbrev pub largest : List ℤ → List (List Delegation) → ℤ
largest t [] = none
largest t (ds ∷ dss) = larger (limit t ds) (largest t dss)

unfoldable pub reach : List ℤ → Register → ℕ → ℕ → ℤ
reach t R u v = largest t (chains t R u v)
