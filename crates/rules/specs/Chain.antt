-- Support chains (document 01, 'Support chains and reach'; source 004, sections 3 and 5, its Definition 5 read as document 01 says). Assumes nothing.
use Rattle.std.specs.Prelude.{◌≡◌, List, [], ◌∷◌, ℕ, ℤ, pos}
use Rattle.rules.specs.List.{◌∈◌, Distinct}
use Rattle.rules.specs.Limit.{◌≼◌}
use Rattle.rules.specs.Table.{next}
use Rattle.rules.specs.Register.{Delegation, Register}
use Rattle.rules.specs.Condition.{Meets}

-- the first comes from a, each later one from the receiver before it, the last ends at u; the empty list ends where it begins
abbrev pub Linked : ℕ → List Delegation → ℕ → Type 0
Linked a [] u = a ≡ u
Linked a (d ∷ ds) u = (d.giver ≡ a) × Linked d.receiver ds u

abbrev pub receivers : List Delegation → List ℕ
receivers [] = []
receivers (d ∷ ds) = d.receiver ∷ receivers ds

-- the limit that a list carries, from the limit l at its start
unfoldable pub limit_from : List ℤ → ℤ → List Delegation → ℤ
limit_from t l [] = l
limit_from t l (d ∷ ds) = limit_from t (next t l d.weight) ds

-- it starts at 255
abbrev pub limit : List ℤ → List Delegation → ℤ
limit t ds = limit_from t (pos 255) ds

-- ds is a chain for giver u and receiver v
pub record IsChain (t : List ℤ) (R : Register) (u v : ℕ) (ds : List Delegation) : Type 0 where
  -- every one stands
  pub standing : (d : Delegation) → d ∈ ds → d ∈ R.delegations
  -- from the owner to u
  pub linked : Linked 0 ds u
  -- no subject, the owner included, occurs twice
  pub distinct : Distinct (0 ∷ receivers ds)
  -- v meets the condition of every one
  pub met : (d : Delegation) → d ∈ ds → Meets R v d
  -- the limit is not -1 at u, nor on the way: once none, a limit stays none
  pub live : pos 0 ≼ limit t ds
