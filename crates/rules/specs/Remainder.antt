-- Remainders, and the best one (document 01, 'Calls'; both are its terms; document 02, C-15, C-16 and C-18). C is the register after the change that rounds follow: competitors have its marks and its retired subjects. Assumes nothing.
use Rattle.std.specs.Prelude.{◌≡◌, List, ◌≤◌, ℤ}
use Rattle.rules.specs.List.{◌∈◌}
use Rattle.rules.specs.Register.{Delegation, Register, reweigh}
use Rattle.rules.specs.Support.{Carried}

-- d is e, of the same kind, but for the weight, which is at most as there
pub record AtMost (d e : Delegation) : Type 0 where
  pub same : d ≡ reweigh e d.weight
  pub weight : d.weight ≤ e.weight

-- G holds each delegation of F, at least as heavy: from G to F nothing is added, no condition and no kind changes, and nothing is lifted
abbrev pub LiftsNothing : Register → Register → Type 0
LiftsNothing G F = (d : Delegation) → d ∈ F.delegations → (e : Delegation) × (e ∈ G.delegations) × AtMost d e

-- the same subjects, marks and retired subjects, and G holds each delegation of F at least as heavy
pub record Within (F G : Register) : Type 0 where
  pub subjects : F.subjects ≡ G.subjects
  pub marks : F.marks ≡ G.marks
  pub retired : F.retired ≡ G.retired
  pub held : LiftsNothing G F

-- F is a remainder of C: within C, and each delegation supported within F itself. F is any list of delegations, well formed or not
pub record Remainder (t : List ℤ) (C F : Register) : Type 0 where
  pub within : Within F C
  pub supported : (d : Delegation) → d ∈ F.delegations → Carried t F d

-- F is the best remainder of C: a remainder that holds every delegation of every remainder, at least as heavy as there
pub record Best (t : List ℤ) (C F : Register) : Type 0 where
  pub remainder : Remainder t C F
  pub best : (G : Register) → Remainder t C G → Within G F
