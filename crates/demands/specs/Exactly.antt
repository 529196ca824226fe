-- Demand 2: when exactly a grant is accepted, what it leaves, what exactly reach and use answer, and what setting the marks that stand leaves, on any bytes and by any step table (document 01, 'Calls'; document 02,
-- C-11, C-12, C-15, C-16 and C-18). Assumes nothing.
use Rattle.std.specs.Prelude.{◌≡◌, ◌⊎◌, true, List, [], ◌∷◌, ◌++◌, ℕ, ◌+◌, ◌<◌, T, set, pos}
use Rattle.rules.specs.List.{◌∈◌}
use Rattle.rules.specs.Limit.{none, ◌≼◌}
use Rattle.rules.specs.Register.{Delegation, marks_of}
use Rattle.rules.specs.Chain.{limit, IsChain}
use Rattle.rules.specs.Support.{Carried, Supported}
use Rattle.rules.specs.Pair.{is_pair, stands}
use Rattle.rules.specs.Call.{grant, ask_reach, ask_use, set_marks}
use Rattle.rules.specs.Refusal.{first_of, subjects_held, pair_stands, all_stand}
use Rattle.rules.specs.Granted.{GrantedIn, Raises}
use Rattle.block.specs.Layout.{weight_byte}
use Rattle.block.specs.Block.{count_in, decode}
use Rattle.block.specs.Records.{record_place, delegation_at}
use Rattle.steptable.specs.TableText.{Given}
use Rattle.refusals.specs.Early.{early}
use Rattle.register.specs.CallOn.{call_on}

-- no refusal of a grant but 16 applies, and some chain carries the weight
pub record Grantable (g : Given) (b : List ℕ) (d : Delegation) : Type 0 where
  pub early : first_of (early g.refusal b (grant d)) ≡ 0
  pub held : first_of (subjects_held (decode b) (d.giver ∷ d.receiver ∷ []) ++ (pair_stands (decode b) d ∷ all_stand (decode b) d ∷ [])) ≡ 0
  pub carried : Carried g.steps (decode b) d

-- a grant is accepted exactly when it is grantable
pub record GrantExactly (g : Given) (b : List ℕ) (d : Delegation) : Type 0 where
  pub only : (call_on g b (grant d)).refusal ≡ 0 → Grantable g b d
  pub whenever : Grantable g b d → (call_on g b (grant d)).refusal ≡ 0

-- no refusal of a grant before 11 applies
pub record Before11 (g : Given) (b : List ℕ) (d : Delegation) : Type 0 where
  pub early : first_of (early g.refusal b (grant d)) ≡ 0
  pub named : first_of (subjects_held (decode b) (d.giver ∷ d.receiver ∷ [])) ≡ 0

-- d can raise e: none of these applies, all but the weight is the same, that is larger, and some chain carries it
pub record Raisable (g : Given) (b : List ℕ) (d e : Delegation) : Type 0 where
  pub before : Before11 g b d
  pub raises : Raises d e
  pub carried : Carried g.steps (decode b) d

-- a grant is accepted exactly when it can raise e, however many delegations stand; past the refusals before 11 it gets 16 where it raises e and no chain carries it, and 11 where it does not raise e
pub record RaiseAnswer (g : Given) (b : List ℕ) (d e : Delegation) : Type 0 where
  pub only : (call_on g b (grant d)).refusal ≡ 0 → Raisable g b d e
  pub whenever : Raisable g b d e → (call_on g b (grant d)).refusal ≡ 0
  pub sixteen : Before11 g b d → Raises d e → (Carried g.steps (decode b) d → ⊥) → (call_on g b (grant d)).refusal ≡ 16
  pub eleven : Before11 g b d → (Raises d e → ⊥) → (call_on g b (grant d)).refusal ≡ 11

-- of every grant for whose pair a delegation e stands
abbrev pub RaiseExactly : Given → List ℕ → Delegation → Type 0
RaiseExactly g b d = (e : Delegation) → e ∈ (decode b).delegations → T (is_pair d.giver d.receiver e) → RaiseAnswer g b d e

-- an accepted grant drops nothing, lowers nothing and changes no condition and no kind; what it names stands as granted, and nothing else is heavier or new
abbrev pub GrantKeeps : Given → List ℕ → Delegation → Type 0
GrantKeeps g b d = (call_on g b (grant d)).refusal ≡ 0 → GrantedIn (decode b) (decode (call_on g b (grant d)).bytes) d

-- and where its pair stands, one byte of the block is another: the weight of the pair's record
abbrev pub RaiseByte : Given → List ℕ → Delegation → Type 0
RaiseByte g b d = (call_on g b (grant d)).refusal ≡ 0 → stands (decode b) d.giver d.receiver ≡ true
    → (k : ℕ) × (k < count_in b) × T (is_pair d.giver d.receiver (delegation_at b k)) × ((call_on g b (grant d)).bytes ≡ set b (record_place k + weight_byte) d.weight)

-- reach answers -1 exactly when there is no chain, and n exactly when some chain has the limit n and none a larger one
pub record ReachAnswer (k : Given) (b : List ℕ) (g r : ℕ) : Type 0 where
  pub none_only : (call_on k b (ask_reach g r)).first ≡ none → (ds : List Delegation) → IsChain k.steps (decode b) g r ds → ⊥
  pub none_whenever : ((ds : List Delegation) → IsChain k.steps (decode b) g r ds → ⊥) → (call_on k b (ask_reach g r)).first ≡ none
  pub some_only : (n : ℕ) → (call_on k b (ask_reach g r)).first ≡ pos n
      → ((ds : List Delegation) × IsChain k.steps (decode b) g r ds × (limit k.steps ds ≡ pos n)) × ((ds : List Delegation) → IsChain k.steps (decode b) g r ds → limit k.steps ds ≼ pos n)
  pub some_whenever : (n : ℕ) → (ds : List Delegation) → IsChain k.steps (decode b) g r ds → limit k.steps ds ≡ pos n → ((es : List Delegation) → IsChain k.steps (decode b) g r es → limit k.steps es ≼ pos n)
      → (call_on k b (ask_reach g r)).first ≡ pos n

-- of every accepted reach
abbrev pub ReachExactly : Given → List ℕ → ℕ → ℕ → Type 0
ReachExactly k b g r = (call_on k b (ask_reach g r)).refusal ≡ 0 → ReachAnswer k b g r

-- what lets r use the right: r is the owner, or some ordinary delegation to r stands
abbrev pub MayUse : List ℕ → ℕ → Type 0
MayUse b r = (r ≡ 0) ⊎ ((d : Delegation) × (d ∈ (decode b).delegations) × (d.receiver ≡ r) × (d.kind ≡ 0))

-- use answers 1 exactly then, and otherwise 0
pub record UseAnswer (g : Given) (b : List ℕ) (r : ℕ) : Type 0 where
  pub only : (call_on g b (ask_use r)).first ≡ pos 1 → MayUse b r
  pub whenever : MayUse b r → (call_on g b (ask_use r)).first ≡ pos 1
  pub otherwise : (MayUse b r → ⊥) → (call_on g b (ask_use r)).first ≡ pos 0

-- of every accepted use
abbrev pub UseExactly : Given → List ℕ → ℕ → Type 0
UseExactly g b r = (call_on g b (ask_use r)).refusal ≡ 0 → UseAnswer g b r

-- setting the marks that the subject has, on a register that the table given supports: where it is accepted nothing is dropped, nothing lowered, one round is made, and every byte is left
abbrev pub MarksStill : Given → List ℕ → (by subject : ℕ) → Type 0
MarksStill g b y s =
    let c = set_marks y s (marks_of (decode b) s) in
    (call_on g b c).refusal ≡ 0 → Supported g.steps (decode b) → call_on g b c ≡ record { refusal = 0; first = pos 0; second = pos 0; third = pos 1; bytes = b }
