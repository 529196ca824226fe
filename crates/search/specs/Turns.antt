-- What the parts of a search do to those who wait: whose turn it is, and what the next level and the next group are. Assumes nothing.
use Rattle.std.specs.Prelude.{◌≡◌, ◌≢◌, ◌⊎◌, Some, None, List, ℕ, ◌≤◌, ◌<◌, length, get_or, ℤ, pos}
use Rattle.rules.specs.Limit.{none, code, ◌≼◌}
use Rattle.block.specs.Layout.{most_subjects}
use Rattle.rules.specs.Bits.{bit, BitPut}
use Rattle.queue.specs.Queue.{Without, Lowest, Taken}
use Rattle.queue.specs.declared.Sets.{Sets}
use Rattle.search.specs.declared.Turn.{Turn}

-- limits of all subjects, each none or from 0 on
pub record IsLimits (l : List ℤ) : Type 0 where
  pub size : length l ≡ most_subjects
  pub each : (y : ℕ) → (get_or l y none ≡ none) ⊎ (pos 0 ≼ get_or l y none)

-- r has those of the set whose limit is the largest of theirs; `first` is the lowest of them
pub record Heaviest (l : List ℤ) (set first r : ℕ) : Type 0 where
  pub small : first < most_subjects
  pub member : bit r first ≡ 1
  pub least : (y : ℕ) → bit r y ≡ 1 → first ≤ y
  pub each : (y : ℕ) → bit r y ≡ 1 → (bit set y ≡ 1) × (get_or l y none ≡ get_or l first none)
  pub rest : (y : ℕ) → bit set y ≡ 1 → (bit r y ≡ 1) ⊎ (code (get_or l y none) < code (get_or l first none))

-- the heaviest of those who wait near wait here then, and it is the turn of u, the lowest of them
pub record LevelTaken (l : List ℤ) (sets : Sets) (u : ℕ) (left : Sets) : Type 0 where
  pub heaviest : Heaviest l sets.near u left.here
  pub near : Without sets.near left.here left.near
  pub far : left.far ≡ sets.far

-- if any does
abbrev pub LevelSought : List ℤ → Sets → Turn → Type 0
LevelSought l sets turn = ((sets.near ≡ 0) × (turn.subject ≡ None) × (turn.sets ≡ sets)) ⊎ ((u : ℕ) × (turn.subject ≡ Some u) × LevelTaken l sets u turn.sets)

-- those of the first group in which one may wait, but those settled, wait near then, and none here
pub record GroupTaken (settled : ℕ) (sets left : Sets) (q q' : List ℕ) : Type 0 where
  pub here : left.here ≡ 0
  pub group : ℕ
  pub first : Lowest sets.far group
  pub near : Taken q group settled left.near q'
  pub far : BitPut sets.far group 0 left.far

-- if none waits near already
abbrev pub GroupSought : ℕ → Sets → Sets → List ℕ → List ℕ → Type 0
GroupSought settled sets left q q' = ((sets.near ≢ 0) × (left ≡ sets) × (q' ≡ q)) ⊎ ((sets.near ≡ 0) × GroupTaken settled sets left q q')

-- the level at hand stays where one waits at it, and it is the turn of the lowest; else the next one is at hand then, of the next group where none waits near
pub record Advanced (l : List ℤ) (settled : ℕ) (sets : Sets) (turn : Turn) (q q' : List ℕ) : Type 0 where
  pub none : sets.here ≡ 0
  pub between : Sets
  pub group : GroupSought settled sets between q q'
  pub level : LevelSought l between turn

abbrev pub AtHand : List ℤ → ℕ → Sets → Turn → List ℕ → List ℕ → Type 0
AtHand l settled sets turn q q' = ((u : ℕ) × (turn.subject ≡ Some u) × Lowest sets.here u × (turn.sets ≡ sets) × (q' ≡ q)) ⊎ Advanced l settled sets turn q q'
