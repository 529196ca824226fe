-- What the parts of a reckoning find, lower and leave, for the register R that a block holds and the step table t. Assumes nothing.
use Rattle.std.specs.Prelude.{◌≡◌, ◌≢◌, ◌⊎◌, Bool, true, false, cond, List, ℕ, ◌+◌, ◌*◌, ◌≤◌, ◌<◌, length, get_or, ℤ, pos}
use Rattle.std.specs.Int.Signed.{lt_z}
use Rattle.rules.specs.List.{◌∈◌}
use Rattle.rules.specs.Limit.{◌≼◌}
use Rattle.rules.specs.Register.{Delegation, Register, with_delegations, no_delegation}
use Rattle.rules.specs.Reach.{reach}
use Rattle.rules.specs.Support.{allowed}
use Rattle.rules.specs.Round.{round}
use Rattle.block.specs.Layout.{most_subjects, most_records}
use Rattle.block.specs.Records.{HasRecords, delegation_at, left_to}
use Rattle.block.specs.Block.{subjects_in, count_in, records_in, decode}
use Rattle.rules.specs.Bits.{bit}
use Rattle.queue.specs.Queue.{Empty}
use Rattle.runs.specs.Steps.{Starts}
use Rattle.search.specs.Found.{Prepared}
use Rattle.search.specs.Named.{MarksAmong, AllNamed}
use Rattle.reckoning.specs.declared.Delegation.{Delegation as DecodedDelegation}
use Rattle.reckoning.specs.declared.Index.{Index}

-- how many reaches the table of reaches has: one for each giver and receiver
abbrev pub reach_count : ℕ
reach_count = most_subjects * most_subjects

-- where the reach of a giver and a receiver is kept in the table of reaches
abbrev pub reach_at : ℕ → ℕ → ℕ
reach_at g r = most_subjects * r + g

-- the set has the receiver of each of the first n delegations f
abbrev pub HasReceivers : (ℕ → Delegation) → ℕ → ℕ → Type 0
HasReceivers f n set = (k : ℕ) → k < n → bit set (f k).receiver ≡ 1

-- every mark that a condition of the first n delegations f names is a mark of m
abbrev pub FirstNamed : (ℕ → Delegation) → ℕ → ℕ → Type 0
FirstNamed f n m = (k : ℕ) → k < n → MarksAmong (f k).need m × MarksAmong (f k).bar m

-- the receiver of every delegation of ds is in the set
abbrev pub AllReceivers : ℕ → List Delegation → Type 0
AllReceivers set ds = (d : Delegation) → d ∈ ds → bit set d.receiver ≡ 1

-- what the rounds on the block b need and only a removal changes: how many delegations stand, where the run of each giver starts, who receives, and the marks that conditions name
pub record IndexOf (b : List ℕ) (i : Index) (places : List ℕ) : Type 0 where
  pub count : i.count ≡ count_in b
  pub starts : Starts (records_in b) places
  pub receivers : AllReceivers i.receivers (decode b).delegations
  pub names : AllNamed i.named (decode b).delegations

-- row r of the table of reaches holds the reach of every giver for the receiver r
abbrev pub HasRow : List ℤ → Register → ℕ → List ℤ → Type 0
HasRow t R r l = (u : ℕ) → u < most_subjects → get_or l (reach_at u r) (pos 0) ≡ reach t R u r

-- each subject below v that is in the set has its row in the table of reaches
pub record Filled (t : List ℤ) (R : Register) (set v : ℕ) (l : List ℤ) : Type 0 where
  pub size : length l ≡ reach_count
  pub rows : (r : ℕ) → r < v → bit set r ≡ 1 → HasRow t R r l

-- the table of reaches holds what counts for every delegation
abbrev pub Tabled : List ℤ → Register → List ℤ → Type 0
Tabled t R l = (d : Delegation) → d ∈ R.delegations → get_or l (reach_at d.giver d.receiver) (pos 0) ≡ allowed t R d

-- m is l but for the n places from a on
abbrev pub Besides : ℕ → ℕ → List ℤ → List ℤ → Type 0
Besides a n l m = (i : ℕ) → (i < a) ⊎ (a + n ≤ i) → get_or m i (pos 0) ≡ get_or l i (pos 0)

-- m is l with the n places from b on copied to those from a on
pub record PlacesCopied (b a n : ℕ) (l m : List ℤ) : Type 0 where
  pub there : (i : ℕ) → i < n → get_or m (a + i) (pos 0) ≡ get_or l (b + i) (pos 0)
  pub rest : Besides a n l m

-- the table m is l with row r filled
pub record RowMade (t : List ℤ) (R : Register) (r : ℕ) (l m : List ℤ) : Type 0 where
  pub row : HasRow t R r m
  pub rest : Besides (most_subjects * r) most_subjects l m

-- how many delegations are decoded and lowered together
abbrev pub run_size : ℕ
run_size = 16

-- the tables that a round is lent: room for every reach, and a queue in which none waits
pub record TablesLent (reaches : List ℤ) (waiting : List ℕ) : Type 0 where
  pub size : length reaches ≡ reach_count
  pub queue : Empty waiting

-- what filling the row of the receiver r asks: the block with its starts, the marks that its conditions name, and the rows of the receivers before r
pub record RowAsked (t : List ℤ) (b places : List ℕ) (named set r : ℕ) (reaches : List ℤ) (waiting : List ℕ) : Type 0 where
  pub block : Prepared t b places
  pub names : AllNamed named (decode b).delegations
  pub receiver : r < subjects_in b
  pub filled : Filled t (decode b) set r reaches
  pub queue : Empty waiting

-- n delegations from `first` on that can be lowered together, and room for their weights
pub record RunAsked (b : List ℕ) (first n : ℕ) (weights : List ℤ) : Type 0 where
  pub records : HasRecords b (first + n)
  pub few : first + n ≤ most_records
  pub run : n ≤ run_size
  pub room : length weights ≡ most_records

-- a delegation, decoded
abbrev pub decoded_as : Delegation → DecodedDelegation
decoded_as d = record { giver = d.giver; receiver = d.receiver; weight = pos d.weight; need = d.need; bar = d.bar }

-- what is read past the end of decoded delegations
abbrev pub none_decoded : DecodedDelegation
none_decoded = decoded_as no_delegation

-- the first n of the delegations f, decoded
abbrev pub Decoded : (ℕ → Delegation) → ℕ → List DecodedDelegation → Type 0
Decoded f n ds = (k : ℕ) → k < n → get_or ds k none_decoded ≡ decoded_as (f k)

-- a weight lowered to a reach below it
abbrev pub lesser : ℤ → ℤ → ℤ
lesser l w = cond (lt_z l w) l w

-- the weight of a giver's delegation to a receiver, lowered to the reach that the table has for them, if it has one
abbrev pub lowered_to : List ℤ → ℕ → ℕ → ℤ → ℤ
lowered_to reaches g r w = lesser (get_or reaches (reach_at g r) w) w

-- a decoded delegation lowered to its reach
abbrev pub lower_one : List ℤ → DecodedDelegation → DecodedDelegation
lower_one reaches d = record { giver = d.giver; receiver = d.receiver; weight = lowered_to reaches d.giver d.receiver d.weight; need = d.need; bar = d.bar }

-- m is l with the weights w at the n places from `first` on; the answer says whether one is below the weight that f has
pub record WeightsPut (f : ℕ → Delegation) (w : ℕ → ℤ) (first n : ℕ) (changed : Bool) (l m : List ℤ) : Type 0 where
  pub each : (k : ℕ) → k < n → get_or m (first + k) (pos 0) ≡ w k
  pub before : (k : ℕ) → k < first → get_or m k (pos 0) ≡ get_or l k (pos 0)
  pub same : changed ≡ false → (k : ℕ) → k < n → lt_z (w k) (pos (f (first + k)).weight) ≡ false
  pub less : changed ≡ true → (k : ℕ) × (k < n) × (lt_z (w k) (pos (f (first + k)).weight) ≡ true)

-- the weights of the first n of ds
abbrev pub WeightsRead : (ℕ → Delegation) → List DecodedDelegation → ℕ → ℕ → Bool → List ℤ → List ℤ → Type 0
WeightsRead f ds first n changed l m = WeightsPut f (λ k. (get_or ds k none_decoded).weight) first n changed l m

-- the weight of a delegation, lowered to its reach
abbrev pub weight_left : List ℤ → Delegation → ℤ
weight_left reaches d = lowered_to reaches d.giver d.receiver (pos d.weight)

-- the weights of the n delegations from `first` on, lowered to their reaches
abbrev pub RunLowered : List ℤ → (ℕ → Delegation) → ℕ → ℕ → Bool → List ℤ → List ℤ → Type 0
RunLowered reaches f first n changed l m = WeightsPut f (λ k. weight_left reaches (f (first + k))) first n changed l m

-- the weights that a round on the block b leaves; the answer says whether one changed
pub record Reckoned (t : List ℤ) (b : List ℕ) (changed : Bool) (weights : List ℤ) : Type 0 where
  pub most : (k : ℕ) → k < count_in b → get_or weights k (pos 0) ≼ pos 255
  pub left : with_delegations (decode b) (left_to (delegation_at b) weights (count_in b)) ≡ round t (decode b)
  pub same : changed ≡ false → round t (decode b) ≡ decode b
  pub change : changed ≡ true → round t (decode b) ≢ decode b
