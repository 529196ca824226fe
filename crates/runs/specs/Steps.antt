-- What each part of a search does to the limits `l`, to the places `p` of the parents' records and to the subjects to be settled: `q` has those who wait here, those who wait near, and then the sets of the queue. Assumes nothing.
use Rattle.std.specs.Prelude.{◌≡◌, ◌⊎◌, List, ℕ, zero, suc, ◌+◌, ◌*◌, ◌-◌, ◌≤◌, ◌<◌, T, length, get_or, set, take, drop, ℤ, pos, nat_abs}
use Rattle.std.specs.Int.Signed.{lt_z}
use Rattle.rules.specs.Limit.{none, ◌≼◌}
use Rattle.rules.specs.Table.{next}
use Rattle.rules.specs.Register.{Delegation}
use Rattle.rules.specs.Condition.{meets}
use Rattle.block.specs.Layout.{most_subjects, record_size}
use Rattle.queue.specs.Queue.{BitSet, place_of, IsQueue}
use Rattle.runs.specs.Lent.{record_count, record_at, Lent, SubjectLists}

-- the marks meet the condition of d, and from a giver of this limit d gives its receiver more than it has
abbrev pub Raises : List ℤ → ℤ → ℕ → List ℤ → Delegation → Type 0
Raises t limit marks l d = T (meets marks d.need d.bar) × T (lt_z (get_or l d.receiver none) (next t limit d.weight))

-- d, whose record is at this place, raises its receiver, which then waits at its new limit with d as its parent, the giver's limit being the level at hand; or nothing changes
abbrev pub Stepped : List ℤ → ℤ → ℕ → Delegation → ℕ → List ℤ → List ℕ → List ℕ → List ℤ → List ℕ → List ℕ → Type 0
Stepped t limit marks d place l p q l' p' q' =
    ((Raises t limit marks l d → ⊥) × (l' ≡ l) × (p' ≡ p) × (q' ≡ q))
    ⊎ (Raises t limit marks l d × (l' ≡ set l d.receiver (next t limit d.weight)) × (p' ≡ set p d.receiver place) × BitSet q (place_of (nat_abs limit) (nat_abs (next t limit d.weight))) d.receiver 1 q')

-- the first records of a run, one after another; the first of them is at the place `first`
pub data SteppedTo (t : List ℤ) (limit : ℤ) (marks : ℕ) (run : List ℕ) (first : ℕ) (l : List ℤ) (p q : List ℕ) : ℕ → List ℤ → List ℕ → List ℕ → Type 0 where
  stepped_none : SteppedTo t limit marks run first l p q zero l p q
  stepped_more : {k : ℕ} {l' : List ℤ} {p' q' : List ℕ} {l'' : List ℤ} {p'' q'' : List ℕ} → SteppedTo t limit marks run first l p q k l' p' q'
      → Stepped t limit marks (record_at run k) (first + k) l' p' q' l'' p'' q'' → SteppedTo t limit marks run first l p q (suc k) l'' p'' q''

-- r is the place of the first record whose giver is not below `bound`, or the number of records
pub record Sought (s : List ℕ) (bound r : ℕ) : Type 0 where
  pub within : r ≤ record_count s
  pub below : (k : ℕ) → k < r → (record_at s k).giver < bound
  pub above : (k : ℕ) → r ≤ k → k < record_count s → bound ≤ (record_at s k).giver

-- a start for each giver, and the end of the last run
abbrev pub start_count : ℕ
start_count = most_subjects + 1

-- entry g is the place where the run of the giver g starts, the last entry where the last run ends
pub record Starts (s starts : List ℕ) : Type 0 where
  pub size : length starts ≡ start_count
  pub each : (g : ℕ) → g < start_count → Sought s g (get_or starts g 0)

-- what is lent to a search, and where the run of each giver starts
pub record Indexed (t : List ℤ) (s places : List ℕ) : Type 0 where
  pub lent : Lent t s (record_count s)
  pub starts : Starts s places

-- the records from place a to place e
abbrev pub part : List ℕ → ℕ → ℕ → List ℕ
part s a e = take (record_size * e - record_size * a) (drop (record_size * a) s)

-- the records of one giver, all of them and no others, one after another
pub record Gave (t : List ℤ) (s : List ℕ) (marks giver : ℕ) (l : List ℤ) (p q : List ℕ) (l' : List ℤ) (p' q' : List ℕ) : Type 0 where
  pub first : ℕ
  pub past : ℕ
  pub order : first ≤ past
  pub within : past ≤ record_count s
  pub before : (k : ℕ) → k < first → (record_at s k).giver < giver
  pub here : (k : ℕ) → first ≤ k → k < past → (record_at s k).giver ≡ giver
  pub after : (k : ℕ) → past ≤ k → k < record_count s → giver < (record_at s k).giver
  pub stepped : SteppedTo t (get_or l giver none) marks (part s first past) first l p q (past - first) l' p' q'

-- what holds between two records: each subject has no limit or one from 0 on, and the groups `far` cover the queue
pub record Waiting (l : List ℤ) (q : List ℕ) (far : ℕ) : Type 0 where
  pub queue : IsQueue q far
  pub limits : (y : ℕ) → (get_or l y none ≡ none) ⊎ (pos 0 ≼ get_or l y none)

-- the limit of a giver, and the lists that its records change
pub record Ready (limit : ℤ) (l : List ℤ) (p q : List ℕ) (far : ℕ) : Type 0 where
  pub live : pos 0 ≼ limit
  pub most : limit ≼ pos 255
  pub lists : SubjectLists l p
  pub waiting : Waiting l q far
