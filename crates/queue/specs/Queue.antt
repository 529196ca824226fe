-- The subjects that wait to be settled, by limit: a bucket queue. The levels, which are the limits, stand in groups of four, the highest group first. One level is at hand: those who wait at it wait here, the others who
-- wait in its group wait near, each in the bits of one number, and all others wait far: entry g of the queue is the set of those who wait in group g.
-- Assumes nothing.
use Rattle.std.specs.Prelude.{◌≡◌, ◌≢◌, ◌⊎◌, Bool, cond, Option, MatchOption, List, ℕ, zero, suc, ◌*◌, ◌-◌, ◌/◌, ◌<◌, eqb, length, get_or}
use Rattle.rules.specs.Bits.{bit, BitPut}
use Rattle.queue.specs.declared.Sets.{Sets}

-- the levels: the limits from 0 to 255
abbrev pub levels : ℕ
levels = 256

-- the groups of levels
abbrev pub groups : ℕ
groups = 64

-- the bits of a set: the subjects that can wait are those below this number
abbrev pub set_bits : ℕ
set_bits = 64

-- m has the members of n that r does not have
abbrev pub Without : ℕ → ℕ → ℕ → Type 0
Without n r m = (y : ℕ) → bit m y ≡ bit n y - bit r y

-- y is the lowest member of the set n
pub record Lowest (n y : ℕ) : Type 0 where
  pub small : y < set_bits
  pub member : bit n y ≡ 1
  pub least : (x : ℕ) → x < y → bit n x ≡ 0

-- the lowest member of n is given, and m is n without it; none where n has none
abbrev pub GivesLowest : ℕ → Option ℕ → ℕ → Type 0
GivesLowest n r m = MatchOption r ((n ≡ 0) × (m ≡ 0)) (λ y. Lowest n y × BitPut n y 0 m)

-- how many of the first n numbers are not among those that f holds for
unfoldable pub left : (ℕ → Bool) → ℕ → ℕ
left f zero = 0
left f (suc n) = cond (f n) (left f n) (suc (left f n))

-- how many are in a set
abbrev pub members : ℕ → ℕ
members n = left (λ y. eqb (bit n y) 0) set_bits

-- 1 where y is a member of entry x of a list of sets, 0 where it is not
abbrev pub waits : List ℕ → ℕ → ℕ → ℕ
waits q x y = bit (get_or q x 0) y

-- q' is q but for member y of entry x, which has the bit b there
pub record BitSet (q : List ℕ) (x y b : ℕ) (q' : List ℕ) : Type 0 where
  pub size : length q' ≡ length q
  pub here : waits q' x y ≡ b
  pub others : (z w : ℕ) → (x ≢ z) ⊎ (y ≢ w) → waits q' z w ≡ waits q z w

-- the group of level z
abbrev pub group_of : ℕ → ℕ
group_of z = (levels - 1 - z) / 4

-- the highest level of group g
abbrev pub top_of : ℕ → ℕ
top_of g = levels - 1 - 4 * g

-- level `at` being at hand, the entry of level z in the list of those who wait here, those who wait near and then the queue
abbrev pub place_of : ℕ → ℕ → ℕ
place_of at z = cond (eqb z at) 0 (cond (eqb (group_of z) (group_of at)) 1 (suc (suc (group_of z))))

-- none waits in a group that is not among those of `far`
abbrev pub Covered : List ℕ → ℕ → Type 0
Covered q far = (g y : ℕ) → bit far g ≡ 0 → waits q g y ≡ 0

-- a queue of all groups, and a set of groups that covers it
pub record IsQueue (q : List ℕ) (far : ℕ) : Type 0 where
  pub size : length q ≡ groups
  pub covered : Covered q far

-- a queue in which none waits
pub record Empty (q : List ℕ) : Type 0 where
  pub size : length q ≡ groups
  pub none : (g y : ℕ) → waits q g y ≡ 0

-- subject 0 alone waits, at the level at hand
abbrev pub owner_here : Sets
owner_here = record { here = 1; near = 0; far = 0 }

-- all who wait in group g are taken from the queue q; r has those of them that are not settled
pub record Taken (q : List ℕ) (g settled r : ℕ) (q' : List ℕ) : Type 0 where
  pub size : length q' ≡ length q
  pub each : Without (get_or q g 0) settled r
  pub none : (y : ℕ) → waits q' g y ≡ 0
  pub others : (x y : ℕ) → g ≢ x → waits q' x y ≡ waits q x y
