-- Subjects and their limits as bytes, two a subject, and what the function that writes them is lent. Assumes nothing.
use Rattle.std.specs.Prelude.{List, [], ◌∷◌, ℕ, ◌*◌, ◌≤◌, ◌<◌, length, get_or, take, ℤ, pos, nat_abs}
use Rattle.rules.specs.List.{◌∈◌, concat_map}
use Rattle.rules.specs.Limit.{none, ◌≼◌}
use Rattle.block.specs.Layout.{most_subjects}

-- the bytes of a subject and its limit, and of all subjects with theirs: the length of the lent buffer
abbrev pub item_size : ℕ
item_size = 2

abbrev pub order_size : ℕ
order_size = item_size * most_subjects

-- the subjects ws, each with its entry of l
abbrev pub item_bytes : List ℤ → List ℕ → List ℕ
item_bytes l ws = concat_map (λ s. s ∷ nat_abs (get_or l s none) ∷ []) ws

-- each of the first n of xs has an entry from 0 to 255 in l, and there is room for them
pub record ItemsHeld (l : List ℤ) (xs : List ℕ) (n : ℕ) (buf : List ℕ) : Type 0 where
  pub few : n ≤ most_subjects
  pub within : n ≤ length xs
  pub room : item_size * n ≤ length buf
  pub places : (s : ℕ) → s ∈ take n xs → s < length l
  pub limits : (s : ℕ) → s ∈ take n xs → (pos 0 ≼ get_or l s none) × (get_or l s none ≼ pos 255)
