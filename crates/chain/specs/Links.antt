-- The links by which a subject is reached, read off the parents that a search found, and their bytes. Assumes nothing.
use Rattle.std.specs.Prelude.{◌≡◌, List, [], ◌∷◌, ◌≢◌, ℕ, ◌*◌, ◌<◌, length}
use Rattle.rules.specs.List.{◌∈◌, concat_map}
use Rattle.rules.specs.Register.{Delegation}
use Rattle.rules.specs.Links.{links_to}
use Rattle.search.specs.Search.{parent_in, most_links}
use Rattle.block.specs.Layout.{most_subjects}
use Rattle.runs.specs.Lent.{record_count, delegations_in}
use Rattle.search.specs.Found.{ParentsAmong}

-- the links up to u can be followed back: a subject's parent is the place of a record, and a record's giver is a subject
pub record Traceable (s p : List ℕ) (u : ℕ) : Type 0 where
  pub size : length p ≡ most_subjects
  pub subject : u < most_subjects
  pub placed : u ≢ 0 → ParentsAmong p (record_count s)
  pub givers : (d : Delegation) → d ∈ delegations_in s → d.giver < most_subjects

-- the links up to u, the owner's end first; at most k
abbrev pub links_of : List ℕ → List ℕ → ℕ → ℕ → List Delegation
links_of s p k u = links_to (parent_in (delegations_in s) p) k u

-- two bytes a link: giver, receiver
abbrev pub link_bytes : List Delegation → List ℕ
link_bytes ds = concat_map (λ d. d.giver ∷ d.receiver ∷ []) ds

-- the bytes of a link, and of a chain of the most links: the least length of a buffer
abbrev pub link_size : ℕ
link_size = 2

abbrev pub chain_size : ℕ
chain_size = link_size * most_links
