-- What the search of the chain call is lent. Assumes nothing.
use Rattle.std.specs.Prelude.{List, ℕ, ◌<◌, ℤ}
use Rattle.block.specs.Block.{subjects_in}
use Rattle.runs.specs.Lent.{SubjectLists}
use Rattle.search.specs.Found.{Searchable}

-- a well-formed block, a step table, an enrolled receiver, and room for the limit and the parent of each subject
pub record LimitsLent (t : List ℤ) (b : List ℕ) (r : ℕ) (l : List ℤ) (p : List ℕ) : Type 0 where
  pub block : Searchable t b
  pub receiver : r < subjects_in b
  pub lists : SubjectLists l p
