-- What one pass over the records tests of each: as pairs rise, a giver is tested once, for the last record; all kinds are tested at the end, joined. Assumes nothing.
use Rattle.std.specs.Prelude.{Bool, [], ◌∷◌, ℕ}
use Rattle.rules.specs.Register.{Delegation}
use Rattle.block.specs.WellFormed.{all_pass, receiver_enrolled, ends_differ, not_to_owner, marks_apart}

-- the delegation is formed but for its giver and its kind, which may be any
unfoldable pub formed_otherwise : ℕ → Delegation → Bool
formed_otherwise n d = all_pass (receiver_enrolled n ∷ ends_differ ∷ not_to_owner ∷ marks_apart ∷ []) d
