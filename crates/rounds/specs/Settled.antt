-- What rounds until one changes nothing answer and leave, from the register C on (document 01, 'Calls', the cuts). Assumes nothing.
use Rattle.std.specs.Prelude.{◌≡◌, ◌≢◌, Bool, true, false, not, List, ℕ, ℤ}
use Rattle.rules.specs.Register.{Register}
use Rattle.rules.specs.Round.{round, settle, rounds}
use Rattle.rules.specs.Refusal.{too_heavy}
use Rattle.rules.specs.Cut.{dropped, lowered}
use Rattle.block.specs.Block.{decode, encode}
use Rattle.rounds.specs.declared.Tally.{Tally}

pub record SettledMade (t : List ℤ) (C : Register) (o : Tally) (after : List ℕ) : Type 0 where
  pub left : after ≡ encode (settle t C).left
  pub dropped : o.dropped ≡ dropped C (settle t C).left
  pub lowered : o.lowered ≡ lowered C (settle t C).left
  pub rounds : o.rounds ≡ rounds (settle t C)

-- rounds from C on, n of which changed something: all of them, or, where once is set, no more than the first that did
pub record RoundsMade (t : List ℤ) (C : Register) (once : Bool) (n : ℕ) (after : List ℕ) : Type 0 where
  pub all : once ≡ false → (n ≡ (settle t C).changed) × (after ≡ encode (settle t C).left)
  pub none : n ≡ 0 → (round t C ≡ C) × (after ≡ encode C)
  pub some : n ≢ 0 → round t C ≢ C

-- whether every delegation that a block holds is supported; its bytes stay then
pub record SupportTold (t : List ℤ) (before : List ℕ) (r : Bool) (after : List ℕ) : Type 0 where
  pub told : r ≡ not (too_heavy t (decode before) (decode before).delegations)
  pub same : r ≡ true → after ≡ before
