-- `rounds::round` makes one round. Assumes nothing.
use borrow.Author.Rules.{rules}
use Rattle.block.proofs.Bytes.{fits_bytes}
use Rattle.rounds.proofs.Settling.{round_none}
use Rattle.rounds.proofs.round.Goals as goal

pub returns-then-not-reckon : goal.returns-then-not-reckon
returns-then-not-reckon c =
    let o = c.reckon in
    (round_none c.args.table.now c.args.block.now (fits_bytes c.args.block.now (search rules)) c.requires.0.formed o.result o.new.weights o.ensures.0 (c.if-not-reckon.true), o.ensures.1)
