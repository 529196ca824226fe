-- `rounds::supports` tells whether every delegation is supported. Assumes nothing.
use borrow.Author.Rules.{rules}
use Rattle.block.proofs.Bytes.{fits_bytes}
use Rattle.rounds.proofs.Settling.{told}
use Rattle.rounds.proofs.supports.Goals as goal

pub returns : goal.returns
returns c =
    let m = c.make_rounds in
    told c.args.table.now c.args.block.now (fits_bytes c.args.block.now (search rules)) c.requires.0 m.result m.new.block m.ensures
