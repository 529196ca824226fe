-- `callfile::write_malformed` writes 7 and the number of a line. Assumes nothing.
use Rattle.callfile.proofs.Answers.{malformed_room, malformed_written}
use Rattle.callfile.proofs.write_malformed.Goals as goal

pub write_line-requires : goal.write_line-requires
write_line-requires c =
    malformed_room c.args.number c.requires.0 c.args.at c.args.out.now c.requires.1

pub returns : goal.returns
returns c =
    let w = c.write_line in
    malformed_written c.args.number c.requires.0 c.args.at c.args.out.now w.result w.new.buf w.ensures
