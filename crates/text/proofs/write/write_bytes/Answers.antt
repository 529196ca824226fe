-- `text::write_bytes` writes at a place. Assumes nothing.
use Rattle.text.proofs.Bytes.{put_bytes}
use Rattle.text.proofs.write.write_bytes.Goals as goal

pub returns : goal.returns
returns c = rw c.copy_from_slice.ensures.after (put_bytes c.args.at c.args.bytes.now c.args.buf.now c.requires)
