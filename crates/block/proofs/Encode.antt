-- A well-formed register written as a block: its size, its bytes, and that it reads back. Assumes nothing.
use mathlib.Core.Path.{◌≡◌}
use lib.ListN.{length, drop}
use Rattle.rules.specs.Register.{Register}
use Rattle.rules.specs.WellFormed.{WellFormed}
use Rattle.block.specs.Layout.{block_size, mark_size, marks_at, records_at}
use Rattle.block.specs.Bytes.{IsBytes, read_all}
use Rattle.block.specs.Block.{marks_in, subjects_in, count_in, retired_in, decode, encode}
use Rattle.block.specs.Records.{delegations_to}
use Rattle.block.proofs.Fitting.{records_part, formed_fits}
use Rattle.block.proofs.Fitting as fitting

module _ (R : Register) (f : WellFormed R) where
  pub length_encode : length (encode R) ≡ block_size
  length_encode = fitting.length_encode R (formed_fits R f)

  pub records_encode : drop records_at (encode R) ≡ records_part R
  records_encode = fitting.records_encode R (formed_fits R f)

  pub subjects_encode : subjects_in (encode R) ≡ R.subjects
  subjects_encode = fitting.subjects_encode R (formed_fits R f)

  pub count_encode : count_in (encode R) ≡ length R.delegations
  count_encode = fitting.count_encode R (formed_fits R f)

  pub marks_encode : read_all marks_in mark_size (drop marks_at (encode R)) (subjects_in (encode R)) ≡ R.marks
  marks_encode = fitting.marks_encode R (formed_fits R f)

  pub retired_encode : retired_in (encode R) ≡ R.retired
  retired_encode = fitting.retired_encode R (formed_fits R f)

  pub delegations_encode : delegations_to (encode R) (count_in (encode R)) ≡ R.delegations
  delegations_encode = fitting.delegations_encode R (formed_fits R f)

  -- what was written is read back
  pub decode_encode : decode (encode R) ≡ R
  decode_encode = fitting.decode_encode R (formed_fits R f)

  pub bytes_encode : IsBytes (encode R)
  bytes_encode = fitting.bytes_encode R (formed_fits R f)
