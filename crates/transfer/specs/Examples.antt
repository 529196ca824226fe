-- Reads of these examples (document 02, C-13 and C-18; 0-1 is pass-only), over a block of any content: what is returned and what is left. Assumes nothing.
use Rattle.std.specs.Prelude.{◌≡◌, List, [], ℕ, length}
use Rattle.rules.specs.Examples.{twos}
use Rattle.block.specs.Layout.{block_size}
use Rattle.steptable.specs.TableText.{table_text}
use Rattle.regfile.specs.Examples.{three, sample, file_with}
use Rattle.register.specs.CallOn.{turned}
use Rattle.transfer.specs.FileOn.{holding}
use Rattle.transfer.specs.RoundTrip.{reading}

pub record Examples : Type 0 where
  -- by our table
  pub accepted : (before : List ℕ) → length before ≡ block_size → reading (file_with "0 0 0\n1 4 0\n2 4 0\n" "0 1 9 4 0 1\n1 2 8 0 0 0\n") [] before ≡ holding sample
  -- subject 2 lacks the mark that 0-1 needs, so no chain carries 1-2
  pub unsupported : (before : List ℕ) → length before ≡ block_size → reading (file_with "0 0 0\n1 4 0\n2 0 0\n" "0 1 9 4 0 1\n1 2 8 0 0 0\n") [] before ≡ turned 18 before
  -- no delegation
  pub without : (before : List ℕ) → length before ≡ block_size → reading (file_with "0 0 0\n1 4 0\n2 4 0\n" "") [] before ≡ holding (three 4 [])
  -- by the table that falls by two, the reach of 1-2 is 7
  pub by_twos : (before : List ℕ) → length before ≡ block_size → reading (file_with "0 0 0\n1 4 0\n2 4 0\n" "0 1 9 4 0 1\n1 2 8 0 0 0\n") (table_text twos) before ≡ turned 18 before
