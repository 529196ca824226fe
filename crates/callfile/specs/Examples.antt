-- Call files and what they print: document 01's listing (P1), and texts that are malformed. Assumes nothing.
use Rattle.std.specs.Prelude.{◌≡◌, [], pos, negsuc}
use Prim.Native.String.{String}
use Rattle.text.specs.Bytes.{bytes_of}
use Rattle.callfile.specs.CallFile.{enrols, grants, revokes, downgrades, asks_reach, asks_use, call_line, answer_line, Prints}

abbrev pub Shows : String → String → Type 0
Shows text out = Prints (bytes_of text) (bytes_of out)

pub record Examples : Type 0 where
  pub enrolled : call_line (enrols 3) ≡ bytes_of "0 0 0 0 0 3 0\n"
  pub granted : call_line (grants 0 1 255 2 4) ≡ bytes_of "1 0 0 1 255 2 4\n"
  pub revoked : call_line (revokes 1 2 3) ≡ bytes_of "2 1 2 3 0 0 0\n"
  pub lowered : call_line (downgrades 1 2 3 4) ≡ bytes_of "3 1 2 3 4 0 0\n"
  pub reached : call_line (asks_reach 1 2) ≡ bytes_of "4 0 1 2 0 0 0\n"
  pub used : call_line (asks_use 4294967295) ≡ bytes_of "5 0 0 4294967295 0 0 0\n"
  -- a reach of none
  pub none : answer_line (record { refusal = 0; first = negsuc 0; second = pos 0; third = pos 0; bytes = [] }) ≡ bytes_of "0 -1 0 0\n"
  pub listing : Shows
      "call by giver receiver weight need bar\n0 0 0 0 0 0 0\n0 0 0 0 0 0 0\n1 0 0 1 255 0 0\n1 0 1 2 255 0 0\n1 0 2 1 255 0 0\n2 0 0 1 0 0 0\n5 0 0 2 0 0 0\n"
      "refusal first second third\n0 1 0 0\n0 2 0 0\n0 1 0 0\n0 2 0 0\n0 3 0 0\n0 2 0 2\n0 0 0 0\n"
  pub empty : Shows "" "refusal first second third\n7 1\n"
  pub names : Shows "call by giver receiver weight need bar\n" "refusal first second third\n"
  -- no byte 10 at the end
  pub unended : Shows "call by giver receiver weight need bar\n0 0 0 0 0 0 0" "refusal first second third\n7 2\n"
  -- a value in a column that the call does not use, and an unknown call
  pub by : Shows "call by giver receiver weight need bar\n1 1 0 1 255 0 0\n" "refusal first second third\n7 2\n"
  pub six : Shows "call by giver receiver weight need bar\n6 0 0 0 0 0 0\n" "refusal first second third\n7 2\n"
