-- Numbers as text, and texts that are no number's. Assumes nothing.
use Rattle.std.specs.Prelude.{◌≡◌, ◌≢◌, true, List, [], ◌∷◌, ◌++◌, ℕ, ℤ, pos, negsuc}
use Prim.Native.String.{String}
use Rattle.text.specs.Text.{digits, number, line, Allowed}
use Rattle.text.specs.Bytes.{bytes_of}

-- no number's rendering with byte 10 after it begins the text
abbrev pub NoNumber : String → Type 0
NoNumber s = (z : ℤ) (rest : List ℕ) → Allowed true z → bytes_of s ≢ number z ++ (10 ∷ rest)

pub record Examples : Type 0 where
  pub zero : digits 0 ≡ bytes_of "0"
  pub most : digits 4294967295 ≡ bytes_of "4294967295"
  pub none : number (negsuc 0) ≡ bytes_of "-1"
  pub values : line (pos 0 ∷ negsuc 254 ∷ pos 10 ∷ []) ≡ bytes_of "0 -255 10\n"
  pub leading : NoNumber "00\n"
  pub leading_one : NoNumber "01\n"
  pub large : NoNumber "4294967296\n"
  pub plus : NoNumber "+1\n"
  pub minus_zero : NoNumber "-0\n"
  pub empty : NoNumber "\n"
  pub spaced : NoNumber "1 \n"
