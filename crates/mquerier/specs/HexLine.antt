-- The line of a message in hexadecimal, as text or as an object of JSON.
use Rattle.std.specs.Prelude.{◌≡◌, ℕ, Bool, List, length, Ok}
use Rattle.hex.specs.Hex.{decode_of}
use Rattle.mq_lines.specs.Line.{IsLineIn}
use Rattle.mq_wire.specs.Family.{Family}

-- The line of the bytes that a hexadecimal text encodes, and its flag. The pseudo-header depends on the number of
-- bytes.
pub record IsHexLine (json : Bool) (family : Family) (pseudo : ℕ → List ℕ) (text : List ℕ) (flag : Bool) (line : List ℕ) : Type 0 where
  pub bytes : List ℕ
  pub decoded : decode_of text ≡ Ok bytes
  pub is_line : IsLineIn json family (pseudo (length bytes)) bytes flag line
