-- The line or the object of a message in memory of the caller.
use Rattle.std.specs.Prelude.{◌≡◌, ℕ, min, Bool, List, ◌++◌, length, take, drop, Option, Some}
use Rattle.mq_wire.specs.Family.{Family}
use Rattle.mq_lines.specs.Line.{IsTextOf}
use Rattle.mq_lines.specs.Text.{line_of}
use Rattle.mq_c.specs.declared.line_room.LineRoom.{LineRoom}

-- the bytes written to the memory, which are at its front
abbrev pub written_to : {L : Type 0} {l : _} → LineRoom L l → Option (List ℕ)
written_to room = Some (take room.written room.out.now)

-- a text at the front of memory, as far as there is room for it; the memory after it is unchanged
abbrev pub in_front : (text old : List ℕ) → List ℕ
in_front text old = take (length old) text ++ drop (length text) old

-- The line of these bytes after a pseudo-header is at the front of the memory, with its end. It is cut at the end of
-- the memory. The answer is the number of its bytes there, without the end.
pub record LineStands (json : Bool) (family : Family) (pseudo bytes old new : List ℕ) (answer : ℕ) : Type 0 where
  pub flag : Bool
  pub line : List ℕ
  pub is_text : IsTextOf json family pseudo bytes flag line
  pub stands : new ≡ in_front (line_of line) old
  pub counted : answer ≡ min (length old) (length line)
