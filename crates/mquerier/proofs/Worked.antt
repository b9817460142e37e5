-- The result of the work on a message.
use Rattle.mquerier.proofs.Common.{◌≡◌, ℕ, Bool, List, Bor, Option, Some, Result, Ok, Err, inl, inr, arith, option_copied, Keeps, Appends-kept, Protocol, Mld}
use Rattle.mquerier.proofs.Common.{Message, Family, Failure, NoAddresses, NotAnAddress, NotHex, UntilTooLarge, Capture, Gap, Waiting, Conversion}
use Rattle.mquerier.proofs.Common.{ConversionRead, Memory, Write, Input, Output, Works}
use Rattle.std.{proofs.Common.length, specs.Io.KnownBytes.Appends}
use Rattle.hex.specs.Hex.{decode_of}
use Rattle.mq_text.specs.{Printing.GrowsByBeginning, Reading.SpellsV6}
use Rattle.mq_lines.specs.Line.{PrintsLineIn}
use Rattle.mquerier.specs.{declared.failure.Failure.TheVariants.Configuration, HexLine.IsHexLine, Working.IsUndecoded, Working.WorksOnMessage}

pub worked : (json : Bool) (protocol : Protocol) (hex : Bor (List ℕ)) (from to : Option (Bor (List ℕ))) (input : Input) (output : Output)
    (r : Result Bool Failure)
    → WorksOnMessage json protocol (option_copied from) (option_copied to) hex.now output r → Works (Message protocol hex from to json) input output r
worked json protocol hex from to input output (Ok flag) works = works
worked json protocol hex from to input output (Err failure) works = works

-- both addresses are given, and the text is not decoded
pub undecoded : (json : Bool) (from to : Option (List ℕ)) (hex front back : List ℕ) (output : Output) (failure : Failure) (source destination : ℕ)
    → from ≡ Some front → to ≡ Some back → SpellsV6 front source → SpellsV6 back destination → output.new ≡ output.old → IsUndecoded hex failure
    → WorksOnMessage json Mld from to hex output (Err failure)
undecoded json from to hex front back output NoAddresses source destination first second spelled spelled' same why = absurd why
undecoded json from to hex front back output NotAnAddress source destination first second spelled spelled' same why = absurd why
undecoded json from to hex front back output NotHex source destination first second spelled spelled' same why =
    rw (first, second) (
      λ e. (
        λ missing. elim missing [ inl h ↦ absurd (cc h) | inr h ↦ absurd (cc h) ],
        λ none. none source spelled,
        λ none. none destination spelled',
        why,
      ),
      λ e. absurd (omega (arith, e)),
    )
undecoded json from to hex front back output UntilTooLarge source destination first second spelled spelled' same why = absurd why
undecoded json from to hex front back output (Configuration f query_seconds response_interval) source destination first second spelled spelled' same why =
    absurd why
undecoded json from to hex front back output (Gap number) source destination first second spelled spelled' same why = absurd why
undecoded json from to hex front back output (Waiting number) source destination first second spelled spelled' same why = absurd why
undecoded json from to hex front back output (Conversion number f) source destination first second spelled spelled' same why = absurd why
undecoded json from to hex front back output ConversionRead source destination first second spelled spelled' same why = absurd why
undecoded json from to hex front back output (Capture f) source destination first second spelled spelled' same why = absurd why
undecoded json from to hex front back output Memory source destination first second spelled spelled' same why = (λ e. absurd (omega (arith, e)), λ e. same)
undecoded json from to hex front back output Write source destination first second spelled spelled' same why = absurd why

-- the line of the bytes that a text is the hexadecimal of was written, and then the output was flushed
pub line_written : {E : Type 0} (json : Bool) (old mid new : Option (List ℕ)) (family : Family) (pseudo : ℕ → List ℕ) (hex bytes : List ℕ) (flag : Bool) →
    decode_of hex ≡ Ok bytes
    → PrintsLineIn {E = E} json old mid family (pseudo (length bytes)) bytes (Ok flag) → Keeps mid new
    → (line : List ℕ) × IsHexLine json family pseudo hex flag line × Appends old new line
line_written json old mid new family pseudo hex bytes flag decoded printed kept = (
  printed.line,
  record { bytes = bytes; decoded = decoded; is_line = rw printed.printed.0 printed.is_line },
  Appends-kept old mid new printed.line printed.printed.1 kept,
)

-- a prefix of that line was written
pub line_begun : {E : Type 0} (json : Bool) (old new : Option (List ℕ)) (family : Family) (pseudo : ℕ → List ℕ) (hex bytes : List ℕ) (e : E)
    → decode_of hex ≡ Ok bytes → PrintsLineIn json old new family (pseudo (length bytes)) bytes (Err e)
    → (flag : Bool) × (line : List ℕ) × IsHexLine json family pseudo hex flag line × GrowsByBeginning old new line
line_begun json old new family pseudo hex bytes e decoded printed = (
  printed.flag,
  printed.line,
  record { bytes = bytes; decoded = decoded; is_line = printed.is_line },
  printed.printed,
)
