-- Reasons why a listing, a replay, a check or a conversion ends early.
use Rattle.std.specs.Prelude.{◌≡◌, ◌⊎◌, Bool, true, Result, Ok, Err}
use Rattle.mq_walk.specs.declared.capture_fault.CaptureFault.{CaptureFault}
use Rattle.mq_walk.specs.declared.capture_fault.CaptureFault.TheVariants as answer
use Rattle.mq_convert.specs.declared.fault.ConvertFault.{ConvertFault}
use Rattle.mq_convert.specs.declared.fault.ConvertFault.TheVariants as conversion
use Rattle.mquerier.specs.declared.failure.Failure.{Failure}
use Rattle.mquerier.specs.declared.failure.Failure.TheVariants.{Capture, Conversion, ConversionRead, Gap, Memory, Waiting, Write}
use Rattle.mquerier.specs.Changes.{Input, Output}

-- the failure that names a fault
abbrev pub failure_of : CaptureFault → Failure
failure_of (answer.Pcap f) = Capture f
failure_of answer.Write = Write
failure_of (answer.Gap number) = Gap number
failure_of (answer.Waiting number) = Waiting number
failure_of answer.Memory = Memory

-- faults after which nothing is flushed
abbrev pub IsUnflushed : CaptureFault → Type 0
IsUnflushed answer.Write = Unit {0}
IsUnflushed answer.Memory = Unit {0}
IsUnflushed fault = ⊥

-- The failure after work that ended with this fault. The flush after it may fail too. `old` and `new` say whether a call
-- of the output had failed before and after the flush.
abbrev pub IsBrokenBy : CaptureFault → (old new : Bool) → Failure → Type 0
IsBrokenBy answer.Write old new failure = failure ≡ Write
IsBrokenBy answer.Memory old new failure = failure ≡ Memory
IsBrokenBy fault old new failure = ((failure ≡ failure_of fault) × (new ≡ old)) ⊎ ((failure ≡ Write) × (new ≡ true))

-- The result after work with this result. The flush after it may fail too.
abbrev pub IsEndedBy : {X : Type 0} → Result X CaptureFault → (old new : Bool) → Result X Failure → Type 0
IsEndedBy (Ok x) old new result = ((result ≡ Ok x) × (new ≡ old)) ⊎ ((result ≡ Err Write) × (new ≡ true))
IsEndedBy (Err fault) old new result = (failure : Failure) × (result ≡ Err failure) × IsBrokenBy fault old new failure

-- The work on a capture ended early, by its result. With a fault of the capture, a gap or too many pending entries, all
-- text before it was written. With an allocation failure nothing was read or written. If the output failed, a prefix was
-- written, or all text if the flush failed.
abbrev pub IsBrokenOff : {X : Type 0} → (Does : Result X CaptureFault → Type 0) → Input → Output → Failure → Type 0
IsBrokenOff Does input output (Capture f) = (output.new.failed ≡ output.old.failed) × Does (Err (answer.Pcap f))
IsBrokenOff Does input output (Gap number) = (output.new.failed ≡ output.old.failed) × Does (Err (answer.Gap number))
IsBrokenOff Does input output (Waiting number) = (output.new.failed ≡ output.old.failed) × Does (Err (answer.Waiting number))
IsBrokenOff Does input output Memory = (input.new ≡ input.old) × (output.new ≡ output.old)
IsBrokenOff {X} Does input output Write =
    (output.new.failed ≡ true) × (r : Result X CaptureFault) × (r ≡ Err answer.Memory → ⊥) × Does r
IsBrokenOff Does input output failure = ⊥

-- A conversion ended early, for the corresponding reasons.
abbrev pub IsConversionBroken : {X : Type 0} → (Does : Result X ConvertFault → Type 0) → Input → Output → Failure → Type 0
IsConversionBroken Does input output (Conversion number f) =
    (output.new.failed ≡ output.old.failed) × Does (Err (conversion.Block number f))
IsConversionBroken Does input output ConversionRead = (output.new.failed ≡ output.old.failed) × Does (Err conversion.Read)
IsConversionBroken Does input output Memory = (input.new ≡ input.old) × (output.new ≡ output.old)
IsConversionBroken {X} Does input output Write =
    (output.new.failed ≡ true) × (r : Result X ConvertFault) × (r ≡ Err conversion.Memory → ⊥) × Does r
IsConversionBroken Does input output failure = ⊥
