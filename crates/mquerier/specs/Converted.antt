-- Checks of captures that are converted first, in memory.
use Rattle.std.specs.Prelude.{◌≡◌, ◌⊎◌, ℕ, Bool, true, false, List, [], Option, None, Some, Result, Ok, Err}
use Rattle.mq_command.specs.declared.Request.{Request}
use Rattle.mq_convert.specs.declared.choice.Choice.{Choice}
use Rattle.mq_convert.specs.declared.counts.ConvertCounts.{ConvertCounts}
use Rattle.mq_convert.specs.declared.fault.ConvertFault.{ConvertFault}
use Rattle.mq_convert.specs.declared.fault.ConvertFault.TheVariants as conversion
use Rattle.mq_convert.specs.Converting.{Converts}
use Rattle.mq_pcap.specs.Filling.{InputState}
use Rattle.mquerier.specs.declared.checking.CheckOptions.{CheckOptions}
use Rattle.mquerier.specs.declared.failure.Failure.{Failure}
use Rattle.mquerier.specs.declared.failure.Failure.TheVariants.{Conversion, ConversionRead, Memory}
use Rattle.mquerier.specs.Changes.{Input, Output}
use Rattle.mquerier.specs.Status.{Told}
use Rattle.mquerier.specs.Taking.{PerformsTaking, taking_of}
use Rattle.mquerier.specs.Unseen.{PerformsSeen}

-- the conversion of the chosen packets wrote this text, and had this result
abbrev pub Makes : Choice → Input → (text : List ℕ) → Result ConvertCounts ConvertFault → Type 0
Makes choice input text r = Converts choice input.old input.new (Some []) (Some text) r

-- the input was converted to this text
abbrev pub IsConverted : Choice → Input → (text : List ℕ) → Type 0
IsConverted choice input text = (counts : ConvertCounts) × Makes choice input text (Ok counts)

-- the reason why it was not: a fault of the conversion, or refused memory
abbrev pub IsUnconverted : Choice → Input → Failure → Type 0
IsUnconverted choice input (Conversion number f) =
    (text : List ℕ) × Makes choice input text (Err (conversion.Block number f))
IsUnconverted choice input ConversionRead = (text : List ℕ) × Makes choice input text (Err conversion.Read)
IsUnconverted choice input Memory = Unit {0}
IsUnconverted choice input failure = ⊥

-- a stream of this text, before a read
abbrev pub stream_of : (text : List ℕ) → InputState
stream_of text = record { ahead = Some text; taken = 0; failed = false }

-- the conversion ended early, and only the reason was reported
abbrev pub IsToldUnconverted : Choice → Input → (output errors : Output) → (status : ℕ) → Type 0
IsToldUnconverted choice input output errors status =
    (status ≡ 1) × (output.new ≡ output.old) × (failure : Failure) × IsUnconverted choice input failure × Told true errors failure

-- A request was performed on a capture that was read twice. It checks the querier that the capture
-- names, or the querier that the request names.
abbrev pub PerformsBy : Option CheckOptions → Request → (in_words : Bool) → (first input : Input) → (output errors : Output) → (status : ℕ) → Type 0
PerformsBy (Some options) request in_words first input output errors status = PerformsTaking options first input output errors status
PerformsBy None request in_words first input output errors status = PerformsSeen request in_words first input output errors status

abbrev pub PerformsTwice : Request → (in_words : Bool) → (first input : Input) → (output errors : Output) → (status : ℕ) → Type 0
PerformsTwice request in_words first input output errors status =
    PerformsBy (taking_of request) request in_words first input output errors status

-- The request was performed on the text to which the input was converted, which is read twice. Or the conversion ended early.
abbrev pub PerformsConverted : Choice → Request → (in_words : Bool) → Input → (output errors : Output) → (status : ℕ) → Type 0
PerformsConverted choice request in_words input output errors status =
    ((text : List ℕ) × IsConverted choice input text × (first : Input) × (capture : Input) × (first.old ≡ stream_of text)
    × (capture.old ≡ stream_of text) × PerformsTwice request in_words first capture output errors status)
    ⊎ IsToldUnconverted choice input output errors status
