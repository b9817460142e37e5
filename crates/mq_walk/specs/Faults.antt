-- Results of work on captures.
use Rattle.std.specs.Prelude.{Bool, true, false, Result, Ok, Err}
use Rattle.mq_walk.specs.declared.capture_fault.CaptureFault.{CaptureFault}
use Rattle.mq_walk.specs.declared.capture_fault.CaptureFault.TheVariants as answer

-- a result is a failed write
abbrev pub is_failed_write : {T : Type 0} → Result T CaptureFault → Bool
is_failed_write (Ok x) = false
is_failed_write (Err (answer.Pcap f)) = false
is_failed_write (Err answer.Write) = true
is_failed_write (Err (answer.Gap number)) = false
is_failed_write (Err (answer.Waiting number)) = false
is_failed_write (Err answer.Memory) = false

-- a result isn't that memory was refused
abbrev pub is_granted : {T : Type 0} → Result T CaptureFault → Bool
is_granted (Ok x) = true
is_granted (Err (answer.Pcap f)) = true
is_granted (Err answer.Write) = true
is_granted (Err (answer.Gap number)) = true
is_granted (Err (answer.Waiting number)) = true
is_granted (Err answer.Memory) = false
