-- Faults of blocks, and of conversions.
use Rattle.std.specs.Prelude.{Bool, true, false, Result, Ok, Err}
use Rattle.mq_convert.specs.declared.fault.BlockFault.{BlockFault}
use Rattle.mq_convert.specs.declared.fault.BlockFault.TheVariants as fault
use Rattle.mq_convert.specs.declared.fault.ConvertFault.{ConvertFault}
use Rattle.mq_convert.specs.declared.fault.ConvertFault.TheVariants as answer

-- the fault is that of a truncated block
abbrev pub is_cut : BlockFault → Bool
is_cut fault.Cut = true
is_cut fault.NoCapture = false
is_cut fault.Version = false
is_cut fault.Order = false
is_cut fault.Length = false
is_cut fault.Interface = false
is_cut fault.Interfaces = false
is_cut fault.Moment = false
is_cut fault.Endless = false

-- the result is a failed read
abbrev pub is_failed_read : {X : Type 0} → Result X ConvertFault → Bool
is_failed_read (Ok x) = false
is_failed_read (Err answer.Read) = true
is_failed_read (Err answer.Write) = false
is_failed_read (Err answer.Memory) = false
is_failed_read (Err (answer.Block number f)) = false

-- the result is a failed write
abbrev pub is_failed_write : {X : Type 0} → Result X ConvertFault → Bool
is_failed_write (Ok x) = false
is_failed_write (Err answer.Read) = false
is_failed_write (Err answer.Write) = true
is_failed_write (Err answer.Memory) = false
is_failed_write (Err (answer.Block number f)) = false

-- the result isn't that memory was refused
abbrev pub is_granted : {X : Type 0} → Result X ConvertFault → Bool
is_granted (Ok x) = true
is_granted (Err answer.Read) = true
is_granted (Err answer.Write) = true
is_granted (Err answer.Memory) = false
is_granted (Err (answer.Block number f)) = true
