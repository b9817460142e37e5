-- the bytes that are left are to be mixed into the number so far
use Rattle.mq_check.proofs.Common.{◌≡◌, ◌<◌, drop}
use Rattle.mq_check.specs.Slots.{mixed}
use Rattle.mq_check.proofs.slots.mixed.Given as goal

abbrev pub invariant-loop-byte : goal.invariant-loop-byte
invariant-loop-byte g l = record { so_far : mixed l.slot (drop l.byte-index l.byte-items) ≡ mixed l.number l.byte-items; within : l.slot < 65521 }
