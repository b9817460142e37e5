-- Parsed messages with their addresses as numbers, for every type of address.
use Rattle.std.specs.Prelude.{ℕ, Result, Ok, Err}
use Rattle.mq_wire.specs.declared.message.Message.{Message}
use Rattle.mq_wire.specs.declared.message.WireFault.{WireFault}
use Rattle.mq_wire.specs.Numbered.{numbered_message}

abbrev pub numbered_answer : {K : Type 0} → (K → ℕ) → Result (Message K) WireFault → Result (Message ℕ) WireFault
numbered_answer number (Ok message) = Ok (numbered_message number message)
numbered_answer number (Err fault) = Err fault
