-- Messages that were read, with their addresses as numbers, and facts of each of them.
use Rattle.std.specs.Prelude.{ℕ, List, [], IfSome, Result, Ok, Err}
use Rattle.mq_sched.specs.Announcement.{IsCarried}
use Rattle.mq_wire.specs.declared.message.Message.{Message}
use Rattle.mq_wire.specs.declared.message.Message.TheVariants.{Query as QueryMessage, OldReport, Leave as LeaveMessage, Report as ReportMessage}
use Rattle.mq_wire.specs.declared.message.WireFault.{WireFault}
use Rattle.mq_wire.specs.declared.records.RecordView.{RecordView}
use Rattle.mq_wire.specs.Numbered.{numbered_message}
use Rattle.mq_link.specs.Heard.{announced_by}

abbrev pub numbered_read : {K : Type 0} → (K → ℕ) → Result (Message K) WireFault → Result (Message ℕ) WireFault
numbered_read number (Ok message) = Ok (numbered_message number message)
numbered_read number (Err fault) = Err fault

-- the fields of a query can carry what it announces
abbrev pub IsCarriedIn : Message ℕ → Type 0
IsCarriedIn (QueryMessage query) = IfSome (announced_by query.version) IsCarried
IsCarriedIn (OldReport version group) = Unit {0}
IsCarriedIn (LeaveMessage group) = Unit {0}
IsCarriedIn (ReportMessage records) = Unit {0}

-- the most records of a Report, whose number has 16 bits (RFC 3376 section 4.2.3, RFC 3810 section 5.2.3)
abbrev pub most_records : ℕ
most_records = 65535

-- the records of a message, which only a Report has
abbrev pub records_in : Message ℕ → List (RecordView ℕ)
records_in (QueryMessage query) = []
records_in (OldReport version group) = []
records_in (LeaveMessage group) = []
records_in (ReportMessage records) = records
