-- Laws of codes, checksums and encodings of messages.
use Rattle.std.specs.Prelude.{◌≡◌, ℕ, ◌*◌, ◌/◌, ◌%◌, ◌^◌, ◌<◌, ◌≤◌, List, None, length, All}
use Rattle.mq_wire.specs.declared.message.Message.{Message}
use Rattle.mq_wire.specs.declared.message.Message.TheVariants.{Query as QueryMessage}
use Rattle.mq_wire.specs.declared.query.Query.{Query}
use Rattle.mq_wire.specs.declared.query.QuerierFields.{QuerierFields}
use Rattle.mq_wire.specs.declared.query.QueryVersion.TheVariants.{Current}
use Rattle.mq_wire.specs.Canon.{canon, covered_before, without_checksum}
use Rattle.mq_wire.specs.Checksum.{IsRight, checksum_behind, checksum_of, with_field}
use Rattle.mq_wire.specs.Codes.{IsCodeFor, value8, value16}
use Rattle.mq_wire.specs.Family.{Family, Igmp, Mld, address_width}
use Rattle.mq_wire.specs.RoundTrip.{interval_lowered, response_lowered}
use Rattle.mq_wire.specs.Spelling.{Spells, fault_of}

-- no bytes encode two messages
abbrev pub OneMessage : Type 0
OneMessage = (family : Family) (pseudo bytes : List ℕ) (a b : Message ℕ) → Spells family pseudo bytes a → Spells family pseudo bytes b → a ≡ b

-- bytes that encode a message have no fault
abbrev pub NoFaultWhereSpelled : Type 0
NoFaultWhereSpelled = (family : Family) (pseudo bytes : List ℕ) (message : Message ℕ) → Spells family pseudo bytes message → fault_of family pseudo bytes ≡ None

-- bytes without a fault encode a message
abbrev pub SpelledWhereNoFault : Type 0
SpelledWhereNoFault = (family : Family) (pseudo bytes : List ℕ) → fault_of family pseudo bytes ≡ None → (message : Message ℕ) × Spells family pseudo bytes message

-- a message with its checksum in its field is right
abbrev pub RightWithItsChecksum : Type 0
RightWithItsChecksum = (bytes : List ℕ) → 4 ≤ length bytes → IsRight (with_field (checksum_of bytes / 256) (checksum_of bytes % 256) bytes)

-- the code for the value of a code is that code
abbrev pub CodesComeBack : (ℕ → ℕ) → ℕ → Type 0
CodesComeBack value top = (code found : ℕ) → code ≤ top → IsCodeFor value top (value code) found → found ≡ code

-- the code that is made of a value is the code for it
abbrev pub CodesAreGreatest : (value code : ℕ → ℕ) → (top : ℕ) → Type 0
CodesAreGreatest value code top = (v : ℕ) → IsCodeFor value top v (code v)

-- a query of IGMPv3 or MLDv2 whose numbers fit their fields
pub record IsWritable (family : Family) (query : Query ℕ) : Type 0 where
  pub group : query.group < 256 ^ address_width family
  pub fields : QuerierFields ℕ
  pub current : query.version ≡ Current fields
  pub robustness : fields.robustness ≤ 7
  pub counted : length fields.sources ≤ 65535
  pub sources : All (λ (source : ℕ). source < 256 ^ address_width family) fields.sources

-- the query with its response and its interval lowered
abbrev pub lowered : Family → Query ℕ → QuerierFields ℕ → Query ℕ
lowered family query fields =
    record {
      group = query.group;
      response = response_lowered family query.response;
      version = Current (record fields { interval = interval_lowered fields.interval });
    }

-- written bytes encode the query with its response and its interval lowered
abbrev pub ReadsBack : Type 0
ReadsBack =
    (family : Family) (source : ℕ) (query : Query ℕ) (w : IsWritable family query)
    → Spells family (covered_before family source query.group (length (canon family source query)))
    (canon family source query) (QueryMessage (lowered family query w.fields))

-- the response of a code, in milliseconds
abbrev pub response_of_code : Family → ℕ → ℕ
response_of_code Igmp code = value8 code * 100
response_of_code Mld code = value16 code

abbrev pub greatest_code : Family → ℕ
greatest_code Igmp = 255
greatest_code Mld = 65535

-- a response and an interval that a code has do not change
abbrev pub ValuesOfCodesStay : Type 0
ValuesOfCodesStay =
    ((family : Family) (code : ℕ) → code ≤ greatest_code family
    → response_lowered family (response_of_code family code) ≡ response_of_code family code)
    × ((code : ℕ) → code ≤ 255 → interval_lowered (value8 code) ≡ value8 code)

-- if two checksums are right, because the sum of the other words is divisible by 65535, the lesser is written
abbrev pub ChecksumIsBelow : Type 0
ChecksumIsBelow =
    (family : Family) (source : ℕ) (query : Query ℕ)
    → checksum_behind (covered_before family source query.group (length (without_checksum family query)))
    (without_checksum family query) < 65535
