-- Messages whose addresses are seen as their numbers are the same with their addresses as numbers.
use Rattle.mq_link.proofs.Common.{◌≡◌, ◌↔◌, ℕ, List, Result, Ok, Err, Some, refl, sym, ap, ◌∙◌, Message, AQuery, WireFault, Query, QueryVersion, Older, Current}
use Rattle.mq_link.proofs.Common.{Family, numbered_version, numbered_query, numbered_message, Spells, fault_of, numbered_read, read_of}
use Rattle.mq_link.proofs.Runs.{message_read, fault_read}

pub same_version : (version : QueryVersion ℕ) → numbered_version version ≡ version
same_version (Older version) = refl
same_version (Current fields) = refl

pub same_query : (query : Query ℕ) → numbered_query (λ n. n) query ≡ query
same_query query = λ i. record { group = query.group; response = query.response; version = same_version query.version i }

same_message : (message : Message ℕ) → numbered_message (λ n. n) message ≡ message
same_message (AQuery query) = ap AQuery (same_query query)
same_message _ = refl

-- the promise of the readers of messages is the message of the bytes
pub read_as : (family : Family) (pseudo bytes : List ℕ) (read : Result (Message ℕ) WireFault)
    → ((message : Message ℕ) → (read ≡ Ok message) ↔ Spells family pseudo bytes message)
    → ((fault : WireFault) → (read ≡ Err fault) ↔ (fault_of family pseudo bytes ≡ Some fault))
    → numbered_read (λ n. n) read ≡ read_of family pseudo bytes
read_as family pseudo bytes (Ok message) spells faulty =
    ap Ok (same_message message) ∙ sym ((message_read family pseudo bytes message).1 ((spells message).0 refl))
read_as family pseudo bytes (Err fault) spells faulty =
    sym ((fault_read family pseudo bytes fault).1 ((faulty fault).0 refl))
