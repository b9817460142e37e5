-- The records of a Report, at most as many as its count can hold.
use Rattle.mq_link.proofs.Common.{◌≡◌, ℕ, ◌+◌, ◌<◌, ◌≤◌, Bool, true, false, List, length, drop, Option, None, Some, IfSome, Ok, refl, arith, eqb, get_or-drop}
use Rattle.mq_link.proofs.Common.{slice_index, option_map, Message, WireFault, Family, Igmp, Mld, address_width, record_count, report_records, type_named}
use Rattle.mq_link.proofs.Common.{type_of, message_of, fault_of, most_records, records_in, message_in, unless_faulty, read_of}
use Rattle.mq_wire.proofs.RecordLists.{length_records}

-- each is one of a datagram's bytes
abbrev pub AreOctets : List ℕ → Type 0
AreOctets bytes = (i : ℕ) → slice_index bytes i < 256

octet_behind : (place i : ℕ) (bytes : List ℕ) → AreOctets bytes → slice_index (drop place bytes) i < 256
octet_behind place i bytes octets = rw (get_or-drop place bytes i 0) (octets (place + i))

few_counted : (bytes : List ℕ) → AreOctets bytes → record_count bytes ≤ most_records
few_counted bytes octets = omega (arith, octet_behind 6 0 bytes octets, octet_behind 6 1 bytes octets)

-- a message with no more records than can be counted
abbrev HasFew : Message ℕ → Type 0
HasFew message = length (records_in message) ≤ most_records

few_of_report : (family : Family) (bytes : List ℕ) → AreOctets bytes → length (report_records family bytes) ≤ most_records
few_of_report family bytes octets = rw (length_records (address_width family) (record_count bytes) 8 bytes) (few_counted bytes octets)

-- the cases of a message's type
igmp_few : (bytes : List ℕ) (code : ℕ) → AreOctets bytes → IfSome (option_map (λ kind. message_of Igmp kind bytes) (type_named Igmp code)) HasFew
igmp_few bytes code octets = by_tests (eqb code 0x11) (eqb code 0x12) (eqb code 0x16) (eqb code 0x17) (eqb code 0x22) refl refl refl refl refl
  where
    by_tests : (a b c d e : Bool) → eqb code 0x11 ≡ a → eqb code 0x12 ≡ b → eqb code 0x16 ≡ c → eqb code 0x17 ≡ d → eqb code 0x22 ≡ e →
        IfSome (option_map (λ kind. message_of Igmp kind bytes) (type_named Igmp code)) HasFew
    by_tests true b c d e p q r s t = rw p (omega arith)
    by_tests false true c d e p q r s t = rw (p, q) (omega arith)
    by_tests false false true d e p q r s t = rw (p, q, r) (omega arith)
    by_tests false false false true e p q r s t = rw (p, q, r, s) (omega arith)
    by_tests false false false false true p q r s t = rw (p, q, r, s, t) (few_of_report Igmp bytes octets)
    by_tests false false false false false p q r s t = rw (p, q, r, s, t) tt

mld_few : (bytes : List ℕ) (code : ℕ) → AreOctets bytes → IfSome (option_map (λ kind. message_of Mld kind bytes) (type_named Mld code)) HasFew
mld_few bytes code octets = by_tests (eqb code 130) (eqb code 131) (eqb code 132) (eqb code 143) refl refl refl refl
  where
    by_tests : (a b c d : Bool) → eqb code 130 ≡ a → eqb code 131 ≡ b → eqb code 132 ≡ c → eqb code 143 ≡ d →
        IfSome (option_map (λ kind. message_of Mld kind bytes) (type_named Mld code)) HasFew
    by_tests true b c d p q r s = rw p (omega arith)
    by_tests false true c d p q r s = rw (p, q) (omega arith)
    by_tests false false true d p q r s = rw (p, q, r) (omega arith)
    by_tests false false false true p q r s = rw (p, q, r, s) (few_of_report Mld bytes octets)
    by_tests false false false false p q r s = rw (p, q, r, s) tt

few_in : (family : Family) (bytes : List ℕ) → AreOctets bytes → IfSome (message_in family bytes) HasFew
few_in Igmp bytes octets = igmp_few bytes (type_of bytes) octets
few_in Mld bytes octets = mld_few bytes (type_of bytes) octets

few_unless : (fault : Option WireFault) (found : Option (Message ℕ)) (message : Message ℕ) → IfSome found HasFew →
    unless_faulty fault found ≡ Ok message → HasFew message
few_unless (Some fault) found message few is = cc
few_unless None None message few is = cc
few_unless None (Some found) message few is =
    let same : found ≡ message = cc in
    rw (← same) few

pub few_where_read : (family : Family) (pseudo bytes : List ℕ) (message : Message ℕ) → AreOctets bytes → read_of family pseudo bytes ≡ Ok message →
    length (records_in message) ≤ most_records
unfolding read_of
few_where_read family pseudo bytes message octets is =
    few_unless (fault_of family pseudo bytes) (message_in family bytes) message (few_in family bytes octets) is
