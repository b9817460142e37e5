-- Facts about the message of bytes, which hold for each message with whole fields.
use Rattle.mq_link.proofs.Common.{◌≡◌, ℕ, Bool, true, false, cond, List, length, None, Ok, IfSome, refl, subst, sym, eqb, OlderVersion, Message, Family, Igmp}
use Rattle.mq_link.proofs.Common.{Mld, group_end, first_cut, older_spans, query_spans, older_query, current_query, report_spans, report_records, type_named}
use Rattle.mq_link.proofs.Common.{type_of, spans_of, group_of, message_of, read_of}
use Rattle.mq_wire.specs.declared.message.Message.TheVariants.{Query, OldReport, Leave, Report}
use Rattle.mq_link.proofs.Runs.{message_read}

-- where all spans are whole
abbrev pub AreWhole : List ℕ → List ℕ → Type 0
AreWhole bytes widths = first_cut (length bytes) 0 widths ≡ None

module _ (P : Family → List ℕ → Message ℕ → Type 0)
    (of_query : (family : Family) (bytes : List ℕ) (b : Bool) → AreWhole bytes (cond b (older_spans family) (query_spans family bytes)) →
    P family bytes (Query (cond b (older_query family bytes) (current_query family bytes))))
    (of_report : (family : Family) (bytes : List ℕ) → AreWhole bytes (report_spans family bytes) → P family bytes (Report (report_records family bytes)))
    (of_join : (family : Family) (bytes : List ℕ) (version : OlderVersion) → AreWhole bytes (older_spans family) →
    P family bytes (OldReport version (group_of family bytes)))
    (of_leave : (family : Family) (bytes : List ℕ) → AreWhole bytes (older_spans family) → P family bytes (Leave (group_of family bytes)))
  where
    -- the cases of a message's type
    of_igmp : (bytes : List ℕ) (code : ℕ) →
        IfSome (type_named Igmp code) (λ kind. AreWhole bytes (spans_of Igmp kind bytes) → P Igmp bytes (message_of Igmp kind bytes))
    of_igmp bytes code = by_tests (eqb code 0x11) (eqb code 0x12) (eqb code 0x16) (eqb code 0x17) (eqb code 0x22) refl refl refl refl refl
      where
        by_tests : (a b c d e : Bool) → eqb code 0x11 ≡ a → eqb code 0x12 ≡ b → eqb code 0x16 ≡ c → eqb code 0x17 ≡ d → eqb code 0x22 ≡ e →
            IfSome (type_named Igmp code) (λ kind. AreWhole bytes (spans_of Igmp kind bytes) → P Igmp bytes (message_of Igmp kind bytes))
        by_tests true b c d e p q r s t = rw p (of_query Igmp bytes (eqb (length bytes) (group_end Igmp)))
        by_tests false true c d e p q r s t = rw (p, q) (of_join Igmp bytes _)
        by_tests false false true d e p q r s t = rw (p, q, r) (of_join Igmp bytes _)
        by_tests false false false true e p q r s t = rw (p, q, r, s) (of_leave Igmp bytes)
        by_tests false false false false true p q r s t = rw (p, q, r, s, t) (of_report Igmp bytes)
        by_tests false false false false false p q r s t = rw (p, q, r, s, t) tt

    of_mld : (bytes : List ℕ) (code : ℕ) →
        IfSome (type_named Mld code) (λ kind. AreWhole bytes (spans_of Mld kind bytes) → P Mld bytes (message_of Mld kind bytes))
    of_mld bytes code = by_tests (eqb code 130) (eqb code 131) (eqb code 132) (eqb code 143) refl refl refl refl
      where
        by_tests : (a b c d : Bool) → eqb code 130 ≡ a → eqb code 131 ≡ b → eqb code 132 ≡ c → eqb code 143 ≡ d →
            IfSome (type_named Mld code) (λ kind. AreWhole bytes (spans_of Mld kind bytes) → P Mld bytes (message_of Mld kind bytes))
        by_tests true b c d p q r s = rw p (of_query Mld bytes (eqb (length bytes) (group_end Mld)))
        by_tests false true c d p q r s = rw (p, q) (of_join Mld bytes _)
        by_tests false false true d p q r s = rw (p, q, r) (of_leave Mld bytes)
        by_tests false false false true p q r s = rw (p, q, r, s) (of_report Mld bytes)
        by_tests false false false false p q r s = rw (p, q, r, s) tt

    of_type : (family : Family) (bytes : List ℕ) → IfSome (type_named family (type_of bytes))
        (λ kind. AreWhole bytes (spans_of family kind bytes) → P family bytes (message_of family kind bytes))
    of_type Igmp bytes = of_igmp bytes (type_of bytes)
    of_type Mld bytes = of_mld bytes (type_of bytes)

    pub where_read : (family : Family) (pseudo bytes : List ℕ) (message : Message ℕ) → read_of family pseudo bytes ≡ Ok message → P family bytes message
    where_read family pseudo bytes message read =
        let spelled = (message_read family pseudo bytes message).0 read in
        let holds = subst (λ found. IfSome found (λ kind. AreWhole bytes (spans_of family kind bytes) →
        P family bytes (message_of family kind bytes))) spelled.listed (of_type family bytes) in
        subst (P family bytes) (sym spelled.says) (holds spelled.whole)
