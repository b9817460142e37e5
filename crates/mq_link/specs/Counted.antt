-- Counters as they are stored: those of several names in a row, in the order of their numbers.
use Rattle.std.specs.Prelude.{◌≡◌, ℕ, ◌-◌, List, [], ◌∷◌, slice_index, refl}
use Rattle.std.specs.Coded.{Coded, code_by, coded×, coded_ℕ, coded_list}
use Rattle.mq_link.specs.declared.answers.DropReason.{DropReason}
use Rattle.mq_link.specs.declared.answers.DropReason.TheVariants.{Truncated, Checksum, UnknownType, QueryLength, BadSource, HopLimit, NoAlert, OwnOrZero, OlderQuery, BadGroup}
use Rattle.mq_link.specs.declared.answers.Refusal.{Refusal}
use Rattle.mq_link.specs.declared.answers.Refusal.TheVariants.{Long, Repeated, Groups, GroupSources, Sources, Scheduled, Memory}
use Rattle.mq_link.specs.declared.answers.MessageKind.{MessageKind}
use Rattle.mq_link.specs.declared.answers.MessageKind.TheVariants.{Query, OlderQuery as OlderQueryKind, OlderReport, Leave, Report}
use Rattle.mq_link.specs.Counters.{Counters, reason_number, refusal_number, kind_number}

-- the count of a name in a row
abbrev pub count_in : {X : Type 0} → (X → ℕ) → List ℕ → X → ℕ
count_in number row name = slice_index row (number name - 1)

-- the counts of all names, by number
abbrev pub reason_row : (DropReason → ℕ) → List ℕ
reason_row count =
    count Truncated ∷ count Checksum ∷ count UnknownType ∷ count QueryLength ∷ count BadSource ∷ count HopLimit
    ∷ count NoAlert ∷ count OwnOrZero ∷ count OlderQuery ∷ count BadGroup ∷ []

abbrev pub refusal_row : (Refusal → ℕ) → List ℕ
refusal_row count =
    count Long ∷ count Repeated ∷ count Groups ∷ count GroupSources ∷ count Sources ∷ count Scheduled ∷ count Memory ∷ []

abbrev pub kind_row : (MessageKind → ℕ) → List ℕ
kind_row count = count Query ∷ count OlderQueryKind ∷ count OlderReport ∷ count Leave ∷ count Report ∷ []

-- proofs that a row has the count of each name
abbrev pub reason_back : (count : DropReason → ℕ) (name : DropReason) → count_in reason_number (reason_row count) name ≡ count name
reason_back count Truncated = refl
reason_back count Checksum = refl
reason_back count UnknownType = refl
reason_back count QueryLength = refl
reason_back count BadSource = refl
reason_back count HopLimit = refl
reason_back count NoAlert = refl
reason_back count OwnOrZero = refl
reason_back count OlderQuery = refl
reason_back count BadGroup = refl

abbrev pub refusal_back : (count : Refusal → ℕ) (name : Refusal) → count_in refusal_number (refusal_row count) name ≡ count name
refusal_back count Long = refl
refusal_back count Repeated = refl
refusal_back count Groups = refl
refusal_back count GroupSources = refl
refusal_back count Sources = refl
refusal_back count Scheduled = refl
refusal_back count Memory = refl

abbrev pub kind_back : (count : MessageKind → ℕ) (name : MessageKind) → count_in kind_number (kind_row count) name ≡ count name
kind_back count Query = refl
kind_back count OlderQueryKind = refl
kind_back count OlderReport = refl
kind_back count Leave = refl
kind_back count Report = refl

-- the numbers of some counters: those that stand alone, and the rows
abbrev pub Stored : Type 0
Stored = (ℕ × (ℕ × (ℕ × (ℕ × (ℕ × (ℕ × (ℕ × ℕ))))))) × (List ℕ × (List ℕ × List ℕ))

abbrev pub stored_of : Counters → Stored
stored_of c = (
  (c.received, (c.dropped, (c.applied, (c.ignored, (c.refused, (c.sent, (c.unsent, c.denied))))))),
  (reason_row c.dropped_by, (kind_row c.spelled, refusal_row c.refused_by)),
)

abbrev pub counters_of : Stored → Counters
counters_of s = record {
  received = s.0.0;
  dropped = s.0.1.0;
  dropped_by = count_in reason_number s.1.0;
  spelled = count_in kind_number s.1.1.0;
  applied = s.0.1.1.0;
  ignored = s.0.1.1.1.0;
  refused = s.0.1.1.1.1.0;
  refused_by = count_in refusal_number s.1.1.1;
  sent = s.0.1.1.1.1.1.0;
  unsent = s.0.1.1.1.1.1.1.0;
  denied = s.0.1.1.1.1.1.1.1;
}

abbrev pub stored_back : (c : Counters) → counters_of (stored_of c) ≡ c
stored_back c = λ i. record {
  received = c.received;
  dropped = c.dropped;
  dropped_by = λ name. reason_back c.dropped_by name i;
  spelled = λ name. kind_back c.spelled name i;
  applied = c.applied;
  ignored = c.ignored;
  refused = c.refused;
  refused_by = λ name. refusal_back c.refused_by name i;
  sent = c.sent;
  unsent = c.unsent;
  denied = c.denied;
}

-- the code of these numbers, by which proofs distinguish counters
abbrev pub counters_code : Coded Counters
counters_code =
    code_by Stored
    (coded× (coded× coded_ℕ (coded× coded_ℕ (coded× coded_ℕ (coded× coded_ℕ (coded× coded_ℕ (coded× coded_ℕ (coded× coded_ℕ coded_ℕ)))))))
    (coded× (coded_list coded_ℕ) (coded× (coded_list coded_ℕ) (coded_list coded_ℕ))))
    stored_of counters_of stored_back
