-- The groups that a check doesn't judge. The check's own link refused a record about them for its limits, so it may hold
-- another state than the querier. A later record may hand the difference on, by the timers and older hosts that it leaves. So
-- these groups aren't judged up to the end of the capture.
use Rattle.std.specs.Prelude.{ℕ, ◌==◌, ◌||◌, nat_le, nat_lt, Bool, false, if◌then◌else◌, List, [], ◌∷◌, ◌++◌, length, map as list_map, Option, Result, Ok, Err}
use Rattle.std.specs.List.{list_any}
use Rattle.mq_wire.specs.declared.message.Message.{Message}
use Rattle.mq_wire.specs.declared.message.Message.TheVariants.{Query, OldReport, Leave, Report}
use Rattle.mq_wire.specs.declared.message.WireFault.{WireFault}
use Rattle.mq_wire.specs.declared.records.RecordView.{RecordView}
use Rattle.mq_wire.specs.Family.{Family}
use Rattle.mq_link.specs.Receive.{Envelope, read_of, pseudo_of}
use Rattle.mq_link.specs.declared.answers.Received.{Received}
use Rattle.mq_link.specs.declared.answers.Received.TheVariants.{Taken, Dropped}
use Rattle.mq_walk.specs.Datagrams.{Datagram}
use Rattle.mq_check.specs.declared.asked.Asked.{Asked}
use Rattle.mq_check.specs.declared.asked.Asked.TheVariants.{AllGroups, Group, Source}
use Rattle.mq_check.specs.declared.entry.Entry.{Entry}
use Rattle.mq_check.specs.declared.entry.Entry.TheVariants.{Wanted, Seen, Interval, Silence, Packet}
use Rattle.mq_check.specs.declared.finding.Finding.{Finding}
use Rattle.mq_check.specs.Entries.{findings_of}

-- the most groups that are kept apart
abbrev pub room : ℕ
room = 256

-- no group is judged: there is no room for more of these
abbrev pub is_crowded : (refused : List ℕ) → Bool
is_crowded refused = nat_le room (length refused)

-- the group isn't judged
abbrev pub is_refused : (refused : List ℕ) → (group : ℕ) → Bool
is_refused refused group = is_crowded refused || list_any (λ other. other == group) refused

abbrev pub with_refused : (refused : List ℕ) → (group : ℕ) → List ℕ
with_refused refused group = if is_refused refused group then refused else refused ++ group ∷ []

-- The groups that a message of a host names. If the link refuses one of its records, none of them is judged.
abbrev pub group_in : RecordView ℕ → ℕ
group_in r = r.group

abbrev pub groups_of : Result (Message ℕ) WireFault → List ℕ
groups_of (Err fault) = []
groups_of (Ok (Query query)) = []
groups_of (Ok (OldReport version group)) = group ∷ []
groups_of (Ok (Leave group)) = group ∷ []
groups_of (Ok (Report records)) = list_map group_in records

unfoldable pub groups_spelled : Family → Envelope → (bytes : List ℕ) → List ℕ
groups_spelled family envelope bytes = groups_of (read_of family (pseudo_of family envelope bytes) bytes)

-- the link refused a record
abbrev pub has_refused : Received → Bool
has_refused (Taken applied ignored refused) = nat_lt 0 refused
has_refused (Dropped reason) = false

-- the groups that the answer to a datagram takes from the judged ones
abbrev pub refused_by : Family → Received → Datagram → List ℕ
refused_by family answer datagram =
    if has_refused answer then groups_spelled family datagram.envelope datagram.body else []

-- the subject isn't judged; general queries always are
abbrev pub is_unjudged : (refused : List ℕ) → Asked ℕ → Bool
is_unjudged refused AllGroups = false
is_unjudged refused (Group group) = is_refused refused group
is_unjudged refused (Source group source) = is_refused refused group

abbrev pub is_left_out : (refused : List ℕ) → Entry ℕ → Bool
is_left_out refused (Wanted moment asked terms need is_found) = is_unjudged refused asked
is_left_out refused (Seen moment asked terms partner verdict) = is_unjudged refused asked
is_left_out refused (Interval moment packet after wanted) = false
is_left_out refused (Silence moment after wanted) = false
is_left_out refused (Packet moment number fault) = false

-- the findings of an expired entry, if its subject is judged; the role changed last at `changed`
abbrev pub judged : (within : ℕ) → (changed : Option ℕ) → (refused : List ℕ) → Entry ℕ → List (Finding ℕ)
judged within changed refused entry = if is_left_out refused entry then [] else findings_of within changed entry
