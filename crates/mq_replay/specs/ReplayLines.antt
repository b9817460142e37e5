-- The lines of a replay: queries that a link sends, datagrams that it receives, and its state at the end.
use Rattle.std.specs.Prelude.{ℕ, Bool, true, false, List, [], ◌++◌, Option, None, Some, codes}
use Rattle.std.specs.List.{flat_map}
use Rattle.std.specs.Fmt.{decimal}
use Rattle.std.specs.FinMap as map
use Rattle.hex.specs.Hex.{encode_lower}
use Rattle.mq_wire.specs.Family.{Family}
use Rattle.mq_table.specs.declared.timers.FilterMode.{FilterMode}
use Rattle.mq_table.specs.declared.timers.FilterMode.TheVariants.{Include, Exclude}
use Rattle.mq_table.specs.declared.timers.SourceTimer.{SourceTimer}
use Rattle.mq_table.specs.declared.timers.SourceTimer.TheVariants.{Stopped, Running}
use Rattle.mq_table.specs.Group.{GroupState}
use Rattle.mq_pcap.specs.Frame.{Carried, Igmp, Mld, Other, Cut, Fragment}
use Rattle.mq_link.specs.declared.answers.Received.{Received}
use Rattle.mq_link.specs.declared.answers.Received.TheVariants.{Taken, Dropped}
use Rattle.mq_link.specs.Counters.{Counters, reason_number}
use Rattle.mq_lines.specs.Text.{address_text, line_of}

-- a query as it is sent at a moment: its destination, and its bytes in lower-case hexadecimal
abbrev pub query_start : Family → (moment to : ℕ) → List ℕ
query_start family moment to = decimal moment ++ codes " send " ++ address_text family to ++ codes " "

abbrev pub query_line : Family → (moment to : ℕ) → (bytes : List ℕ) → List ℕ
query_line family moment to bytes = line_of (query_start family moment to ++ encode_lower bytes)

-- the numbers of applied, ignored and refused records of a datagram, or the number of the reason to drop it
abbrev pub received_text : Received → List ℕ
received_text (Taken applied ignored refused) =
    codes "taken " ++ decimal applied ++ codes " " ++ decimal ignored ++ codes " " ++ decimal refused
received_text (Dropped reason) = codes "dropped " ++ decimal (reason_number reason)

-- the moment of a packet, its treatment, and its number
abbrev pub packet_text : (moment : ℕ) (what : List ℕ) (number : ℕ) → List ℕ
packet_text moment what number = decimal moment ++ what ++ decimal number

-- a datagram that the link received: its source, and the link's answer
abbrev pub receipt_line : Family → (moment number source : ℕ) → Received → List ℕ
receipt_line family moment number source answer =
    line_of (packet_text moment (codes " receive ") number ++ codes " " ++ address_text family source ++ codes " " ++ received_text answer)

-- the reason why a packet isn't for the link; a message is of the other family
abbrev pub skipped_text : Carried → List ℕ
skipped_text (Igmp source destination ttl alert body) = codes "other"
skipped_text (Mld source destination hop_limit alert body) = codes "other"
skipped_text Other = codes "other"
skipped_text Cut = codes "cut"
skipped_text Fragment = codes "fragment"

abbrev pub skip_line : (moment number : ℕ) → Carried → List ℕ
skip_line moment number carried =
    line_of (packet_text moment (codes " skip ") number ++ codes " " ++ skipped_text carried)

-- the moment of the end of the replay, and the querier then: the router itself, or another
abbrev pub role_text : (is_querier : Bool) → List ℕ
role_text true = codes "querier"
role_text false = codes "other"

abbrev pub end_line : (moment : ℕ) (is_querier : Bool) → List ℕ
end_line moment is_querier = line_of (codes "end " ++ decimal moment ++ codes " " ++ role_text is_querier)

-- the filter mode, in EXCLUDE with the deadline of the group timer
abbrev pub mode_text : FilterMode → List ℕ
mode_text Include = codes "include"
mode_text (Exclude deadline) = codes "exclude " ++ decimal deadline

-- a source after a space: with the deadline of its timer, or after an exclamation mark if the timer is stopped
abbrev pub timer_text : Family → (source : ℕ) → SourceTimer → List ℕ
timer_text family source Stopped = codes " !" ++ address_text family source
timer_text family source (Running deadline retransmissions) = codes " " ++ address_text family source ++ codes "=" ++ decimal deadline

-- the sources of a group, in the order of their addresses
abbrev pub timers_text : Family → GroupState → List ℕ
timers_text family g = flat_map (λ (e : ℕ × SourceTimer). timer_text family e.0 e.1) (map.entries g.sources)

-- a timer after its name, if it runs
abbrev pub deadline_text : (name : List ℕ) → Option ℕ → List ℕ
deadline_text name None = []
deadline_text name (Some deadline) = name ++ decimal deadline

-- a group: its address and filter mode, its sources, and the timers of older hosts that run
abbrev pub group_start : Family → (group : ℕ) → FilterMode → List ℕ
group_start family group mode = codes "group " ++ address_text family group ++ codes " " ++ mode_text mode

abbrev pub older_hosts_text : (v1 v2 : Option ℕ) → List ℕ
older_hosts_text v1 v2 = deadline_text (codes " v1 ") v1 ++ deadline_text (codes " v2 ") v2

abbrev pub group_line : Family → (group : ℕ) → GroupState → List ℕ
group_line family group g =
    group_start family group g.mode ++ (timers_text family g ++ line_of (older_hosts_text g.v1 g.v2))

-- the counters of datagrams, of records, and of queries
abbrev pub datagram_counts_text : Counters → List ℕ
datagram_counts_text c = codes "received " ++ decimal c.received ++ codes " dropped " ++ decimal c.dropped

abbrev pub record_counts_text : Counters → List ℕ
record_counts_text c =
    codes " applied " ++ decimal c.applied ++ codes " ignored " ++ decimal c.ignored ++ codes " refused " ++ decimal c.refused

abbrev pub query_counts_text : Counters → List ℕ
query_counts_text c = codes " sent " ++ decimal c.sent ++ codes " unsent " ++ decimal c.unsent

abbrev pub counts_line : Counters → List ℕ
counts_line c = line_of (codes "counts " ++ datagram_counts_text c ++ record_counts_text c ++ query_counts_text c)
