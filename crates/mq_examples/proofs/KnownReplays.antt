-- The text of a replay, if the groups of its link are known one by one, for the worked examples.
use Rattle.mq_examples.proofs.Common.{◌≡◌, ℕ, ◌+◌, true, false, refl, List, [], ◌∷◌, ◌++◌, length, Option, None, Some, Ok, ap, ◌∙◌, list_map, flat_map}
use Rattle.mq_examples.proofs.Common.{option_to_list, Captured, Family, SourceTimer, group_deadline, deadline_of, ScheduledGroup, group_due, next_moment}
use Rattle.mq_examples.proofs.Common.{is_querier, election_at, Configuration, LinkState, next_of, tick_of, Counters, count_answers, no_counts, read_of}
use Rattle.mq_examples.proofs.Common.{pseudo_of, ListedGroup, ListedGroups, ListedLink, as_groups, as_held, as_link, up_to, Entries, ordered, entries-known}
use Rattle.mq_examples.proofs.Common.{with_values, ordered-with_values, append-nil, Form, those_of, moments_of, moments_in, least, outgoing, changed_by_tick}
use Rattle.mq_examples.proofs.Common.{with_packets, ticked_within}
use Rattle.mq_pcap.specs.{declared.fault.PcapFault.PcapFault, declared.link_type.LinkType.LinkType, Frame.Carried, Frame.carried_in}
use Rattle.mq_lines.specs.Text.{line_of}
use Rattle.mq_walk.specs.{declared.capture_fault.CaptureFault.CaptureFault, declared.capture_fault.CaptureFault.TheVariants.Gap, Courses.Course, Courses.Report}
use Rattle.mq_walk.specs.{Courses.Work, Courses.broken_off, Courses.last_moment, Courses.report_of, Courses.reported, Datagrams.Datagram, Datagrams.datagram_of}
use Rattle.mq_walk.specs.{PlacedPackets.Place, PlacedPackets.at_first, PlacedPackets.is_gap, PlacedPackets.place_behind, PlacedPackets.placed, Outlets.all_sent}
use Rattle.mq_walk.proofs.Ticking.{through_within}
use Rattle.mq_replay.specs.{Events.end_events, Events.group_events, Events.query_events, Report.with_packet, Report.ended_at}
use Rattle.mq_replay.specs.ReplayLines.{receipt_line, skip_line, end_line, counts_line, timer_text, group_start, older_hosts_text, group_line}
use Rattle.mq_replay.specs.Report.{Replayed, after_step, changed_at, those_among, with_changes, ticked_at, received_at, replay_of, taken_or_skipped}
use Rattle.mq_examples.proofs.{KnownLinks.KnownStep, KnownLinks.tick_in, KnownLinks.tick-known, KnownReceipts.receipt_known, KnownReceipts.receipt-known}
use Rattle.std.specs.FinMap as map

-- the next moment
abbrev pub moments_known : ListedGroup → List ℕ
moments_known k =
    those_of (group_deadline k.mode ∷ k.v1 ∷ k.v2 ∷ group_due k.schedule.group_query ∷ k.schedule.sources_due ∷ [])
    ++ flat_map (λ timer. option_to_list (deadline_of (Some timer))) (list_map (λ (e : ℕ × SourceTimer). e.1) (ordered k.sources))

moments_of-known : (k : ListedGroup) → moments_of (as_held k) ≡ moments_known k
moments_of-known k =
    ap (λ (es : Entries SourceTimer). those_of (group_deadline k.mode ∷ k.v1 ∷ k.v2 ∷ group_due k.schedule.group_query ∷ k.schedule.sources_due ∷ [])
    ++ flat_map (λ timer. option_to_list (deadline_of (Some timer))) (list_map (λ (e : ℕ × SourceTimer). e.1) es)) (entries-known k.sources)

abbrev pub all_moments_known : ListedGroups → List ℕ
all_moments_known gs = flat_map (λ (e : ℕ × ListedGroup). moments_known e.1) (ordered gs)

moments_in-known : (gs : ListedGroups) → moments_in (as_groups gs) ≡ all_moments_known gs
moments_in-known gs =
    ap (λ (es : Entries ScheduledGroup). flat_map moments_of (list_map (λ (e : ℕ × ScheduledGroup). e.1) es))
    (entries-known (with_values as_held gs) ∙ ordered-with_values as_held gs) ∙ each (ordered gs)
  where
    each : (es : ListedGroups) → flat_map moments_of (list_map (λ (e : ℕ × ScheduledGroup). e.1) (with_values as_held es))
        ≡ flat_map (λ (e : ℕ × ListedGroup). moments_known e.1) es
    each [] = refl
    each (e ∷ es) = λ i. moments_of-known e.1 i ++ each es i

abbrev pub next_in : ListedLink → ℕ
next_in l = least (next_moment l.election.role) (all_moments_known l.groups)

next-known : (l : ListedLink) → next_of (as_link l) ≡ next_in l
next-known l = ap (least (next_moment l.election.role)) (moments_in-known l.groups)

-- a replay under way as text, without changed groups
pub record KnownReplayed : Type 0 where
  pub link : ListedLink
  pub text : List ℕ
  pub until : Option ℕ

abbrev pub as_replayed : KnownReplayed → Replayed
as_replayed k = record { link = as_link k.link; text = k.text; asked = up_to k.until }

abbrev pub after_known : Configuration → (moment : ℕ) → KnownStep → KnownReplayed → KnownReplayed
after_known config moment s k =
    let messages = list_map (outgoing config s.timing) s.queries in
    let l = s.link in
    record {
      link = record l { counters = count_answers (all_sent messages) l.counters };
      text = k.text ++ query_events false config.family moment messages;
      until = k.until;
    }

-- so none are added
none_added : (config : Configuration) (moment : ℕ) (changed : List ℕ) (link : LinkState) (text : List ℕ) (until : Option ℕ)
    → with_changes config.family moment changed (record { link = link; text = text; asked = up_to until })
    ≡ record { link = link; text = text; asked = up_to until }
none_added config moment changed link text until = λ i. record { link = link; text = append-nil text i; asked = up_to until }

abbrev pub ticked_known : Configuration → (moment : ℕ) → KnownReplayed → KnownReplayed
ticked_known config moment k = after_known config moment (tick_in config moment k.link) k

ticked-known : (config : Configuration) (moment : ℕ) (k : KnownReplayed) → ticked_at config moment (as_replayed k) ≡ as_replayed (ticked_known config moment k)
unfolding ticked_at
ticked-known config moment k =
    none_added config moment (those_among (changed_by_tick config moment (as_link k.link)) (map.keys (as_groups k.link.groups)))
    (after_step config moment (tick_of config moment (as_link k.link)) (as_replayed k)).link _ k.until
    ∙ ap (λ s. after_step config moment s (as_replayed k)) (tick-known config moment k.link)

abbrev pub within_known : (most : ℕ) → Configuration → (limit : ℕ) → KnownReplayed → KnownReplayed
within_known most config limit k =
    ticked_within (λ (l : KnownReplayed). next_in l.link) (λ (l : KnownReplayed). ticked_known config (next_in l.link) l) most limit k

within-known : (most : ℕ) (config : Configuration) (limit : ℕ) (k : KnownReplayed)
    → ticked_within (λ (r : Replayed). next_of r.link) (λ (r : Replayed). ticked_at config (next_of r.link) r) most limit (as_replayed k)
    ≡ as_replayed (within_known most config limit k)
within-known most config limit k =
    through_within (λ (l : KnownReplayed). next_in l.link) (λ (l : KnownReplayed). ticked_known config (next_in l.link) l)
    (λ (r : Replayed). next_of r.link) (λ (r : Replayed). ticked_at config (next_of r.link) r) as_replayed (λ l. next-known l.link)
    (λ l. ap (λ (n : ℕ). ticked_at config n (as_replayed l)) (next-known l.link) ∙ ticked-known config (next_in l.link) l) most limit k

-- a datagram
abbrev pub received_known : Configuration → (moment number : ℕ) → Datagram → KnownReplayed → KnownReplayed
received_known config moment number datagram k =
    let read = read_of config.family (pseudo_of config.family datagram.envelope datagram.body) datagram.body in
    let receipt = receipt_known config datagram.envelope read moment k.link in
    let after = after_known config moment receipt.step k in
    record {
      link = after.link;
      text = after.text ++ receipt_line config.family moment number datagram.envelope.source receipt.answer;
      until = k.until;
    }

received-known : (config : Configuration) (moment number : ℕ) (datagram : Datagram) (k : KnownReplayed) →
    received_at config moment number datagram (as_replayed k) ≡ as_replayed (received_known config moment number datagram k)
unfolding received_at
received-known config moment number datagram k =
    none_added config moment (changed_at config moment datagram (as_link k.link)) _ _ k.until
    ∙ ap (λ receipt. let after = after_step config moment receipt.step (as_replayed k) in
    record after { text = after.text ++ receipt_line config.family moment number datagram.envelope.source receipt.answer })
    (receipt-known config datagram.envelope (read_of config.family (pseudo_of config.family datagram.envelope datagram.body) datagram.body) moment k.link)

abbrev pub taken_known : Configuration → (moment number : ℕ) → Carried → Option Datagram → KnownReplayed → KnownReplayed
taken_known config moment number carried (Some datagram) k = received_known config moment number datagram k
taken_known config moment number carried None k = record { link = k.link; text = k.text ++ skip_line moment number carried; until = k.until }

taken-known : (config : Configuration) (moment number : ℕ) (carried : Carried) (datagram : Option Datagram) (k : KnownReplayed) →
    taken_or_skipped config moment number carried datagram (as_replayed k) ≡ as_replayed (taken_known config moment number carried datagram k)
taken-known config moment number carried (Some datagram) k = received-known config moment number datagram k
taken-known config moment number carried None k = refl

abbrev pub packet_known : Configuration → (moment number : ℕ) → Carried → KnownReplayed → KnownReplayed
packet_known config moment number carried k =
    taken_known config moment number carried (datagram_of config.family carried) (within_known moment config moment k)

packet-known : (config : Configuration) (moment number : ℕ) (carried : Carried) (k : KnownReplayed) →
    with_packet config moment number carried (as_replayed k) ≡ as_replayed (packet_known config moment number carried k)
unfolding with_packet
packet-known config moment number carried k =
    ap (taken_or_skipped config moment number carried (datagram_of config.family carried)) (within-known moment config moment k)
    ∙ taken-known config moment number carried (datagram_of config.family carried) (within_known moment config moment k)

-- the end
abbrev pub group_line_known : Family → (group : ℕ) → ListedGroup → List ℕ
group_line_known family group k =
    group_start family group k.mode
    ++ (flat_map (λ (e : ℕ × SourceTimer). timer_text family e.0 e.1) (ordered k.sources) ++ line_of (older_hosts_text k.v1 k.v2))

group_line-known : (family : Family) (group : ℕ) (k : ListedGroup) → group_line family group (as_held k).group ≡ group_line_known family group k
group_line-known family group k =
    ap (λ (es : Entries SourceTimer). group_start family group k.mode ++
    (flat_map (λ (e : ℕ × SourceTimer). timer_text family e.0 e.1) es ++ line_of (older_hosts_text k.v1 k.v2))) (entries-known k.sources)

abbrev pub group_lines_known : Family → ListedGroups → List ℕ
group_lines_known family gs = flat_map (λ (e : ℕ × ListedGroup). group_line_known family e.0 e.1) (ordered gs)

group_lines-known : (family : Family) (moment : ℕ) (gs : ListedGroups) → group_events false family moment (as_groups gs) ≡ group_lines_known family gs
group_lines-known family moment gs =
    ap (flat_map (λ (e : ℕ × ScheduledGroup). group_line family e.0 e.1.group)) (entries-known (with_values as_held gs) ∙ ordered-with_values as_held gs)
    ∙ each (ordered gs)
  where
    each : (es : ListedGroups) → flat_map (λ (e : ℕ × ScheduledGroup). group_line family e.0 e.1.group) (with_values as_held es)
        ≡ flat_map (λ (e : ℕ × ListedGroup). group_line_known family e.0 e.1) es
    each [] = refl
    each (e ∷ es) = λ i. group_line-known family e.0 e.1 i ++ each es i

abbrev pub ended_known : Configuration → (moment : ℕ) → KnownReplayed → Report Counters
ended_known config moment k =
    let done = within_known (moment + 1) config (moment + 1) k in
    record {
      text =
          done.text
          ++ (end_line moment (is_querier done.link.election.role) ++ (group_lines_known config.family done.link.groups ++ counts_line done.link.counters));
      answer = Ok done.link.counters;
    }

ended-known : (config : Configuration) (moment : ℕ) (k : KnownReplayed) → ended_at config moment (as_replayed k) ≡ ended_known config moment k
unfolding ended_at
ended-known config moment k =
    ap (λ (done : Replayed). record {
      text = done.text ++ end_events done.asked.json config.family moment (is_querier done.link.election.role) done.link.groups done.link.counters;
      answer = Ok done.link.counters;
    }) (within-known (moment + 1) config (moment + 1) k)
    ∙ (let done = within_known (moment + 1) config (moment + 1) k in
    ap (λ (lines : List ℕ). record {
      text = done.text ++ (end_line moment (is_querier done.link.election.role) ++ (lines ++ counts_line done.link.counters));
      answer = Ok done.link.counters;
    }) (group_lines-known config.family moment done.link.groups))

-- the link at its start
abbrev pub start_known : Configuration → (until : Option ℕ) → KnownReplayed
start_known config until = record {
  link = record { groups = []; election = election_at config.timing 0; last = 0; counters = no_counts };
  text = [];
  until = until;
}

-- this replay of a capture, as work over its packets
abbrev pub known : Configuration → (until : Option ℕ) → Work KnownReplayed Counters
known config until = record {
  start = start_known config until;
  step = λ packet k. packet_known config packet.moment packet.number (carried_in packet.link packet.frame) k;
  is_full = λ k. false;
  text = λ k. k.text;
  until = until;
  ended = λ moment number k. ended_known config moment k;
}

abbrev as_course : Course KnownReplayed → Course Replayed
as_course k = record { state = as_replayed k.state; moment = k.moment; fault = k.fault }

packets-known : (config : Configuration) (until : Option ℕ) (link : LinkType) (at : Place) (packets : List Captured) (k : KnownReplayed) →
    with_packets (replay_of config (up_to until)) link at packets (as_replayed k) ≡ as_course (with_packets (known config until) link at packets k)
unfolding with_packets
packets-known config until link at [] k = refl
packets-known config until link at (packet ∷ packets) k =
    let next = placed link at packet in
    let frame = carried_in link packet.bytes in
    let behind = place_behind at packet.stamp in
    elim (is_gap at.before next.moment) as (λ b.
    elim b [
      | true ↦ record { state = as_replayed k; moment = at.before; fault = Some (Gap at.number) }
      | false ↦ with_packets (replay_of config (up_to until)) link behind packets (with_packet config next.moment at.number frame (as_replayed k))
    ] ≡ as_course (elim b [
      | true ↦ record { state = k; moment = at.before; fault = Some (Gap at.number) }
      | false ↦ with_packets (known config until) link behind packets (packet_known config next.moment at.number frame k)
    ])) [
      | true ↦ refl
      | false ↦
          ap (with_packets (replay_of config (up_to until)) link behind packets) (packet-known config next.moment at.number frame k)
          ∙ packets-known config until link behind packets (packet_known config next.moment at.number frame k)
    ]

reported-known : (config : Configuration) (until : Option ℕ) (number : ℕ) (end : Option PcapFault) (fault : Option CaptureFault) (k : Course KnownReplayed) →
    reported (replay_of config (up_to until)) number end fault (as_course k) ≡ reported (known config until) number end fault k
reported-known config until number end (Some fault) k = refl
reported-known config until number (Some fault) None k = refl
reported-known config until number None None k =
    let last = last_moment until k.moment in
    elim (is_gap k.moment last) as (λ b.
    elim b [ true ↦ broken_off (replay_of config (up_to until)) (Gap number) (as_replayed k.state) | false ↦ ended_at config last (as_replayed k.state) ]
    ≡ elim b [ true ↦ broken_off (known config until) (Gap number) k.state | false ↦ ended_known config last k.state ]) [
      | true ↦ refl
      | false ↦ ended-known config last k.state
    ]

pub report-known : (config : Configuration) (until : Option ℕ) (form : Form) (packets : List Captured) (end : Option PcapFault) →
    report_of (replay_of config (up_to until)) (Ok form) packets end ≡ report_of (known config until) (Ok form) packets end
report-known config until form packets end =
    let k = with_packets (known config until) form.link at_first packets (start_known config until) in
    ap (λ (course : Course Replayed). reported (replay_of config (up_to until)) (length packets + 1) end course.fault course)
    (packets-known config until form.link at_first packets (start_known config until)) ∙ reported-known config until (length packets + 1) end k.fault k
