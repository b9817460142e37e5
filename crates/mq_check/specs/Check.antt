-- The check of a capture: a run of a link that has the checked querier's address. Each query that the link sends is
-- wanted, and compared with the queries from this address.
use Rattle.std.specs.Prelude.{ℕ, ◌+◌, ◌-◌, ◌^◌, ◌==◌, min, nat_lt, not, Bool, true, false, if◌then◌else◌, length, List, [], ◌++◌, Option, None, Some, Ok, Err, drop}
use Rattle.byteorder.specs.Endian.{big_number}
use Rattle.mq_pcap.specs.declared.link_type.LinkType.{LinkType}
use Rattle.mq_pcap.specs.declared.link_type.LinkType.TheVariants.{Ethernet, RawIp}
use Rattle.mq_pcap.specs.Frame.{carried_in, word_at}
use Rattle.mq_wire.specs.declared.query.Query.{Query}
use Rattle.mq_wire.specs.Family.{Family, Igmp, Mld}
use Rattle.mq_sched.specs.Election.{is_querier}
use Rattle.mq_link.specs.Configuration.{Configuration}
use Rattle.mq_link.specs.Receive.{Envelope, receipt_of}
use Rattle.mq_link.specs.Run.{answered}
use Rattle.mq_link.specs.Sent.{outgoing_of}
use Rattle.mq_link.specs.State.{LinkState, link_at}
use Rattle.mq_link.specs.Tick.{Step, tick_of, next_of}
use Rattle.mq_walk.specs.declared.capture_fault.CaptureFault.TheVariants.{Waiting}
use Rattle.mq_walk.specs.Courses.{Report, Work}
use Rattle.mq_walk.specs.Datagrams.{Datagram, datagram_of}
use Rattle.mq_walk.specs.Outlets.{all_sent}
use Rattle.mq_walk.specs.Ticks as ticks
use Rattle.mq_check.specs.declared.basis.Basis.{Basis}
use Rattle.mq_check.specs.declared.check_terms.Additions.{Additions}
use Rattle.mq_check.specs.declared.check_terms.CheckFlags.{CheckFlags}
use Rattle.mq_check.specs.declared.check_terms.CheckTerms.{CheckTerms}
use Rattle.mq_check.specs.declared.finding.Finding.{Finding}
use Rattle.mq_check.specs.declared.headers.HeaderFault.{HeaderFault}
use Rattle.mq_check.specs.declared.headers.Headers.{Headers}
use Rattle.mq_check.specs.declared.totals.KindCounts.{KindCounts}
use Rattle.mq_check.specs.declared.totals.Totals.{Totals}
use Rattle.mq_check.specs.Basis.{basis_at_start, named, variables_in, with_frame, with_other_querier}
use Rattle.mq_check.specs.Basis as basis
use Rattle.mq_check.specs.Causes.{causes_in}
use Rattle.mq_check.specs.Checking.{CheckingValue, checking_at_start, told, purged, faults_seen, with_all_excused, with_messages, role_changed, role_after_tick, query_came, all_changed, told_at_end, with_s_judged, groups_refused}
use Rattle.mq_check.specs.FindingLines.{certain_in, finding_lines, last_lines, of_kind, possible_in}
use Rattle.mq_check.specs.General.{silence_up_to}
use Rattle.mq_check.specs.Headers.{faults_if, faults_of, headers4_in, headers6_in, is_broken_query, is_own_query}
use Rattle.mq_check.specs.Queries.{query_seen, specific_terms}
use Rattle.mq_check.specs.Refused.{is_crowded, refused_by}
use Rattle.mq_check.specs.Repeated.{all_reported}
use Rattle.mq_check.specs.Standing.{is_set}

-- A check in progress: the link, its treatment of queries, and the basis of the verdict.
pub record Checked : Type 0 where
  pub link : LinkState
  pub checking : CheckingValue
  pub basis : Basis

-- the check whose link starts at 0, without a wanted or a seen query
abbrev pub at_the_start : Configuration → (within : ℕ) → CheckFlags → Checked
at_the_start config within flags = record {
  link = link_at config 0;
  checking = checking_at_start within config.timing flags;
  basis = basis_at_start (variables_in config) (named config.family config.own);
}

-- The outcome of a step: the check after it, and its findings.
pub record Outcome : Type 0 where
  pub checked : Checked
  pub found : List (Finding ℕ)

-- the outcome without findings
abbrev pub quiet : Checked → Outcome
quiet r = record { checked = r; found = [] }

-- the outcome with earlier findings before its own
abbrev pub behind : List (Finding ℕ) → Outcome → Outcome
behind found o = record o { found = found ++ o.found }

-- the check after S of the seen queries is judged that no Report of this moment can change, or of all
abbrev pub judged_at : (within : ℕ) → (moment : Option ℕ) → Checked → Checked
judged_at within moment r = record r { checking = with_s_judged within moment (is_set r.link.groups) r.checking }

-- the check after its expired entries were removed
abbrev pub purged_at : (moment : ℕ) → Checked → Checked
purged_at moment r = record r { checking = purged moment r.checking }

-- The treatment of queries after those of one step of the link became wanted, by a tick or a datagram. The basis has the
-- number of packets so far, which is the number of the last packet.
abbrev pub wanted_by : Configuration → (moment : ℕ) → (by_tick : Bool) → Step → Checked → CheckingValue
wanted_by config moment by_tick step r =
    let is_returning = not (is_querier r.link.election.role) in
    with_messages config.family moment r.basis.packets by_tick is_returning (outgoing_of config step) r.checking

-- the check after a tick, by which the router may become querier again
unfoldable pub ticked : Configuration → (within moment : ℕ) → Checked → Checked
ticked config within moment r =
    let step = tick_of config moment r.link in
    record {
      link = answered (all_sent (outgoing_of config step)) step;
      checking =
          role_after_tick within moment (is_querier r.link.election.role) (is_querier step.state.election.role)
          (wanted_by config moment true step r);
      basis =
          basis.role_after_tick moment (is_querier r.link.election.role) (is_querier step.state.election.role) r.basis;
    }

-- the outcome of a tick at a moment, after the expired entries are reported
abbrev pub ticked_at : Configuration → (within moment : ℕ) → Checked → Outcome
ticked_at config within moment r =
    let judged = judged_at within (Some moment) r in
    record {
      checked = ticked config within moment (purged_at moment judged);
      found = told within moment judged.checking;
    }

-- the outcome of all ticks up to and including a moment, at the link's next moments
abbrev pub ticked_through : Configuration → (within moment : ℕ) → Checked → Outcome
ticked_through config within moment r =
    ticks.ticked_before (λ (o : Outcome). next_of o.checked.link)
    (λ (o : Outcome). behind o.found (ticked_at config within (next_of o.checked.link) o.checked)) (moment + 1) (quiet r)

-- all ticks up to and including the end of a capture, and the removal of the entries that have expired then
abbrev pub purged_through : Configuration → (within moment : ℕ) → Checked → Outcome
purged_through config within moment r =
    let done = ticked_through config within moment r in
    let judged = judged_at within None done.checked in
    record {
      checked = purged_at moment judged;
      found = done.found ++ told within moment judged.checking;
    }

-- The ticks up to the tolerance after the end of a capture, at most to 2^53. A query that the link sends then may be the
-- partner of a seen one. A pending wanted query may be left out if its partner may come after the end.
abbrev pub looked_ahead : Configuration → (within moment : ℕ) → Checked → Outcome
looked_ahead config within moment r =
    ticked_through config within (min (moment + within) (2 ^ 53)) (record r { checking = with_all_excused within moment r.checking })

-- the IP packet of a frame, after an Ethernet header and at most one tag
abbrev pub packet_in : LinkType → (frame : List ℕ) → List ℕ
packet_in Ethernet frame =
    if nat_lt (length frame) 14
    then []
    else if word_at 12 frame == 0x8100 then drop 18 frame else drop 14 frame
packet_in RawIp frame = frame

-- the destination in an IPv4 header
abbrev pub destination4_in : (packet : List ℕ) → ℕ
destination4_in packet = if nat_lt (length packet) 20 then 0 else big_number 4 (drop 16 packet)

-- the destination of the datagram that a frame carries
abbrev pub destination_in : Family → LinkType → (frame : List ℕ) → Envelope → ℕ
destination_in Igmp link frame envelope = destination4_in (packet_in link frame)
destination_in Mld link frame envelope = envelope.destination

-- the fields of a packet and of the query in it
abbrev pub headers_in : Family → LinkType → (frame : List ℕ) → Datagram → Headers
headers_in Igmp link frame datagram = headers4_in (packet_in link frame) datagram.body
headers_in Mld link frame datagram = headers6_in datagram.envelope datagram.body

-- their faults, if the datagram is a query of the checked querier
abbrev pub faults_in : Configuration → LinkType → (frame : List ℕ) → Datagram → List HeaderFault
faults_in config link frame datagram =
    faults_if (is_own_query config datagram) (is_broken_query config datagram)
    (faults_of (headers_in config.family link frame datagram))

-- the check after the changes of a datagram of a host were noted that may make a querier send a query
abbrev pub noting_changes : Configuration → (moment : ℕ) → Datagram → Checked → Checked
noting_changes config moment datagram r =
    record r {
      checking =
          all_changed moment (specific_terms config r.link.election.timing r.basis.packets) (causes_in config.family datagram)
          r.checking;
    }

-- the check after the link received a datagram, by which the role may change
unfoldable pub received : Configuration → (within moment : ℕ) → Datagram → Checked → Checked
received config within moment datagram r =
    let step = (receipt_of config datagram.envelope datagram.body moment r.link).step in
    record {
      link = answered (all_sent (outgoing_of config step)) step;
      checking =
          role_changed within config.timing moment (is_querier r.link.election.role) (is_querier step.state.election.role)
          (wanted_by config moment false step (noting_changes config moment datagram r));
      basis =
          with_other_querier config.family step.state.election.role
          (basis.role_changed moment (is_querier r.link.election.role) (is_querier step.state.election.role) r.basis);
    }

-- the check after a datagram for the link; if the link refused one of its records, its groups aren't judged
unfoldable pub taken : Configuration → (within moment : ℕ) → Datagram → Checked → Checked
taken config within moment datagram r =
    let after = received config within moment datagram r in
    let answer = (receipt_of config datagram.envelope datagram.body moment r.link).answer in
    record after { checking = groups_refused (refused_by config.family answer datagram) after.checking }

-- the check after a query of the checked querier was seen
unfoldable pub seen_at : Configuration → (within moment to : ℕ) → Query ℕ → Checked → Checked
seen_at config within moment to query r =
    record r { checking = query_came within config r.link moment r.basis.packets to query r.checking }

-- the check after a datagram: a seen query of the checked querier, or a datagram for the link
abbrev pub seen_or_received : Configuration → (within moment to : ℕ) → Datagram → Option (Query ℕ) → Checked → Checked
seen_or_received config within moment to datagram (Some query) r = seen_at config within moment to query r
seen_or_received config within moment to datagram None r = taken config within moment datagram r

-- the check after these faults were seen in the headers of the packet with this number
abbrev pub with_faults : (moment number : ℕ) → List HeaderFault → Checked → Checked
with_faults moment number faults r = record r { checking = faults_seen moment number faults r.checking }

-- the outcome of a datagram of the packet with this number, after the expired entries are reported
abbrev pub with_datagram : Configuration → LinkType → (within moment number : ℕ) → (frame : List ℕ) → Option Datagram → Checked → Outcome
with_datagram config link within moment number frame None r = quiet r
with_datagram config link within moment number frame (Some datagram) r =
    let to = destination_in config.family link frame datagram.envelope in
    let judged = judged_at within (Some moment) r in
    let before = with_faults moment number (faults_in config link frame datagram) (purged_at moment judged) in
    record {
      checked = seen_or_received config within moment to datagram (query_seen config datagram) before;
      found = told within moment judged.checking;
    }

-- the check after a packet was counted
abbrev pub noted : Configuration → LinkType → (goes_back : Bool) → (frame : List ℕ) → Option Datagram → Checked → Checked
noted config link goes_back frame datagram r =
    record r { basis = with_frame config link frame (carried_in link frame) datagram (basis.with_packet goes_back r.basis) }

-- the outcome of a packet with this number, after the ticks up to its moment
unfoldable pub with_packet : Configuration → LinkType → (within moment number : ℕ) → (goes_back : Bool) → (frame : List ℕ) → Checked → Outcome
with_packet config link within moment number goes_back frame r =
    let before = ticked_through config within moment r in
    let datagram = datagram_of config.family (carried_in link frame) in
    behind before.found
    (with_datagram config link within moment number frame datagram (noted config link goes_back frame datagram before.checked))

-- the numbers of certain findings of each kind
abbrev pub count_of : (kind : ℕ) → List (Finding ℕ) → ℕ
count_of kind found = min (length (of_kind kind found)) (2 ^ 64 - 1)

abbrev pub kinds_of : List (Finding ℕ) → KindCounts
kinds_of found = record {
  missing = count_of 1 found;
  extra = count_of 2 found;
  differs = count_of 3 found;
  interval = count_of 4 found;
  silence = count_of 5 found;
  header = count_of 6 found;
}

-- The totals of a check with these reported findings. All possible findings are reported. Those have their own count.
abbrev pub totals_of : CheckingValue → Basis → List (Finding ℕ) → Totals
totals_of c basis found = record {
  general = c.general;
  specific = c.specific;
  findings = min (length (certain_in found)) (2 ^ 64 - 1);
  possible = min (length (possible_in found)) (2 ^ 64 - 1);
  kinds = kinds_of found;
  basis = basis;
}

-- the text of findings
abbrev pub found_text : Configuration → (additions : Additions) → List (Finding ℕ) → List ℕ
found_text config additions found = finding_lines config.family additions (all_reported additions found)

-- the verdict at the end of a capture
abbrev pub concluded : Configuration → (additions : Additions) → CheckingValue → Basis → List (Finding ℕ) → Report Totals
concluded config additions c basis found =
    let told = all_reported additions found in
    record {
      text = finding_lines config.family additions told ++ last_lines additions.json (totals_of c basis told);
      answer = Ok (totals_of c basis told);
    }

-- the basis at the end: the number of records that the link refused for its limits, and whether no group is judged for them
abbrev pub basis_at_end : Checked → Basis
basis_at_end r = record r.basis { refused = r.link.counters.refused; is_crowded = is_crowded r.checking.refused }

-- The verdict after a check up to and including a moment, with the earlier findings first. The link is ticked further,
-- so that each seen query can find its partner. The basis and the silence are those of the moment.
unfoldable pub ended_at : Configuration → (within : ℕ) → (additions : Additions) → (moment number : ℕ) → (found : List (Finding ℕ)) → Checked → Report Totals
ended_at config within additions moment number found r =
    let done = purged_through config within moment r in
    let ahead = looked_ahead config within moment done.checked in
    let silence = silence_up_to within config.timing moment done.checked.checking.phase in
    if ahead.checked.checking.waiting.is_full
    then record { text = found_text config additions (found ++ done.found ++ ahead.found); answer = Err (Waiting number) }
    else concluded config additions ahead.checked.checking (basis_at_end done.checked)
    (found ++ done.found ++ ahead.found ++ told_at_end within config.timing moment silence ahead.checked.checking)

-- the check of a capture, as work over its packets
abbrev pub check_of : Configuration → CheckTerms → Work Outcome Totals
check_of config terms = record {
  start = quiet (at_the_start config terms.within terms.flags);
  step = λ packet o.
      behind o.found
      (with_packet config packet.link terms.within packet.moment packet.number packet.goes_back packet.frame o.checked);
  is_full = λ o. o.checked.checking.waiting.is_full;
  text = λ o. found_text config terms.additions o.found;
  until = terms.until;
  ended = λ moment number o. ended_at config terms.within terms.additions moment number o.found o.checked;
}
