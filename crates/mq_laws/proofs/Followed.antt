-- The check of a capture, as the check by the events in it.
use Rattle.mq_laws.proofs.Common.{◌≡◌, ℕ, zero, suc, ◌+◌, ◌<◌, ◌≤◌, Bool, true, false, not, ◌&&◌, List, [], ◌∷◌, ◌++◌, refl, ap, sym, ◌∙◌, subst, append_assoc}
use Rattle.mq_laws.proofs.Common.{append-nil, if◌then◌else◌, nat_lt, ltb-true, ltb-false, lt-ltb, le-ltb, LinkType, Message, WireFault, Query, Family, Timing}
use Rattle.mq_laws.proofs.Common.{Role, Querier, Other, is_querier, Configuration, receipt_of, Outgoing, outgoing_of, LinkState, tick_of, next_of, datagram_of}
use Rattle.mq_laws.proofs.Common.{Finding, Checked, Outcome, behind, judged_at, quiet, purged_at, ticked_through, seen_or_received, with_datagram, with_faults}
use Rattle.mq_laws.proofs.Common.{destination_in, faults_in, noted, CheckingValue, all_changed, counted_up, told, purged, faults_seen, with_fault}
use Rattle.mq_laws.proofs.Common.{with_messages, one_wanted, role_after_tick, role_changed, is_general, query_seen, specific_terms, Passage, nothing_happens}
use Rattle.mq_laws.proofs.Common.{happening_behind, wanted_for, wanted_of, wanted_by, role_by_tick, role_by_datagram, tick_passage, ticks_through, event_of}
use Rattle.mq_laws.proofs.Common.{fault_events, datagram_passage, frame_passage, packet_passage, CheckEvent, Changes, Judges, moment_behind, check_by, told_by}
use Rattle.mq_laws.proofs.Common.{Refuses, moment_behind_all, check_by_all, told_by_all, Option, None, Some, Result, Ok, Err, carried_in, ticked_within, Basis}
use Rattle.mq_laws.proofs.Common.{HeaderFault, causes_in, with_packet, refused_by, with_s_judged, is_set, ticks_passage}
use Rattle.mq_pcap.specs.Frame.{Carried}
use Rattle.mq_wire.specs.declared.message.WireFault.TheVariants.{Truncated, Checksum, UnknownType, QueryLength}
use Rattle.mq_walk.{specs.Datagrams.Datagram, proofs.Ticking.none_within}
use Rattle.mq_check.specs.{Check.ticked, Check.ticked_at, Check.received, Check.seen_at, Checking.query_came, Check.taken}
use Rattle.mq_check.proofs.TickedChecks.{next_in, one_ticked, rest_of, tick_in}
use Rattle.mq_laws.specs.Captures.{comes}
use Rattle.mq_pcap.specs.Frame as carried
use Rattle.mq_check.specs.Basis as basis

-- events one after the other
check_by-append : (within : ℕ) (timing : Timing) (now : ℕ) (xs ys : List CheckEvent) (c : CheckingValue)
    → check_by_all within timing now (xs ++ ys) c ≡ check_by_all within timing (moment_behind_all now xs) ys (check_by_all within timing now xs c)
check_by-append within timing now [] ys c = refl
check_by-append within timing now (x ∷ xs) ys c = check_by-append within timing (moment_behind now x) xs ys (check_by within timing now x c)

told_by-append : (within : ℕ) (timing : Timing) (now : ℕ) (xs ys : List CheckEvent) (c : CheckingValue)
    → told_by_all within timing now (xs ++ ys) c ≡ told_by_all within timing now xs c ++
    told_by_all within timing (moment_behind_all now xs) ys (check_by_all within timing now xs c)
told_by-append within timing now [] ys c = refl
told_by-append within timing now (x ∷ xs) ys c =
    ap (λ (l : List (Finding ℕ)). told_by within x c ++ l) (told_by-append within timing (moment_behind now x) xs ys (check_by within timing now x c))
    ∙ sym (append_assoc (told_by within x c) (told_by_all within timing (moment_behind now x) xs (check_by within timing now x c)) _)

-- The check after the events of one moment, which report nothing.
record IsStill (within : ℕ) (timing : Timing) (now : ℕ) (events : List CheckEvent) (c after : CheckingValue) : Type 0 where
  check : check_by_all within timing now events c ≡ after
  told : told_by_all within timing now events c ≡ []
  moment : moment_behind_all now events ≡ now

moment_behind-append : (now : ℕ) (xs ys : List CheckEvent) → moment_behind_all now (xs ++ ys) ≡ moment_behind_all (moment_behind_all now xs) ys
moment_behind-append now [] ys = refl
moment_behind-append now (x ∷ xs) ys = moment_behind-append (moment_behind now x) xs ys

still-append : (within : ℕ) (timing : Timing) (now : ℕ) (xs ys : List CheckEvent) (c d e : CheckingValue)
    → IsStill within timing now xs c d → IsStill within timing now ys d e → IsStill within timing now (xs ++ ys) c e
still-append within timing now xs ys c d e first second = record {
  check = check_by-append within timing now xs ys c ∙ (λ i. check_by_all within timing (first.moment i) ys (first.check i)) ∙ second.check;
  told = told_by-append within timing now xs ys c ∙ (λ i. first.told i ++ told_by_all within timing (first.moment i) ys (first.check i)) ∙ second.told;
  moment = moment_behind-append now xs ys ∙ ap (λ (m : ℕ). moment_behind_all m ys) first.moment ∙ second.moment;
}

-- a query that the link sends
still-wanted : (within : ℕ) (timing : Timing) (now packets : ℕ) (family : Family) (by_tick is_returning : Bool) (to : ℕ) (query : Query ℕ)
    (c : CheckingValue)
    → IsStill within timing now (wanted_for family packets by_tick is_returning to query) c (one_wanted family now packets by_tick is_returning to query c)
still-wanted within timing now packets family by_tick is_returning to query c =
    elim (is_general query && not is_returning) as (λ b.
    (is_general query && not is_returning) ≡ b → IsStill within timing now (wanted_for family packets by_tick is_returning to query) c
    (one_wanted family now packets by_tick is_returning to query c)) [
      | true ↦ λ is. rw is (record { check = refl; told = refl; moment = refl })
      | false ↦ λ is. rw is (record { check = refl; told = refl; moment = refl })
    ] refl

still-messages : (within : ℕ) (config : Configuration) (now packets : ℕ) (by_tick is_returning : Bool) (messages : List Outgoing) (c : CheckingValue)
    → IsStill within config.timing now (wanted_of config packets by_tick is_returning messages) c
    (with_messages config.family now packets by_tick is_returning messages c)
still-messages within config now packets by_tick is_returning [] c = record { check = refl; told = refl; moment = refl }
still-messages within config now packets by_tick is_returning (message ∷ messages) c =
    let wanted = one_wanted config.family now packets by_tick is_returning message.to message.query c in
    still-append within config.timing now (wanted_for config.family packets by_tick is_returning message.to message.query)
    (wanted_of config packets by_tick is_returning messages) c wanted _
    (still-wanted within config.timing now packets config.family by_tick is_returning message.to message.query c)
    (still-messages within config now packets by_tick is_returning messages wanted)

-- the role
still-tick : (within : ℕ) (timing : Timing) (now : ℕ) (was is : Bool) (c : CheckingValue) →
    IsStill within timing now (role_by_tick was is) c (role_after_tick within now was is c)
still-tick within timing now true is c = record { check = refl; told = refl; moment = refl }
still-tick within timing now false true c = record { check = refl; told = refl; moment = refl }
still-tick within timing now false false c = record { check = refl; told = refl; moment = refl }

still-datagram : (within : ℕ) (timing : Timing) (now : ℕ) (was is : Bool) (c : CheckingValue) →
    IsStill within timing now (role_by_datagram was is) c (role_changed within timing now was is c)
still-datagram within timing now true true c = record { check = refl; told = refl; moment = refl }
still-datagram within timing now true false c = record { check = refl; told = refl; moment = refl }
still-datagram within timing now false true c = record { check = refl; told = refl; moment = refl }
still-datagram within timing now false false c = record { check = refl; told = refl; moment = refl }

-- faults in the headers of a packet
still-faults : (within : ℕ) (timing : Timing) (now number : ℕ) (faults : List HeaderFault) (c : CheckingValue)
    → IsStill within timing now (fault_events number faults) c (faults_seen now number faults c)
still-faults within timing now number [] c = record { check = refl; told = refl; moment = refl }
still-faults within timing now number (fault ∷ faults) c =
    let rest = still-faults within timing now number faults (with_fault now number c fault) in
    record { check = rest.check; told = rest.told; moment = rest.moment }

-- A check behind a passage: whatever moment came before.
pub record Follows (within : ℕ) (timing : Timing) (p : Passage) (r : Checked) (o : Outcome) : Type 0 where
  pub link : o.checked.link ≡ p.link
  pub packets : o.checked.basis.packets ≡ p.packets
  pub checking : (now : ℕ) → o.checked.checking ≡ check_by_all within timing now p.events r.checking
  pub found : (now : ℕ) → o.found ≡ told_by_all within timing now p.events r.checking

-- a moment comes, and then what happens at it
follows-still : (within : ℕ) (timing : Timing) (moment packets : ℕ) (link : LinkState) (events : List CheckEvent) (r after : Checked)
    → after.link ≡ link → after.basis.packets ≡ packets →
    IsStill within timing moment events (purged moment (judged_at within (Some moment) r).checking) after.checking
    → Follows within timing (record { link = link; packets = packets; events = comes moment r.link events }) r
    (record { checked = after; found = told within moment (judged_at within (Some moment) r).checking })
follows-still within timing moment packets link events r after is counts still = record {
  link = is;
  packets = counts;
  checking = λ now. sym still.check;
  found = λ now.
      let told_then = told within moment (judged_at within (Some moment) r).checking in
      sym (ap (λ (l : List (Finding ℕ)). told_then ++ l) still.told ∙ append-nil told_then);
}

-- one passage behind another
pub follows-behind : (within : ℕ) (timing : Timing) (p q : Passage) (r : Checked) (o u : Outcome) → Follows within timing p r o →
    Follows within timing q o.checked u → Follows within timing (happening_behind p.events q) r (behind o.found u)
follows-behind within timing p q r o u first second = record {
  link = second.link;
  packets = second.packets;
  checking = λ now.
      second.checking (moment_behind_all now p.events) ∙
      ap (λ (c : CheckingValue). check_by_all within timing (moment_behind_all now p.events) q.events c) (first.checking now)
      ∙ sym (check_by-append within timing now p.events q.events r.checking);
  found = λ now.
      (λ i. first.found now i ++ (second.found (moment_behind_all now p.events) ∙
      ap (λ (c : CheckingValue). told_by_all within timing (moment_behind_all now p.events) q.events c) (first.checking now)) i)
      ∙ sym (told_by-append within timing now p.events q.events r.checking);
}

pub follows-nothing : (within : ℕ) (timing : Timing) (r : Checked) → Follows within timing (nothing_happens r.basis.packets r.link) r (quiet r)
follows-nothing within timing r = record { link = refl; packets = refl; checking = λ now. refl; found = λ now. refl }

-- the number of packets, where the role changes or not
tick_packets : (moment : ℕ) (was is : Bool) (b : Basis) → (basis.role_after_tick moment was is b).packets ≡ b.packets
tick_packets moment true is b = refl
tick_packets moment false true b = refl
tick_packets moment false false b = refl

role_packets : (moment : ℕ) (was is : Bool) (b : Basis) → (basis.role_changed moment was is b).packets ≡ b.packets
role_packets moment true true b = refl
role_packets moment true false b = refl
role_packets moment false true b = refl
role_packets moment false false b = refl

other_packets : (family : Family) (role : Role) (b : Basis) → (basis.with_other_querier family role b).packets ≡ b.packets
other_packets family (Querier due startup) b = refl
other_packets family (Other address deadline) b = refl

-- and behind one more packet
read_packets : (read : Result (Message ℕ) WireFault) (b : Basis) → (basis.with_read read b).packets ≡ b.packets
read_packets (Ok message) b = refl
read_packets (Err (Truncated at)) b = refl
read_packets (Err Checksum) b = refl
read_packets (Err UnknownType) b = refl
read_packets (Err QueryLength) b = refl

unread_packets : (b : Basis) (is_wrapped : Bool) → (if is_wrapped then basis.with_unread b else b).packets ≡ b.packets
unread_packets b true = refl
unread_packets b false = refl

without_packets : (link : LinkType) (frame : List ℕ) (content : Carried) (b : Basis) → (basis.with_other link frame content b).packets ≡ b.packets
without_packets link frame carried.Other b = unread_packets b (basis.is_wrapped (basis.type_in link frame))
without_packets link frame _ b = refl

frame_packets : (config : Configuration) (link : LinkType) (frame : List ℕ) (content : Carried) (datagram : Option Datagram) (b : Basis)
    → (basis.with_frame config link frame content datagram b).packets ≡ b.packets
frame_packets config link frame content (Some datagram) b = read_packets _ b
frame_packets config link frame content None b = without_packets link frame content b

-- a tick
follows-tick : (config : Configuration) (within moment : ℕ) (r : Checked)
    → Follows within config.timing (tick_passage config moment r.basis.packets r.link) r (ticked_at config within moment r)
unfolding ticked
follows-tick config within moment r =
    let step = tick_of config moment r.link in
    let was = is_querier r.link.election.role in
    let before = judged_at within (Some moment) r in
    let c = purged moment before.checking in
    let wanted = with_messages config.family moment r.basis.packets true (not was) (outgoing_of config step) c in
    follows-still within config.timing moment _ _ (wanted_by config r.basis.packets true r.link step ++
    role_by_tick was (is_querier step.state.election.role)) r (ticked config within moment (purged_at moment before)) refl
    (tick_packets moment was (is_querier step.state.election.role) r.basis)
    (still-append within config.timing moment (wanted_by config r.basis.packets true r.link step)
    (role_by_tick was (is_querier step.state.election.role)) c wanted _
    (still-messages within config moment r.basis.packets true (not was) (outgoing_of config step) c)
    (still-tick within config.timing moment was (is_querier step.state.election.role) wanted))

-- ticks up to a limit
pub none_passes : (most : ℕ) (config : Configuration) (limit packets : ℕ) (link : LinkState) → limit ≤ next_of link →
    ticks_passage most config limit packets link ≡ nothing_happens packets link
unfolding ticks_passage
none_passes zero config limit packets link reached = refl
none_passes (suc most) config limit packets link reached = rw (le-ltb (next_of link) limit reached, ticks_passage) refl

pub one_passes : (most : ℕ) (config : Configuration) (limit packets : ℕ) (link : LinkState) → next_of link < limit
    → ticks_passage (suc most) config limit packets link ≡ happening_behind (tick_passage config (next_of link) packets link).events
    (ticks_passage most config limit packets (tick_passage config (next_of link) packets link).link)
unfolding ticks_passage
one_passes most config limit packets link due = rw (lt-ltb (next_of link) limit due, ticks_passage) refl

follows-as : (within : ℕ) (timing : Timing) (p q : Passage) (r : Checked) (o u : Outcome) → p ≡ q → o ≡ u → Follows within timing q r u →
    Follows within timing p r o
follows-as within timing p q r o u same is follows = rw (same, is) follows

pub follows-ticks : (most : ℕ) (config : Configuration) (within limit : ℕ) (r : Checked) →
    Follows within config.timing (ticks_passage most config limit r.basis.packets r.link) r (rest_of most config within limit r)
unfolding ticks_passage ticked_within
follows-ticks zero config within limit r = follows-nothing within config.timing r
follows-ticks (suc most) config within limit r =
    elim (nat_lt (next_of r.link) limit) as (λ b. nat_lt (next_of r.link) limit ≡ b →
    Follows within config.timing (ticks_passage (suc most) config limit r.basis.packets r.link) r (rest_of (suc most) config within limit r)) [
      | true ↦ λ due.
          let before = ltb-true (next_of r.link) limit due in
          let one = follows-tick config within (next_of r.link) r in
          let next = (ticked_at config within (next_of r.link) r).checked in
          let rest = rest_of most config within limit next in
          follows-as within config.timing _ _ r _ _ (one_passes most config limit r.basis.packets r.link before) (one_ticked most config within limit r before)
          (follows-behind within config.timing (tick_passage config (next_of r.link) r.basis.packets r.link) _ r _ _ one
          (subst (λ (n : ℕ). Follows within config.timing
          (ticks_passage most config limit n (tick_passage config (next_of r.link) r.basis.packets r.link).link) next rest) one.packets
          (subst (λ (l : LinkState). Follows within config.timing (ticks_passage most config limit next.basis.packets l) next rest) one.link
          (follows-ticks most config within limit next))))
      | false ↦ λ reached.
          let beyond = ltb-false (next_of r.link) limit reached in
          follows-as within config.timing _ _ r _ _ (none_passes (suc most) config limit r.basis.packets r.link beyond)
          (none_within next_in (tick_in config within) (suc most) limit (quiet r) beyond) (follows-nothing within config.timing r)
    ] refl

-- a query that was seen
still-came : (within : ℕ) (config : Configuration) (link : LinkState) (moment packets to : ℕ) (query : Query ℕ) (c : CheckingValue)
    → IsStill within config.timing moment (event_of config link moment packets to query ∷ []) c (query_came within config link moment packets to query c)
unfolding query_came
still-came within config link moment packets to query c =
    elim (is_general query) as (λ b. is_general query ≡ b → IsStill within config.timing moment (event_of config link moment packets to query ∷ []) c
    (query_came within config link moment packets to query c)) [
      | true ↦ λ is. rw is (record { check = refl; told = refl; moment = refl })
      | false ↦ λ is. rw is (record { check = refl; told = refl; moment = refl })
    ] refl

-- any other datagram, or a query of the querier
follows-datagram : (config : Configuration) (within moment number to : ℕ) (datagram : Datagram) (query : Option (Query ℕ)) (faults : List HeaderFault)
    (r : Checked)
    → Follows within config.timing (datagram_passage config moment to datagram query (fault_events number faults) r.basis.packets r.link) r (record {
      checked =
          seen_or_received config within moment to datagram query
          (with_faults moment number faults (purged_at moment (judged_at within (Some moment) r)));
      found = told within moment (judged_at within (Some moment) r).checking;
    })
unfolding taken received seen_at
follows-datagram config within moment number to datagram (Some query) faults r =
    let before = judged_at within (Some moment) r in
    let begun = purged moment before.checking in
    let c = faults_seen moment number faults begun in
    let event = event_of config r.link moment r.basis.packets to query in
    follows-still within config.timing moment r.basis.packets r.link (fault_events number faults ++ event ∷ []) r
    (seen_at config within moment to query (with_faults moment number faults (purged_at moment before))) refl refl
    (still-append within config.timing moment (fault_events number faults) (event ∷ []) begun c _ (still-faults within config.timing moment number faults begun)
    (still-came within config r.link moment r.basis.packets to query c))
follows-datagram config within moment number to datagram None faults r =
    let step = (receipt_of config datagram.envelope datagram.body moment r.link).step in
    let was = is_querier r.link.election.role in
    let before = judged_at within (Some moment) r in
    let begun = purged moment before.checking in
    let c = faults_seen moment number faults begun in
    let terms = specific_terms config r.link.election.timing r.basis.packets in
    let changes = causes_in config.family datagram in
    let noted = all_changed moment terms changes c in
    let wanted = with_messages config.family moment r.basis.packets false (not was) (outgoing_of config step) noted in
    let answer = (receipt_of config datagram.envelope datagram.body moment r.link).answer in
    let refuses = Refuses (refused_by config.family answer datagram) ∷ [] in
    let is = is_querier step.state.election.role in
    let role = role_changed within config.timing moment was is wanted in
    let rest = wanted_by config r.basis.packets false r.link step ++ (role_by_datagram was is ++ refuses) in
    follows-still within config.timing moment _ _ (fault_events number faults ++ Changes terms changes ∷ rest) r
    (taken config within moment datagram (with_faults moment number faults (purged_at moment before))) refl
    (other_packets config.family step.state.election.role _ ∙ role_packets moment was (is_querier step.state.election.role) r.basis)
    (still-append within config.timing moment (fault_events number faults) (Changes terms changes ∷ rest) begun c _
    (still-faults within config.timing moment number faults begun)
    (still-append within config.timing moment (Changes terms changes ∷ []) rest c noted _ (record { check = refl; told = refl; moment = refl })
    (still-append within config.timing moment (wanted_by config r.basis.packets false r.link step) (role_by_datagram was is ++ refuses) noted wanted _
    (still-messages within config moment r.basis.packets false (not was) (outgoing_of config step) noted)
    (still-append within config.timing moment (role_by_datagram was is) refuses wanted role _
    (still-datagram within config.timing moment was is wanted) (record { check = refl; told = refl; moment = refl })))))

follows-frame : (config : Configuration) (link : LinkType) (within moment number : ℕ) (frame : List ℕ) (datagram : Option Datagram) (r : Checked)
    → Follows within config.timing (frame_passage config link moment number frame datagram r.basis.packets r.link) r
    (with_datagram config link within moment number frame datagram r)
follows-frame config link within moment number frame None r = follows-nothing within config.timing r
follows-frame config link within moment number frame (Some datagram) r =
    follows-datagram config within moment number (destination_in config.family link frame datagram.envelope) datagram (query_seen config datagram)
    (faults_in config link frame datagram) r

pub follows-packet : (config : Configuration) (link : LinkType) (within moment number : ℕ) (back : Bool) (frame : List ℕ) (r : Checked)
    → Follows within config.timing (packet_passage config link moment number frame r.basis.packets r.link) r
    (with_packet config link within moment number back frame r)
unfolding with_packet
follows-packet config link within moment number back frame r =
    let before = ticked_through config within moment r in
    let ticks = follows-ticks (moment + 1) config within (moment + 1) r in
    let datagram = datagram_of config.family (carried_in link frame) in
    let counted = noted config link back frame datagram before.checked in
    let frame_in = follows-frame config link within moment number frame datagram counted in
    let counts : counted.basis.packets ≡ counted_up (ticks_through config moment r.basis.packets r.link).packets =
    frame_packets config link frame (carried_in link frame) datagram (basis.with_packet back before.checked.basis) ∙ ap counted_up ticks.packets in
    follows-behind within config.timing (ticks_through config moment r.basis.packets r.link) _ r before _ ticks
    (subst (λ (n : ℕ). Follows within config.timing
    (frame_passage config link moment number frame datagram n (ticks_through config moment r.basis.packets r.link).link) before.checked
    (with_datagram config link within moment number frame datagram counted)) counts
    (subst (λ (l : LinkState). Follows within config.timing (frame_passage config link moment number frame datagram counted.basis.packets l)
    before.checked (with_datagram config link within moment number frame datagram counted)) ticks.link
    (record { link = frame_in.link; packets = frame_in.packets; checking = frame_in.checking; found = frame_in.found })))

-- the judgement of S at the end of a capture
pub follows-end : (within : ℕ) (timing : Timing) (p : Passage) (r : Checked) (o : Outcome) → Follows within timing p r o
    → Follows within timing (record p { events = p.events ++ Judges None (is_set p.link.groups) ∷ [] }) r
    (record { checked = judged_at within None o.checked; found = o.found })
follows-end within timing p r o follows = record {
  link = follows.link;
  packets = follows.packets;
  checking = λ now.
      (λ i. with_s_judged within None (is_set (follows.link i).groups) (follows.checking now i)) ∙
      sym (check_by-append within timing now p.events (Judges None (is_set p.link.groups) ∷ []) r.checking);
  found = λ now.
      follows.found now ∙ sym (told_by-append within timing now p.events (Judges None (is_set p.link.groups) ∷ []) r.checking ∙
      append-nil (told_by_all within timing now p.events r.checking));
}
