-- A check of a capture that comes to its end tells what is found by what happens in it.
use Rattle.mq_laws.proofs.Common.{◌≡◌, ℕ, ◌+◌, ◌-◌, ◌^◌, true, false, List, [], ◌∷◌, ◌++◌, length, refl, ap, sym, ◌∙◌, subst, max, min, append_assoc}
use Rattle.mq_laws.proofs.Common.{append-nil, PcapFault, LinkType, Timing, Configuration, LinkState, link_at, Finding, Checked, Outcome, at_the_start, check_of}
use Rattle.mq_laws.proofs.Common.{concluded, found_text, judged_at, looked_ahead, purged_through, ticked_through, totals_of, with_packet, CheckingValue, told}
use Rattle.mq_laws.proofs.Common.{told_at_end, silence_up_to, all_reported, Passage, packet_passage, ticks_through, last_of, end_of, events_ahead, events_of}
use Rattle.mq_laws.proofs.Common.{CheckEvent, at_the_end, checked_ahead, checked_by, found_by, found_from, CheckedCapture, CameToItsEnd, TellsWhatHappened}
use Rattle.mq_laws.proofs.Common.{Option, None, Some, Ok, Err, unwrap_or, Basis, Additions, certain_in, finding_lines, possible_in, packets_passage}
use Rattle.mq_pcap.specs.Capture.{Captured}
use Rattle.mq_walk.specs.declared.capture_fault.CaptureFault.{CaptureFault, TheVariants.Gap, TheVariants.Waiting}
use Rattle.mq_walk.specs.Courses.{Course, Report, broken_off, course_of, last_moment, reported, with_packets}
use Rattle.mq_walk.specs.PlacedPackets.{Place, at_first, is_gap, place_behind, placed}
use Rattle.mq_walk.proofs.ReportedOver.{by_gap, by_room}
use Rattle.mq_check.specs.{declared.check_terms.CheckTerms.CheckTerms, declared.totals.Totals.Totals, Check.basis_at_end, Check.ended_at}
use Rattle.mq_check.specs.FindingLines.{last_lines}
use Rattle.mq_laws.specs.{Captures.ticks_to_end, Verdicts.terms_in}
use Rattle.mq_laws.proofs.Followed.{Follows, follows-nothing, follows-behind, follows-end, follows-ticks, follows-packet}

-- Packets come to what happens by them. There may be findings before theirs.
record FollowsAll (within : ℕ) (timing : Timing) (p : Passage) (last : ℕ) (r : Checked) (before : List (Finding ℕ)) (course : Course Outcome) : Type 0 where
  found : List (Finding ℕ)
  all : course.state.found ≡ before ++ found
  follows : Follows within timing p r (record { checked = course.state.checked; found = found })
  moment : course.moment ≡ last

follows-packets : (config : Configuration) (terms : CheckTerms) (link : LinkType) (at : Place) (packets : List Captured) (r : Checked)
    (before : List (Finding ℕ))
    → (with_packets (check_of config terms) link at packets (record { checked = r; found = before })).fault ≡ None
    → FollowsAll terms.within config.timing (packets_passage config link at.first at.before at.number packets r.basis.packets r.link)
    (last_of at.first at.before packets) r before (with_packets (check_of config terms) link at packets (record { checked = r; found = before }))
unfolding with_packets packets_passage
follows-packets config terms link at [] r before whole =
    record { found = []; all = sym (append-nil before); follows = follows-nothing terms.within config.timing r; moment = refl }
follows-packets config terms link at (packet ∷ packets) r before whole =
    let work = check_of config terms in
    let next = placed link at packet in
    let to = place_behind at packet.stamp in
    let here : Outcome = record { checked = r; found = before } in
    let after = with_packet config link terms.within next.moment at.number next.goes_back packet.bytes r in
    let passage = packets_passage config link at.first at.before at.number (packet ∷ packets) r.basis.packets r.link in
    elim (is_gap at.before next.moment) as (λ b. is_gap at.before next.moment ≡ b
    → FollowsAll terms.within config.timing passage (last_of at.first at.before (packet ∷ packets)) r before
    (with_packets work link at (packet ∷ packets) here)) [
      | true ↦ λ gap. absurd (let two : Some (Gap at.number) ≡ None =
          sym (ap (λ (c : Course Outcome). c.fault) (by_gap work link at packet packets here true gap)) ∙ whole in cc)
      | false ↦ λ near.
          elim (after.checked.checking.waiting.is_full) as (λ b. after.checked.checking.waiting.is_full ≡ b
          → FollowsAll terms.within config.timing passage (last_of at.first at.before (packet ∷ packets)) r before
          (with_packets work link at (packet ∷ packets) here)) [
            | true ↦ λ full. absurd (let two : Some (Waiting at.number) ≡ None =
                sym (ap (λ (c : Course Outcome). c.fault) (by_room work link at packet packets here true near full)) ∙ whole in cc)
            | false ↦ λ room.
                let is : with_packets work link at (packet ∷ packets) here
                ≡ with_packets work link to packets (record { checked = after.checked; found = before ++ after.found }) =
                by_room work link at packet packets here false near room in
                let one = follows-packet config link terms.within next.moment at.number next.goes_back packet.bytes r in
                let more = follows-packets config terms link to packets after.checked (before ++ after.found)
                (ap (λ (c : Course Outcome). c.fault) (sym is) ∙ whole) in
                let this = packet_passage config link next.moment at.number packet.bytes r.basis.packets r.link in
                let rest : Outcome = record {
                  checked = (with_packets work link to packets (record { checked = after.checked; found = before ++ after.found })).state.checked;
                  found = more.found;
                } in
                let more_there =
                subst (λ (n : ℕ). Follows terms.within config.timing
                (packets_passage config link to.first to.before to.number packets n this.link) after.checked rest) one.packets
                (subst (λ (l : LinkState). Follows terms.within config.timing
                (packets_passage config link to.first to.before to.number packets after.checked.basis.packets l) after.checked rest) one.link more.follows) in
                subst (λ (c : Course Outcome). FollowsAll terms.within config.timing passage (last_of at.first at.before (packet ∷ packets)) r before c)
                (sym is) (record {
                  found = after.found ++ more.found;
                  all = more.all ∙ append_assoc before after.found more.found;
                  follows = follows-behind terms.within config.timing this _ r after rest one more_there;
                  moment = more.moment;
                })
          ] refl
    ] refl

-- the end of a capture, with these reported findings
pub record EndTells (config : Configuration) (additions : Additions) (totals : Totals) (c : CheckingValue) (found : List (Finding ℕ))
    (told : List ℕ) : Type 0 where
  pub room : c.waiting.is_full ≡ false
  pub text : told ≡ finding_lines config.family additions found ++ last_lines additions.json totals
  pub counted : totals.findings ≡ min (length (certain_in found)) (2 ^ 64 - 1)
  pub possible : totals.possible ≡ min (length (possible_in found)) (2 ^ 64 - 1)

concluded_tells : (config : Configuration) (additions : Additions) (totals : Totals) (c : CheckingValue) (rests : Basis) (found : List (Finding ℕ)) →
    c.waiting.is_full ≡ false
    → (concluded config additions c rests found).answer ≡ Ok totals → EndTells config additions totals c (all_reported additions found)
    (concluded config additions c rests found).text
concluded_tells config additions totals c rests found room answered =
    let told = all_reported additions found in
    let same : totals_of c rests told ≡ totals = cc in
    record {
      room = room;
      text = ap (λ (t : Totals). finding_lines config.family additions told ++ last_lines additions.json t) same;
      counted = ap (λ (t : Totals). t.findings) (sym same);
      possible = ap (λ (t : Totals). t.possible) (sym same);
    }

-- the findings in the order in which they are found
abbrev all_found : Configuration → (within moment : ℕ) → (found : List (Finding ℕ)) → Checked → List (Finding ℕ)
all_found config within moment found r =
    let done = purged_through config within moment r in
    let ahead = looked_ahead config within moment done.checked in
    found ++ done.found ++ ahead.found
    ++ told_at_end within config.timing moment (silence_up_to within config.timing moment done.checked.checking.phase) ahead.checked.checking

abbrev at_last : Configuration → (within moment : ℕ) → Checked → CheckingValue
at_last config within moment r = (looked_ahead config within moment (purged_through config within moment r).checked).checked.checking

ended_tells : (config : Configuration) (within : ℕ) (additions : Additions) (moment number : ℕ) (found : List (Finding ℕ)) (r : Checked) (totals : Totals)
    → (ended_at config within additions moment number found r).answer ≡ Ok totals
    → EndTells config additions totals (at_last config within moment r) (all_reported additions (all_found config within moment found r))
    (ended_at config within additions moment number found r).text
unfolding ended_at
ended_tells config within additions moment number found r totals answered =
    let done = purged_through config within moment r in
    let ahead = looked_ahead config within moment done.checked in
    let c = ahead.checked.checking in
    let all = all_found config within moment found r in
    elim (c.waiting.is_full) as (λ b. c.waiting.is_full ≡ b → EndTells config additions totals c (all_reported additions all)
    (ended_at config within additions moment number found r).text) [
      | true ↦ λ full.
          let broken : ended_at config within additions moment number found r
          ≡ record { text = found_text config additions (found ++ done.found ++ ahead.found); answer = Err (Waiting number) } = rw full refl in
          absurd (let two = ap (λ (v : Report Totals). v.answer) (sym broken) ∙ answered in cc)
      | false ↦ λ room.
          let ended : ended_at config within additions moment number found r ≡ concluded config additions c (basis_at_end done.checked) all = rw room refl in
          rw ended
          (concluded_tells config additions totals c (basis_at_end done.checked) all room (ap (λ (v : Report Totals). v.answer) (sym ended) ∙ answered))
    ] refl

-- the report after the packets
behind_packets : (k : CheckedCapture) (course : Course Outcome) (fault : Option CaptureFault) (end : Option PcapFault) (number : ℕ) → course.fault ≡ fault
    → (reported (check_of k.config (terms_in k)) number end fault course).answer ≡ Ok k.totals
    → (let moment = last_moment k.until course.moment in
    (course.fault ≡ None) × EndTells k.config k.additions k.totals (at_last k.config k.within moment course.state.checked)
    (all_reported k.additions (all_found k.config k.within moment course.state.found course.state.checked))
    (reported (check_of k.config (terms_in k)) number end fault course).text)
behind_packets k course None None number is answered =
    let work = check_of k.config (terms_in k) in
    let moment = last_moment k.until course.moment in
    let verdict = reported work number None None course in
    elim (is_gap course.moment moment) as (λ b. is_gap course.moment moment ≡ b
    → (course.fault ≡ None) × EndTells k.config k.additions k.totals (at_last k.config k.within moment course.state.checked)
    (all_reported k.additions (all_found k.config k.within moment course.state.found course.state.checked)) verdict.text) [
      | true ↦ λ gap.
          let broken : verdict ≡ broken_off work (Gap number) course.state = rw (gap, reported) refl in
          absurd (let two = ap (λ (v : Report Totals). v.answer) (sym broken) ∙ answered in cc)
      | false ↦ λ near.
          let ended : verdict ≡ ended_at k.config k.within k.additions moment number course.state.found course.state.checked = rw (near, reported) refl in (
            is,
            rw ended (ended_tells k.config k.within k.additions moment number course.state.found course.state.checked k.totals
                (ap (λ (v : Report Totals). v.answer) (sym ended) ∙ answered)),
          )
    ] refl
behind_packets k course _ _ number is answered = absurd (cc)

-- the events of the look-ahead of a check
abbrev ahead_at : Configuration → (within moment packets : ℕ) → LinkState → List CheckEvent
ahead_at config within moment packets link = (ticks_through config (min (moment + within) (2 ^ 53)) packets link).events

-- a check at its end, before the entries are removed that have expired then
abbrev done_at : Configuration → (within moment : ℕ) → Checked → Outcome
done_at config within moment r =
    let ticks = ticked_through config within moment r in
    record ticks { checked = judged_at within None ticks.checked }

-- the look-ahead comes to these events
record LooksAhead (config : Configuration) (within moment : ℕ) (before : List (Finding ℕ)) (r : Checked) (done : Outcome) : Type 0 where
  last : at_last config within moment r ≡ checked_ahead within config.timing moment
      (ahead_at config within moment done.checked.basis.packets done.checked.link) done.checked.checking
  found : all_found config within moment before r ≡ (before ++ done.found) ++
      found_from within config.timing moment (ahead_at config within moment done.checked.basis.packets done.checked.link) done.checked.checking

looks_ahead : (config : Configuration) (within moment : ℕ) (found : List (Finding ℕ)) (r : Checked) →
    LooksAhead config within moment found r (done_at config within moment r)
looks_ahead config within moment found r =
    let done = done_at config within moment r in
    let limit = min (moment + within) (2 ^ 53) in
    let excused = record done.checked { checking = at_the_end within moment done.checked.checking } in
    let ahead = ticked_through config within limit excused in
    let follows = follows-ticks (limit + 1) config within (limit + 1) excused in
    let last = told within moment done.checked.checking in
    let silence = silence_up_to within config.timing moment done.checked.checking.phase in
    let rest = told_at_end within config.timing moment silence ahead.checked.checking in
    record {
      last = follows.checking moment;
      found =
          ap (λ (l : List (Finding ℕ)). l ++ ahead.found ++ rest) (sym (append_assoc found done.found last))
          ∙ ap (λ (l : List (Finding ℕ)). l ++ rest) (append_assoc (found ++ done.found) last ahead.found)
          ∙ append_assoc (found ++ done.found) (last ++ ahead.found) rest
          ∙ (λ i. (found ++ done.found) ++ (last ++ follows.found moment i ++ told_at_end within config.timing moment silence (follows.checking moment i)));
    }

-- All in all: it tells what is found by what happens.
pub tells_what_happened : (k : CheckedCapture) → CameToItsEnd k → TellsWhatHappened k
tells_what_happened k answered =
    let config = k.config in
    let link = k.form.link in
    let start = at_the_start config k.within k.flags in
    let course = course_of (check_of config (terms_in k)) (Ok k.form) k.packets in
    let at_packets = course.state.checked in
    let told = behind_packets k course course.fault k.end (length k.packets + 1) refl answered in
    let all = follows-packets config (terms_in k) link at_first k.packets start [] told.0 in
    let p = packets_passage config link None 0 1 k.packets 0 (link_at config 0) in
    let moment = last_moment k.until course.moment in
    let end = end_of k.until k.packets in
    let at : moment ≡ end = ap (λ (m : ℕ). max m (unwrap_or k.until 0)) all.moment in
    let t = ticks_to_end config end p.packets p.link in
    let done = done_at config k.within moment at_packets in
    let ticks : Follows k.within config.timing t at_packets done =
    subst (λ (n : ℕ). Follows k.within config.timing (ticks_to_end config end n p.link) at_packets done) all.follows.packets
    (subst (λ (l : LinkState). Follows k.within config.timing (ticks_to_end config end at_packets.basis.packets l) at_packets done) all.follows.link
    (subst (λ (m : ℕ). Follows k.within config.timing (ticks_to_end config m at_packets.basis.packets at_packets.link) at_packets done) at
    (follows-end k.within config.timing _ at_packets _ (follows-ticks (moment + 1) config k.within (moment + 1) at_packets)))) in
    let before = subst (λ (f : List (Finding ℕ)). Follows k.within config.timing p start (record { checked = at_packets; found = f })) (sym all.all)
    all.follows in
    let both = follows-behind k.within config.timing p t start course.state done before ticks in
    let looks = looks_ahead config k.within moment course.state.found at_packets in
    let events = events_of config k.until k.form k.packets in
    let ahead = events_ahead config k.within k.until k.form k.packets in
    let c : at_last config k.within moment at_packets
    ≡ checked_ahead k.within config.timing end ahead (checked_by k.within config.timing k.flags events) =
    looks.last ∙ (λ i. checked_ahead k.within config.timing (at i) (ahead_at config k.within (at i) (both.packets i) (both.link i)) (both.checking 0 i)) in
    let found : all_found config k.within moment course.state.found at_packets ≡ found_by k.within config.timing k.flags end events ahead =
    looks.found ∙ (λ i. both.found 0 i ++ found_from k.within config.timing (at i) (ahead_at config k.within (at i) (both.packets i) (both.link i))
    (both.checking 0 i)) in
    record {
      room = ap (λ (v : CheckingValue). v.waiting.is_full) (sym c) ∙ told.1.room;
      tells = record {
        text = told.1.text ∙ ap (λ (l : List (Finding ℕ)). finding_lines config.family k.additions (all_reported k.additions l) ++
            last_lines k.additions.json k.totals) found;
        counted = told.1.counted ∙ ap (λ (l : List (Finding ℕ)). min (length (certain_in (all_reported k.additions l))) (2 ^ 64 - 1)) found;
        possible = told.1.possible ∙ ap (λ (l : List (Finding ℕ)). min (length (possible_in (all_reported k.additions l))) (2 ^ 64 - 1)) found;
      };
    }
