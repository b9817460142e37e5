-- The events in the check of a capture, in the order of moments.
use Rattle.mq_laws.proofs.Common.{◌≡◌, ℕ, zero, suc, ◌+◌, ◌<◌, ◌≤◌, Bool, true, false, not, ◌&&◌, cond, List, [], ◌∷◌, ◌++◌, refl, arith, nat_le, nat_lt}
use Rattle.mq_laws.proofs.Common.{AllByRecursion, leb-true, leb-false, ltb-true, ltb-false, Form, LinkType, Query, Family, is_querier, Configuration}
use Rattle.mq_laws.proofs.Common.{IsFaultless, Envelope, receipt_of, answered, Outgoing, outgoing_of, LinkState, IsWellFormed, link_at, Step, tick_of, next_of}
use Rattle.mq_laws.proofs.Common.{datagram_of, destination_in, faults_in, asked_in, is_general, terms_of, query_seen, Passage, happening_behind, wanted_for}
use Rattle.mq_laws.proofs.Common.{wanted_of, wanted_by, role_by_tick, role_by_datagram, tick_passage, ticks_through, event_of, fault_events, datagram_passage}
use Rattle.mq_laws.proofs.Common.{frame_passage, packet_passage, last_of, end_of, events_ahead, events_of, specific_terms, CheckEvent, Comes, Wants}
use Rattle.mq_laws.proofs.Common.{Changes, Judges, AreAhead, AreInOrder, IsOfTick, Refuses, refused_by, ◌^◌}
use Rattle.mq_laws.proofs.Common.{Option, None, Some, min, unwrap_or, carried_in, HeaderFault, causes_in, is_set, ticks_passage, packets_passage}
use Rattle.mq_pcap.specs.Capture.{Captured}
use Rattle.mq_walk.specs.{PlacedPackets.moment_of, Datagrams.Datagram, Outlets.all_sent}
use Rattle.mq_laws.proofs.Followed.{none_passes, one_passes}
use Rattle.mq_link.specs.Tick as tick

-- known facts of links
pub record KnownOfLinks : Type 0 where
  pub start : (config : Configuration) (start : ℕ) → IsFaultless config → IsWellFormed config (link_at config start)
  pub ticked : (config : Configuration) (now : ℕ) (state : LinkState) → IsFaultless config → IsWellFormed config state →
      IsWellFormed config (tick_of config now state).state
  pub received : (config : Configuration) (envelope : Envelope) (bytes : List ℕ) (now : ℕ) (state : LinkState) → IsFaultless config →
      IsWellFormed config state → IsWellFormed config (receipt_of config envelope bytes now state).step.state
  pub later_tick : (config : Configuration) (now : ℕ) (state : LinkState) → IsFaultless config → IsWellFormed config state →
      tick.moment_of state now < next_of (tick_of config now state).state
  pub later_datagram : (config : Configuration) (envelope : Envelope) (bytes : List ℕ) (now : ℕ) (state : LinkState) → IsFaultless config →
      IsWellFormed config state → tick.moment_of state now < next_of (receipt_of config envelope bytes now state).step.state

-- the counters have no part in it
counted_formed : (config : Configuration) (answers : List Bool) (step : Step) → IsWellFormed config step.state → IsWellFormed config (answered answers step)
counted_formed config answers step h = record { groups = h.groups; within = h.within; timing = h.timing; silent = h.silent }

-- events in order
order-later : (now later : ℕ) (events : List CheckEvent) (end : ℕ) → now ≤ later → AreInOrder later events end → AreInOrder now events end
order-later now later [] end before order = omega arith
order-later now later (Comes moment ∷ es) end before order = (omega (arith, order.0), order.1)
order-later now later (_ ∷ es) end before order = order-later now later es end before order

order-append : (now middle : ℕ) (xs ys : List CheckEvent) (end : ℕ) → AreInOrder now xs middle → AreInOrder middle ys end → AreInOrder now (xs ++ ys) end
order-append now middle [] ys end first second = order-later now middle ys end first second
order-append now middle (Comes moment ∷ es) ys end first second = (first.0, order-append moment middle es ys end first.1 second)
order-append now middle (_ ∷ es) ys end first second = order-append now middle es ys end first second

-- the events of one moment
order-wanted_for : (now packets : ℕ) (family : Family) (by_tick is_returning : Bool) (to : ℕ) (query : Query ℕ) →
    AreInOrder now (wanted_for family packets by_tick is_returning to query) now
order-wanted_for now packets family by_tick is_returning to query = by_test (is_general query && not is_returning)
  where
    by_test : (b : Bool) → AreInOrder now (cond b [] (Wants (by_tick && not (is_general query)) (terms_of family packets to query) (asked_in query) ∷ [])) now
    by_test true = omega arith
    by_test false = omega arith

order-wanted : (now packets : ℕ) (config : Configuration) (by_tick is_returning : Bool) (messages : List Outgoing) →
    AreInOrder now (wanted_of config packets by_tick is_returning messages) now
order-wanted now packets config by_tick is_returning [] = omega arith
order-wanted now packets config by_tick is_returning (message ∷ messages) =
    order-append now now (wanted_for config.family packets by_tick is_returning message.to message.query)
    (wanted_of config packets by_tick is_returning messages) now
    (order-wanted_for now packets config.family by_tick is_returning message.to message.query)
    (order-wanted now packets config by_tick is_returning messages)

order-tick : (now : ℕ) (was is : Bool) → AreInOrder now (role_by_tick was is) now
order-tick now true is = omega arith
order-tick now false true = omega arith
order-tick now false false = omega arith

order-datagram : (now : ℕ) (was is : Bool) → AreInOrder now (role_by_datagram was is) now
order-datagram now true true = omega arith
order-datagram now true false = omega arith
order-datagram now false true = omega arith
order-datagram now false false = omega arith

-- A passage whose events come in order up to a moment, and whose link has more to do only later.
pub record IsOrdered (config : Configuration) (now moment : ℕ) (p : Passage) : Type 0 where
  pub order : AreInOrder now p.events moment
  pub formed : IsWellFormed config p.link
  pub later : moment < next_of p.link

ordered-behind : (config : Configuration) (now middle moment : ℕ) (p q : Passage) → AreInOrder now p.events middle →
    IsOrdered config middle moment q → IsOrdered config now moment (happening_behind p.events q)
ordered-behind config now middle moment p q first second =
    record { order = order-append now middle p.events q.events moment first second.order; formed = second.formed; later = second.later }

-- a tick
ordered-tick : KnownOfLinks → (config : Configuration) (now moment packets : ℕ) (link : LinkState) → IsFaultless config → IsWellFormed config link →
    now ≤ moment → IsOrdered config now moment (tick_passage config moment packets link)
ordered-tick known config now moment packets link faultless formed before =
    let step = tick_of config moment link in
    record {
      order = (
        before,
        order-append moment moment (wanted_by config packets true link step)
            (role_by_tick (is_querier link.election.role) (is_querier step.state.election.role)) moment
            (order-wanted moment packets config true (not (is_querier link.election.role)) (outgoing_of config step))
            (order-tick moment (is_querier link.election.role) (is_querier step.state.election.role)),
      );
      formed = counted_formed config (all_sent (outgoing_of config step)) step (known.ticked config moment link faultless formed);
      later = let after = known.later_tick config moment link faultless formed in omega (arith, after);
    }

-- all ticks up to a moment
ordered-ticks : KnownOfLinks → (most : ℕ) (config : Configuration) (now moment packets : ℕ) (link : LinkState) → IsFaultless config →
    IsWellFormed config link → now ≤ moment → now ≤ next_of link → moment + 1 ≤ most + next_of link
    → IsOrdered config now moment (ticks_passage most config (moment + 1) packets link)
unfolding ticks_passage
ordered-ticks known zero config now moment packets link faultless formed before next enough = record { order = before; formed = formed; later = omega arith }
ordered-ticks known (suc most) config now moment packets link faultless formed before next enough =
    elim (nat_lt (next_of link) (moment + 1)) as (λ b. nat_lt (next_of link) (moment + 1) ≡ b →
    IsOrdered config now moment (ticks_passage (suc most) config (moment + 1) packets link)) [
      | true ↦ λ due.
          let at : next_of link < moment + 1 = ltb-true (next_of link) (moment + 1) due in
          let first = tick_passage config (next_of link) packets link in
          let one = ordered-tick known config now (next_of link) packets link faultless formed next in
          let after = one.later in
          rw (one_passes most config (moment + 1) packets link at) (ordered-behind config now (next_of link) moment first _ one.order
          (ordered-ticks known most config (next_of link) moment packets first.link faultless one.formed (omega arith) (omega arith) (omega arith)))
      | false ↦ λ reached.
          let beyond : moment + 1 ≤ next_of link = ltb-false (next_of link) (moment + 1) reached in
          rw (none_passes (suc most) config (moment + 1) packets link beyond) (record { order = before; formed = formed; later = omega arith })
    ] refl

ordered-through : KnownOfLinks → (config : Configuration) (now moment packets : ℕ) (link : LinkState) → IsFaultless config →
    IsWellFormed config link → now ≤ moment → now ≤ next_of link → IsOrdered config now moment (ticks_through config moment packets link)
ordered-through known config now moment packets link faultless formed before next =
    ordered-ticks known (moment + 1) config now moment packets link faultless formed before next (omega arith)

-- faults in the headers of a packet
order-faults : (now number : ℕ) (faults : List HeaderFault) → AreInOrder now (fault_events number faults) now
order-faults now number [] = omega arith
order-faults now number (fault ∷ faults) = order-faults now number faults

-- a query of the querier
order-event : (now : ℕ) (config : Configuration) (link : LinkState) (moment packets to : ℕ) (query : Query ℕ) →
    AreInOrder now (event_of config link moment packets to query ∷ []) now
order-event now config link moment packets to query =
    elim (is_general query) as (λ b. is_general query ≡ b → AreInOrder now (event_of config link moment packets to query ∷ []) now) [
      | true ↦ λ is. rw is (omega arith)
      | false ↦ λ is. rw is (omega arith)
    ] refl

-- a datagram, behind all ticks up to its moment
ordered-datagram : KnownOfLinks → (config : Configuration) (moment number to : ℕ) (datagram : Datagram) (query : Option (Query ℕ))
    (faults : List HeaderFault) (packets : ℕ) (link : LinkState) → IsFaultless config → IsWellFormed config link → moment < next_of link
    → IsOrdered config moment moment (datagram_passage config moment to datagram query (fault_events number faults) packets link)
ordered-datagram known config moment number to datagram (Some query) faults packets link faultless formed later =
    record {
      order = (
        omega arith,
        order-append moment moment (fault_events number faults) (event_of config link moment packets to query ∷ []) moment
            (order-faults moment number faults) (order-event moment config link moment packets to query),
      );
      formed = formed;
      later = later;
    }
ordered-datagram known config moment number to datagram None faults packets link faultless formed later =
    let receipt = receipt_of config datagram.envelope datagram.body moment link in
    let step = receipt.step in
    let refuses = Refuses (refused_by config.family receipt.answer datagram) ∷ [] in
    let role = role_by_datagram (is_querier link.election.role) (is_querier step.state.election.role) in
    record {
      order = (
        omega arith,
        order-append moment moment (fault_events number faults)
            (Changes (specific_terms config link.election.timing packets) (causes_in config.family datagram) ∷ wanted_by config packets false link step
            ++ (role ++ refuses)) moment (order-faults moment number faults)
            (order-append moment moment (wanted_by config packets false link step) (role ++ refuses) moment
            (order-wanted moment packets config false (not (is_querier link.election.role)) (outgoing_of config step))
            (order-append moment moment role refuses moment
            (order-datagram moment (is_querier link.election.role) (is_querier step.state.election.role)) (omega arith))),
      );
      formed = counted_formed config (all_sent (outgoing_of config step)) step
          (known.received config datagram.envelope datagram.body moment link faultless formed);
      later = let after = known.later_datagram config datagram.envelope datagram.body moment link faultless formed in omega (arith, after);
    }

ordered-frame : KnownOfLinks → (config : Configuration) (link_type : LinkType) (moment number : ℕ) (frame : List ℕ) (datagram : Option Datagram)
    (packets : ℕ) (link : LinkState) → IsFaultless config → IsWellFormed config link → moment < next_of link
    → IsOrdered config moment moment (frame_passage config link_type moment number frame datagram packets link)
ordered-frame known config link_type moment number frame None packets link faultless formed later =
    record { order = omega arith; formed = formed; later = later }
ordered-frame known config link_type moment number frame (Some datagram) packets link faultless formed later =
    ordered-datagram known config moment number (destination_in config.family link_type frame datagram.envelope) datagram (query_seen config datagram)
    (faults_in config link_type frame datagram) packets link faultless formed later

ordered-packet : KnownOfLinks → (config : Configuration) (link_type : LinkType) (now moment number : ℕ) (frame : List ℕ) (packets : ℕ)
    (link : LinkState) → IsFaultless config → IsWellFormed config link → now ≤ moment → now ≤ next_of link
    → IsOrdered config now moment (packet_passage config link_type moment number frame packets link)
ordered-packet known config link_type now moment number frame packets link faultless formed before next =
    let ticks = ordered-through known config now moment packets link faultless formed before next in
    ordered-behind config now moment moment (ticks_through config moment packets link) _ ticks.order
    (ordered-frame known config link_type moment number frame (datagram_of config.family (carried_in link_type frame)) _
    (ticks_through config moment packets link).link faultless ticks.formed ticks.later)

-- packets, one after the other
pub record AreOrdered (config : Configuration) (now moment : ℕ) (p : Passage) : Type 0 where
  pub order : AreInOrder now p.events moment
  pub formed : IsWellFormed config p.link
  pub next : moment ≤ next_of p.link

ordered-packets : KnownOfLinks → (config : Configuration) (link_type : LinkType) (first : Option ℕ) (before number : ℕ) (packets : List Captured)
    (earlier : ℕ) (link : LinkState) → IsFaultless config → IsWellFormed config link → before ≤ next_of link
    → AreOrdered config before (last_of first before packets) (packets_passage config link_type first before number packets earlier link)
unfolding packets_passage
ordered-packets known config link_type first before number [] earlier link faultless formed next = record { order = omega arith; formed = formed; next = next }
ordered-packets known config link_type first before number (packet ∷ packets) earlier link faultless formed next =
    let moment = moment_of first before packet.stamp in
    let this = packet_passage config link_type moment number packet.bytes earlier link in
    let one = ordered-packet known config link_type before moment number packet.bytes earlier link faultless formed (omega arith) next in
    let after = one.later in
    let more = ordered-packets known config link_type (Some (unwrap_or first packet.stamp)) moment (number + 1) packets this.packets this.link
    faultless one.formed (omega arith) in
    record { order = order-append before moment this.events _ _ one.order more.order; formed = more.formed; next = more.next }

-- a link at the end of a capture, behind all ticks up to then
at_end : KnownOfLinks → (config : Configuration) (until : Option ℕ) (form : Form) (packets : List Captured) → IsFaultless config
    → (let p = packets_passage config form.link None 0 1 packets 0 (link_at config 0) in
    IsOrdered config (last_of None 0 packets) (end_of until packets) (ticks_through config (end_of until packets) p.packets p.link))
at_end known config until form packets faultless =
    let last = last_of None 0 packets in
    let all = ordered-packets known config form.link None 0 1 packets 0 (link_at config 0) faultless (known.start config 0 faultless) (omega arith) in
    let p = packets_passage config form.link None 0 1 packets 0 (link_at config 0) in
    ordered-through known config last (end_of until packets) p.packets p.link faultless all.formed (omega arith) all.next

-- the events of ticks
of_ticks-append : (xs ys : List CheckEvent) → AllByRecursion IsOfTick xs → AllByRecursion IsOfTick ys → AllByRecursion IsOfTick (xs ++ ys)
of_ticks-append [] ys first second = second
of_ticks-append (x ∷ xs) ys first second = (first.0, of_ticks-append xs ys first.1 second)

wanted-of_tick : (family : Family) (packets : ℕ) (by_tick is_returning : Bool) (to : ℕ) (query : Query ℕ) →
    AllByRecursion IsOfTick (wanted_for family packets by_tick is_returning to query)
wanted-of_tick family packets by_tick is_returning to query =
    elim (is_general query && not is_returning) as (λ b. (is_general query && not is_returning) ≡ b →
    AllByRecursion IsOfTick (wanted_for family packets by_tick is_returning to query)) [
      | true ↦ λ is. rw is tt
      | false ↦ λ is. rw is (tt, tt)
    ] refl

all_wanted-of_tick : (config : Configuration) (packets : ℕ) (by_tick is_returning : Bool) (messages : List Outgoing) →
    AllByRecursion IsOfTick (wanted_of config packets by_tick is_returning messages)
all_wanted-of_tick config packets by_tick is_returning [] = tt
all_wanted-of_tick config packets by_tick is_returning (message ∷ messages) =
    of_ticks-append (wanted_for config.family packets by_tick is_returning message.to message.query)
    (wanted_of config packets by_tick is_returning messages) (wanted-of_tick config.family packets by_tick is_returning message.to message.query)
    (all_wanted-of_tick config packets by_tick is_returning messages)

role-of_tick : (was is : Bool) → AllByRecursion IsOfTick (role_by_tick was is)
role-of_tick false true = (tt, tt)
role-of_tick _ _ = tt

tick-of_tick : (config : Configuration) (moment packets : ℕ) (link : LinkState) → AllByRecursion IsOfTick (tick_passage config moment packets link).events
tick-of_tick config moment packets link =
    let step = tick_of config moment link in
    let wanted = all_wanted-of_tick config packets true (not (is_querier link.election.role)) (outgoing_of config step) in
    let role = role-of_tick (is_querier link.election.role) (is_querier step.state.election.role) in (
      tt,
      (
        tt,
        of_ticks-append (wanted_by config packets true link step)
            (role_by_tick (is_querier link.election.role) (is_querier step.state.election.role)) wanted role,
      ),
    )

ticks-of_tick : (most : ℕ) (config : Configuration) (limit packets : ℕ) (link : LinkState) →
    AllByRecursion IsOfTick (ticks_passage most config limit packets link).events
unfolding ticks_passage
ticks-of_tick zero config limit packets link = tt
ticks-of_tick (suc most) config limit packets link =
    elim (nat_lt (next_of link) limit) as
    (λ b. nat_lt (next_of link) limit ≡ b → AllByRecursion IsOfTick (ticks_passage (suc most) config limit packets link).events) [
      | true ↦ λ due.
          let first = tick_passage config (next_of link) packets link in
          rw (one_passes most config limit packets link (ltb-true (next_of link) limit due))
          (of_ticks-append first.events _ (tick-of_tick config (next_of link) packets link) (ticks-of_tick most config limit packets first.link))
      | false ↦ λ reached. rw (none_passes (suc most) config limit packets link (ltb-false (next_of link) limit reached)) tt
    ] refl

-- a later end
order-until : (now : ℕ) (es : List CheckEvent) (end later : ℕ) → end ≤ later → AreInOrder now es end → AreInOrder now es later
order-until now [] end later before order = omega (arith, order, before)
order-until now (Comes moment ∷ es) end later before order = (order.0, order-until moment es end later before order.1)
order-until now (_ ∷ es) end later before order = order-until now es end later before order

-- the ticks behind the end, where the end is in range and where it isn't
order-ahead : KnownOfLinks → (config : Configuration) (within end limit packets : ℕ) (link : LinkState) → IsFaultless config →
    IsWellFormed config link → end < next_of link → limit ≤ end + within
    → AreInOrder end (ticks_through config limit packets link).events (end + within)
order-ahead known config within end limit packets link faultless formed next least =
    elim (nat_le end limit) as (λ b. nat_le end limit ≡ b → AreInOrder end (ticks_through config limit packets link).events (end + within)) [
      | true ↦ λ is.
          let there = leb-true end limit is in
          let all = ordered-through known config end limit packets link faultless formed there (omega (arith, next)) in
          order-until end (ticks_through config limit packets link).events limit (end + within) least all.order
      | false ↦ λ is.
          let past = leb-false end limit is in
          rw (none_passes (limit + 1) config (limit + 1) packets link (omega (arith, next, past))) (omega arith)
    ] refl

pub ahead_in_order : KnownOfLinks → (config : Configuration) (within : ℕ) (until : Option ℕ) (form : Form) (packets : List Captured) →
    IsFaultless config → AreAhead within (end_of until packets) (events_ahead config within until form packets)
ahead_in_order known config within until form packets faultless =
    let ended = at_end known config until form packets faultless in
    let p = packets_passage config form.link None 0 1 packets 0 (link_at config 0) in
    let end = end_of until packets in
    let t = ticks_through config end p.packets p.link in
    let limit = min (end + within) (2 ^ 53) in
    record {
      order = order-ahead known config within end limit t.packets t.link faultless ended.formed ended.later (omega arith);
      of_ticks = ticks-of_tick (limit + 1) config (limit + 1) t.packets t.link;
    }

pub events_in_order : KnownOfLinks → (config : Configuration) (until : Option ℕ) (form : Form) (packets : List Captured) → IsFaultless config →
    AreInOrder 0 (events_of config until form packets) (end_of until packets)
events_in_order known config until form packets faultless =
    let last = last_of None 0 packets in
    let all = ordered-packets known config form.link None 0 1 packets 0 (link_at config 0) faultless (known.start config 0 faultless) (omega arith) in
    let p = packets_passage config form.link None 0 1 packets 0 (link_at config 0) in
    let ticks = ordered-through known config last (end_of until packets) p.packets p.link faultless all.formed (omega arith) all.next in
    let t = ticks_through config (end_of until packets) p.packets p.link in
    let ended = order-append last (end_of until packets) t.events (Judges None (is_set t.link.groups) ∷ []) (end_of until packets) ticks.order (omega arith) in
    order-append 0 last p.events _ (end_of until packets) all.order ended
