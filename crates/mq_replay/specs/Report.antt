-- The text of a replay: an event for each query that the link sends and for each packet. If they are requested, there are
-- events for the groups that each of these changes. At the end are events for the state of the link. Each is a line of text
-- or an object of JSON.
use Rattle.std.specs.Prelude.{ℕ, ◌+◌, Bool, false, List, [], ◌∷◌, ◌++◌, filter, map as list_map, Option, None, Some, Result, Ok, Err}
use Rattle.std.specs.Ordering.{nat_cmp}
use Rattle.std.specs.FinMap as map
use Rattle.mq_pcap.specs.Frame.{Carried, carried_in}
use Rattle.mq_wire.specs.declared.message.Message.{Message}
use Rattle.mq_wire.specs.declared.message.Message.TheVariants.{Query as AQuery, OldReport, Leave, Report as AReport}
use Rattle.mq_wire.specs.declared.message.WireFault.{WireFault}
use Rattle.mq_wire.specs.Family.{Family}
use Rattle.mq_sched.specs.Election.{is_querier}
use Rattle.mq_link.specs.Configuration.{Configuration}
use Rattle.mq_link.specs.Counters.{Counters}
use Rattle.mq_link.specs.Forwarding.{changed_by_datagram, changed_by_tick}
use Rattle.mq_link.specs.Receive.{pseudo_of, read_of, receipt_of}
use Rattle.mq_link.specs.Run.{answered}
use Rattle.mq_link.specs.Sent.{outgoing_of}
use Rattle.mq_link.specs.State.{LinkState, link_at}
use Rattle.mq_link.specs.Tick.{Step, tick_of, next_of}
use Rattle.mq_walk.specs.Courses.{Report, Work}
use Rattle.mq_walk.specs.Datagrams.{Datagram, datagram_of}
use Rattle.mq_walk.specs.Outlets.{all_sent}
use Rattle.mq_walk.specs.Ticks as ticks
use Rattle.mq_replay.specs.declared.asked.Asked.{Asked}
use Rattle.mq_replay.specs.Events.{Receives, Skips, change_events, end_events, event_in, if_asked, query_events}

-- A replay under way: the link, the text so far, and what is requested of it.
pub record Replayed : Type 0 where
  pub link : LinkState
  pub text : List ℕ
  pub asked : Asked

-- the replay at the start: the link starts at 0, and nothing is written
abbrev pub at_the_start : Configuration → Asked → Replayed
at_the_start config asked = record { link = link_at config 0; text = []; asked = asked }

-- the replay after a step of the link at a moment, with an event for each message
abbrev pub after_step : Configuration → (moment : ℕ) → Step → Replayed → Replayed
after_step config moment step r =
    let messages = outgoing_of config step in
    record r { link = answered (all_sent messages) step; text = r.text ++ query_events r.asked.json config.family moment messages }

-- these addresses in ascending order, each once
abbrev pub in_order : List ℕ → List ℕ
in_order addresses = map.keys (map.from_entries {R = nat_cmp} (list_map (λ address. (address, address)) addresses))

-- those of the addresses that pass a test, in ascending order
abbrev pub those_among : (test : ℕ → Bool) → (addresses : List ℕ) → List ℕ
those_among test addresses = filter test (in_order addresses)

-- the replay with the events of the groups that were changed at a moment, after all others of that moment's event
abbrev pub with_changes : Family → (moment : ℕ) → (changed : List ℕ) → Replayed → Replayed
with_changes family moment changed r =
    record r { text = r.text ++ if_asked r.asked.changes (change_events r.asked.json family moment r.link.groups changed) }

-- the replay after a tick at a moment, which only changes groups that are held
unfoldable pub ticked_at : Configuration → (moment : ℕ) → Replayed → Replayed
ticked_at config moment r =
    with_changes config.family moment (those_among (changed_by_tick config moment r.link) (map.keys r.link.groups))
    (after_step config moment (tick_of config moment r.link) r)

-- the replay after all ticks before a limit, at the link's next moments
abbrev pub ticked_before : Configuration → (limit : ℕ) → Replayed → Replayed
ticked_before config limit r = ticks.ticked_before (λ (s : Replayed). next_of s.link) (λ (s : Replayed). ticked_at config (next_of s.link) s) limit r

-- the groups that a datagram names, by what was read of it; a query changes none
abbrev pub spoken_of : Result (Message ℕ) WireFault → List ℕ
spoken_of (Err fault) = []
spoken_of (Ok (AQuery query)) = []
spoken_of (Ok (OldReport version group)) = group ∷ []
spoken_of (Ok (Leave group)) = group ∷ []
spoken_of (Ok (AReport records)) = list_map (λ r. r.group) records

-- the groups that a datagram changes: only groups that were held before, or that it names
abbrev pub changed_at : Configuration → (moment : ℕ) → Datagram → LinkState → List ℕ
changed_at config moment datagram link =
    let read = read_of config.family (pseudo_of config.family datagram.envelope datagram.body) datagram.body in
    those_among (changed_by_datagram config datagram.envelope datagram.body moment link) (map.keys link.groups ++ spoken_of read)

-- the replay after the datagram of packet `number` at its moment: the messages that the link sends, and then its answer
unfoldable pub received_at : Configuration → (moment number : ℕ) → Datagram → Replayed → Replayed
received_at config moment number datagram r =
    let receipt = receipt_of config datagram.envelope datagram.body moment r.link in
    let after = after_step config moment receipt.step r in
    with_changes config.family moment (changed_at config moment datagram r.link)
    (record after {
      text = after.text ++ event_in r.asked.json config.family moment (Receives number datagram.envelope.source receipt.answer);
    })

-- the replay after a packet that has a datagram for the link, or is skipped
abbrev pub taken_or_skipped : Configuration → (moment number : ℕ) → Carried → Option Datagram → Replayed → Replayed
taken_or_skipped config moment number carried (Some datagram) r = received_at config moment number datagram r
taken_or_skipped config moment number carried None r =
    record r { text = r.text ++ event_in r.asked.json config.family moment (Skips number carried) }

-- the replay after packet `number` at its moment, and after the ticks before it
unfoldable pub with_packet : Configuration → (moment number : ℕ) → Carried → Replayed → Replayed
with_packet config moment number carried r =
    taken_or_skipped config moment number carried (datagram_of config.family carried) (ticked_before config moment r)

-- the report at a moment: all ticks up to it and at it, and then the state of the link
unfoldable pub ended_at : Configuration → (moment : ℕ) → Replayed → Report Counters
ended_at config moment r =
    let done = ticked_before config (moment + 1) r in
    record {
      text =
          done.text
          ++ end_events done.asked.json config.family moment (is_querier done.link.election.role) done.link.groups done.link.counters;
      answer = Ok done.link.counters;
    }

-- the replay of a capture, as work over its packets
abbrev pub replay_of : Configuration → Asked → Work Replayed Counters
replay_of config asked = record {
  start = at_the_start config asked;
  step = λ packet r. with_packet config packet.moment packet.number (carried_in packet.link packet.frame) r;
  is_full = λ r. false;
  text = λ r. r.text;
  until = asked.until;
  ended = λ moment number r. ended_at config moment r;
}
