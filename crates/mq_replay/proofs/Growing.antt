-- The result of a replay, which doesn't depend on the text before: that stays in front.
use Rattle.mq_replay.proofs.Common.{◌≡◌, ℕ, refl, List, ◌++◌, Option, None, Some, append_assoc, append-nil, sym, ap, ◌∙◌, Carried, Configuration}
use Rattle.mq_replay.proofs.Common.{changed_by_tick, receipt_of, tick_of, next_of, Datagram, datagram_of, ticked_within, Receives, Skips, change_events}
use Rattle.mq_replay.proofs.Common.{event_in, if_asked, query_events, Replayed, after_step, changed_at, ticked_at, those_among, ticked_before, received_at}
use Rattle.mq_replay.proofs.Common.{taken_or_skipped, with_changes, with_packet, begun_with}
use Rattle.mq_link.specs.Sent.{outgoing_of}
use Rattle.mq_walk.proofs.Ticking.{kept_within, through_within}
use Rattle.std.specs.FinMap as map

-- a replay behind a text
abbrev pub behind : List ℕ → Replayed → Replayed
behind text r = record { link = r.link; text = text ++ r.text; asked = r.asked }

-- each is behind its own text
pub as_behind : (r : Replayed) → behind r.text (begun_with r.asked r.link) ≡ r
as_behind r = λ i. record { link = r.link; text = append-nil r.text i; asked = r.asked }

-- where a text stands in front of an event's own lines, it stands in front of those of the groups that changed
changes_behind : (config : Configuration) (moment : ℕ) (changed : List ℕ) (text : List ℕ) (r : Replayed) {all : List ℕ} → all ≡ text ++ r.text
    → with_changes config.family moment changed (record r { text = all }) ≡ behind text (with_changes config.family moment changed r)
changes_behind config moment changed text r same =
    let lines = if_asked r.asked.changes (change_events r.asked.json config.family moment r.link.groups changed) in
    λ i. record { link = r.link; text = (ap (λ (t : List ℕ). t ++ lines) same ∙ append_assoc text r.text lines) i; asked = r.asked }

pub ticked_behind : (config : Configuration) (moment : ℕ) (text : List ℕ) (r : Replayed) → ticked_at config moment (behind text r)
    ≡ behind text (ticked_at config moment r)
unfolding ticked_at
ticked_behind config moment text r =
    let step = after_step config moment (tick_of config moment r.link) r in
    let changed = those_among (changed_by_tick config moment r.link) (map.keys r.link.groups) in
    let lines = query_events r.asked.json config.family moment (outgoing_of config (tick_of config moment r.link)) in
    changes_behind config moment changed text step (append_assoc text r.text lines)

-- the tick at the next moment
abbrev pub next_in : Replayed → ℕ
next_in r = next_of r.link

abbrev pub tick_in : Configuration → Replayed → Replayed
tick_in config r = ticked_at config (next_in r) r

pub within_behind : (most : ℕ) (config : Configuration) (limit : ℕ) (text : List ℕ) (r : Replayed) →
    ticked_within next_in (tick_in config) most limit (behind text r) ≡ behind text (ticked_within next_in (tick_in config) most limit r)
within_behind most config limit text r =
    through_within next_in (tick_in config) next_in (tick_in config) (behind text) (λ s. refl) (λ s. ticked_behind config (next_in s) text s) most limit r

pub before_behind : (config : Configuration) (limit : ℕ) (text : List ℕ) (r : Replayed) → ticked_before config limit (behind text r)
    ≡ behind text (ticked_before config limit r)
before_behind config limit text r = within_behind limit config limit text r

pub taken_behind : (config : Configuration) (moment number : ℕ) (carried : Carried) (datagram : Option Datagram) (text : List ℕ) (r : Replayed) →
    taken_or_skipped config moment number carried datagram (behind text r) ≡ behind text (taken_or_skipped config moment number carried datagram r)
unfolding received_at
taken_behind config moment number carried (Some datagram) text r =
    let receipt = receipt_of config datagram.envelope datagram.body moment r.link in
    let lines = query_events r.asked.json config.family moment (outgoing_of config receipt.step) in
    let line = event_in r.asked.json config.family moment (Receives number datagram.envelope.source receipt.answer) in
    let after = after_step config moment receipt.step r in
    changes_behind config moment (changed_at config moment datagram r.link) text (record after { text = after.text ++ line })
    (ap (λ (t : List ℕ). t ++ line) (append_assoc text r.text lines) ∙ append_assoc text (r.text ++ lines) line)
taken_behind config moment number carried None text r =
    λ i. record { link = r.link; text = append_assoc text r.text (event_in r.asked.json config.family moment (Skips number carried)) i; asked = r.asked }

pub packet_behind : (config : Configuration) (moment number : ℕ) (carried : Carried) (text : List ℕ) (r : Replayed) →
    with_packet config moment number carried (behind text r) ≡ behind text (with_packet config moment number carried r)
unfolding with_packet
packet_behind config moment number carried text r =
    ap (taken_or_skipped config moment number carried (datagram_of config.family carried)) (before_behind config moment text r)
    ∙ taken_behind config moment number carried (datagram_of config.family carried) text (ticked_before config moment r)

-- a packet behind what was replayed
pub next_packet : (config : Configuration) (moment number : ℕ) (carried : Carried) (r : Replayed) → with_packet config moment number carried r
    ≡ behind r.text (with_packet config moment number carried (begun_with r.asked r.link))
next_packet config moment number carried r = ap (with_packet config moment number carried) (sym (as_behind r)) ∙
    packet_behind config moment number carried r.text (begun_with r.asked r.link)

-- the request stays
pub ticked_asked : (config : Configuration) (moment : ℕ) (r : Replayed) → (ticked_at config moment r).asked ≡ r.asked
unfolding ticked_at
ticked_asked config moment r = refl

pub before_asked : (config : Configuration) (limit : ℕ) (r : Replayed) → (ticked_before config limit r).asked ≡ r.asked
before_asked config limit r =
    kept_within next_in (tick_in config) (λ s. s.asked ≡ r.asked) (λ s is. ticked_asked config (next_in s) s ∙ is) limit limit r refl

taken_asked : (config : Configuration) (moment number : ℕ) (carried : Carried) (datagram : Option Datagram) (r : Replayed) →
    (taken_or_skipped config moment number carried datagram r).asked ≡ r.asked
unfolding received_at
taken_asked config moment number carried (Some datagram) r = refl
taken_asked config moment number carried None r = refl

pub packet_asked : (config : Configuration) (moment number : ℕ) (carried : Carried) (r : Replayed) →
    (with_packet config moment number carried r).asked ≡ r.asked
unfolding with_packet
packet_asked config moment number carried r =
    taken_asked config moment number carried (datagram_of config.family carried) (ticked_before config moment r) ∙ before_asked config moment r
