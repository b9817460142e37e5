-- A replay in the code, and what its report comes to.
use Rattle.mq_replay.proofs.Common.{◌≡◌, ℕ, ◌+◌, Bool, true, ◌||◌, List, ◌++◌, Option, Result, Ok, Err, refl, ap, sym, subst, ◌∙◌, append_assoc, or-false}
use Rattle.mq_replay.proofs.Common.{InputState, Carried, carried_in, Configuration, Counters, LinkValue, link_at, is_querier, GrowsByBeginning, OutputState}
use Rattle.mq_replay.proofs.Common.{Passes, both_passed, broken_behind, nothing_passed, CaptureFault, Walked, PlacedPacket, Asked, end_events, Replayed}
use Rattle.mq_replay.proofs.Common.{ended_at, ticked_before, with_packet, PutsReplayed, ReplayState, begun_with}
use Rattle.mq_walk.specs.{Courses.Report, PuttingReports.IsRestPut, PuttingReports.PutsReport, PuttingReports.end_of, PuttingReports.rest_at}
use Rattle.mq_walk.proofs.ReportedOver.{IsPassed, IsStepped, Puts, WalksUpToGap, come_to_the_end, report_behind, reported_early, reported_well, rest_joined}
use Rattle.mq_replay.specs.{Report.at_the_start, Report.replay_of, Steps.TakesReplayed}
use Rattle.mq_replay.proofs.Growing.{behind, as_behind, before_behind, next_packet, packet_asked}
use Rattle.mq_walk.specs.declared.capture_fault.CaptureFault.TheVariants as answer

-- the end of a replay behind a text
abbrev with_end : Configuration → (moment : ℕ) → Replayed → Report Counters
with_end config moment done = record {
  text = done.text ++ end_events done.asked.json config.family moment (is_querier done.link.election.role) done.link.groups done.link.counters;
  answer = Ok done.link.counters;
}

end_behind : (config : Configuration) (moment : ℕ) (r : Replayed) →
    ended_at config moment r ≡ report_behind r.text (ended_at config moment (begun_with r.asked r.link))
unfolding ended_at
end_behind config moment r =
    let done = ticked_before config (moment + 1) (begun_with r.asked r.link) in
    let lines = end_events done.asked.json config.family moment (is_querier done.link.election.role) done.link.groups done.link.counters in
    ap (with_end config moment)
    (ap (ticked_before config (moment + 1)) (sym (as_behind r)) ∙ before_behind config (moment + 1) r.text (begun_with r.asked r.link))
    ∙ (λ i. record { text = append_assoc r.text done.text lines i; answer = Ok done.link.counters })

-- the end of a replay doesn't fail
pub only_waits : (config : Configuration) (moment number : ℕ) (r : Replayed) (e : CaptureFault) → (ended_at config moment r).answer ≡ Err e →
    e ≡ answer.Waiting number
unfolding ended_at
only_waits config moment number r e is = absurd (cc is)

-- a packet behind what was replayed, of a link that has come there
packet_of : {asked : Asked} (config : Configuration) (moment number : ℕ) (link : LinkValue) (frame : Carried) (r : Replayed) → link.config ≡ config →
    r.link ≡ link.state → r.asked ≡ asked
    → with_packet config moment number frame r ≡ behind r.text (with_packet link.config moment number frame (begun_with asked link.state))
packet_of config moment number link frame r is_config is_link is_asked =
    next_packet config moment number frame r ∙ (λ i. behind r.text (with_packet (sym is_config i) moment number frame (begun_with (is_asked i) (is_link i))))

-- the lines of a packet were put behind those of the packets before
next_put : {asked : Asked} {T E : Type 0} (config : Configuration) (moment number : ℕ) (link link' : LinkValue) (frame : Carried)
    (before now after : Option (List ℕ)) (held more left : List ℕ) (x : T) (r : Replayed)
    → link.config ≡ config → r.link ≡ link.state → r.asked ≡ asked → Passes before now held more r.text
    → PutsReplayed {E = E} link link' (with_packet link.config moment number frame (begun_with asked link.state)) now after more left (Ok x)
    → ((with_packet config moment number frame r).link ≡ link'.state) × Passes before after held left (with_packet config moment number frame r).text
next_put config moment number link link' frame before now after held more left x r is_config is_link is_asked passed put =
    let next = packet_of config moment number link frame r is_config is_link is_asked in (
      ap (λ (p : Replayed). p.link) next ∙ sym put.link,
      subst (λ (p : Replayed). Passes before after held left p.text) (sym next) (both_passed before now after held more left r.text _ passed put.text),
    )

-- they were not put whole
next_broken : {asked : Asked} {T E : Type 0} (config : Configuration) (moment number : ℕ) (link link' : LinkValue) (frame : Carried)
    (before now after : Option (List ℕ)) (held more left : List ℕ) (e : E) (r : Replayed)
    → link.config ≡ config → r.link ≡ link.state → r.asked ≡ asked → Passes before now held more r.text
    → PutsReplayed {T = T} link link' (with_packet link.config moment number frame (begun_with asked link.state)) now after more left (Err e)
    → GrowsByBeginning before after (held ++ (with_packet config moment number frame r).text)
next_broken config moment number link link' frame before now after held more left e r is_config is_link is_asked passed put =
    subst (λ (p : Replayed). GrowsByBeginning before after (held ++ p.text)) (sym (packet_of config moment number link frame r is_config is_link is_asked))
    (broken_behind before now after held more r.text _ passed put.text)

module _ {X : Type 0} (state : X → ReplayState) where
  abbrev takes : PlacedPacket → X → X → Result Unit CaptureFault → Type 0
  takes packet x x' r = TakesReplayed packet (state x) (state x') r

  abbrev out : X → OutputState
  out x = (state x).output

  abbrev held : X → List ℕ
  held x = (state x).held

  -- the code has come to this replay, whose text was put behind what was held at the start
  pub record IsReplayedAt (config : Configuration) (asked : Asked) (before : OutputState) (first : List ℕ) (r : Replayed) (x : X) : Type 0 where
    pub link_is : r.link ≡ (state x).link.state
    pub asked_is : r.asked ≡ asked
    pub same_asked : (state x).asked ≡ asked
    pub same_config : (state x).link.config ≡ config
    pub passed : Passes before.held (out x).held first (held x) r.text
    pub failed : (out x).failed ≡ before.failed

  module _ (config : Configuration) (asked : Asked) (before : OutputState) (first : List ℕ) where
    passed_at : (r : Replayed) (x : X) → IsReplayedAt config asked before first r x →
        IsPassed (replay_of config asked) (IsReplayedAt config asked before first) out held before first r x
    passed_at r x at = (at.passed, at.failed)

    stepped_at : (packet : PlacedPacket) (r : Replayed) (x x' : X) (it : Result Unit CaptureFault) → IsReplayedAt config asked before first r x →
        takes packet x x' it → IsStepped (replay_of config asked) (IsReplayedAt config asked before first) out held before first packet r x' it
    stepped_at packet r x x' (Ok u) at step =
        let frame = carried_in packet.link packet.frame in
        let is_asked = at.asked_is ∙ sym at.same_asked in
        let next = next_put {T = Unit} {E = Unit} config packet.moment packet.number (state x).link (state x').link frame before.held
        (out x).held (out x').held first (held x) (held x') tt r at.same_config at.link_is is_asked at.passed step.puts in (
          record {
            link_is = next.0;
            asked_is = packet_asked config packet.moment packet.number frame r ∙ at.asked_is;
            same_asked = step.same_asked ∙ at.same_asked;
            same_config = step.puts.same_config ∙ at.same_config;
            passed = next.1;
            failed = step.failed ∙ or-false _ ∙ at.failed;
          },
          refl,
        )
    stepped_at packet r x x' (Err answer.Write) at step =
        let is_asked = at.asked_is ∙ sym at.same_asked in (
          next_broken {T = Unit} {E = Unit} config packet.moment packet.number (state x).link (state x').link (carried_in packet.link packet.frame)
              before.held (out x).held (out x').held first (held x) (held x') tt r at.same_config at.link_is is_asked at.passed step.puts,
          step.failed ∙ ap (λ (b : Bool). b || true) at.failed,
        )
    stepped_at packet r x x' _ at step = absurd step

  -- a replay from the start of its link
  module _ {Y : Type 0} (inner : Y → X) (old new : InputState) (y y' : Y)
      (starts : (state (inner y)).link.state ≡ link_at (state (inner y)).link.config 0) where
    abbrev config : Configuration
    config = (state (inner y)).link.config

    abbrev asked : Asked
    asked = (state (inner y)).asked

    abbrev before : OutputState
    before = out (inner y)

    abbrev first : List ℕ
    first = held (inner y)

    abbrev Is : Replayed → X → Type 0
    Is r x = IsReplayedAt config asked before first r x

    here : Is (at_the_start config asked) (inner y)
    here = record {
      link_is = sym starts;
      asked_is = refl;
      same_asked = refl;
      same_config = refl;
      passed = nothing_passed _ _;
      failed = refl;
    }

    pub replayed_early : (e : CaptureFault) → WalksUpToGap inner takes old new y y' (Err e) →
        Puts (replay_of config asked) Is out held before first inner takes old new y' e
    replayed_early e walks =
        reported_early (replay_of config asked) Is out held before first inner takes (passed_at config asked before first)
        (stepped_at config asked before first) y here old new y' e walks

    module _ (w : Walked) (walks : WalksUpToGap inner takes old new y y' (Ok w)) where
      -- the unchanged parts
      pub kept : ((state (inner y')).asked ≡ asked) × ((out (inner y')).failed ≡ before.failed)
      kept =
          let at = come_to_the_end (replay_of config asked) Is out held before first inner takes (passed_at config asked before first)
          (stepped_at config asked before first) y here old new y' w walks in
          (at.1.same_asked, at.1.failed)

      -- the end was put
      pub replayed_well : (after : Option (List ℕ)) (left : List ℕ) (it : Result Counters CaptureFault)
          → IsRestPut (rest_at (λ end. ended_at (state (inner y')).link.config end (begun_with (state (inner y')).asked (state (inner y')).link.state))
          (end_of (state (inner y')).asked.until w.last (w.packets + 1))) (out (inner y')).held after (held (inner y')) left it
          → PutsReport (replay_of config asked) old new before.held after first left it
      replayed_well after left it put =
          let rest = rest_at (λ end. ended_at (state (inner y')).link.config end (begun_with (state (inner y')).asked (state (inner y')).link.state))
          (end_of (state (inner y')).asked.until w.last (w.packets + 1)) in
          reported_well (replay_of config asked) Is out held before first inner takes (passed_at config asked before first)
          (stepped_at config asked before first) y here old new y' w walks after left it rest
          (λ r at. rest_joined (replay_of config asked) w.last (w.packets + 1) r
          (λ end. ended_at config end (begun_with r.asked r.link)) (λ moment. end_behind config moment r)
          ∙ (λ i. report_behind r.text (rest_at (λ end. ended_at (sym at.same_config i) end
          (begun_with ((at.asked_is ∙ sym at.same_asked) i) (at.link_is i))) (end_of (sym at.same_asked i).until w.last (w.packets + 1))))) put
