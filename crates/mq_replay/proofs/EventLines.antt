-- The events of a replay: the lines of what a link sends, and then those of the groups that it changed.
use Rattle.mq_replay.proofs.Common.{◌≡◌, ℕ, Bool, true, List, Option, Result, Ok, Err, IfOk, sym, ap, subst, ◌∙◌, list_map, Family, Received, Configuration}
use Rattle.mq_replay.proofs.Common.{AreThose, changed_by_tick, LinkValue, Envelope, receipt_of, Outgoing, tick_of, LineFault, Puts, broken_within, put_as}
use Rattle.mq_replay.proofs.Common.{then_put, Asked, change_events, if_asked, query_events, ReceivesPrinting, Replayed, after_step, ticked_at, with_changes}
use Rattle.mq_replay.proofs.Common.{PutsReplayed, begun_with}
use Rattle.mq_link.specs.{Run.answered, Run.HandsOut, Tick.Step}
use Rattle.mq_walk.specs.Outlets.{all_sent}
use Rattle.mq_replay.{specs.QueryLines.TicksPrinting, proofs.ChangedGroups.ticked_those}

-- a step whose messages were passed on and put is a step of a replay
step_put : {T E : Type 0} (asked : Asked) (family : Family) (now : ℕ) (before after : LinkValue) (step : Step) (old new : Option (List ℕ))
    (held left : List ℕ) (r : Result T E) (messages : List Outgoing) (answers : List Bool)
    → family ≡ before.config.family → after.config ≡ before.config → HandsOut before.config step messages answers after.state
    → Puts old new held left (query_events asked.json family now messages) r → IfOk r (λ _. answers ≡ list_map (λ message. true) messages)
    → PutsReplayed before after (after_step before.config now step (begun_with asked before.state)) old new held left r
step_put asked family now before after step old new held left r messages answers is_family same out put sent =
    record {
      same_config = same;
      link = linked r sent;
      text = subst (λ (ms : List Outgoing). Puts old new held left (query_events asked.json before.config.family now ms) r) out.handed
          (subst (λ (f : Family). Puts old new held left (query_events asked.json f now messages) r) is_family put);
    }
  where
    linked : {T E : Type 0} (r : Result T E) → IfOk r (λ _. answers ≡ list_map (λ message. true) messages) →
        IfOk r (λ _. after.state ≡ (after_step before.config now step (begun_with asked before.state)).link)
    linked (Ok x) all = out.leaves ∙ ap (λ (given : List Bool). answered given step) (all ∙ ap all_sent out.handed)
    linked (Err e) all = tt

tick_put : (asked : Asked) (family : Family) (now : ℕ) (before after : LinkValue) (old new : Option (List ℕ)) (held left : List ℕ) (r : Result Unit LineFault)
    → family ≡ before.config.family → after.config ≡ before.config → TicksPrinting asked.json family now before after old new held left r
    → PutsReplayed before after (after_step before.config now (tick_of before.config now before.state) (begun_with asked before.state)) old new held left r
tick_put asked family now before after old new held left r is_family same ticks =
    step_put asked family now before after (tick_of before.config now before.state) old new held left r ticks.messages ticks.answers is_family same
    ticks.ticks ticks.put ticks.all_sent

pub receipt_put : (asked : Asked) (family : Family) (envelope : Envelope) (bytes : List ℕ) (now : ℕ) (before after : LinkValue)
    (old new : Option (List ℕ)) (held left : List ℕ) (r : Result Received LineFault)
    → family ≡ before.config.family → after.config ≡ before.config → ReceivesPrinting asked.json family envelope bytes now before after old new held left r
    → PutsReplayed before after
    (after_step before.config now (receipt_of before.config envelope bytes now before.state).step (begun_with asked before.state)) old new held left r
receipt_put asked family envelope bytes now before after old new held left r is_family same receives =
    step_put asked family now before after (receipt_of before.config envelope bytes now before.state).step old new held left r receives.messages
    receives.answers is_family same receives.receives.hands_out receives.put receives.all_sent

-- the lines of an event were put, and then those of the groups that it changed
pub changes_put : {T E : Type 0} (config : Configuration) (family : Family) (now : ℕ) (changed : List ℕ) (before after : LinkValue) (r : Replayed)
    (old mid new : Option (List ℕ)) (held more left : List ℕ) (x : T) (it : Result Unit E) → family ≡ config.family → changed ≡ after.changed
    → PutsReplayed {E = E} before after r old mid held more (Ok x)
    → Puts mid new more left (if_asked r.asked.changes (change_events r.asked.json family now after.state.groups after.changed)) it
    → PutsReplayed before after (with_changes config.family now changed r) old new held left it
changes_put {E = E} config family now changed before after r old mid new held more left x it is_family are put lines =
    let same : if_asked r.asked.changes (change_events r.asked.json family now after.state.groups after.changed)
    ≡ if_asked r.asked.changes (change_events r.asked.json config.family now r.link.groups changed) =
    (λ i. if_asked r.asked.changes (change_events r.asked.json (is_family i) now (put.link i).groups (sym are i))) in
    record {
      same_config = put.same_config;
      link = linked it;
      text = then_put old mid new held more left r.text _ it put.text (put_as mid new more left _ _ it same lines);
    }
  where
    linked : (it : Result Unit E) → IfOk it (λ _. after.state ≡ r.link)
    linked (Ok y) = put.link
    linked (Err e) = tt

-- its own lines were not put whole
pub changes_broken : {T U E F : Type 0} (config : Configuration) (now : ℕ) (changed : List ℕ) (before after : LinkValue) (r : Replayed)
    (old new : Option (List ℕ)) (held left : List ℕ) (e : E) (f : F)
    → PutsReplayed {T = T} before after r old new held left (Err e) →
    PutsReplayed {T = U} before after (with_changes config.family now changed r) old new held left (Err f)
changes_broken config now changed before after r old new held left e f put =
    record {
      same_config = put.same_config;
      link = tt;
      text = broken_within old new held r.text (if_asked r.asked.changes (change_events r.asked.json config.family now r.link.groups changed)) put.text;
    }

-- a tick with all its lines
pub tick_lined : (asked : Asked) (family : Family) (now : ℕ) (before after : LinkValue) (old mid new : Option (List ℕ)) (held more left : List ℕ)
    (it : Result Unit LineFault)
    → family ≡ before.config.family → after.config ≡ before.config → AreThose (changed_by_tick before.config now before.state) after.changed
    → TicksPrinting asked.json family now before after old mid held more (Ok tt)
    → Puts mid new more left (if_asked asked.changes (change_events asked.json family now after.state.groups after.changed)) it
    → PutsReplayed before after (ticked_at before.config now (begun_with asked before.state)) old new held left it
unfolding ticked_at
tick_lined asked family now before after old mid new held more left it is_family same those ticks lines =
    changes_put before.config family now _ before after _ old mid new held more left tt it is_family
    (ticked_those before.config now before.state after.changed those)
    (tick_put asked family now before after old mid held more (Ok tt) is_family same ticks) lines

pub tick_broken_off : (asked : Asked) (family : Family) (now : ℕ) (before after : LinkValue) (old new : Option (List ℕ)) (held left : List ℕ) (e f : LineFault)
    → family ≡ before.config.family → after.config ≡ before.config → TicksPrinting asked.json family now before after old new held left (Err e)
    → PutsReplayed {T = Unit} before after (ticked_at before.config now (begun_with asked before.state)) old new held left (Err f)
unfolding ticked_at
tick_broken_off asked family now before after old new held left e f is_family same ticks =
    changes_broken before.config now _ before after _ old new held left e f
    (tick_put asked family now before after old new held left (Err e) is_family same ticks)
