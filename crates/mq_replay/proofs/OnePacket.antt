-- The work of a replay on one packet.
use Rattle.mq_replay.proofs.Common.{◌≡◌, ℕ, refl, List, ◌++◌, Option, None, Some, Result, Ok, Err, IfOk, sym, ap, subst, ◌∙◌, Carried, Family, Received}
use Rattle.mq_replay.proofs.Common.{Configuration, AreThose, changed_by_datagram, LinkValue, receipt_of, LinkState, LineFault, Puts, GrowsByBeginning}
use Rattle.mq_replay.proofs.Common.{broken_within, then_put, Datagram, datagram_of, Asked, Receives, Skips, change_events, event_in, if_asked, ReceivesPrinting}
use Rattle.mq_replay.proofs.Common.{Replayed, after_step, ticked_before, received_at, taken_or_skipped, with_packet, PutsReplayed, begun_with}
use Rattle.mq_replay.proofs.{Growing.behind, Growing.as_behind, Growing.before_asked, Growing.taken_behind, ChangedGroups.received_those}
use Rattle.mq_replay.proofs.EventLines.{changes_broken, changes_put, receipt_put}

packet_is : (asked : Asked) (config : Configuration) (moment number : ℕ) (carried : Carried) (link : LinkState) (datagram : Option Datagram) →
    datagram_of config.family carried ≡ datagram
    → with_packet config moment number carried (begun_with asked link) ≡ taken_or_skipped config moment number carried datagram
    (ticked_before config moment (begun_with asked link))
unfolding with_packet
packet_is asked config moment number carried link datagram is =
    ap (λ (d : Option Datagram). taken_or_skipped config moment number carried d (ticked_before config moment (begun_with asked link))) is

-- the text of a packet begins with that of the ticks before it
packet_text : (asked : Asked) (config : Configuration) (moment number : ℕ) (carried : Carried) (link : LinkState)
    → (more : List ℕ) × ((with_packet config moment number carried (begun_with asked link)).text
    ≡ (ticked_before config moment (begun_with asked link)).text ++ more)
packet_text asked config moment number carried link =
    let r = ticked_before config moment (begun_with asked link) in
    let d = datagram_of config.family carried in (
      (taken_or_skipped config moment number carried d (begun_with r.asked r.link)).text,
      ap (λ (x : Replayed). x.text)
          (packet_is asked config moment number carried link d refl ∙ ap (taken_or_skipped config moment number carried d) (sym (as_behind r)) ∙
          taken_behind config moment number carried d r.text (begun_with r.asked r.link)),
    )

-- the lines of the ticks were not put whole
pub ticks_broken : {T U : Type 0} (asked : Asked) (before after : LinkValue) (moment number : ℕ) (carried : Carried) (old new : Option (List ℕ))
    (held left : List ℕ) (e f : LineFault)
    → PutsReplayed {T = T} before after (ticked_before before.config moment (begun_with asked before.state)) old new held left (Err e)
    → PutsReplayed {T = U} before after (with_packet before.config moment number carried (begun_with asked before.state)) old new held left (Err f)
ticks_broken asked before after moment number carried old new held left e f put =
    let said = packet_text asked before.config moment number carried before.state in
    record {
      same_config = put.same_config;
      link = tt;
      text = subst (λ (t : List ℕ). GrowsByBeginning old new (held ++ t)) (sym said.1)
          (broken_within old new held (ticked_before before.config moment (begun_with asked before.state)).text said.0 put.text);
    }

linked : {E : Type 0} (r : Result Unit E) {a b : LinkState} → a ≡ b → IfOk r (λ _. a ≡ b)
linked (Ok y) same = same
linked (Err e) same = tt

-- the packet was skipped
pub packet_skipped : {T E : Type 0} (asked : Asked) (before mid : LinkValue) (moment number : ℕ) (carried : Carried) (old now new : Option (List ℕ))
    (held more left : List ℕ) (x : T) (r : Result Unit E) → datagram_of before.config.family carried ≡ None
    → PutsReplayed {E = E} before mid (ticked_before before.config moment (begun_with asked before.state)) old now held more (Ok x)
    → Puts now new more left (event_in asked.json before.config.family moment (Skips number carried)) r
    → PutsReplayed before mid (with_packet before.config moment number carried (begun_with asked before.state)) old new held left r
packet_skipped {E = E} asked before mid moment number carried old now new held more left x r none ticks put =
    let is = packet_is asked before.config moment number carried before.state None none in
    record {
      same_config = ticks.same_config;
      link = linked r (ticks.link ∙ sym (ap (λ (y : Replayed). y.link) is));
      text = subst (λ (t : List ℕ). Puts old new held left t r) (sym (ap (λ (y : Replayed). y.text) is))
          (then_put old now new held more left (ticked_before before.config moment (begun_with asked before.state)).text _ r ticks.text
          (subst (λ (a : Asked). Puts now new more left (event_in a.json before.config.family moment (Skips number carried)) r)
          (sym (before_asked before.config moment (begun_with asked before.state))) put));
    }

-- the lines of the queries that the link sends by a datagram were not put whole
pub receipt_broken : {T : Type 0} (asked : Asked) (before after : LinkValue) (moment number : ℕ) (datagram : Datagram) (old new : Option (List ℕ))
    (held left : List ℕ) (e f : LineFault) (family : Family) → family ≡ before.config.family → after.config ≡ before.config
    → ReceivesPrinting asked.json family datagram.envelope datagram.body moment before after old new held left (Err e)
    → PutsReplayed {T = T} before after (received_at before.config moment number datagram (begun_with asked before.state)) old new held left (Err f)
unfolding received_at
receipt_broken {T} asked before after moment number datagram old new held left e f family is_family same receives =
    let receipt = receipt_of before.config datagram.envelope datagram.body moment before.state in
    let step = after_step before.config moment receipt.step (begun_with asked before.state) in
    let put = receipt_put asked family datagram.envelope datagram.body moment before after old new held left (Err e) is_family same receives in
    let line = event_in asked.json before.config.family moment (Receives number datagram.envelope.source receipt.answer) in
    changes_broken {T = Unit} before.config moment _ before after (record step { text = step.text ++ line }) old new held left e f (record {
      same_config = same;
      link = tt;
      text = broken_within old new held step.text line put.text;
    })

-- the link received it, and then its line was put
abbrev lined : Configuration → (moment number : ℕ) → Datagram → Replayed → Replayed
lined config moment number datagram r =
    let receipt = receipt_of config datagram.envelope datagram.body moment r.link in
    let after = after_step config moment receipt.step r in
    record after {
      text = after.text ++ event_in r.asked.json config.family moment (Receives number datagram.envelope.source receipt.answer);
    }

pub receipt_lined : (asked : Asked) (before after : LinkValue) (moment number : ℕ) (datagram : Datagram) (answer : Received)
    (old now new : Option (List ℕ)) (held more left : List ℕ) (r : Result Unit LineFault) (family : Family) (source : ℕ)
    → family ≡ before.config.family → source ≡ datagram.envelope.source → after.config ≡ before.config
    → ReceivesPrinting asked.json family datagram.envelope datagram.body moment before after old now held more (Ok answer)
    → Puts now new more left (event_in asked.json family moment (Receives number source answer)) r
    → PutsReplayed before after (lined before.config moment number datagram (begun_with asked before.state)) old new held left r
receipt_lined asked before after moment number datagram answer old now new held more left r family source is_family is_source same receives put =
    let receipt = receipt_of before.config datagram.envelope datagram.body moment before.state in
    let step = after_step before.config moment receipt.step (begun_with asked before.state) in
    let received = receipt_put asked family datagram.envelope datagram.body moment before after old now held more (Ok answer) is_family same receives in
    let answered : answer ≡ receipt.answer = receives.answer_is ∙ receives.receives.answer_is in
    record {
      same_config = same;
      link = linked r received.link;
      text = then_put old now new held more left step.text _ r received.text (subst (λ (t : List ℕ). Puts now new more left t r)
          (λ i. event_in asked.json (is_family i) moment (Receives number (is_source i) (answered i))) put);
    }

-- that line was not put whole
pub receipt_cut : {T : Type 0} (asked : Asked) (before after : LinkValue) (moment number : ℕ) (datagram : Datagram) (old new : Option (List ℕ))
    (held left : List ℕ) (e f : LineFault)
    → PutsReplayed {T = Unit} before after (lined before.config moment number datagram (begun_with asked before.state)) old new held left (Err e)
    → PutsReplayed {T = T} before after (received_at before.config moment number datagram (begun_with asked before.state)) old new held left (Err f)
unfolding received_at
receipt_cut asked before after moment number datagram old new held left e f put =
    changes_broken {T = Unit} before.config moment _ before after (lined before.config moment number datagram (begun_with asked before.state)) old
    new held left e f put

-- and then those of the groups that it changed
pub receipt_whole : (asked : Asked) (before after : LinkValue) (moment number : ℕ) (datagram : Datagram) (old now new : Option (List ℕ))
    (held more left : List ℕ) (r : Result Unit LineFault) (family : Family)
    → family ≡ before.config.family → AreThose (changed_by_datagram before.config datagram.envelope datagram.body moment before.state) after.changed
    → PutsReplayed {T = Unit {0}} {E = LineFault} before after (lined before.config moment number datagram (begun_with asked before.state)) old now
    held more (Ok tt) → Puts now new more left (if_asked asked.changes (change_events asked.json family moment after.state.groups after.changed)) r
    → PutsReplayed before after (received_at before.config moment number datagram (begun_with asked before.state)) old new held left r
unfolding received_at
receipt_whole asked before after moment number datagram old now new held more left r family is_family those put lines =
    changes_put before.config family moment _ before after (lined before.config moment number datagram (begun_with asked before.state)) old now new
    held more left tt r is_family (received_those before.config moment datagram before.state after.changed those) put lines

-- a datagram was received, from the state that the ticks left
received_from : {T E : Type 0} (asked : Asked) (config : Configuration) (link : LinkState) (mid after : LinkValue) (moment number : ℕ)
    (datagram : Datagram) (now new : Option (List ℕ)) (more left : List ℕ) (r : Result T E) → mid.config ≡ config → mid.state ≡ link
    → PutsReplayed mid after (received_at mid.config moment number datagram (begun_with asked mid.state)) now new more left r
    → PutsReplayed mid after (received_at config moment number datagram (begun_with asked link)) now new more left r
received_from asked config link mid after moment number datagram now new more left r is_config is_link put =
    subst (λ (s : LinkState). PutsReplayed mid after (received_at config moment number datagram (begun_with asked s)) now new more left r) is_link
    (subst (λ (c : Configuration). PutsReplayed mid after (received_at c moment number datagram (begun_with asked mid.state)) now new more left r)
    is_config put)

pub packet_received : {T E : Type 0} (asked : Asked) (before mid after : LinkValue) (moment number : ℕ) (carried : Carried) (datagram : Datagram)
    (old now new : Option (List ℕ)) (held more left : List ℕ) (x : T) (r : Result Unit E) → datagram_of before.config.family carried ≡ Some datagram
    → PutsReplayed {E = E} before mid (ticked_before before.config moment (begun_with asked before.state)) old now held more (Ok x)
    → PutsReplayed mid after (received_at mid.config moment number datagram (begun_with asked mid.state)) now new more left r
    → PutsReplayed before after (with_packet before.config moment number carried (begun_with asked before.state)) old new held left r
packet_received {E = E} asked before mid after moment number carried datagram old now new held more left x r some ticks received =
    let ticked = ticked_before before.config moment (begun_with asked before.state) in
    let next = received_at before.config moment number datagram (begun_with asked ticked.link) in
    let put = received_from asked before.config ticked.link mid after moment number datagram now new more left r ticks.same_config ticks.link received in
    let is : with_packet before.config moment number carried (begun_with asked before.state) ≡ behind ticked.text next =
    packet_is asked before.config moment number carried before.state (Some datagram) some
    ∙ ap (taken_or_skipped before.config moment number carried (Some datagram)) (sym (as_behind ticked))
    ∙ taken_behind before.config moment number carried (Some datagram) ticked.text (begun_with ticked.asked ticked.link)
    ∙ ap (λ (b : Asked). behind ticked.text (received_at before.config moment number datagram (begun_with b ticked.link)))
    (before_asked before.config moment (begun_with asked before.state)) in
    record {
      same_config = received.same_config ∙ ticks.same_config;
      link = all_linked r _ _ _ (sym (ap (λ (y : Replayed). y.link) is)) put.link;
      text = subst (λ (t : List ℕ). Puts old new held left t r) (sym (ap (λ (y : Replayed). y.text) is))
          (then_put old now new held more left ticked.text next.text r ticks.text put.text);
    }
  where
    all_linked : (r : Result Unit E) (a b c : LinkState) → b ≡ c → IfOk r (λ _. a ≡ b) → IfOk r (λ _. a ≡ c)
    all_linked (Ok y) a b c same is = is ∙ same
    all_linked (Err e) a b c same is = tt
