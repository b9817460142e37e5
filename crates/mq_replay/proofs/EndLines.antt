-- The lines at the end of a replay.
use Rattle.mq_replay.proofs.Common.{◌≡◌, ℕ, ◌+◌, ◌<◌, ◌≤◌, Bool, refl, List, [], ◌∷◌, ◌++◌, take, drop, get_or, Option, Result, Ok, Err, IfOk, unwrap_or}
use Rattle.mq_replay.proofs.Common.{append-nil, sym, ap, subst, ◌∙◌, arith, flat_map, flat_map-append, take_more, take-append-drop, take_all, Family}
use Rattle.mq_replay.proofs.Common.{GroupState, is_querier, ScheduledGroup, Groups, group_at, unheld, Configuration, Counters, LinkValue, LinkState, LineFault}
use Rattle.mq_replay.proofs.Common.{GrowsByBeginning, Passes, Puts, broken_behind, broken_within, item_passed, then_put, Asked, end_events, event_in}
use Rattle.mq_replay.proofs.Common.{ticked_before, ended_at, PutsReplayed, begun_with}
use Rattle.mq_sched.specs.Schedule.{ScheduleState}
use Rattle.mq_held.{specs.Places.HasPlace, proofs.Entries.key_at, proofs.Entries.get-place}
use Rattle.mq_replay.{specs.Events.Counts, specs.Events.Ends, specs.Events.Holds, specs.Events.group_events, proofs.Growing.before_asked}
use Rattle.std.specs.FinMap as map

abbrev pub Entry : Type 0
Entry = ℕ × ScheduledGroup

abbrev pub entry_event : (json : Bool) → Family → (moment : ℕ) → Entry → List ℕ
entry_event json family moment e = event_in json family moment (Holds e.0 e.1.group)

-- the group at a place has the event of the entry there
pub event_at : (json : Bool) (family : Family) (moment : ℕ) (groups : Groups) (address place : ℕ) (g : GroupState) (schedule : ScheduleState)
    → HasPlace groups address place
    → record { group = g; schedule = schedule } ≡ group_at groups address
    → event_in json family moment (Holds address g) ≡ entry_event json family moment (get_or (map.entries groups) place (address, unheld))
event_at json family moment groups address place g schedule has is =
    let key = key_at groups address place has.address_is (address, unheld) in
    let found : group_at groups address ≡ (get_or (map.entries groups) place (address, unheld)).1 =
    ap (λ (e : Option ScheduledGroup). unwrap_or e unheld) (get-place groups address place has.address_is (address, unheld)) in
    λ i. event_in json family moment (Holds (sym key i) ((is ∙ found) i).group)

-- one group more
pub group_passed : (json : Bool) (moment : ℕ) (family other : Family) (groups : Groups) (address place : ℕ) (g : GroupState) (schedule : ScheduleState)
    (a b c : Option (List ℕ)) (held mid left : List ℕ)
    → family ≡ other → place < map.len groups → HasPlace groups address place → record { group = g; schedule = schedule } ≡ group_at groups address
    → Passes a b held mid (flat_map (entry_event json other moment) (take place (map.entries groups)))
    → Passes b c mid left (event_in json family moment (Holds address g))
    → Passes a c held left (flat_map (entry_event json other moment) (take (place + 1) (map.entries groups)))
group_passed json moment family other groups address place g schedule a b c held mid left same within has is before passed =
    let entry = get_or (map.entries groups) place (address, unheld) in
    item_passed (entry_event json other moment) a b c held mid left (map.entries groups) place entry (address, unheld)
    (omega (arith, within, map.len-entries groups)) refl before (subst (λ (t : List ℕ). Passes b c mid left t)
    (event_at json family moment groups address place g schedule has is ∙ ap (λ (f : Family). entry_event json f moment entry) same) passed)

-- the line of a group was not put whole
pub group_broken : (json : Bool) (moment : ℕ) (family other : Family) (groups : Groups) (address place : ℕ) (g : GroupState) (schedule : ScheduleState)
    (a b c : Option (List ℕ)) (held mid : List ℕ)
    → family ≡ other → place < map.len groups → HasPlace groups address place → record { group = g; schedule = schedule } ≡ group_at groups address
    → Passes a b held mid (flat_map (entry_event json other moment) (take place (map.entries groups)))
    → GrowsByBeginning b c (mid ++ event_in json family moment (Holds address g)) → GrowsByBeginning a c (held ++ group_events json other moment groups)
group_broken json moment family other groups address place g schedule a b c held mid same within has is before begun =
    let entries = map.entries groups in
    let entry = get_or entries place (address, unheld) in
    let line = entry_event json other moment entry in
    let first = flat_map (entry_event json other moment) (take place entries) in
    let rest = flat_map (entry_event json other moment) (drop (place + 1) entries) in
    let more : flat_map (entry_event json other moment) (take (place + 1) entries) ≡ first ++ line =
    ap (flat_map (entry_event json other moment)) (take_more entries place (address, unheld) (omega (arith, within, map.len-entries groups))) ∙
    flat_map-append (entry_event json other moment) (take place entries) (entry ∷ []) ∙ ap (λ (t : List ℕ). first ++ t) (append-nil line) in
    let all : group_events json other moment groups ≡ (first ++ line) ++ rest =
    sym (ap (flat_map (entry_event json other moment)) (take-append-drop (place + 1) entries))
    ∙ flat_map-append (entry_event json other moment) (take (place + 1) entries) (drop (place + 1) entries) ∙ ap (λ (t : List ℕ). t ++ rest) more in
    let so = subst (λ (t : List ℕ). GrowsByBeginning b c (mid ++ t))
    (event_at json family moment groups address place g schedule has is ∙ ap (λ (f : Family). entry_event json f moment entry) same) begun in
    subst (λ (t : List ℕ). GrowsByBeginning a c (held ++ t)) (sym all)
    (broken_within a c held (first ++ line) rest (broken_behind a b c held mid first line before so))

-- all groups
pub groups_passed : (json : Bool) (moment : ℕ) (family : Family) (groups : Groups) (place : ℕ) (a b : Option (List ℕ)) (held left : List ℕ)
    → map.len groups ≤ place → Passes a b held left (flat_map (entry_event json family moment) (take place (map.entries groups)))
    → Passes a b held left (group_events json family moment groups)
groups_passed json moment family groups place a b held left all passed =
    subst (λ (es : List Entry). Passes a b held left (flat_map (entry_event json family moment) es))
    (take_all place (map.entries groups) (omega (arith, all, map.len-entries groups))) passed

-- the lines at the end are those of the link after the ticks
pub end_text : (asked : Asked) (config : Configuration) (family : Family) (moment : ℕ) (before mid : LinkValue) → config ≡ before.config →
    config.family ≡ family → mid.state ≡ (ticked_before before.config (moment + 1) (begun_with asked before.state)).link
    → (ended_at before.config moment (begun_with asked before.state)).text
    ≡ (ticked_before before.config (moment + 1) (begun_with asked before.state)).text
    ++ end_events asked.json family moment (is_querier mid.state.election.role) mid.state.groups mid.state.counters
unfolding ended_at
end_text asked config family moment before mid is_config is_family is_link =
    let ticks = (ticked_before before.config (moment + 1) (begun_with asked before.state)).text in
    let families : before.config.family ≡ family = sym (ap (λ (c : Configuration). c.family) is_config) ∙ is_family in
    let same = before_asked before.config (moment + 1) (begun_with asked before.state) in
    λ i. ticks ++ end_events (same i).json (families i) moment (is_querier (sym is_link i).election.role) (sym is_link i).groups (sym is_link i).counters

pub end_answer : (asked : Asked) (moment : ℕ) (before mid : LinkValue) →
    mid.state ≡ (ticked_before before.config (moment + 1) (begun_with asked before.state)).link
    → (ended_at before.config moment (begun_with asked before.state)).answer ≡ Ok mid.state.counters
unfolding ended_at
end_answer asked moment before mid is_link = ap (λ (s : LinkState). Ok s.counters) (sym is_link)

-- where the lines broke off
pub role_broken : (a b c : Option (List ℕ)) (held mid ticks role groups counts : List ℕ) → Passes a b held mid ticks →
    GrowsByBeginning b c (mid ++ role) → GrowsByBeginning a c (held ++ (ticks ++ (role ++ (groups ++ counts))))
role_broken a b c held mid ticks role groups counts before begun = broken_behind a b c held mid ticks (role ++ (groups ++ counts)) before
    (broken_within b c mid role (groups ++ counts) begun)

pub groups_broken : (a b c d : Option (List ℕ)) (held mid more ticks role groups counts : List ℕ) → Passes a b held mid ticks →
    Passes b c mid more role → GrowsByBeginning c d (more ++ groups) → GrowsByBeginning a d (held ++ (ticks ++ (role ++ (groups ++ counts))))
groups_broken a b c d held mid more ticks role groups counts before then begun =
    broken_behind a b d held mid ticks (role ++ (groups ++ counts)) before
    (broken_behind b c d mid more role (groups ++ counts) then (broken_within c d more groups counts begun))

pub end_put : {T E : Type 0} (a b c d e : Option (List ℕ)) (held mid more rest left ticks role groups counts : List ℕ) (r : Result T E)
    → Passes a b held mid ticks → Passes b c mid more role → Passes c d more rest groups → Puts d e rest left counts r →
    Puts a e held left (ticks ++ (role ++ (groups ++ counts))) r
end_put a b c d e held mid more rest left ticks role groups counts r first second third put =
    then_put a b e held mid left ticks (role ++ (groups ++ counts)) r first
    (then_put b c e mid more left role (groups ++ counts) r second (then_put c d e more rest left groups counts r third put))

-- the ticks go up to and including the end
ticked_to : {T E : Type 0} (asked : Asked) (before mid : LinkValue) (limit moment : ℕ) (a b : Option (List ℕ)) (held left : List ℕ) (r : Result T E)
    → limit ≡ moment + 1 → PutsReplayed before mid (ticked_before before.config limit (begun_with asked before.state)) a b held left r
    → PutsReplayed before mid (ticked_before before.config (moment + 1) (begun_with asked before.state)) a b held left r
ticked_to asked before mid limit moment a b held left r is put =
    subst (λ (m : ℕ). PutsReplayed before mid (ticked_before before.config m (begun_with asked before.state)) a b held left r) is put

pub end_ticks_broken : {T : Type 0} (asked : Asked) (before mid : LinkValue) (limit moment : ℕ) (a b : Option (List ℕ)) (held left : List ℕ)
    (e : LineFault) → limit ≡ moment + 1
    → PutsReplayed {T = T} before mid (ticked_before before.config limit (begun_with asked before.state)) a b held left (Err e)
    → GrowsByBeginning a b (held ++ (ended_at before.config moment (begun_with asked before.state)).text)
unfolding ended_at
end_ticks_broken asked before mid limit moment a b held left e is put =
    broken_within a b held (ticked_before before.config (moment + 1) (begun_with asked before.state)).text _
    (ticked_to asked before mid limit moment a b held left (Err e) is put).text

pub end_role_broken : {T : Type 0} (asked : Asked) (config : Configuration) (family : Family) (before mid : LinkValue) (limit moment : ℕ)
    (role : Bool) (a b c : Option (List ℕ)) (held more : List ℕ) (x : T)
    → limit ≡ moment + 1 → config ≡ before.config → config.family ≡ family → role ≡ is_querier mid.state.election.role
    → PutsReplayed {E = LineFault} before mid (ticked_before before.config limit (begun_with asked before.state)) a b held more (Ok x)
    → GrowsByBeginning b c (more ++ event_in asked.json family moment (Ends role))
    → GrowsByBeginning a c (held ++ (ended_at before.config moment (begun_with asked before.state)).text)
end_role_broken asked config family before mid limit moment role a b c held more x is is_config is_family is_role put begun =
    let ticks = ticked_to asked before mid limit moment a b held more (Ok x) is put in
    subst (λ (t : List ℕ). GrowsByBeginning a c (held ++ t)) (sym (end_text asked config family moment before mid is_config is_family ticks.link))
    (role_broken a b c held more _ _ (group_events asked.json family moment mid.state.groups)
    (event_in asked.json family moment (Counts mid.state.counters)) ticks.text
    (subst (λ (q : Bool). GrowsByBeginning b c (more ++ event_in asked.json family moment (Ends q))) is_role begun))

pub end_groups_broken : {T : Type 0} (asked : Asked) (config : Configuration) (family : Family) (before mid : LinkValue) (limit moment : ℕ)
    (role : Bool) (a b c d : Option (List ℕ)) (held more rest : List ℕ) (x : T)
    → limit ≡ moment + 1 → config ≡ before.config → config.family ≡ family → role ≡ is_querier mid.state.election.role
    → PutsReplayed {E = LineFault} before mid (ticked_before before.config limit (begun_with asked before.state)) a b held more (Ok x)
    → Passes b c more rest (event_in asked.json family moment (Ends role))
    → GrowsByBeginning c d (rest ++ group_events asked.json family moment mid.state.groups)
    → GrowsByBeginning a d (held ++ (ended_at before.config moment (begun_with asked before.state)).text)
end_groups_broken asked config family before mid limit moment role a b c d held more rest x is is_config is_family is_role put second begun =
    let ticks = ticked_to asked before mid limit moment a b held more (Ok x) is put in
    subst (λ (t : List ℕ). GrowsByBeginning a d (held ++ t)) (sym (end_text asked config family moment before mid is_config is_family ticks.link))
    (groups_broken a b c d held more rest _ _ _ (event_in asked.json family moment (Counts mid.state.counters)) ticks.text
    (subst (λ (q : Bool). Passes b c more rest (event_in asked.json family moment (Ends q))) is_role second) begun)

pub all_put : {T : Type 0} (asked : Asked) (config : Configuration) (family : Family) (before mid : LinkValue) (limit moment : ℕ) (role : Bool)
    (counters : Counters) (a b c d e : Option (List ℕ)) (held more rest last left : List ℕ) (x : T) (r : Result Unit LineFault)
    → limit ≡ moment + 1 → config ≡ before.config → config.family ≡ family → role ≡ is_querier mid.state.election.role → counters ≡ mid.state.counters
    → PutsReplayed {E = LineFault} before mid (ticked_before before.config limit (begun_with asked before.state)) a b held more (Ok x)
    → Passes b c more rest (event_in asked.json family moment (Ends role))
    → Passes c d rest last (group_events asked.json family moment mid.state.groups)
    → Puts d e last left (event_in asked.json family moment (Counts counters)) r
    → Puts a e held left (ended_at before.config moment (begun_with asked before.state)).text r
all_put asked config family before mid limit moment role counters a b c d e held more rest last left x r is is_config is_family is_role is_counters
    put second third fourth =
    let ticks = ticked_to asked before mid limit moment a b held more (Ok x) is put in
    subst (λ (t : List ℕ). Puts a e held left t r) (sym (end_text asked config family moment before mid is_config is_family ticks.link))
    (end_put a b c d e held more rest last left _ _ _ _ r ticks.text
    (subst (λ (q : Bool). Passes b c more rest (event_in asked.json family moment (Ends q))) is_role second) third
    (subst (λ (n : Counters). Puts d e last left (event_in asked.json family moment (Counts n)) r) is_counters fourth))

pub all_answered : {T : Type 0} (asked : Asked) (before mid : LinkValue) (limit moment : ℕ) (a b : Option (List ℕ)) (held left : List ℕ) (x : T) →
    limit ≡ moment + 1
    → PutsReplayed {E = LineFault} before mid (ticked_before before.config limit (begun_with asked before.state)) a b held left (Ok x)
    → (ended_at before.config moment (begun_with asked before.state)).answer ≡ Ok mid.state.counters
all_answered asked before mid limit moment a b held left x is put =
    end_answer asked moment before mid (ticked_to asked before mid limit moment a b held left (Ok x) is put).link

pub if_ok : {T E : Type 0} (r : Result T E) (P : Type 0) → P → IfOk r (λ _. P)
if_ok (Ok x) P h = h
if_ok (Err e) P h = tt
