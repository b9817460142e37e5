-- Facts about each group of a map and about the list of its entries. A router that isn't querier sends nothing.
use Rattle.mq_link.proofs.Common.{◌≡◌, ℕ, ◌<◌, Bool, true, false, cond, ltb, leb, refl, List, [], ◌∷◌, ◌++◌, Option, None, Some, Result, Ok, Err, sym, ap, ◌∙◌}
use Rattle.mq_link.proofs.Common.{subst, arith, nat_tests, T, flat_map, unwrap_or, nat_cmp, eq_by_cmp, FinMap, find, is_sorted, below_all, Family, Message}
use Rattle.mq_link.proofs.Common.{QueryMessage, OldReport, LeaveMessage, ReportMessage, WireFault, QueryVersion, RecordView, Kind, Timing, GroupChange}
use Rattle.mq_link.proofs.Common.{ScheduleState, ScheduledGroup, no_schedule, settled, SentQuery, GeneralQuery, after_change, messages_due, Role, Querier}
use Rattle.mq_link.proofs.Common.{Other, ElectionState, is_querier, returned, general_is_due, after_general, ticked, Refusal, Repeated, DropReason, per_query}
use Rattle.mq_link.proofs.Common.{Configuration, Refused, Step, groups_expired, queries_due, tick_at, Statement, RecordOf, OlderJoin, OlderLeave, limit_passed}
use Rattle.mq_link.proofs.Common.{Setting, leaving, unless_passed, changed_by, after_sending, sent_at_once, changed_or_refused, change_in, stated, stated_alone}
use Rattle.mq_link.proofs.Common.{Seen, Entrance, Stops, GoesOn, entrance, is_repeated, seen_after, judged_from, judged, all_judged, election_after}
use Rattle.mq_link.proofs.Common.{Envelope, setting_of, taken_in, taken_or_dropped, counting_read, find_below, first, second, tied, ties, AreSound}
use Rattle.std.specs.FinMap as map
use Rattle.std.specs.FinSet as set
use Rattle.mq_link.specs.State.{Groups, LinkState, unheld, group_at, with_group, IsSilent, IsWellFormed}
use Rattle.mq_link.proofs.{HeldAs.All, HeldAs.settled_silent, Ticked.was_other, Ticked.ticked_role, Ticked.silent-groups_expired, Recorded.judged_leaves}
use Rattle.mq_link.proofs.{StatedAlone.alone_by}
use Rattle.mq_link.proofs.{Receipts.sound_in, Receipts.positive_in, Receipts.recounted}

abbrev pub Each : {X : Type 0} → (ℕ → X → Type 0) → List (ℕ × X) → Type 0
Each P [] = Unit {0}
Each P (e ∷ es) = P e.0 e.1 × Each P es

in_whole : {X : Type 0} (e : ℕ × X) (es : List (ℕ × X)) (q : ℕ) (x : X) → T (below_all nat_cmp e.0 es) → find nat_cmp q es ≡ Some x → (b : Bool) →
    eq_by_cmp nat_cmp q e.0 ≡ b → cond b (Some e.1) (find nat_cmp q es) ≡ Some x
in_whole e es q x below is false apart = is
in_whole e es q x below is true same = let none : find nat_cmp q es ≡ None = ap (λ n. find nat_cmp n es) (tied q e.0 same) ∙ find_below e.0 es below in cc

each-sorted : {X : Type 0} (P : ℕ → X → Type 0) (es : List (ℕ × X)) → T (is_sorted nat_cmp es) →
    ((q : ℕ) (x : X) → find nat_cmp q es ≡ Some x → P q x) → Each P es
each-sorted P [] h all = tt
each-sorted P (e ∷ es) h all =
    let below = first (below_all nat_cmp e.0 es) (is_sorted nat_cmp es) h in (
      all e.0 e.1 (ap (λ b. cond b (Some e.1) (find nat_cmp e.0 es)) (ties e.0 e.0 refl)),
      each-sorted P es (second (below_all nat_cmp e.0 es) (is_sorted nat_cmp es) h)
          (λ q x is. all q x (in_whole e es q x below is (eq_by_cmp nat_cmp q e.0) refl)),
    )

-- a fact at each key is a fact about each entry, and the other way round
pub each-entry : {X : Type 0} (P : ℕ → X → Type 0) (m : FinMap nat_cmp X) → ((q : ℕ) (x : X) → map.get m q ≡ Some x → P q x) → Each P (map.entries m)
each-entry P m all = each-sorted P (map.entries m) (map.entries_sorted m) (λ q x is. all q x (map.get-entries m q ∙ is))

pub from-each : {X : Type 0} (P : ℕ → X → Type 0) (es : List (ℕ × X)) → Each P es → (q : ℕ) (x : X) → find nat_cmp q es ≡ Some x → P q x
from-each P [] h q x is = cc
from-each P (e ∷ es) h q x is = at_front P e es h.0 q x (eq_by_cmp nat_cmp q e.0) refl is (λ later. from-each P es h.1 q x later)
  where
    at_front : {X : Type 0} (P : ℕ → X → Type 0) (e : ℕ × X) (es : List (ℕ × X)) → P e.0 e.1 → (q : ℕ) (x : X) (b : Bool) →
        eq_by_cmp nat_cmp q e.0 ≡ b → cond b (Some e.1) (find nat_cmp q es) ≡ Some x → (find nat_cmp q es ≡ Some x → P q x) → P q x
    at_front P e es here q x true same is later = let value : e.1 ≡ x = cc in subst (λ k. P k x) (sym (tied q e.0 same)) (subst (P e.0) value here)
    at_front P e es here q x false apart is later = later is

-- a group without retransmissions left sends nothing
pub silent_messages : (n : ℕ) (timing : Timing) (now group : ℕ) (e : ScheduledGroup) → IsSilent e → messages_due n timing now group e ≡ []
silent_messages n timing now group e h = ap (λ s. messages_due n timing now group (record { group = e.group; schedule = s })) h.schedule

none_due : (n : ℕ) (timing : Timing) (now : ℕ) (es : List (ℕ × ScheduledGroup)) → Each (λ _. IsSilent) es →
    flat_map (λ (e : ℕ × ScheduledGroup). messages_due n timing now e.0 e.1) es ≡ []
none_due n timing now [] h = refl
none_due n timing now (e ∷ es) h = (λ i. silent_messages n timing now e.0 e.1 h.0 i ++ none_due n timing now es h.1 i)

silent_due : (family : Family) (timing : Timing) (now : ℕ) (groups : Groups) → All (λ _. IsSilent) groups → queries_due family timing now groups ≡ []
unfolding queries_due
silent_due family timing now groups all = none_due (per_query family) timing now (map.entries groups) (each-entry (λ _. IsSilent) groups all)

no_general : (now : ℕ) (role : Role) → is_querier role ≡ false → general_is_due now role ≡ false
no_general now (Querier due startup) h = cc
no_general now (Other address deadline) h = refl

-- a tick of a router that isn't querier then
pub silent_tick : (config : Configuration) (moment : ℕ) (state : LinkState) → IsWellFormed config state →
    is_querier (tick_at config moment state).state.election.role ≡ false → (tick_at config moment state).queries ≡ []
silent_tick config moment state h other =
    let general = no_general moment (returned config.timing moment state.election).role (sym (ticked_role config.timing moment state.election) ∙ other) in
    (λ i. cond (general i) (GeneralQuery ∷ []) [] ++ silent_due config.family (ticked config.timing moment state.election).timing moment
    (groups_expired moment state.groups) (silent-groups_expired moment state.groups (h.silent (was_other config.timing moment state.election other))) i)

-- a record at a router that isn't querier
unasked : (q : Bool) (n : ℕ) (timing : Timing) (now group : ℕ) (change : GroupChange) (schedule : ScheduleState) → q ≡ false →
    schedule ≡ no_schedule → messages_due n timing now group (after_change q timing now change schedule) ≡ []
unasked true n timing now group change schedule is none = cc
unasked false n timing now group change schedule is none =
    silent_messages n timing now group (record { group = change.group; schedule = settled change.group schedule })
    (record { schedule = settled_silent change.group schedule none })

pub none_unless : (name : Option Refusal) (before after : Groups) (queries : List SentQuery) → queries ≡ [] →
    (unless_passed name before after queries).queries ≡ []
none_unless (Some name) before after queries h = refl
none_unless None before after queries h = h

silent_group : (groups : Groups) (group : ℕ) → All (λ _. IsSilent) groups → (group_at groups group).schedule ≡ no_schedule
silent_group groups group all = by_group (map.get groups group) refl
  where
    by_group : (e : Option ScheduledGroup) → map.get groups group ≡ e → (unwrap_or e unheld).schedule ≡ no_schedule
    by_group None is = refl
    by_group (Some e) is = (all group e is).schedule

silent_changed : (at : Setting) (group : ℕ) (groups : Groups) (change : Option GroupChange) → is_querier at.election.role ≡ false →
    All (λ _. IsSilent) groups → (changed_or_refused at group groups change).queries ≡ []
silent_changed at group groups None other all = refl
silent_changed at group groups (Some change) other all =
    let left = after_sending at (changed_by at group groups change) in
    none_unless (limit_passed at.config.limits (with_group groups group left) left) groups (with_group groups group left)
    (sent_at_once at group (changed_by at group groups change))
    (unasked (is_querier at.election.role) (per_query at.config.family) at.election.timing at.now group change (group_at groups group).schedule other
    (silent_group groups group all))

pub silent_stated : (at : Setting) (group : ℕ) (st : Statement) (groups : Groups) → is_querier at.election.role ≡ false → All (λ _. IsSilent) groups →
    (stated at group st groups).queries ≡ []
unfolding stated
silent_stated at group st groups other all = silent_changed at group groups (change_in at group st groups) other all

pub silent_judged : (at : Setting) (seen : Seen) (r : RecordView ℕ) (groups : Groups) → is_querier at.election.role ≡ false →
    All (λ _. IsSilent) groups → (judged at seen r groups).queries ≡ []
unfolding judged
silent_judged at seen r groups other all = by_entrance (entrance at.config r)
  where
    by_test : (b : Bool) (kind : Kind) →
        (cond b (leaving groups (Refused Repeated)) (stated at r.group (RecordOf kind (set.from_list r.sources)) groups)).queries ≡ []
    by_test true kind = refl
    by_test false kind = silent_stated at r.group (RecordOf kind (set.from_list r.sources)) groups other all

    by_entrance : (entered : Entrance) → (judged_from at seen r groups entered).queries ≡ []
    by_entrance (Stops verdict) = refl
    by_entrance (GoesOn kind) = by_test (is_repeated groups seen r.group) kind

silent_all : (at : Setting) (seen : Seen) (rs : List (RecordView ℕ)) (groups : Groups) → 0 < at.election.timing.robustness →
    is_querier at.election.role ≡ false → AreSound at groups → (all_judged at seen rs groups).queries ≡ []
silent_all at seen [] groups positive other h = refl
silent_all at seen (r ∷ rs) groups positive other h = λ i. silent_judged at seen r groups other (h.silent other) i ++
    silent_all at (seen_after at.config r groups seen) rs (judged at seen r groups).groups positive other (judged_leaves at seen r groups positive h) i

silent_alone : (at : Setting) (group : ℕ) (st : Statement) (groups : Groups) → is_querier at.election.role ≡ false → All (λ _. IsSilent) groups →
    (stated_alone at group st groups).queries ≡ []
silent_alone at group st groups other all = alone_by (λ o. o.queries ≡ []) at group st groups (silent_stated at group st groups other all) refl

silent_taken : (config : Configuration) (envelope : Envelope) (message : Message ℕ) (step : Step) → IsWellFormed config step.state →
    is_querier step.state.election.role ≡ false → step.queries ≡ [] → (taken_in config envelope message step).step.queries ≡ []
unfolding taken_in
silent_taken config envelope (QueryMessage query) step h other none = none
silent_taken config envelope (OldReport version group) step h other none = λ i. none i ++
    silent_alone (setting_of config step.state) group (OlderJoin version) step.state.groups other (h.silent other) i
silent_taken config envelope (LeaveMessage group) step h other none = λ i. none i ++
    silent_alone (setting_of config step.state) group OlderLeave step.state.groups other (h.silent other) i
silent_taken config envelope (ReportMessage records) step h other none = λ i. none i ++
    silent_all (setting_of config step.state) map.empty records step.state.groups (positive_in config step.state h) other (sound_in config step.state h) i

pub silent_decided : (config : Configuration) (envelope : Envelope) (step : Step) (read : Result (Message ℕ) WireFault) (reason : Option DropReason) →
    IsWellFormed config step.state → is_querier step.state.election.role ≡ false → step.queries ≡ [] →
    (taken_or_dropped config envelope step read reason).step.queries ≡ []
silent_decided config envelope step read (Some reason) h other none = none
silent_decided config envelope step (Err fault) None h other none = none
silent_decided config envelope step (Ok message) None h other none = silent_taken config envelope message (counting_read (Ok message) step)
    (recounted config step.state _ h) other none

pub not_reached : (m d : ℕ) → m < d → leb d m ≡ false
not_reached m d h = grind (arith, nat_tests)

-- No datagram makes a router querier, and no tick before the other querier's deadline.
pub other_before : (configured timing : Timing) (now address deadline : ℕ) → now < deadline →
    is_querier (ticked configured now (record { role = Other address deadline; timing = timing })).role ≡ false
other_before configured timing now address deadline before =
    ap (λ b. is_querier (general_after
    (cond b (record { role = Querier now 0; timing = configured }) (record { role = Other address deadline; timing = timing }))).role)
    (not_reached now deadline before)
  where
    general_after : ElectionState → ElectionState
    general_after r = cond (general_is_due now r.role) (record { role = after_general r.timing now r.role; timing = r.timing }) r

other_heard : (config : Configuration) (now source : ℕ) (version : QueryVersion ℕ) (election : ElectionState) → is_querier election.role ≡ false →
    is_querier (election_after config now source version election).role ≡ false
other_heard config now source version election other = by_test (ltb source config.own) _
  where
    by_test : (b : Bool) (deadline : ℕ) → is_querier (cond b (Other source deadline) election.role) ≡ false
    by_test true deadline = refl
    by_test false deadline = other

other_taken : (config : Configuration) (envelope : Envelope) (message : Message ℕ) (step : Step) → is_querier step.state.election.role ≡ false →
    is_querier (taken_in config envelope message step).step.state.election.role ≡ false
unfolding taken_in
other_taken config envelope (QueryMessage query) step other = other_heard config step.state.last envelope.source query.version step.state.election other
other_taken config envelope (OldReport version group) step other = other
other_taken config envelope (LeaveMessage group) step other = other
other_taken config envelope (ReportMessage records) step other = other

pub other_decided : (config : Configuration) (envelope : Envelope) (step : Step) (read : Result (Message ℕ) WireFault) (reason : Option DropReason) →
    is_querier step.state.election.role ≡ false → is_querier (taken_or_dropped config envelope step read reason).step.state.election.role ≡ false
other_decided config envelope step (Err fault) (Some reason) other = other
other_decided config envelope step (Ok message) None other = other_taken config envelope message (counting_read (Ok message) step) other
other_decided config envelope step _ _ other = other
