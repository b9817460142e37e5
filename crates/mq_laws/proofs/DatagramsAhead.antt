-- No datagram makes something due at its own moment or before.
use Rattle.mq_laws.proofs.Common.{◌≡◌, ℕ, ◌+◌, ◌*◌, ◌<◌, Bool, true, false, cond, refl, List, [], ◌∷◌, Option, None, Some, IfSome, Result, Ok, Err, sym, ap}
use Rattle.mq_laws.proofs.Common.{last_member_count, last_member_time, some_count, ◌∙◌, arith, subst, mul-le-mul_right, option_and_then, unwrap_or, nat_cmp}
use Rattle.mq_laws.proofs.Common.{nat_lt, ◌==◌, if◌then◌else◌, Message, QueryMessage, OldReport, LeaveMessage, ReportMessage, WireFault, Query, RecordView}
use Rattle.mq_laws.proofs.Common.{get-kept, AllAhead, GroupState, group_deadline, timer_at, deadline_of, source_cleared, retransmissions_counted, GroupChange}
use Rattle.mq_laws.proofs.Common.{membership_interval, older_host_present, other_querier_present, AreInRange, SourceTimer, Timing, quiet_after_round}
use Rattle.mq_laws.proofs.Common.{deadlines_stay, Role, Other, is_querier, loses_role, next_moment, ScheduledGroup, cleared, is_due, after_round}
use Rattle.mq_laws.proofs.Common.{timing_in_range, IsWellFormed-tick_at, Configuration, IsFaultless, Counters, group_lowered, election_after, suppresses}
use Rattle.mq_laws.proofs.Common.{asked_by, query_heard, Envelope, read_of, pseudo_of, drop_reason, setting_of, counting_read, taken_or_dropped, receipt_of}
use Rattle.mq_laws.proofs.Common.{Setting, Statement, RecordOf, OlderJoin, OlderLeave, change_in, changed_or_refused, changed_by, after_sending, sent_at_once}
use Rattle.mq_laws.proofs.Common.{limit_passed, unless_passed, judged, all_judged, seen_after, is_muted, LinkState, IsWellFormed, Step, moments_of, moments_in}
use Rattle.mq_laws.proofs.Common.{next_of, tick_of, DropReason, Refusal, Groups, group_at, unheld, with_group, later_after_tick, carried_where_read}
use Rattle.mq_laws.proofs.Common.{IsWellFormed-receipt_after, alone_by, groups_cleared, groups_lowered, taken_in, stated, stated_alone}
use Rattle.mq_link.specs.{Tick.moment_of, Family.v1_mutes_leave, Record.Seen}
use Rattle.mq_link.proofs.{HeldAs.All, HeldAs.all-kept, Recorded.all-with_group, Silent.each-entry, Silent.from-each}
use Rattle.mq_link.proofs.Quiet.{AllAbove, IsBeyond, above_least, least_above, above_values, values_above, beyond, above_beyond}
use Rattle.mq_laws.proofs.{AheadChanges.ChangesAhead, AheadChanges.stated_ahead, AheadChanges.query_ahead, AheadChanges.after_change_ahead, Unchanged.judged_by}
use Rattle.std.specs.FinMap as map
use Rattle.std.specs.FinSet as set

-- nothing of any group happens up to a moment
abbrev pub AllBeyond : ℕ → Groups → Type 0
AllBeyond m groups = All (λ _ e. IsBeyond m e) groups

pub beyond_all : (m : ℕ) (groups : Groups) → AllAbove m (moments_in groups) → AllBeyond m groups
beyond_all m groups above q e is =
    beyond m e (from-each (λ _ e. AllAbove m (moments_of e)) (map.entries groups) (above_values m moments_of (map.entries groups) above) q e
    (sym (map.get-entries groups q) ∙ is))

pub above_all : (m : ℕ) (groups : Groups) → AllBeyond m groups → AllAbove m (moments_in groups)
above_all m groups all =
    values_above m moments_of (map.entries groups) (each-entry (λ _ e. AllAbove m (moments_of e)) groups (λ q e is. above_beyond m e (all q e is)))

-- a group with what is due for it sent
heads_stay : (g : GroupState) (due : Bool) (m : ℕ) → AllAhead m g
    → (let left = cond due (retransmissions_counted g) g in IfSome (group_deadline left.mode) (λ d. m < d) × IfSome left.v1 (λ d. m < d) × IfSome left.v2
    (λ d. m < d))
heads_stay g due m h1 = grind arith

beyond_sent : (timing : Timing) (m : ℕ) (e : ScheduledGroup) → 0 < timing.last_member_interval → AllAhead m e.group → IsBeyond m (after_round timing m e)
beyond_sent timing m e positive h =
    let heads = heads_stay e.group (is_due m e.schedule.sources_due) m h in
    record {
      timers = record {
        group = heads.0;
        sources = λ s. subst (λ d. IfSome d (λ d. m < d)) (sym (deadlines_stay timing m e s)) (h.sources s);
        v1 = heads.1;
        v2 = heads.2;
      };
      schedule = quiet_after_round timing m e positive;
    }

-- spans of a timing that is in range
pub record AreSpans (timing : Timing) : Type 0 where
  pub membership : 0 < membership_interval timing
  pub older : 0 < older_host_present timing
  pub other : 0 < other_querier_present timing
  pub lowered : 0 < last_member_time timing
  pub sending : 0 < timing.last_member_interval

positive_product : (a b : ℕ) → 0 < a → 0 < b → 0 < a * b
positive_product a b x y = grind (arith, mul-le-mul_right)

pub spans_of : (timing : Timing) → AreInRange timing → AreSpans timing
spans_of timing h =
    let intervals = positive_product timing.robustness (timing.query_seconds * 1000) (omega (arith, h.robustness.at_least))
    (omega (arith, h.query_seconds.at_least)) in
    record {
      membership = omega (arith, intervals);
      older = omega (arith, intervals);
      other = omega (arith, intervals);
      lowered = positive_product timing.last_member_interval (last_member_count timing) (omega (arith, h.last_member_interval.at_least))
          (some_count timing (omega (arith, h.robustness.at_least)));
      sending = omega (arith, h.last_member_interval.at_least);
    }

-- the group that a statement meets
met_ahead : (m : ℕ) (held : Option ScheduledGroup) → IfSome held (IsBeyond m) → AllAhead m (unwrap_or held unheld).group
met_ahead m None h = record { group = tt; sources = λ s. rw (map.get-empty nat_cmp s) tt; v1 = tt; v2 = tt }
met_ahead m (Some e) h = h.timers

held_beyond : (m group : ℕ) (groups : Groups) → AllBeyond m groups → (held : Option ScheduledGroup) → map.get groups group ≡ held → IfSome held (IsBeyond m)
held_beyond m group groups h1 held h2 = grind arith

-- a statement
unless_beyond : (m : ℕ) (name : Option Refusal) (before after : Groups) (queries : List _) → AllBeyond m before → AllBeyond m after
    → AllBeyond m (unless_passed name before after queries).groups
unless_beyond m (Some name) before after queries b a = b
unless_beyond m None before after queries b a = a

changed_beyond : (at : Setting) (group : ℕ) (groups : Groups) (change : Option GroupChange) → AreSpans at.election.timing → AllBeyond at.now groups
    → ChangesAhead at.now change → AllBeyond at.now (changed_or_refused at group groups change).groups
changed_beyond at group groups None spans all h = all
changed_beyond at group groups (Some change) spans all h =
    let e = changed_by at group groups change in
    let left = after_sending at e in
    let after = with_group groups group left in
    unless_beyond at.now (limit_passed at.config.limits after left) groups after (sent_at_once at group e) all
    (all-with_group (λ _ e. IsBeyond at.now e) groups group left (λ _. beyond_sent at.election.timing at.now e spans.sending
    (after_change_ahead (is_querier at.election.role) at.election.timing at.now change (group_at groups group).schedule (omega (arith, spans.lowered)) h)) all)

pub stated_beyond : (at : Setting) (group : ℕ) (statement : Statement) (groups : Groups) → AreSpans at.election.timing → AllBeyond at.now groups
    → AllBeyond at.now (stated at group statement groups).groups
unfolding stated
stated_beyond at group statement groups spans all =
    changed_beyond at group groups (change_in at group statement groups) spans all
    (stated_ahead (v1_mutes_leave at.config.family) (is_muted at.config group statement) at.election.timing at.now statement
    (group_at groups group).group (omega (arith, spans.membership)) (omega (arith, spans.older))
    (met_ahead at.now (map.get groups group) (held_beyond at.now group groups all (map.get groups group) refl)))

alone_beyond : (at : Setting) (group : ℕ) (statement : Statement) (groups : Groups) → AreSpans at.election.timing → AllBeyond at.now groups
    → AllBeyond at.now (stated_alone at group statement groups).groups
alone_beyond at group statement groups spans all =
    alone_by (λ o. AllBeyond at.now o.groups) at group statement groups (stated_beyond at group statement groups spans all) all

judged_beyond : (at : Setting) (seen : Seen) (r : RecordView ℕ) (groups : Groups) → AreSpans at.election.timing → AllBeyond at.now groups
    → AllBeyond at.now (judged at seen r groups).groups
judged_beyond at seen r groups spans all =
    judged_by (λ outcome. AllBeyond at.now outcome.groups) at seen r groups (λ verdict. all)
    (λ kind. stated_beyond at r.group (RecordOf kind (set.from_list r.sources)) groups spans all)

all_judged_beyond : (at : Setting) (seen : Seen) (records : List (RecordView ℕ)) (groups : Groups) → AreSpans at.election.timing → AllBeyond at.now groups
    → AllBeyond at.now (all_judged at seen records groups).groups
all_judged_beyond at seen [] groups spans all = all
all_judged_beyond at seen (r ∷ rs) groups spans all =
    all_judged_beyond at (seen_after at.config r groups seen) rs (judged at seen r groups).groups spans (judged_beyond at seen r groups spans all)

-- a query that is heard
cleared_deadline : (t : Option SourceTimer) → deadline_of (option_and_then (λ timer. Some (source_cleared timer)) t) ≡ deadline_of t
cleared_deadline t = grind arith

cleared_beyond : (m : ℕ) (e : ScheduledGroup) → IsBeyond m e → IsBeyond m (cleared e)
cleared_beyond m e h = record {
  timers = record {
    group = h.timers.group;
    sources = λ s. subst (λ d. IfSome d (λ d. m < d))
        (sym (ap deadline_of (get-kept (λ s timer. Some (source_cleared timer)) e.group.sources s) ∙ cleared_deadline (timer_at e.group s)))
        (h.timers.sources s);
    v1 = h.timers.v1;
    v2 = h.timers.v2;
  };
  schedule = record { group = tt; sources = tt };
}

groups_cleared_beyond : (m : ℕ) (groups : Groups) → AllBeyond m groups → AllBeyond m (groups_cleared groups)
unfolding groups_cleared
groups_cleared_beyond m groups all = all-kept (λ _ e. IsBeyond m e) (λ group e. Some (cleared e)) groups (λ k e h. cleared_beyond m e h) all

lowered_beyond : (m : ℕ) (timing : Timing) (query : Query ℕ) (e : ScheduledGroup) → AreSpans timing → IsBeyond m e
    → IsBeyond m (group_lowered timing m query.version e)
lowered_beyond m timing query e spans h =
    record {
      timers = query_ahead timing m (suppresses query.version) (asked_by query.version) e.group (omega (arith, spans.lowered)) h.timers;
      schedule = h.schedule;
    }

if_lowered_beyond : (m : ℕ) (timing : Timing) (query : Query ℕ) (e : ScheduledGroup) (b : Bool) → AreSpans timing → IsBeyond m e
    → IsBeyond m (cond b (group_lowered timing m query.version e) e)
if_lowered_beyond m timing query e true spans h = lowered_beyond m timing query e spans h
if_lowered_beyond m timing query e false spans h = h

groups_lowered_beyond : (m : ℕ) (timing : Timing) (query : Query ℕ) (groups : Groups) → AreSpans timing → AllBeyond m groups
    → AllBeyond m (groups_lowered timing m query groups)
unfolding groups_lowered
groups_lowered_beyond m timing query groups spans all =
    all-kept (λ _ e. IsBeyond m e) (λ group e. Some (if group == query.group then group_lowered timing m query.version e else e)) groups
    (λ k e h. if_lowered_beyond m timing query e (k == query.group) spans h) all

if_cleared_beyond : (m : ℕ) (groups : Groups) (b : Bool) → AllBeyond m groups → AllBeyond m (cond b (groups_cleared groups) groups)
if_cleared_beyond m groups true all = groups_cleared_beyond m groups all
if_cleared_beyond m groups false all = all

-- The next work of a link comes later than a moment.
pub record IsLater (m : ℕ) (state : LinkState) : Type 0 where
  pub election : m < next_moment state.election.role
  pub groups : AllBeyond m state.groups

pub later_next : (m : ℕ) (state : LinkState) → IsLater m state → m < next_of state
later_next m state h = least_above m (next_moment state.election.role) (moments_in state.groups) h.election (above_all m state.groups h.groups)

pub next_later : (m : ℕ) (state : LinkState) → m < next_of state → IsLater m state
next_later m state h =
    let parts = above_least m (next_moment state.election.role) (moments_in state.groups) h in
    record { election = parts.0; groups = beyond_all m state.groups parts.1 }

role_later : (m : ℕ) (lower : Bool) (source : ℕ) (timing : Timing) (role : Role) → 0 < other_querier_present timing → m < next_moment role
    → m < next_moment (cond lower (Other source (m + other_querier_present timing)) role)
role_later m lower source timing role h1 h2 = grind arith

heard_later : (config : Configuration) (m source : ℕ) (query : Query ℕ) (state : LinkState) → AreSpans (query_heard config m source query state).election.timing
    → IsLater m state → IsLater m (query_heard config m source query state)
heard_later config m source query state spans h = record {
  election = role_later m (nat_lt source config.own) source (election_after config m source query.version state.election).timing state.election.role
      spans.other h.election;
  groups = groups_lowered_beyond m (election_after config m source query.version state.election).timing query _ spans
      (if_cleared_beyond m state.groups (loses_role config.own source state.election.role) h.groups);
}

outcomes_later : (config : Configuration) (state : LinkState) (groups : Groups) (counters : Counters) → AllBeyond state.last groups → IsLater state.last state
    → IsLater state.last (record { groups = groups; election = state.election; last = state.last; counters = counters })
outcomes_later config state groups counters all h = record { election = h.election; groups = all }

taken_later : (config : Configuration) (envelope : Envelope) (message : Message ℕ) (step : Step) → AreInRange step.state.election.timing
    → AreInRange (taken_in config envelope message step).step.state.election.timing
    → IsLater step.state.last step.state → IsLater step.state.last (taken_in config envelope message step).step.state
unfolding taken_in
taken_later config envelope (QueryMessage query) step before after h = heard_later config step.state.last envelope.source query step.state (spans_of _ after) h
taken_later config envelope (OldReport version group) step before after h =
    outcomes_later config step.state _ _
    (alone_beyond (setting_of config step.state) group (OlderJoin version) step.state.groups (spans_of _ before) h.groups) h
taken_later config envelope (LeaveMessage group) step before after h =
    outcomes_later config step.state _ _ (alone_beyond (setting_of config step.state) group OlderLeave step.state.groups (spans_of _ before) h.groups) h
taken_later config envelope (ReportMessage records) step before after h =
    outcomes_later config step.state _ _ (all_judged_beyond (setting_of config step.state) map.empty records step.state.groups (spans_of _ before) h.groups) h

decided_later : (config : Configuration) (envelope : Envelope) (step : Step) (read : Result (Message ℕ) WireFault) (reason : Option DropReason)
    → AreInRange step.state.election.timing
    → AreInRange (taken_or_dropped config envelope step read reason).step.state.election.timing
    → IsLater step.state.last step.state → IsLater step.state.last (taken_or_dropped config envelope step read reason).step.state
decided_later config envelope step read (Some reason) before after h = record { election = h.election; groups = h.groups }
decided_later config envelope step (Err fault) None before after h = record { election = h.election; groups = h.groups }
decided_later config envelope step (Ok message) None before after h =
    taken_later config envelope message (counting_read (Ok message) step) before after (record { election = h.election; groups = h.groups })

-- After a datagram the next moment is later than its own.
pub later_after_datagram : (config : Configuration) (envelope : Envelope) (bytes : List ℕ) (now : ℕ) (state : LinkState) → IsFaultless config
    → IsWellFormed config state → moment_of state now < next_of (receipt_of config envelope bytes now state).step.state
later_after_datagram config envelope bytes now state faultless h =
    let own = timing_in_range config faultless in
    let moment = moment_of state now in
    let tick = tick_of config now state in
    let formed = IsWellFormed-tick_at config moment state own h in
    let pseudo = pseudo_of config.family envelope bytes in
    let read = read_of config.family pseudo bytes in
    let left = IsWellFormed-receipt_after config envelope read tick own (carried_where_read config.family pseudo bytes) formed in
    let ticked = next_later moment tick.state (later_after_tick config moment state own h) in
    later_next moment _ (decided_later config envelope tick read (drop_reason config envelope read) formed.timing left.timing ticked)
