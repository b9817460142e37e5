-- Each query that a link sends, one message holds.
use Rattle.mq_link.proofs.Common.{ℕ, Bool, true, false, cond, List, [], ◌∷◌, ◌++◌, Option, None, Some, Result, Ok, Err, flat_map, Family, Message, QueryMessage}
use Rattle.mq_link.proofs.Common.{OldReport, LeaveMessage, ReportMessage, WireFault, RecordView, Timing, GroupChange, ElectionState, returned, general_is_due}
use Rattle.mq_link.proofs.Common.{general_messages, AllFit, ScheduledGroup, SentQuery, GeneralQuery, GroupQuery, SourcesQuery, messages_due, DropReason}
use Rattle.mq_link.proofs.Common.{Refusal, Repeated, Configuration, Refused, per_query, Envelope, setting_of, taken_in, taken_or_dropped, drop_reason, read_of}
use Rattle.mq_link.proofs.Common.{pseudo_of, counting_read, receipt_of, Setting, Statement, RecordOf, OlderJoin, OlderLeave, Outcome, leaving, limit_passed}
use Rattle.mq_link.proofs.Common.{unless_passed, changed_by, after_sending, sent_at_once, changed_or_refused, change_in, stated, stated_alone, Seen, Entrance}
use Rattle.mq_link.proofs.Common.{Stops}
use Rattle.mq_link.proofs.Common.{GoesOn, entrance, is_repeated, seen_after, judged_from, judged, all_judged, Groups, LinkState, with_group, Step}
use Rattle.mq_link.proofs.Common.{groups_expired, queries_due, tick_of, moment_of}
use Rattle.std.specs.FinMap as map
use Rattle.std.specs.FinSet as set
use Rattle.mq_sched.proofs.FittingRounds.{all_fit}
use Rattle.mq_link.proofs.{StatedAlone.alone_by}

fit_append : (n : ℕ) (xs ys : List SentQuery) → AllFit n xs → AllFit n ys → AllFit n (xs ++ ys)
fit_append n [] ys a b = b
fit_append n (GeneralQuery ∷ xs) ys a b = fit_append n xs ys a b
fit_append n (GroupQuery g f ∷ xs) ys a b = fit_append n xs ys a b
fit_append n (SourcesQuery g f ss ∷ xs) ys a b = (a.0, fit_append n xs ys a.1 b)

-- the queries due for a group
fits_if : (n : ℕ) (b : Bool) → AllFit n (cond b (GeneralQuery ∷ []) [])
fits_if n true = tt
fits_if n false = tt

pub fits-general_messages : (n : ℕ) (configured : Timing) (now : ℕ) (e : ElectionState) → AllFit n (general_messages configured now e)
fits-general_messages n configured now e = fits_if n (general_is_due now (returned configured now e).role)

-- the queries of a tick
fits_each : (n : ℕ) (timing : Timing) (now : ℕ) (es : List (ℕ × ScheduledGroup)) →
    AllFit n (flat_map (λ (e : ℕ × ScheduledGroup). messages_due n timing now e.0 e.1) es)
fits_each n timing now [] = tt
fits_each n timing now (e ∷ es) =
    fit_append n (messages_due n timing now e.0 e.1) (flat_map (λ (e : ℕ × ScheduledGroup). messages_due n timing now e.0 e.1) es)
    (all_fit n timing now e.0 e.1) (fits_each n timing now es)

pub fits-queries_due : (family : Family) (timing : Timing) (now : ℕ) (groups : Groups) → AllFit (per_query family) (queries_due family timing now groups)
unfolding queries_due
fits-queries_due family timing now groups = fits_each (per_query family) timing now (map.entries groups)

pub fits-tick_of : (config : Configuration) (now : ℕ) (state : LinkState) → AllFit (per_query config.family) (tick_of config now state).queries
fits-tick_of config now state =
    let moment = moment_of state now in
    let tick = tick_of config now state in
    fit_append (per_query config.family) (general_messages config.timing moment state.election)
    (queries_due config.family tick.timing moment (groups_expired moment state.groups))
    (fits-general_messages (per_query config.family) config.timing moment state.election)
    (fits-queries_due config.family tick.timing moment (groups_expired moment state.groups))

-- the queries of a record
unless_refused : (n : ℕ) (name : Option Refusal) (before after : Groups) (queries : List SentQuery) → AllFit n queries →
    AllFit n (unless_passed name before after queries).queries
unless_refused n (Some name) before after queries fit = tt
unless_refused n None before after queries fit = fit

fits_changed : (at : Setting) (group : ℕ) (groups : Groups) (change : Option GroupChange) →
    AllFit (per_query at.config.family) (changed_or_refused at group groups change).queries
fits_changed at group groups None = tt
fits_changed at group groups (Some change) =
    let e = changed_by at group groups change in
    let after = with_group groups group (after_sending at e) in
    unless_refused (per_query at.config.family) (limit_passed at.config.limits after (after_sending at e)) groups after (sent_at_once at group e)
    (all_fit (per_query at.config.family) at.election.timing at.now group e)

pub fits-stated : (at : Setting) (group : ℕ) (statement : Statement) (groups : Groups) →
    AllFit (per_query at.config.family) (stated at group statement groups).queries
unfolding stated
fits-stated at group statement groups = fits_changed at group groups (change_in at group statement groups)

fits_unless : (n : ℕ) (repeated : Bool) (a b : Outcome) → AllFit n a.queries → AllFit n b.queries → AllFit n (cond repeated a b).queries
fits_unless n true a b first second = first
fits_unless n false a b first second = second

fits_from : (at : Setting) (seen : Seen) (r : RecordView ℕ) (groups : Groups) (e : Entrance) →
    AllFit (per_query at.config.family) (judged_from at seen r groups e).queries
fits_from at seen r groups (Stops verdict) = tt
fits_from at seen r groups (GoesOn kind) =
    let statement = RecordOf kind (set.from_list r.sources) in
    fits_unless (per_query at.config.family) (is_repeated groups seen r.group) (leaving groups (Refused Repeated))
    (stated at r.group statement groups) tt (fits-stated at r.group statement groups)

pub fits-judged : (at : Setting) (seen : Seen) (r : RecordView ℕ) (groups : Groups) → AllFit (per_query at.config.family) (judged at seen r groups).queries
unfolding judged
fits-judged at seen r groups = fits_from at seen r groups (entrance at.config r)

pub fits-all_judged : (at : Setting) (seen : Seen) (rs : List (RecordView ℕ)) (groups : Groups) →
    AllFit (per_query at.config.family) (all_judged at seen rs groups).queries
fits-all_judged at seen [] groups = tt
fits-all_judged at seen (r ∷ rs) groups =
    let first = judged at seen r groups in
    let rest = all_judged at (seen_after at.config r groups seen) rs first.groups in
    fit_append (per_query at.config.family) first.queries rest.queries (fits-judged at seen r groups)
    (fits-all_judged at (seen_after at.config r groups seen) rs first.groups)

fits-stated_alone : (at : Setting) (group : ℕ) (statement : Statement) (groups : Groups) →
    AllFit (per_query at.config.family) (stated_alone at group statement groups).queries
fits-stated_alone at group statement groups =
    alone_by (λ o. AllFit (per_query at.config.family) o.queries) at group statement groups (fits-stated at group statement groups) tt

-- the queries of a datagram
fits_taken : (config : Configuration) (envelope : Envelope) (message : Message ℕ) (tick : Step) → AllFit (per_query config.family) tick.queries →
    AllFit (per_query config.family) (taken_in config envelope message tick).step.queries
unfolding taken_in
fits_taken config envelope (QueryMessage query) tick fit = fit
fits_taken config envelope (OldReport version group) tick fit =
    let at = setting_of config tick.state in
    fit_append (per_query config.family) tick.queries (stated_alone at group (OlderJoin version) tick.state.groups).queries fit
    (fits-stated_alone at group (OlderJoin version) tick.state.groups)
fits_taken config envelope (LeaveMessage group) tick fit =
    let at = setting_of config tick.state in
    fit_append (per_query config.family) tick.queries (stated_alone at group OlderLeave tick.state.groups).queries fit
    (fits-stated_alone at group OlderLeave tick.state.groups)
fits_taken config envelope (ReportMessage records) tick fit =
    let at = setting_of config tick.state in
    fit_append (per_query config.family) tick.queries (all_judged at map.empty records tick.state.groups).queries fit
    (fits-all_judged at map.empty records tick.state.groups)

fits_unless_dropped : (config : Configuration) (envelope : Envelope) (tick : Step) (read : Result (Message ℕ) WireFault) (reason : Option DropReason)
    → AllFit (per_query config.family) tick.queries → AllFit (per_query config.family) (taken_or_dropped config envelope tick read reason).step.queries
fits_unless_dropped config envelope tick read (Some reason) fit = fit
fits_unless_dropped config envelope tick (Err fault) None fit = fit
fits_unless_dropped config envelope tick (Ok message) None fit = fits_taken config envelope message (counting_read (Ok message) tick) fit

pub fits-receipt_of : (config : Configuration) (envelope : Envelope) (bytes : List ℕ) (now : ℕ) (state : LinkState) →
    AllFit (per_query config.family) (receipt_of config envelope bytes now state).step.queries
fits-receipt_of config envelope bytes now state =
    let read = read_of config.family (pseudo_of config.family envelope bytes) bytes in
    fits_unless_dropped config envelope (tick_of config now state) read (drop_reason config envelope read) (fits-tick_of config now state)
