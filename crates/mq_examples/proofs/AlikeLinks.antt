-- Links with one group whose sources all have one timer: what a Report and a tick do to it.
use Rattle.mq_examples.proofs.Common.{◌≡◌, ℕ, ◌+◌, Bool, true, false, cond, ◌&&◌, refl, List, [], ◌∷◌, ◌++◌, length, Option, None, Some, Ok, ap, ◌∙◌, ltb, leb}
use Rattle.mq_examples.proofs.Common.{eqb, arith, max, sum_by, nat_cmp, option_and_then, unwrap_or, is_some, nat_tests, find, by_order, Family, ReportMessage}
use Rattle.mq_examples.proofs.Common.{RecordView, Allow, Block, default_timing, SourceTimer, Running, SentQuery, sources_queries, ElectionState, ticked}
use Rattle.mq_examples.proofs.Common.{general_messages, Limits, Taken, per_query, v1_mutes_leave, Configuration, Envelope, count_read, drop_reason, Counters}
use Rattle.mq_examples.proofs.Common.{Applied, Refused, count_verdicts, limit_passed_by, Setting, GoesOn, entrance, querier, saying, ordered, kept_in, without}
use Rattle.mq_examples.proofs.Common.{append-nil, sum_by-cons, Repeated}
use Rattle.mq_table.specs.Maps.{with_entry}
use Rattle.std.specs.declared.cmp.Ordering.TheVariants.{Equal}
use Rattle.mq_link.specs.Configured.{configured}
use Rattle.mq_examples.proofs.KnownGroups.{Known, KnownChange, nothing_known, is_empty, expired_in, change_in}
use Rattle.mq_examples.proofs.{KnownSendings.changed_in, KnownSendings.sent_in, KnownSendings.round_in, Alike.Ascend, Alike.tied_to_itself, Alike.count-each}
use Rattle.mq_examples.proofs.KnownLinks.{KnownGroups, KnownLink, KnownStep, sent_from, tick_in}
use Rattle.mq_examples.proofs.KnownRecords.{group_in, with_known, passed_in, size_in, scheduled_in, Record, stated_in, KnownOutcome, passed_or_not}
use Rattle.mq_examples.proofs.KnownRecords.{stated_known, changed_by_known, judged_from_known, judged_known}
use Rattle.mq_examples.proofs.KnownReceipts.{KnownReceipt, with_known_outcomes, counting_known, taken_or_dropped_known, receipt_known}
use Rattle.mq_examples.proofs.AlikeGroups.{all_as, some_left, sends, counts, blocked, allowed}

abbrev pub one : ℕ → Known → KnownGroups
one group k = (group, k) ∷ []

-- a change of the one group
kept-one : (f : ℕ → Known → Option Known) (group : ℕ) (k : Known) → kept_in f (one group k) ≡ with_entry group (f group k) []
kept-one f group k = ap (λ b. with_entry group (option_and_then (f group) (cond b (Some k) None)) []) (tied_to_itself group)

pub group-one : (group : ℕ) (k : Known) → group_in (one group k) group ≡ k
group-one group k = ap (λ b. unwrap_or (cond b (Some k) None) nothing_known) (tied_to_itself group)

same_number : (group : ℕ) → nat_cmp group group ≡ Equal
same_number group = grind (arith, nat_tests)

with-one : (group : ℕ) (k left : Known) → is_empty left ≡ false → with_known (one group k) group left ≡ one group left
with-one group k left held =
    ap (λ b. cond b (ordered (without group (one group k))) (ordered ((group, left) ∷ one group k))) held
    ∙ ap (λ o. by_order o ((group, left) ∷ one group k) ((group, left) ∷ []) ((group, k) ∷ (group, left) ∷ [])) (same_number group)

-- a configuration with the default timing and without the source-specific range
abbrev pub plain : Family → Limits → (own : ℕ) → Configuration
plain family limits own = configured family default_timing limits own false

-- a link with one group, before its second general query
abbrev pub link_of : (last : ℕ) → Counters → KnownGroups → KnownLink
link_of last counters groups = record { groups = groups; election = querier 31250 1; last = last; counters = counters }

-- Conditions under which nothing of a Report for a group and these sources is refused.
pub record Suits (family : Family) (limits : Limits) (own : ℕ) (envelope : Envelope) (group : ℕ) (ss : List ℕ) : Type 0 where
  pub ascend : Ascend ss
  pub taken : (r : RecordView ℕ) → drop_reason (plain family limits own) envelope (Ok (ReportMessage (r ∷ []))) ≡ None
  pub allow : entrance (plain family limits own) (saying group 5 ss) ≡ GoesOn Allow
  pub block : entrance (plain family limits own) (saying group 6 ss) ≡ GoesOn Block
  pub unscheduled : limit_passed_by limits 1 (length ss) (length ss) 0 ≡ None
  pub scheduled : limit_passed_by limits 1 (length ss) (length ss) 1 ≡ None

held : (timer : SourceTimer) (due : Option ℕ) (s : ℕ) (ss : List ℕ) → Ascend (s ∷ ss) → is_empty (all_as timer due (s ∷ ss)) ≡ false
held timer due s ss ascend = ap (λ n. eqb n 0) (count-each timer (s ∷ ss) ascend) ∙ some_left (length ss)

passed-one : (limits : Limits) (group : ℕ) (timer : SourceTimer) (due : Option ℕ) (ss : List ℕ) (schedules : ℕ) → Ascend ss →
    sum_by scheduled_in (all_as timer due ss ∷ []) ≡ schedules → limit_passed_by limits 1 (length ss) (length ss) schedules ≡ None →
    passed_in limits (one group (all_as timer due ss)) (all_as timer due ss) ≡ None
passed-one limits group timer due ss schedules ascend is none =
    (λ i. limit_passed_by limits 1 (size i) ((sum_by-cons size_in (all_as timer due ss) [] ∙ alone (size_in (all_as timer due ss)) ∙ size) i) (is i)) ∙ none
  where
    size : size_in (all_as timer due ss) ≡ length ss
    size = count-each timer ss ascend

    alone : (n : ℕ) → n + 0 ≡ n
    alone n = omega arith

-- a querier meets records at a moment
abbrev pub meeting : Family → Limits → (own now : ℕ) → Setting
meeting family limits own now = record { config = plain family limits own; election = querier 31250 1; now = now }

-- a record that is applied leaves one group and sends these queries
abbrev pub applied_to : KnownGroups → List SentQuery → KnownOutcome
applied_to groups queries = record { verdict = Applied; groups = groups; queries = queries }

changed : (family : Family) (limits : Limits) (own now group : ℕ) (gs : KnownGroups) (change : KnownChange) (e left : Known)
    (queries : List SentQuery) → changed_in true default_timing now change (group_in gs group).schedule ≡ e → round_in default_timing now e ≡ left →
    sent_in (per_query family) default_timing now group e ≡ queries → with_known gs group left ≡ one group left →
    passed_in limits (one group left) left ≡ None → changed_by_known (meeting family limits own now) group gs (Some change)
    ≡ applied_to (one group left) queries
changed family limits own now group gs change e left queries is_changed is_round is_sent is_one none =
    ap outcome is_changed
    ∙ (λ i. passed_or_not (passed_in limits (with_known gs group (is_round i)) (is_round i)) gs (with_known gs group (is_round i)) (is_sent i))
    ∙ (λ i. passed_or_not (passed_in limits (is_one i) left) gs (is_one i) queries) ∙ ap (λ name. passed_or_not name gs (one group left) queries) none
  where
    outcome : Known → KnownOutcome
    outcome x =
        let after = round_in default_timing now x in
        passed_or_not (passed_in limits (with_known gs group after) after) gs (with_known gs group after)
        (sent_in (per_query family) default_timing now group x)

not_both : (b : Bool) → (b && false) ≡ false
not_both b = grind arith

-- All are blocked at a moment.
pub all_blocked : (family : Family) (limits : Limits) (own : ℕ) (envelope : Envelope) (now deadline group s : ℕ) (ss : List ℕ) →
    Suits family limits own envelope group (s ∷ ss) → ltb (now + 2000) deadline ≡ true
    → judged_known (meeting family limits own now) [] (saying group 6 (s ∷ ss)) (one group (all_as (Running deadline 0) None (s ∷ ss)))
    ≡ applied_to (one group (all_as (Running (now + 2000) 1) (Some (now + 1000)) (s ∷ ss))) (sources_queries (per_query family) group false (s ∷ ss))
all_blocked family limits own envelope now deadline group s ss suits above =
    ap (judged_from_known at [] r gs) suits.block
    ∙ ap (λ b. cond b (record { verdict = Refused Repeated; groups = gs; queries = [] }) (stated_known at group (Record Block (s ∷ ss)) gs))
    (not_both (is_some (find nat_cmp group gs)))
    ∙ ap (λ k. changed_by_known at group gs (stated_in (v1_mutes_leave family) false default_timing now (Record Block (s ∷ ss)) k)) (group-one group before)
    ∙ changed family limits own now group gs (change_in default_timing now before Block (s ∷ ss))
    (all_as (Running (now + 2000) 2) (Some now) (s ∷ ss)) after (sources_queries (per_query family) group false (s ∷ ss))
    (ap (λ k. changed_in true default_timing now (change_in default_timing now before Block (s ∷ ss)) k.schedule) (group-one group before) ∙
    blocked now deadline s ss suits.ascend above) (counts now (now + 2000) 2 now s ss suits.ascend is_now)
    (sends (per_query family) now group (now + 2000) 2 now (s ∷ ss) suits.ascend is_now refl not_above)
    (with-one group before after (held (Running (now + 2000) 1) (Some (now + 1000)) s ss suits.ascend))
    (passed-one limits group (Running (now + 2000) 1) (Some (now + 1000)) (s ∷ ss) 1 suits.ascend refl suits.scheduled)
  where
    at : Setting
    at = meeting family limits own now

    r : RecordView ℕ
    r = saying group 6 (s ∷ ss)

    before : Known
    before = all_as (Running deadline 0) None (s ∷ ss)

    after : Known
    after = all_as (Running (now + 2000) 1) (Some (now + 1000)) (s ∷ ss)

    gs : KnownGroups
    gs = one group before

    is_now : leb now now ≡ true
    is_now = grind (arith, nat_tests)

    not_above : ltb (now + 2000) (now + 2000) ≡ false
    not_above = grind (arith, nat_tests)

-- All are allowed at a moment, where no group is held.
pub all_allowed : (family : Family) (limits : Limits) (own : ℕ) (envelope : Envelope) (now group s : ℕ) (ss : List ℕ) →
    Suits family limits own envelope group (s ∷ ss)
    → judged_known (meeting family limits own now) [] (saying group 5 (s ∷ ss)) [] ≡ applied_to (one group (all_as (Running (now + 260000) 0) None (s ∷ ss))) []
all_allowed family limits own envelope now group s ss suits =
    ap (judged_from_known (meeting family limits own now) [] (saying group 5 (s ∷ ss)) []) suits.allow
    ∙ changed family limits own now group [] (change_in default_timing now nothing_known Allow (s ∷ ss)) after after [] (allowed now s ss suits.ascend)
    refl refl (ap (λ b. cond b (ordered (without group [])) (ordered ((group, after) ∷ []))) (held (Running (now + 260000) 0) None s ss suits.ascend))
    (passed-one limits group (Running (now + 260000) 0) None (s ∷ ss) 0 suits.ascend refl suits.unscheduled)
  where
    after : Known
    after = all_as (Running (now + 260000) 0) None (s ∷ ss)

-- the step of a link without a general query, with one group held or none
abbrev pub step_to : (now : ℕ) → Counters → KnownGroups → List SentQuery → KnownStep
step_to now counters groups queries = record { link = link_of now counters groups; queries = queries; timing = default_timing }

-- A Report of one record, which is applied.
pub reported : (family : Family) (limits : Limits) (own : ℕ) (envelope : Envelope) (now : ℕ) (counters : Counters) (l : KnownLink) (r : RecordView ℕ)
    (before after : KnownGroups) (queries : List SentQuery) → drop_reason (plain family limits own) envelope (Ok (ReportMessage (r ∷ []))) ≡ None →
    tick_in (plain family limits own) now l ≡ step_to now counters before [] → judged_known (meeting family limits own now) [] r before
    ≡ applied_to after queries → receipt_known (plain family limits own) envelope (Ok (ReportMessage (r ∷ []))) now l
    ≡ record { step = step_to now (count_verdicts (Applied ∷ []) (count_read (Ok (ReportMessage (r ∷ []))) counters)) after queries; answer = Taken 1 0 0 }
reported family limits own envelope now counters l r before after queries taken ticks judges =
    (λ i. taken_or_dropped_known config envelope (ticks i) (Ok (ReportMessage (r ∷ []))) (taken i)) ∙ ap receipt judges
    ∙ ap (λ qs. record { step = step_to now after_counts after qs; answer = Taken 1 0 0 }) (append-nil queries)
  where
    config : Configuration
    config = plain family limits own

    after_counts : Counters
    after_counts = count_verdicts (Applied ∷ []) (count_read (Ok (ReportMessage (r ∷ []))) counters)

    receipt : KnownOutcome → KnownReceipt
    receipt o = with_known_outcomes (counting_known (Ok (ReportMessage (r ∷ []))) (step_to now counters before []))
        (record { verdicts = o.verdict ∷ []; groups = o.groups; queries = o.queries ++ [] })

-- A tick at which timers run on and a round is due, or not.
pub tick-one : (family : Family) (limits : Limits) (own now : ℕ) (l : KnownLink) (group : ℕ) (before left after : Known) (queries : List SentQuery) →
    l.groups ≡ one group before → expired_in (max l.last now) before ≡ Some left →
    round_in (ticked default_timing (max l.last now) l.election).timing (max l.last now) left ≡ after →
    sent_in (per_query family) (ticked default_timing (max l.last now) l.election).timing (max l.last now) group left ≡ queries
    → tick_in (plain family limits own) now l ≡ record {
      link = record {
        groups = one group after;
        election = ticked default_timing (max l.last now) l.election;
        last = max l.last now;
        counters = l.counters;
      };
      queries = general_messages default_timing (max l.last now) l.election ++ queries;
      timing = (ticked default_timing (max l.last now) l.election).timing;
    }
tick-one family limits own now l group before left after queries is_group is_left is_after is_sent =
    ap stepped (
    ap (kept_in (λ _. expired_in moment)) is_group ∙ kept-one (λ _. expired_in moment) group before ∙ ap (λ k. with_entry group k []) is_left)
    ∙ (λ i. step_of (kept-one (λ _ k. Some (round_in election.timing moment k)) group left i)
    (append-nil (sent_in (per_query family) election.timing moment group left) i)) ∙ (λ i. step_of (one group (is_after i)) (is_sent i))
  where
    moment : ℕ
    moment = max l.last now

    election : ElectionState
    election = ticked default_timing moment l.election

    step_of : KnownGroups → List SentQuery → KnownStep
    step_of groups qs = record {
      link = record { groups = groups; election = election; last = moment; counters = l.counters };
      queries = general_messages default_timing moment l.election ++ qs;
      timing = election.timing;
    }

    stepped : KnownGroups → KnownStep
    stepped groups = step_of (kept_in (λ _ k. Some (round_in election.timing moment k)) groups) (sent_from family election.timing moment groups)

-- A tick at which the group goes.
pub tick-gone : (family : Family) (limits : Limits) (own now : ℕ) (l : KnownLink) (group : ℕ) (before : Known) → l.groups ≡ one group before →
    expired_in (max l.last now) before ≡ None → tick_in (plain family limits own) now l ≡ record {
      link = record {
        groups = [];
        election = ticked default_timing (max l.last now) l.election;
        last = max l.last now;
        counters = l.counters;
      };
      queries = general_messages default_timing (max l.last now) l.election ++ [];
      timing = (ticked default_timing (max l.last now) l.election).timing;
    }
tick-gone family limits own now l group before is_group is_gone =
    ap stepped (
    ap (kept_in (λ _. expired_in moment)) is_group ∙ kept-one (λ _. expired_in moment) group before ∙ ap (λ k. with_entry group k []) is_gone)
  where
    moment : ℕ
    moment = max l.last now

    election : ElectionState
    election = ticked default_timing moment l.election

    stepped : KnownGroups → KnownStep
    stepped groups = record {
      link = record {
        groups = kept_in (λ _ k. Some (round_in election.timing moment k)) groups;
        election = election;
        last = moment;
        counters = l.counters;
      };
      queries = general_messages default_timing moment l.election ++ sent_from family election.timing moment groups;
      timing = election.timing;
    }
