-- The effect of records and queries on links whose groups are known one by one, for the worked examples.
use Rattle.mq_examples.proofs.Common.{◌≡◌, ℕ, ◌+◌, Bool, true, false, cond, not, ◌&&◌, refl, List, [], ◌∷◌, ◌++◌, length, Option, None, Some, sym, ap, ◌∙◌, leb}
use Rattle.mq_examples.proofs.Common.{eqb, suc, arith, list_map, nat_cmp_total, option_map, unwrap_or, is_some, sum_by, find, nat_cmp, eq_by_cmp, RecordView}
use Rattle.mq_examples.proofs.Common.{IsEx, ToIn, Timing, Set, ∅, lowered_by_query, older_host_present, ScheduledGroup, SentQuery, after_change, ElectionState}
use Rattle.mq_examples.proofs.Common.{is_querier, loses_role, Limits, v1_mutes_leave, per_query, Configuration, is_allowed, Verdict, Applied, Denied, Ignored}
use Rattle.mq_examples.proofs.Common.{Refused, Groups, LinkState, unheld, group_at, with_group, sources_of, schedules_of, one_if, Statement, RecordOf}
use Rattle.mq_examples.proofs.Common.{OlderJoin, OlderLeave, change_stated, limit_passed_by, limit_passed, Outcome, Setting, leaving, unless_passed}
use Rattle.mq_examples.proofs.Common.{sent_at_once, after_sending, changed_or_refused, is_muted, asking_nothing, Seen, met, Entrance, Stops, GoesOn, entrance}
use Rattle.mq_examples.proofs.Common.{seen_by, judged_from, Outcomes, and_then, all_judged, Entries, ordered, ordered-known, entries-known, len-known, kept_in}
use Rattle.mq_examples.proofs.Common.{kept_as, without, remove-known, with_values, find-with_values, ordered-with_values, sum_by-cons, Kind, Refusal, Repeated}
use Rattle.mq_count.specs.declared.versions.OlderVersion.{OlderVersion, TheVariants.V1, TheVariants.V2}
use Rattle.mq_wire.specs.declared.query.{Query.Query, QueryVersion.QueryVersion, QueryVersion.TheVariants.Older, QueryVersion.TheVariants.Current}
use Rattle.mq_table.specs.OlderHosts.{older_host}
use Rattle.mq_link.specs.Record.{stated, judged, stated_alone}
use Rattle.mq_link.specs.Heard.{suppresses, some_named, asked_by, groups_cleared, group_lowered, groups_lowered, election_after, query_heard}
use Rattle.mq_examples.proofs.KnownGroups.{Known, KnownChange, as_held, as_change, group_of, nothing_known, is_empty, is_empty-known, named_in}
use Rattle.mq_examples.proofs.KnownGroups.{change_in as table_in, change-known, translated_change_in, translated-known}
use Rattle.mq_examples.proofs.KnownSendings.{changed_in, changed-known, sent_in, sent-known, round_in, round-known, cleared_in, cleared-known, lowered_in}
use Rattle.mq_examples.proofs.{KnownSendings.lowered-known, KnownLinks.KnownGroups, KnownLinks.as_groups, KnownLinks.KnownLink, KnownLinks.as_link}
use Rattle.std.specs.FinMap as map
use Rattle.std.specs.FinSet as set

-- one group of them
abbrev pub group_in : KnownGroups → ℕ → Known
group_in gs group = unwrap_or (find nat_cmp group gs) nothing_known

get-known : (gs : KnownGroups) (group : ℕ) → map.get (as_groups gs) group ≡ option_map as_held (find nat_cmp group gs)
get-known gs group = map.get-from_entries nat_cmp_total (with_values as_held gs) group ∙ find-with_values as_held gs group

held-known : (gs : KnownGroups) (group : ℕ) → map.contains_key (as_groups gs) group ≡ is_some (find nat_cmp group gs)
held-known gs group = ap is_some (get-known gs group) ∙ either (find nat_cmp group gs)
  where
    either : (k : Option Known) → is_some (option_map as_held k) ≡ is_some k
    either None = refl
    either (Some k) = refl

pub group-known : (gs : KnownGroups) (group : ℕ) → group_at (as_groups gs) group ≡ as_held (group_in gs group)
group-known gs group = ap (λ e. unwrap_or e unheld) (get-known gs group) ∙ either (find nat_cmp group gs)
  where
    either : (k : Option Known) → unwrap_or (option_map as_held k) unheld ≡ as_held (unwrap_or k nothing_known)
    either None = refl
    either (Some k) = refl

-- these groups in their order
ordered_groups : (gs : KnownGroups) → as_groups (ordered gs) ≡ as_groups gs
ordered_groups gs = ap map.from_entries (sym (ordered-with_values as_held gs)) ∙ same gs
  where
    same : (gs : KnownGroups) → map.from_entries {R = nat_cmp} (ordered (with_values as_held gs)) ≡ as_groups gs
    same gs = ordered-known (with_values as_held gs)

abbrev pub with_known : KnownGroups → ℕ → Known → KnownGroups
with_known gs group k = cond (is_empty k) (ordered (without group gs)) (ordered ((group, k) ∷ gs))

without-values : (group : ℕ) (gs : KnownGroups) → without group (with_values as_held gs) ≡ with_values as_held (without group gs)
without-values group [] = refl
without-values group (e ∷ gs) = at_front (not (eq_by_cmp nat_cmp group e.0)) (without-values group gs)
  where
    at_front : (b : Bool) → without group (with_values as_held gs) ≡ with_values as_held (without group gs) →
        cond b ((e.0, as_held e.1) ∷ without group (with_values as_held gs)) (without group (with_values as_held gs))
        ≡ with_values as_held (cond b (e ∷ without group gs) (without group gs))
    at_front true is = ap (λ rest. (e.0, as_held e.1) ∷ rest) is
    at_front false is = is

with_group-known : (gs : KnownGroups) (group : ℕ) (k : Known) → with_group (as_groups gs) group (as_held k) ≡ as_groups (with_known gs group k)
with_group-known gs group k =
    (λ i. cond (is_empty-known k i) (map.remove (as_groups gs) group) (map.insert (as_groups gs) group (as_held k))) ∙ by_test (is_empty k)
  where
    by_test : (b : Bool) → cond b (map.remove (as_groups gs) group) (map.insert (as_groups gs) group (as_held k))
        ≡ as_groups (cond b (ordered (without group gs)) (ordered ((group, k) ∷ gs)))
    by_test true = remove-known (with_values as_held gs) group ∙ ap map.from_entries (without-values group gs) ∙ sym (ordered_groups (without group gs))
    by_test false = sym (ordered_groups ((group, k) ∷ gs))

-- limits
abbrev pub values_of : {X : Type 0} → Entries X → List X
values_of es = list_map (λ (e : ℕ × _). e.1) es

abbrev pub size_in : Known → ℕ
size_in k = length (ordered k.sources)

abbrev pub scheduled_in : Known → ℕ
scheduled_in k = one_if (is_some k.schedule.group_query) + one_if (is_some k.schedule.sources_due)

sum-known : (f : ScheduledGroup → ℕ) (g : Known → ℕ) → ((k : Known) → f (as_held k) ≡ g k) → (gs : KnownGroups) → sum_by f (map.values (as_groups gs))
    ≡ sum_by g (values_of (ordered gs))
sum-known f g is gs = ap (λ es. sum_by f (values_of es)) (entries-known (with_values as_held gs) ∙ ordered-with_values as_held gs) ∙ each (ordered gs)
  where
    each : (es : KnownGroups) → sum_by f (values_of (with_values as_held es)) ≡ sum_by g (values_of es)
    each [] = refl
    each (e ∷ es) = sum_by-cons f (as_held e.1) (values_of (with_values as_held es)) ∙ (λ i. is e.1 i + each es i) ∙ sym (sum_by-cons g e.1 (values_of es))

abbrev pub passed_in : Limits → KnownGroups → Known → Option Refusal
passed_in limits gs changed =
    limit_passed_by limits (length (ordered gs)) (size_in changed) (sum_by size_in (values_of (ordered gs))) (sum_by scheduled_in (values_of (ordered gs)))

count-known : (gs : KnownGroups) → map.len (as_groups gs) ≡ length (ordered gs)
count-known gs = len-known (with_values as_held gs) ∙ ap length (ordered-with_values as_held gs) ∙ mapped (ordered gs)
  where
    mapped : (es : KnownGroups) → length (with_values as_held es) ≡ length es
    mapped [] = refl
    mapped (e ∷ es) = ap (λ n. suc n) (mapped es)

passed-known : (limits : Limits) (gs : KnownGroups) (k : Known) → limit_passed limits (as_groups gs) (as_held k) ≡ passed_in limits gs k
passed-known limits gs k =
    λ i. limit_passed_by limits (count-known gs i) (len-known k.sources i) (sum-known sources_of size_in (λ k. len-known k.sources) gs i)
    (sum-known schedules_of scheduled_in (λ k. refl) gs i)

-- a statement, with the named sources as a list
pub data KnownStatement : Type 0 where
  Record : (kind : Kind) (named : List ℕ) → KnownStatement
  Join : (version : OlderVersion) → KnownStatement
  Leave : KnownStatement

abbrev pub as_statement : KnownStatement → Statement
as_statement (Record kind named) = RecordOf kind (set.from_list named)
as_statement (Join version) = OlderJoin version
as_statement Leave = OlderLeave

abbrev pub joined_in : OlderVersion → Timing → ℕ → Known → Known
joined_in V1 timing now k = record { mode = k.mode; sources = k.sources; v1 = Some (now + older_host_present timing); v2 = k.v2; schedule = k.schedule }
joined_in V2 timing now k = record { mode = k.mode; sources = k.sources; v1 = k.v1; v2 = Some (now + older_host_present timing); schedule = k.schedule }

abbrev pub stated_in : (v1_mutes_leave muted : Bool) → Timing → ℕ → KnownStatement → Known → Option KnownChange
stated_in mutes muted timing now (Record kind named) k = translated_change_in mutes muted timing now k kind named
stated_in mutes muted timing now (Join version) k =
    cond muted None (Some (record { after = joined_in version timing now (table_in timing now k IsEx []).after; query = ∅; query_group = false }))
stated_in mutes muted timing now Leave k = translated_change_in mutes muted timing now k ToIn []

joined-known : (version : OlderVersion) (timing : Timing) (now : ℕ) (k : Known) → older_host version timing now (group_of k)
    ≡ group_of (joined_in version timing now k)
joined-known version timing now k = grind arith

change_stated-known : (mutes muted : Bool) (timing : Timing) (now : ℕ) (st : KnownStatement) (k : Known) →
    change_stated mutes muted timing now (as_statement st) (group_of k) ≡ option_map as_change (stated_in mutes muted timing now st k)
change_stated-known mutes muted timing now (Record kind named) k = translated-known mutes muted timing now k kind named
change_stated-known mutes true timing now (Join version) k = refl
change_stated-known mutes false timing now (Join version) k =
    (λ i. Some (asking_nothing (older_host version timing now (change-known timing now k IsEx [] i).group)))
    ∙ ap (λ g. Some (asking_nothing g)) (joined-known version timing now (table_in timing now k IsEx []).after)
change_stated-known mutes muted timing now Leave k = translated-known mutes muted timing now k ToIn []

-- the outcome of a statement
pub record KnownOutcome : Type 0 where
  pub verdict : Verdict
  pub groups : KnownGroups
  pub queries : List SentQuery

abbrev pub as_outcome : KnownOutcome → Outcome
as_outcome o = record { verdict = o.verdict; groups = as_groups o.groups; queries = o.queries }

abbrev pub passed_or_not : Option Refusal → (before after : KnownGroups) → List SentQuery → KnownOutcome
passed_or_not (Some name) before after queries = record { verdict = Refused name; groups = before; queries = [] }
passed_or_not None before after queries = record { verdict = Applied; groups = after; queries = queries }

abbrev pub changed_by_known : Setting → ℕ → KnownGroups → Option KnownChange → KnownOutcome
changed_by_known at group gs None = record { verdict = Ignored; groups = gs; queries = [] }
changed_by_known at group gs (Some change) =
    let e = changed_in (is_querier at.election.role) at.election.timing at.now change (group_in gs group).schedule in
    let left = round_in at.election.timing at.now e in
    let after = with_known gs group left in
    passed_or_not (passed_in at.config.limits after left) gs after (sent_in (per_query at.config.family) at.election.timing at.now group e)

unless_passed-known : (name : Option Refusal) (before after : KnownGroups) (queries : List SentQuery) →
    unless_passed name (as_groups before) (as_groups after) queries ≡ as_outcome (passed_or_not name before after queries)
unless_passed-known name before after queries = grind arith

changed_or_refused-known : (at : Setting) (group : ℕ) (gs : KnownGroups) (change : Option KnownChange) → changed_or_refused at group (as_groups gs)
    (option_map as_change change) ≡ as_outcome (changed_by_known at group gs change)
changed_or_refused-known at group gs None = refl
changed_or_refused-known at group gs (Some change) =
    ap judged_so (ap (λ s. after_change (is_querier at.election.role) at.election.timing at.now (as_change change) s.schedule) (group-known gs group)
    ∙ changed-known (is_querier at.election.role) at.election.timing at.now change (group_in gs group).schedule)
    ∙ (λ i. unless_passed (limit_passed at.config.limits (with_group (as_groups gs) group (round-known at.election.timing at.now e i))
    (round-known at.election.timing at.now e i)) (as_groups gs) (with_group (as_groups gs) group (round-known at.election.timing at.now e i))
    (sent-known (per_query at.config.family) at.election.timing at.now group e i))
    ∙ (λ i. unless_passed (limit_passed at.config.limits (with_group-known gs group left i) (as_held left)) (as_groups gs)
    (with_group-known gs group left i) (sent_in (per_query at.config.family) at.election.timing at.now group e))
    ∙ (λ i. unless_passed (passed-known at.config.limits (with_known gs group left) left i) (as_groups gs) (as_groups (with_known gs group left))
    (sent_in (per_query at.config.family) at.election.timing at.now group e))
    ∙ unless_passed-known (passed_in at.config.limits (with_known gs group left) left) gs (with_known gs group left)
    (sent_in (per_query at.config.family) at.election.timing at.now group e)
  where
    e : Known
    e = changed_in (is_querier at.election.role) at.election.timing at.now change (group_in gs group).schedule

    left : Known
    left = round_in at.election.timing at.now e

    judged_so : ScheduledGroup → Outcome
    judged_so x =
        let after = with_group (as_groups gs) group (after_sending at x) in
        unless_passed (limit_passed at.config.limits after (after_sending at x)) (as_groups gs) after (sent_at_once at group x)

abbrev pub stated_known : Setting → ℕ → KnownStatement → KnownGroups → KnownOutcome
stated_known at group st gs =
    changed_by_known at group gs
    (stated_in (v1_mutes_leave at.config.family) (is_muted at.config group (as_statement st)) at.election.timing at.now st (group_in gs group))

pub stated-known : (at : Setting) (group : ℕ) (st : KnownStatement) (gs : KnownGroups) → stated at group (as_statement st) (as_groups gs)
    ≡ as_outcome (stated_known at group st gs)
unfolding stated
stated-known at group st gs =
    ap (λ e. changed_or_refused at group (as_groups gs) (change_stated mutes muted at.election.timing at.now (as_statement st) e.group)) (group-known gs group)
    ∙ ap (changed_or_refused at group (as_groups gs)) (change_stated-known mutes muted at.election.timing at.now st (group_in gs group))
    ∙ changed_or_refused-known at group gs (stated_in mutes muted at.election.timing at.now st (group_in gs group))
  where
    mutes : Bool
    mutes = v1_mutes_leave at.config.family

    muted : Bool
    muted = is_muted at.config group (as_statement st)

-- a message of an older version
abbrev pub stated_alone_known : Setting → ℕ → KnownStatement → KnownGroups → KnownOutcome
stated_alone_known at group st gs =
    cond (is_allowed at.config group) (stated_known at group st gs) (record { verdict = Denied; groups = gs; queries = [] })

pub stated_alone-known : (at : Setting) (group : ℕ) (st : KnownStatement) (gs : KnownGroups) → stated_alone at group (as_statement st) (as_groups gs)
    ≡ as_outcome (stated_alone_known at group st gs)
stated_alone-known at group st gs = by_test (is_allowed at.config group)
  where
    by_test : (b : Bool) → cond b (stated at group (as_statement st) (as_groups gs)) (leaving (as_groups gs) Denied)
        ≡ as_outcome (cond b (stated_known at group st gs) (record { verdict = Denied; groups = gs; queries = [] }))
    by_test true = stated-known at group st gs
    by_test false = refl

-- records with the count of those that met each group
abbrev pub as_seen : Entries ℕ → Seen
as_seen es = map.from_entries es

abbrev pub met_in : Entries ℕ → ℕ → ℕ
met_in es group = unwrap_or (find nat_cmp group es) 0

met-known : (es : Entries ℕ) (group : ℕ) → met (as_seen es) group ≡ met_in es group
met-known es group = ap (λ n. unwrap_or n 0) (map.get-from_entries nat_cmp_total es group)

abbrev pub repeated_in : KnownGroups → Entries ℕ → ℕ → Bool
repeated_in gs es group = is_some (find nat_cmp group gs) && leb 4 (met_in es group)

abbrev pub seen_in : Entrance → ℕ → KnownGroups → Entries ℕ → Entries ℕ
seen_in (Stops verdict) group gs es = es
seen_in (GoesOn kind) group gs es = cond (is_some (find nat_cmp group gs)) ((group, met_in es group + 1) ∷ es) es

seen-known : (entered : Entrance) (group : ℕ) (gs : KnownGroups) (es : Entries ℕ) → seen_by entered group (as_groups gs) (as_seen es)
    ≡ as_seen (seen_in entered group gs es)
seen-known (Stops verdict) group gs es = refl
seen-known (GoesOn kind) group gs es =
    (λ i. cond (held-known gs group i) (map.insert (as_seen es) group (met-known es group i + 1)) (as_seen es))
    ∙ by_test (is_some (find nat_cmp group gs))
  where
    by_test : (b : Bool) → cond b (map.insert (as_seen es) group (met_in es group + 1)) (as_seen es) ≡ as_seen (cond b ((group, met_in es group + 1) ∷ es) es)
    by_test true = refl
    by_test false = refl

abbrev pub judged_from_known : Setting → Entries ℕ → RecordView ℕ → KnownGroups → Entrance → KnownOutcome
judged_from_known at es r gs (Stops verdict) = record { verdict = verdict; groups = gs; queries = [] }
judged_from_known at es r gs (GoesOn kind) =
    cond (repeated_in gs es r.group) (record { verdict = Refused Repeated; groups = gs; queries = [] })
    (stated_known at r.group (Record kind r.sources) gs)

abbrev pub judged_known : Setting → Entries ℕ → RecordView ℕ → KnownGroups → KnownOutcome
judged_known at es r gs = judged_from_known at es r gs (entrance at.config r)

pub judged-known : (at : Setting) (es : Entries ℕ) (r : RecordView ℕ) (gs : KnownGroups) → judged at (as_seen es) r (as_groups gs)
    ≡ as_outcome (judged_known at es r gs)
unfolding judged
judged-known at es r gs = by_entrance (entrance at.config r)
  where
    by_test : (b : Bool) (kind : Kind) → cond b (leaving (as_groups gs) (Refused Repeated))
        (stated at r.group (RecordOf kind (set.from_list r.sources)) (as_groups gs))
        ≡ as_outcome (cond b (record { verdict = Refused Repeated; groups = gs; queries = [] }) (stated_known at r.group (Record kind r.sources) gs))
    by_test true kind = refl
    by_test false kind = stated-known at r.group (Record kind r.sources) gs

    by_entrance : (entered : Entrance) → judged_from at (as_seen es) r (as_groups gs) entered ≡ as_outcome (judged_from_known at es r gs entered)
    by_entrance (Stops verdict) = refl
    by_entrance (GoesOn kind) =
        (λ i. cond (held-known gs r.group i && leb 4 (met-known es r.group i)) (leaving (as_groups gs) (Refused Repeated))
        (stated at r.group (RecordOf kind (set.from_list r.sources)) (as_groups gs))) ∙ by_test (repeated_in gs es r.group) kind

pub record KnownOutcomes : Type 0 where
  pub verdicts : List Verdict
  pub groups : KnownGroups
  pub queries : List SentQuery

abbrev pub as_outcomes : KnownOutcomes → Outcomes
as_outcomes o = record { verdicts = o.verdicts; groups = as_groups o.groups; queries = o.queries }

abbrev pub all_judged_known : Setting → Entries ℕ → List (RecordView ℕ) → KnownGroups → KnownOutcomes
all_judged_known at es [] gs = record { verdicts = []; groups = gs; queries = [] }
all_judged_known at es (r ∷ rs) gs =
    let first = judged_known at es r gs in
    let rest = all_judged_known at (seen_in (entrance at.config r) r.group gs es) rs first.groups in
    record { verdicts = first.verdict ∷ rest.verdicts; groups = rest.groups; queries = first.queries ++ rest.queries }

pub all_judged-known : (at : Setting) (es : Entries ℕ) (rs : List (RecordView ℕ)) (gs : KnownGroups) → all_judged at (as_seen es) rs (as_groups gs)
    ≡ as_outcomes (all_judged_known at es rs gs)
all_judged-known at es [] gs = refl
all_judged-known at es (r ∷ rs) gs =
    (λ i. and_then (judged-known at es r gs i) (all_judged at (seen-known (entrance at.config r) r.group gs es i) rs (judged-known at es r gs i).groups))
    ∙ ap (and_then (as_outcome (judged_known at es r gs)))
    (all_judged-known at (seen_in (entrance at.config r) r.group gs es) rs (judged_known at es r gs).groups)

-- the sources that a query asks for, as a test that is computed
abbrev pub some_in : List ℕ → Option Set
some_in [] = None
some_in (s ∷ sources) = Some (named_in (s ∷ sources))

abbrev pub asked_of : QueryVersion ℕ → Option Set
asked_of (Older version) = None
asked_of (Current fields) = some_in fields.sources

asked-known : (version : QueryVersion ℕ) → asked_by version ≡ asked_of version
asked-known (Older version) = refl
asked-known (Current fields) = named (fields.sources)
  where
    named : (sources : List ℕ) → some_named sources ≡ some_in sources
    named [] = refl
    named (s ∷ sources) = λ i. Some (λ x. set.contains-from_list nat_cmp_total (s ∷ sources) x i)

-- a query that is heard
abbrev pub lowered_by : Timing → ℕ → Query ℕ → ℕ → Known → Option Known
lowered_by timing now query group k = Some (cond (eqb group query.group) (lowered_in timing now (suppresses query.version) (asked_of query.version) k) k)

abbrev pub lowered_at : Timing → ℕ → Query ℕ → KnownGroups → KnownGroups
lowered_at timing now query gs = kept_in (lowered_by timing now query) gs

groups_lowered-known : (timing : Timing) (now : ℕ) (query : Query ℕ) (gs : KnownGroups) → groups_lowered timing now query (as_groups gs)
    ≡ as_groups (lowered_at timing now query gs)
unfolding groups_lowered
groups_lowered-known timing now query gs = kept_as as_held _ (lowered_by timing now query) at_group gs
  where
    by_test : (b : Bool) (k : Known) →
        ◌≡◌ {A = Option ScheduledGroup} (Some (cond b (group_lowered timing now query.version (as_held k)) (as_held k)))
        (option_map as_held (Some (cond b (lowered_in timing now (suppresses query.version) (asked_of query.version) k) k)))
    by_test true k =
        (λ i. Some (record {
          group = lowered_by_query timing now (suppresses query.version) (asked-known query.version i) (group_of k);
          schedule = k.schedule;
        })) ∙ ap Some (lowered-known timing now (suppresses query.version) (asked_of query.version) k)
    by_test false k = refl

    at_group : (group : ℕ) (k : Known) → Some (cond (eqb group query.group) (group_lowered timing now query.version (as_held k)) (as_held k))
        ≡ option_map as_held (lowered_by timing now query group k)
    at_group group k = by_test (eqb group query.group) k

groups_cleared-known : (gs : KnownGroups) → groups_cleared (as_groups gs) ≡ as_groups (kept_in (λ _ k. Some (cleared_in k)) gs)
unfolding groups_cleared
groups_cleared-known gs = kept_as as_held _ (λ _ k. Some (cleared_in k)) (λ _ k. ap Some (cleared-known k)) gs

abbrev pub cleared_if : Bool → KnownGroups → KnownGroups
cleared_if loses gs = cond loses (kept_in (λ _ k. Some (cleared_in k)) gs) gs

abbrev pub heard_in : Configuration → ℕ → (source : ℕ) → Query ℕ → KnownLink → KnownLink
heard_in config now source query l =
    let election = election_after config now source query.version l.election in
    let groups = cleared_if (loses_role config.own source l.election.role) l.groups in
    record { groups = lowered_at election.timing now query groups; election = election; last = l.last; counters = l.counters }

pub heard-known : (config : Configuration) (now source : ℕ) (query : Query ℕ) (l : KnownLink) → query_heard config now source query (as_link l)
    ≡ as_link (heard_in config now source query l)
heard-known config now source query l =
    ap (λ groups. left (groups_lowered election.timing now query groups)) (by_loss (loses_role config.own source l.election.role))
    ∙ ap left (groups_lowered-known election.timing now query (cleared_if (loses_role config.own source l.election.role) l.groups))
  where
    election : ElectionState
    election = election_after config now source query.version l.election

    left : Groups → LinkState
    left groups = record { groups = groups; election = election; last = l.last; counters = l.counters }

    by_loss : (b : Bool) → cond b (groups_cleared (as_groups l.groups)) (as_groups l.groups) ≡ as_groups (cleared_if b l.groups)
    by_loss true = groups_cleared-known l.groups
    by_loss false = refl
