-- No timer that a record sets runs out at its own moment.
use Rattle.mq_laws.proofs.Common.{ℕ, ◌+◌, ◌<◌, Bool, true, false, cond, Option, None, Some, IfSome, arith, option_map, timer_at-sources_lowered, AllAhead}
use Rattle.mq_laws.proofs.Common.{GroupState, timer_at, deadline_of, group_deadline, running, stopped, lowered_to, mode_lowered, source_lowered}
use Rattle.mq_laws.proofs.Common.{lowered_by_query, source_asked, Set, NamedSources, GroupChange, table_row, change_of, membership_interval, older_host_present}
use Rattle.mq_laws.proofs.Common.{last_member_count, Kind, IsEx, ToIn, FilterMode, SourceTimer, Timing, ScheduleState, ScheduledGroup, group_asked}
use Rattle.mq_laws.proofs.Common.{sources_asked, acted, after_change, Statement, RecordOf, OlderJoin, OlderLeave, change_stated, timer_then, at_source_of}
use Rattle.mq_laws.proofs.Common.{timer_at-sources_asked}
use Rattle.mq_count.specs.declared.versions.OlderVersion.{OlderVersion, TheVariants.V1, TheVariants.V2}
use Rattle.mq_table.specs.OlderHosts.{hosts_of, translated, older_report}
use Rattle.mq_sched.specs.Schedule.{settled}
use Rattle.std.specs.FinSet as set

-- a source's timer
ahead_then : (now gmi : ℕ) (mode : FilterMode) (kind : Kind) (s : ℕ) (t : Option SourceTimer) (a : Bool) → now < gmi
    → IfSome (group_deadline mode) (λ e. now < e)
    → IfSome (deadline_of t) (λ e. now < e) → IfSome (deadline_of (timer_then gmi mode kind s t a)) (λ e. now < e)
ahead_then now gmi mode kind s t a later group h = grind arith

-- the group's
row_ahead : (now gmi : ℕ) (mode : FilterMode) (kind : Kind) (X Y A : Set) → now < gmi → IfSome (group_deadline mode) (λ e. now < e)
    → IfSome (group_deadline (table_row gmi mode kind X Y A).mode) (λ e. now < e)
row_ahead now gmi mode kind X Y A later group = grind arith

pub change_ahead : (timing : Timing) (now : ℕ) (g : GroupState) (kind : Kind) (named : NamedSources) → now < now + membership_interval timing → AllAhead now g
    → AllAhead now (change_of timing now g kind named).group
change_ahead timing now g kind named later h =
    let gmi = now + membership_interval timing in
    record {
      group = row_ahead now gmi g.mode kind (running g) (stopped g) (set.contains named) later h.group;
      sources = λ s.
          at_source_of (λ _ _ _ _ t. IfSome (deadline_of t) (λ e. now < e)) timing now g kind named s
          (ahead_then now gmi g.mode kind s (timer_at g s) (set.contains named s) later h.group (h.sources s));
      v1 = h.v1;
      v2 = h.v2;
    }

-- an older Report
pub older_ahead : (version : OlderVersion) (timing : Timing) (now : ℕ) (g : GroupState) → now < now + membership_interval timing
    → now < now + older_host_present timing → AllAhead now g → AllAhead now (older_report version timing now g)
older_ahead V1 timing now g later present h =
    let changed = change_ahead timing now g IsEx set.empty later h in
    record { group = changed.group; sources = changed.sources; v1 = present; v2 = changed.v2 }
older_ahead V2 timing now g later present h =
    let changed = change_ahead timing now g IsEx set.empty later h in
    record { group = changed.group; sources = changed.sources; v1 = changed.v1; v2 = present }

-- a change, where there is one
abbrev pub ChangesAhead : ℕ → Option GroupChange → Type 0
ChangesAhead now change = IfSome change (λ c. AllAhead now c.group)

mapped_ahead : (timing : Timing) (now : ℕ) (g : GroupState) (o : Option (Kind × NamedSources)) → now < now + membership_interval timing → AllAhead now g
    → ChangesAhead now (option_map (λ (r : Kind × NamedSources). change_of timing now g r.0 r.1) o)
mapped_ahead timing now g None later h = tt
mapped_ahead timing now g (Some r) later h = change_ahead timing now g r.0 r.1 later h

pub stated_ahead : (mutes muted : Bool) (timing : Timing) (now : ℕ) (statement : Statement) (g : GroupState) → now < now + membership_interval timing
    → now < now + older_host_present timing → AllAhead now g → ChangesAhead now (change_stated mutes muted timing now statement g)
stated_ahead mutes muted timing now (RecordOf kind named) g later present h =
    mapped_ahead timing now g (translated mutes muted (hosts_of g now) kind named) later h
stated_ahead mutes true timing now (OlderJoin version) g later present h = tt
stated_ahead mutes false timing now (OlderJoin version) g later present h = older_ahead version timing now g later present h
stated_ahead mutes muted timing now OlderLeave g later present h = mapped_ahead timing now g (translated mutes muted (hosts_of g now) ToIn set.empty) later h

-- timers that are lowered
lowered_mode : (now limit : ℕ) (mode : FilterMode) → now < limit → IfSome (group_deadline mode) (λ e. now < e)
    → IfSome (group_deadline (mode_lowered limit mode)) (λ e. now < e)
lowered_mode now limit mode h1 h2 = grind arith

lowered_source : (now limit : ℕ) (asks : Bool) (t : Option SourceTimer) → now < limit → IfSome (deadline_of t) (λ e. now < e)
    → IfSome (deadline_of (cond asks (option_map (source_lowered limit) t) t)) (λ e. now < e)
lowered_source now limit asks t h1 h2 = grind arith

asked_source : (now limit count : ℕ) (asks : Bool) (t : Option SourceTimer) → now < limit → IfSome (deadline_of t) (λ e. now < e)
    → IfSome (deadline_of (cond asks (option_map (source_asked limit count) t) t)) (λ e. now < e)
asked_source now limit count asks t h1 h2 = grind arith

pub query_ahead : (timing : Timing) (now : ℕ) (s : Bool) (asked : Option Set) (g : GroupState) → now < lowered_to timing now → AllAhead now g
    → AllAhead now (lowered_by_query timing now s asked g)
query_ahead timing now true asked g later h = h
query_ahead timing now false None g later h =
    record { group = lowered_mode now (lowered_to timing now) g.mode later h.group; sources = h.sources; v1 = h.v1; v2 = h.v2 }
query_ahead timing now false (Some asked) g later h = record {
  group = h.group;
  sources = λ s. rw (timer_at-sources_lowered timing now asked g s) (lowered_source now (lowered_to timing now) (asked s) (timer_at g s) later (h.sources s));
  v1 = h.v1;
  v2 = h.v2;
}

-- the group once the querier has asked for sources
sources_asked_ahead : (timing : Timing) (now : ℕ) (asked : Set) (e : ScheduledGroup) → now < lowered_to timing now → AllAhead now e.group
    → AllAhead now (sources_asked timing now asked e).group
sources_asked_ahead timing now asked e later h = record {
  group = h.group;
  sources = λ s. rw (timer_at-sources_asked timing now asked e s)
      (asked_source now (lowered_to timing now) (last_member_count timing) (asked s) (timer_at e.group s) later (h.sources s));
  v1 = h.v1;
  v2 = h.v2;
}

if_asked_ahead : (timing : Timing) (now : ℕ) (query_group : Bool) (e : ScheduledGroup) → now < lowered_to timing now → AllAhead now e.group
    → AllAhead now (cond query_group (group_asked timing now e) e).group
if_asked_ahead timing now query_group e h1 h2 = grind arith

acted_ahead : (is_querier : Bool) (timing : Timing) (now : ℕ) (query_group : Bool) (query : Set) (e : ScheduledGroup) → now < lowered_to timing now
    → AllAhead now e.group → AllAhead now (acted is_querier timing now query_group query e).group
acted_ahead false timing now query_group query e later h = h
acted_ahead true timing now query_group query e later h =
    sources_asked_ahead timing now query (cond query_group (group_asked timing now e) e) later (if_asked_ahead timing now query_group e later h)

pub after_change_ahead : (is_querier : Bool) (timing : Timing) (now : ℕ) (change : GroupChange) (schedule : ScheduleState) → now < lowered_to timing now
    → AllAhead now change.group → AllAhead now (after_change is_querier timing now change schedule).group
after_change_ahead is_querier timing now change schedule later h =
    acted_ahead is_querier timing now change.query_group change.query (record { group = change.group; schedule = settled change.group schedule }) later h
