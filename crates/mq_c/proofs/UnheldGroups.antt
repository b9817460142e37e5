-- A record asks nothing of a group that isn't held, and leaves a group held that is.
use Rattle.mq_c.proofs.Common.{◌≡◌, ℕ, Bool, true, false, cond, refl, List, [], ◌∷◌, Some, IfSome, ap, ◌∙◌, Kind, SourceTimer, Timing, Set, ◌∩◌, hosts_of}
use Rattle.mq_c.proofs.Common.{translated_change, above, GroupChange, ScheduledGroup, settled, messages_due}
use Rattle.std.specs.{List.list_any, Ordering.nat_cmp}
use Rattle.mq_table.specs.declared.kind.Kind.TheVariants.{IsIn, IsEx, ToIn, ToEx, Allow, Block}
use Rattle.mq_table.specs.{Group.GroupState, Group.vacant, Group.is_running, Group.running, Group.IsWellFormed, Table.NamedSources, Table.change_of}
use Rattle.mq_table.proofs.Held.{IsWellFormed-change_of}
use Rattle.mq_sched.specs.{Schedule.ScheduleState, Schedule.no_schedule, Sending.after_change}
use Rattle.mq_link.proofs.{HeldAs.settled_silent, Silent.silent_messages, TranslatedRecords.of_translated}
use Rattle.std.specs.FinMap as map
use Rattle.std.specs.FinSet as set

-- a change that asks for nothing
pub record AsksNothing (change : GroupChange) : Type 0 where
  pub query : (s : ℕ) → change.query s ≡ false
  pub query_group : change.query_group ≡ false

none_runs : (s : ℕ) → running vacant s ≡ false
none_runs s = ap is_running (map.get-empty {X = SourceTimer} nat_cmp s)

none_asked : (timing : Timing) (now : ℕ) (kind : Kind) (named : NamedSources) → AsksNothing (change_of timing now vacant kind named)
none_asked timing now IsIn named = record { query = λ s. refl; query_group = refl }
none_asked timing now IsEx named = record { query = λ s. refl; query_group = refl }
none_asked timing now ToIn named = record { query = λ s. rw (none_runs s) refl; query_group = refl }
none_asked timing now ToEx named = record { query = λ s. rw (none_runs s) refl; query_group = refl }
none_asked timing now Allow named = record { query = λ s. refl; query_group = refl }
none_asked timing now Block named = record { query = λ s. rw (none_runs s) refl; query_group = refl }

pub unheld_asks_nothing : (mutes muted : Bool) (timing : Timing) (now : ℕ) (kind : Kind) (named : NamedSources) →
    IfSome (translated_change mutes muted timing now vacant kind named) AsksNothing
unheld_asks_nothing mutes muted timing now kind named =
    of_translated AsksNothing mutes timing now vacant named (λ k. none_asked timing now k named) (none_asked timing now ToEx set.empty) muted
    (hosts_of vacant now) kind

pub held_stays_held : (mutes muted : Bool) (timing : Timing) (now : ℕ) (g : GroupState) (kind : Kind) (named : NamedSources) → IsWellFormed g →
    IfSome (translated_change mutes muted timing now g kind named) (λ c. IsWellFormed c.group)
held_stays_held mutes muted timing now g kind named held =
    of_translated (λ c. IsWellFormed c.group) mutes timing now g named (λ k. IsWellFormed-change_of timing now g k named held)
    (IsWellFormed-change_of timing now g ToEx set.empty held) muted (hosts_of g now) kind

-- nothing is sent for it
none_of : (query other : Set) → ((s : ℕ) → query s ≡ false) → (ks : List ℕ) → list_any (query ∩ other) ks ≡ false
none_of query other none [] = refl
none_of query other none (k ∷ ks) = rw (none k) (none_of query other none ks)

after_nothing : (q : Bool) (timing : Timing) (now : ℕ) (change : GroupChange) → AsksNothing change →
    (after_change q timing now change no_schedule).schedule ≡ no_schedule
after_nothing false timing now change none = settled_silent change.group no_schedule refl
after_nothing true timing now change none = by_group change.query_group none.query_group
  where
    left : ScheduledGroup
    left = record { group = change.group; schedule = settled change.group no_schedule }

    by_group : (asks : Bool) → asks ≡ false →
        (after_change true timing now (record { group = change.group; query = change.query; query_group = asks }) no_schedule).schedule ≡ no_schedule
    by_group true is = cc
    by_group false is =
        let quiet = settled_silent change.group no_schedule refl in
        λ i. record {
          group_query = (quiet i).group_query;
          sources_due = cond (none_of change.query (above timing now change.group) none.query (map.keys change.group.sources) i) (Some now)
              (quiet i).sources_due;
        }

pub nothing_sent : (n : ℕ) (q : Bool) (timing : Timing) (now group : ℕ) (change : GroupChange) (schedule : ScheduleState) → schedule ≡ no_schedule →
    AsksNothing change → messages_due n timing now group (after_change q timing now change schedule) ≡ []
nothing_sent n q timing now group change schedule none asks =
    ap (λ s. messages_due n timing now group (after_change q timing now change s)) none
    ∙ silent_messages n timing now group (after_change q timing now change no_schedule) (record { schedule = after_nothing q timing now change asks })
