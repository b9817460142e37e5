-- Terms of the laws of schedules.
use Rattle.std.specs.Prelude.{ℕ, ◌<◌, Bool, if◌then◌else◌, List, [], ◌∷◌, length}
use Rattle.std.specs.List.Sorted.{IsStrictlyIncreasing}
use Rattle.mq_table.specs.declared.timing.Timing.{Timing}
use Rattle.mq_table.specs.Sets.{Set, ◌∩◌, ◌∖◌}
use Rattle.mq_table.specs.Retransmissions.{has_retransmissions, above}
use Rattle.mq_sched.specs.Schedule.{ScheduledGroup, IsScheduleOf}
use Rattle.mq_sched.specs.Sending.{SentQuery, GeneralQuery, GroupQuery, SourcesQuery, acted, is_due, sources_where, messages_due, after_round}

-- a round of a group with an address, at a moment, with this many sources a message
pub record Round : Type 0 where
  pub per_query : ℕ
  pub timing : Timing
  pub now : ℕ
  pub address : ℕ
  pub before : ScheduledGroup

abbrev pub queries_of : Round → List SentQuery
queries_of r = messages_due r.per_query r.timing r.now r.address r.before

abbrev pub state_after : Round → ScheduledGroup
state_after r = after_round r.timing r.now r.before

-- the queries that a record asks for in a group, at a moment
pub record Asking : Type 0 where
  pub is_querier : Bool
  pub timing : Timing
  pub now : ℕ
  pub query_group : Bool
  pub query : Set
  pub before : ScheduledGroup

abbrev pub after_asking : Asking → ScheduledGroup
after_asking r = acted r.is_querier r.timing r.now r.query_group r.query r.before

-- a group and its schedule fit each other
abbrev pub IsFitting : ScheduledGroup → Type 0
IsFitting e = IsScheduleOf e.group e.schedule

-- each query for sources has at least one, and they ascend
abbrev pub AscendIn : List SentQuery → Type 0
AscendIn [] = Unit {0}
AscendIn (GeneralQuery ∷ queries) = AscendIn queries
AscendIn (GroupQuery group suppress ∷ queries) = AscendIn queries
AscendIn (SourcesQuery group suppress sources ∷ queries) =
    (0 < length sources) × IsStrictlyIncreasing sources × AscendIn queries

-- the lists of sources of a round's queries with S set, and of those with S clear
abbrev pub set_portions : List SentQuery → List (List ℕ)
set_portions [] = []
set_portions (GeneralQuery ∷ queries) = set_portions queries
set_portions (GroupQuery group suppress ∷ queries) = set_portions queries
set_portions (SourcesQuery group suppress sources ∷ queries) =
    if suppress then sources ∷ set_portions queries else set_portions queries

abbrev pub clear_portions : List SentQuery → List (List ℕ)
clear_portions [] = []
clear_portions (GeneralQuery ∷ queries) = clear_portions queries
clear_portions (GroupQuery group suppress ∷ queries) = clear_portions queries
clear_portions (SourcesQuery group suppress sources ∷ queries) =
    if suppress then clear_portions queries else sources ∷ clear_portions queries

-- the sources that a round has to ask for with S set, and with S clear, ascending
abbrev pub set_sources : Round → List ℕ
set_sources r =
    let g = r.before.group in
    if is_due r.now r.before.schedule.sources_due
    then sources_where (has_retransmissions g ∩ above r.timing r.now g) g
    else []

abbrev pub clear_sources : Round → List ℕ
clear_sources r =
    let g = r.before.group in
    if is_due r.now r.before.schedule.sources_due
    then sources_where (has_retransmissions g ∖ above r.timing r.now g) g
    else []
