-- Lowering of timers to the last member query time. A lowered timer runs to the earlier of its deadline and now plus
-- that time (RFC 3376 sections 6.6.1 and 6.6.3, RFC 3810 sections 7.6.1 and 7.6.3).
use Rattle.std.specs.Prelude.{ℕ, ◌+◌, Bool, true, false, if◌then◌else◌, min, Option, None, Some}
use Rattle.mq_table.specs.declared.timing.Timing.{Timing}
use Rattle.mq_table.specs.Sets.{Set}
use Rattle.mq_table.specs.Maps.{kept}
use Rattle.mq_table.specs.Group.{GroupState, FilterMode, Include, Exclude, SourceTimer, Stopped, Running}
use Rattle.mq_table.specs.Timing.{last_member_time}

-- the latest deadline of a lowered timer
abbrev pub lowered_to : Timing → ℕ → ℕ
lowered_to timing now = now + last_member_time timing

abbrev pub mode_lowered : ℕ → FilterMode → FilterMode
mode_lowered limit Include = Include
mode_lowered limit (Exclude d) = Exclude (min d limit)

abbrev pub source_lowered : ℕ → SourceTimer → SourceTimer
source_lowered limit Stopped = Stopped
source_lowered limit (Running d n) = Running (min d limit) n

-- the group after Q(G), which lowers the group timer; only EXCLUDE has one
abbrev pub group_lowered : Timing → ℕ → GroupState → GroupState
group_lowered timing now g =
    record g { mode = mode_lowered (lowered_to timing now) g.mode }

-- the group after Q(G,asked), which lowers the running timers of the sources asked for
abbrev pub sources_lowered : Timing → ℕ → Set → GroupState → GroupState
sources_lowered timing now asked g =
    let limit = lowered_to timing now in
    let timer_of = λ (s : ℕ) (timer : SourceTimer). Some (if asked s then source_lowered limit timer else timer) in
    record g { sources = kept timer_of g.sources }

-- The group after a specific query of another router. With the S flag set it lowers nothing. Otherwise it lowers the
-- group timer or, if it asks for sources, their timers (RFC 3376 sections 4.1.5 and 6.6.1, RFC 3810 sections 5.1.7 and
-- 7.6.1). Queries of IGMPv2 and MLDv1 have no S flag and count as clear.
abbrev pub lowered_by_query : Timing → ℕ → (s : Bool) → Option Set → GroupState → GroupState
lowered_by_query timing now true asked g = g
lowered_by_query timing now false None g = group_lowered timing now g
lowered_by_query timing now false (Some asked) g = sources_lowered timing now asked g
