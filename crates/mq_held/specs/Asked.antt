-- A source that is asked for.
use Rattle.std.specs.Prelude.{ℕ, [], ◌∷◌}
use Rattle.mq_sets.specs.Ascending.{set_of}
use Rattle.mq_table.specs.declared.timing.Timing.{Timing}
use Rattle.mq_sched.specs.Schedule.{ScheduledGroup}
use Rattle.mq_sched.specs.Sending.{sources_asked}

-- Send Q(G,source): a group after a query for one source, before what is due is sent. RFC 3376 section 6.6.3.2, RFC
-- 3810 section 7.6.3.2.
abbrev pub one_asked : Timing → (now source : ℕ) → ScheduledGroup → ScheduledGroup
one_asked timing now source e = sources_asked timing now (set_of (λ s. s) (source ∷ [])) e
