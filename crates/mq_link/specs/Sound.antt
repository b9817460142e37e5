-- The groups that records meet.
use Rattle.std.specs.Prelude.{◌≡◌, ℕ, false, Some}
use Rattle.std.specs.FinMap as map
use Rattle.mq_sched.specs.Schedule.{ScheduledGroup}
use Rattle.mq_sched.specs.Election.{is_querier}
use Rattle.mq_link.specs.State.{Groups, AreWithin, IsHeldAs, IsSilent}
use Rattle.mq_link.specs.Record.{Setting}

-- a link may hold these groups in this setting
pub record AreSound (at : Setting) (groups : Groups) : Type 0 where
  pub all : (group : ℕ) (e : ScheduledGroup) → map.get groups group ≡ Some e → IsHeldAs at.config group e
  pub within : AreWithin at.config.limits groups
  pub silent : is_querier at.election.role ≡ false
      → (group : ℕ) (e : ScheduledGroup) → map.get groups group ≡ Some e → IsSilent e
