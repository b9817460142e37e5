-- Requirements on groups that are worked on one after the other.
use Rattle.std.specs.Prelude.{◌≡◌, ℕ, ◌≤◌, Some}
use Rattle.std.specs.FinMap as map
use Rattle.mq_table.specs.Group.{IsWellFormed as IsHeld}
use Rattle.mq_sched.specs.Schedule.{ScheduledGroup, IsScheduleOf}
use Rattle.mq_link.specs.State.{Groups, sources_of}

-- a held group, with a schedule that fits it and no more sources than there is room for
pub record IsServed (room : ℕ) (e : ScheduledGroup) : Type 0 where
  pub held : IsHeld e.group
  pub fits : IsScheduleOf e.group e.schedule
  pub room_for : sources_of e ≤ room

abbrev pub AreServed : (room : ℕ) → Groups → Type 0
AreServed room groups = (group : ℕ) (e : ScheduledGroup) → map.get groups group ≡ Some e → IsServed room e
