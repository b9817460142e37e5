-- A BLOCK that is applied where its group's row is stored.
use Rattle.std.specs.Prelude.{◌≡◌, ℕ, ◌≤◌, Bool, true, false, ◌||◌, nat_lt, is_some}
use Rattle.std.specs.FinMap as map
use Rattle.mq_table.specs.declared.kind.Kind.{Kind}
use Rattle.mq_table.specs.AtSource.{asks_for_named, named_effect}
use Rattle.mq_table.specs.OlderHosts.{hosts_of}
use Rattle.mq_sched.specs.Rounds.{is_due_at}
use Rattle.mq_sched.specs.Schedule.{ScheduledGroup}
use Rattle.mq_link.specs.declared.configuration.Limits.{Limits}
use Rattle.mq_link.specs.declared.statement.StatementKind.{StatementKind}
use Rattle.mq_link.specs.Changing.{effect_of}
use Rattle.mq_link.specs.Record.{Setting}
use Rattle.mq_link.specs.State.{Groups, group_at, schedules_in}

-- a record of this kind asks for the sources that it names, and leaves the others alone
abbrev pub blocks : Kind → Bool
blocks kind = asks_for_named (named_effect kind)

-- the statement is a BLOCK
abbrev pub is_block : StatementKind → Bool
is_block said = asks_for_named (effect_of said)

-- hosts of an older version are in the group
abbrev pub has_older_hosts : ScheduledGroup → (now : ℕ) → Bool
has_older_hosts e now = let hosts = hosts_of e.group now in hosts.v1 || hosts.v2

-- sources of a group that are asked for need no schedule beyond the limit
abbrev pub has_schedule_left : Limits → Groups → ScheduledGroup → Bool
has_schedule_left limits groups e = is_some e.schedule.sources_due || nat_lt (schedules_in groups) limits.scheduled

-- The conditions for a BLOCK that is applied where its group's row is stored. The group is held, nothing is due for it,
-- no older host mutes it, and it names at most one source. No limit of schedules can be exceeded.
pub record CanBlock (at : Setting) (group named : ℕ) (groups : Groups) : Type 0 where
  pub held : map.contains_key groups group ≡ true
  pub quiet : is_due_at at.now (group_at groups group).schedule ≡ false
  pub unmuted : has_older_hosts (group_at groups group) at.now ≡ false
  pub few : named ≤ 1
  pub left : has_schedule_left at.config.limits groups (group_at groups group) ≡ true
