-- The standing of a subject in the link when a query on it is seen.
use Rattle.std.specs.Prelude.{ℕ, ◌+◌, ◌-◌, ◌||◌, nat_le, Bool, false, Option, None, Some}
use Rattle.mq_wire.specs.Family.{Family, Igmp, Mld}
use Rattle.mq_table.specs.declared.older_hosts.Hosts.{Hosts}
use Rattle.mq_table.specs.declared.timing.Timing.{Timing}
use Rattle.mq_table.specs.Group.{deadline_of, group_deadline, is_ahead, timer_at}
use Rattle.mq_table.specs.Lowering.{lowered_to}
use Rattle.mq_table.specs.OlderHosts.{hosts_of}
use Rattle.mq_table.specs.Timing.{membership_interval}
use Rattle.mq_link.specs.State.{Groups, group_at}
use Rattle.mq_check.specs.declared.asked.Asked.{Asked}
use Rattle.mq_check.specs.declared.asked.Asked.TheVariants.{AllGroups, Group, Source}
use Rattle.mq_check.specs.declared.standing.Standing.{Standing}

-- These older hosts of a group mute the change that asks for a query. RFC 3376 section 7.3.2, RFC 3810 section 8.3.2. Any
-- of them mutes BLOCK, which asks for sources. Hosts of IGMPv1 mute Leave and TO_IN, which ask for the group. Those of
-- MLDv1 don't.
abbrev pub muted_by : Family → Hosts → Asked ℕ → Bool
muted_by family hosts AllGroups = false
muted_by Igmp hosts (Group group) = hosts.v1
muted_by Mld hosts (Group group) = false
muted_by family hosts (Source group source) = hosts.v1 || hosts.v2

-- the older hosts of the group that a subject is or belongs to; all groups have none
abbrev pub hosts_in : Groups → (now : ℕ) → Asked ℕ → Hosts
hosts_in groups now AllGroups = record { v1 = false; v2 = false }
hosts_in groups now (Group group) = hosts_of (group_at groups group).group now
hosts_in groups now (Source group source) = hosts_of (group_at groups group).group now

-- The timer of a subject exceeds the Last Member Query Time. Then S is set in a query on it. RFC 3376 sections 6.6.3.1 and
-- 6.6.3.2, RFC 3810 sections 7.6.3.1 and 7.6.3.2.
abbrev pub is_above : Groups → (in_force : Timing) → (now : ℕ) → Asked ℕ → Bool
is_above groups in_force now AllGroups = false
is_above groups in_force now (Group group) =
    is_ahead (lowered_to in_force now) (group_deadline (group_at groups group).group.mode)
is_above groups in_force now (Source group source) =
    is_ahead (lowered_to in_force now) (deadline_of (timer_at (group_at groups group).group source))

-- A Report sets the timer of a subject to a Group Membership Interval. So a timer that was set at most a millisecond before a moment,
-- or later, ends at this moment or later.
abbrev pub set_from : (in_force : Timing) → (now : ℕ) → ℕ
set_from in_force now = now - 1 + membership_interval in_force

abbrev pub is_from : (limit : ℕ) → (deadline : Option ℕ) → Bool
is_from limit None = false
is_from limit (Some deadline) = nat_le limit deadline

abbrev pub is_set : Groups → (limit : ℕ) → Asked ℕ → Bool
is_set groups limit AllGroups = false
is_set groups limit (Group group) = is_from limit (group_deadline (group_at groups group).group.mode)
is_set groups limit (Source group source) = is_from limit (deadline_of (timer_at (group_at groups group).group source))

-- the standing of a subject in these groups
abbrev pub standing_in : Family → Groups → (in_force : Timing) → (now : ℕ) → Asked ℕ → Standing
standing_in family groups in_force now asked = record {
  is_muted = muted_by family (hosts_in groups now asked) asked;
  is_above = is_above groups in_force now asked;
  set_from = set_from in_force now;
}

-- the standing of a subject that nobody mutes and that has no timer, and that of all groups
abbrev pub plain : Standing
plain = record { is_muted = false; is_above = false; set_from = 0 }
