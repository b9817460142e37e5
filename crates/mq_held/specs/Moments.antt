-- The deadlines and due moments of the groups that are held.
use Rattle.std.specs.Prelude.{ℕ, List, [], ◌∷◌, ◌++◌, Option, Some}
use Rattle.std.specs.Option.{option_to_list}
use Rattle.std.specs.List.{flat_map}
use Rattle.std.specs.FinMap as map
pub use Rattle.mq_count.specs.Timed.{least}
use Rattle.mq_table.specs.Group.{group_deadline, deadline_of}
use Rattle.mq_sched.specs.Schedule.{ScheduledGroup}
use Rattle.mq_sched.specs.Sending.{group_due}
use Rattle.mq_held.specs.Groups.{Groups}

-- the moments that exist
abbrev pub those_of : List (Option ℕ) → List ℕ
those_of moments = flat_map option_to_list moments

-- the deadlines and due moments of a group
abbrev pub moments_of : ScheduledGroup → List ℕ
moments_of e =
    let g = e.group in
    those_of (group_deadline g.mode ∷ g.v1 ∷ g.v2 ∷ group_due e.schedule.group_query ∷ e.schedule.sources_due ∷ [])
    ++ flat_map (λ timer. option_to_list (deadline_of (Some timer))) (map.values g.sources)

abbrev pub moments_in : Groups → List ℕ
moments_in groups = flat_map moments_of (map.values groups)
