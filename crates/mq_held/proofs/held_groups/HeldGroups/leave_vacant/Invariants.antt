use Rattle.mq_held.proofs.Common.{◌≤◌, vec_capacity, FiltersInPlace, is_vacant_at}
use Rattle.mq_held.proofs.held_groups.HeldGroups.leave_vacant.Given as goal

abbrev pub invariant-loop-place : goal.invariant-loop-place
invariant-loop-place g l =
    FiltersInPlace (is_vacant_at l.self) l.fn.numbers.items l.numbers.items l.gone l.place × (vec_capacity l.fn.numbers ≤ vec_capacity l.numbers)
