use Rattle.mq_held.proofs.Common.{◌≤◌, not, take, vec_capacity, count_by, FiltersInPlace, Spends, key_in, group_at, is_vacant_at, has_due}
use Rattle.mq_held.proofs.held_groups.HeldGroups.leave_due.Given as goal

abbrev pub invariant-loop-place : goal.invariant-loop-place
invariant-loop-place g l =
    FiltersInPlace (λ n. has_due l.now (group_at l.self.groups (key_in l.self.order.items n))) l.fn.numbers.items l.numbers.items l.due l.place
    × (vec_capacity l.fn.numbers ≤ vec_capacity l.numbers)
    × Spends (count_by (λ n. not (is_vacant_at l.self n)) (take l.place l.fn.numbers.items))
    (count_by (λ n. not (is_vacant_at l.self n)) (take l.place l.fn.numbers.items)) l.fn.m l.m
