use Rattle.mq_held.proofs.Common.{◌≡◌, ◌≤◌, take, not, filter, is_vacant_at}
use Rattle.mq_held.proofs.held_groups.HeldGroups.part.Given as goal

abbrev pub invariant-loop-place : goal.invariant-loop-place
invariant-loop-place g l =
    (take l.count l.kept ≡ filter (λ n. not (is_vacant_at l.self n)) (take l.place l.gone.items)) × (l.count ≤ l.place)
