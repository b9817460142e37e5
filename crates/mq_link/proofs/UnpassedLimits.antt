-- Limits that hold, since a held group is small enough and its schedules are few enough.
use Rattle.mq_link.proofs.Common.{◌≡◌, ℕ, ◌+◌, ◌≤◌, true, false, cond, not, [], ◌∷◌, None, ap, arith, le-ltb, is_vacant, ScheduledGroup, len-with_group}
use Rattle.mq_link.proofs.Common.{schedules-with_group, sources-with_group, TooManyGroups, GroupSources, Sources, Scheduled, Limits, limit_passed, first_named}
use Rattle.std.specs.FinMap as map
use Rattle.mq_link.specs.State.{AreWithin, Groups, group_at, one_if, schedules_in, schedules_of, sources_in, sources_of, with_group}

pub passes_none_within : (limits : Limits) (groups : Groups) (a : ℕ) (e : ScheduledGroup) → AreWithin limits groups → map.contains_key groups a ≡ true →
    is_vacant e.group ≡ false → sources_of e ≤ limits.group_sources → sources_in groups + sources_of e ≤ limits.sources + sources_of (group_at groups a) →
    schedules_in groups + schedules_of e ≤ limits.scheduled + schedules_of (group_at groups a)
    → limit_passed limits (with_group groups a e) e ≡ None
passes_none_within limits groups a e within held other own size few =
    let count = len-with_group groups a e in
    let one : map.len (with_group groups a e) ≡ map.len groups = omega (arith, count, ap one_if held, ap (λ b. one_if (not b)) other) in
    let sources = sources-with_group groups a e in
    let due = schedules-with_group groups a e in
    let left : cond (is_vacant e.group) 0 (schedules_of e) ≡ schedules_of e = ap (λ b. cond b 0 (schedules_of e)) other in
    let g = within.group_count in
    λ i. first_named (
    (TooManyGroups, le-ltb limits.groups (map.len (with_group groups a e)) (omega (arith, one, g)) i)
    ∷ (GroupSources, le-ltb limits.group_sources (sources_of e) own i)
    ∷ (Sources, le-ltb limits.sources (sources_in (with_group groups a e)) (omega (arith, sources, size)) i)
    ∷ (Scheduled, le-ltb limits.scheduled (schedules_in (with_group groups a e)) (omega (arith, due, left, few)) i)
    ∷ [])

-- none is passed by a group that stays as large
pub passes_none_by : (limits : Limits) (groups : Groups) (a : ℕ) (e : ScheduledGroup) → AreWithin limits groups → map.contains_key groups a ≡ true →
    is_vacant e.group ≡ false → sources_of e ≡ sources_of (group_at groups a) →
    schedules_in groups + schedules_of e ≤ limits.scheduled + schedules_of (group_at groups a)
    → limit_passed limits (with_group groups a e) e ≡ None
passes_none_by limits groups a e within held other size few =
    let own = within.group_sources a in
    let all = within.sources in
    passes_none_within limits groups a e within held other (omega (arith, own, size)) (omega (arith, all, size)) few
