use Rattle.mq_held.proofs.Common.{◌∙◌, sym, ap, ◌++◌, ◌∷◌, [], arith, length, flat_map, option_to_list, Spends-join_within, deadline_of, group_deadline}
use Rattle.mq_held.proofs.Common.{group_due, those_of, timer_moments}
use Rattle.std.specs.Prelude.{is_some, Some}
use Rattle.std.specs.FinMap as map
use Rattle.mq_held.proofs.{HeldMoments.deadlines-row, HeldMoments.earliest-group, HeldMoments.held-moment, MomentCounts.compared-both}
use Rattle.mq_held.proofs.earliest.earliest_moment.Goals as goal

pub unwrap-requires : goal.unwrap-requires
unwrap-requires g c =
    let head = rw (c.mode.ensures, c.v1.ensures, c.v2.ensures) at c.earliest_of_head-first.ensures.earliest in
    let all = earliest-group g.K.Key.number c.args.group.now.state c.args.schedule c.sources.result.now c.earliest_of_head-first.result
    c.sources.ensures.ascending c.sources.ensures.timers head in
    ap is_some (c.earliest_with_row-earliest.ensures.earliest ∙ all) ∙ held-moment c.args.group.now.state c.args.schedule c.requires.held

pub returns-clause-earliest : goal.returns-clause-earliest
returns-clause-earliest g c =
    let head = rw (c.mode.ensures, c.v1.ensures, c.v2.ensures) at c.earliest_of_head-first.ensures.earliest in
    let all = earliest-group g.K.Key.number c.args.group.now.state c.args.schedule c.sources.result.now c.earliest_of_head-first.result
    c.sources.ensures.ascending c.sources.ensures.timers head in
    sym (c.earliest_with_row-earliest.ensures.earliest ∙ all) ∙ c.unwrap.ensures

pub returns-clause-compared : goal.returns-clause-compared
returns-clause-compared g c =
    let head = rw (c.mode.ensures, c.v1.ensures, c.v2.ensures) at c.earliest_of_head-first.ensures.compared in
    let earliest = rw (c.mode.ensures, c.v1.ensures, c.v2.ensures) at c.earliest_of_head-first.ensures.earliest in
    let row = rw earliest at c.earliest_with_row-earliest.ensures.compared in
    let s = c.args.group.now.state in
    let few = those_of (group_deadline s.mode ∷ s.v1 ∷ s.v2 ∷ group_due c.args.schedule.group_query ∷ c.args.schedule.sources_due ∷ []) in
    let deadlines = ap (λ timers. length (few ++ flat_map (λ timer. option_to_list (deadline_of (Some timer))) (map.values timers)))
    (sym c.sources.ensures.timers) ∙ ap (λ ms. length (few ++ ms)) (deadlines-row g.K.Key.number c.sources.result.now c.sources.ensures.ascending) in
    let both = compared-both few (flat_map timer_moments c.sources.result.now) in
    Spends-join_within _ _ head row (omega (arith, both, deadlines)) (omega (arith, both, deadlines))
