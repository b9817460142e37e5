use Rattle.mq_held.proofs.Common.{◌∙◌, refl, sym, ap, group_of, ◌++◌, ◌∷◌, [], arith, length, flat_map, Spends-join_within, group_deadline, group_due, those_of}
use Rattle.mq_held.proofs.Common.{timer_moments}
use Rattle.std.specs.Prelude.{is_some}
use Rattle.mq_held.proofs.{HeldMoments.deadlines-row, HeldMoments.earliest-group, HeldMoments.held-moment, MomentCounts.compared-both}
use Rattle.mq_held.proofs.timers_in_place.earliest_stored.Goals as goal

pub unwrap-requires : goal.unwrap-requires
unwrap-requires g c =
    let e = group_of g.K.Key.number c.args.item.now c.args.row.now in
    let all = earliest-group g.K.Key.number e.group e.schedule c.args.row.now c.earliest_of_head-first.result c.requires.ascending refl
    c.earliest_of_head-first.ensures.earliest in
    ap is_some (c.earliest_with_row-earliest.ensures.earliest ∙ all) ∙ held-moment e.group e.schedule c.requires.held

pub returns-clause-earliest : goal.returns-clause-earliest
returns-clause-earliest g c =
    let e = group_of g.K.Key.number c.args.item.now c.args.row.now in
    let all = earliest-group g.K.Key.number e.group e.schedule c.args.row.now c.earliest_of_head-first.result c.requires.ascending refl
    c.earliest_of_head-first.ensures.earliest in
    sym (c.earliest_with_row-earliest.ensures.earliest ∙ all) ∙ c.unwrap.ensures

pub returns-clause-compared : goal.returns-clause-compared
returns-clause-compared g c =
    let e = group_of g.K.Key.number c.args.item.now c.args.row.now in
    let row = rw c.earliest_of_head-first.ensures.earliest at c.earliest_with_row-earliest.ensures.compared in
    let few = those_of (group_deadline e.group.mode ∷ e.group.v1 ∷ e.group.v2 ∷ group_due e.schedule.group_query ∷ e.schedule.sources_due ∷ []) in
    let deadlines = ap (λ ms. length (few ++ ms)) (deadlines-row g.K.Key.number c.args.row.now c.requires.ascending) in
    let both = compared-both few (flat_map timer_moments c.args.row.now) in
    Spends-join_within _ _ c.earliest_of_head-first.ensures.compared row (omega (arith, both, deadlines)) (omega (arith, both, deadlines))
