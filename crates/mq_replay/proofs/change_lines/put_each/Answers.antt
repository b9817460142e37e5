use Rattle.mq_replay.proofs.Common.{ℕ, List, refl, arith, ap, ◌∙◌, err_from_is_err_and, nat_tests, group_at, item_passed, nothing_passed, Changes}
use Rattle.mq_replay.proofs.Common.{change_events, event_in}
use Rattle.mq_replay.proofs.ChangeTexts.{all_passed, item_broken, events-numbered}
use Rattle.mq_replay.proofs.change_lines.put_each.Goals as goal

pub loop-address-init : goal.loop-address-init
loop-address-init g c = record { put = nothing_passed _ _; same = refl }

pub loop-address-preserved : goal.loop-address-preserved
loop-address-preserved g c =
    let before = c.loop-address.invariant in
    let number = g.F.Address.Key.number in
    let text : _ → List ℕ =
    λ x. event_in c.args.json g.F.Address.LineKey.family c.args.moment (Changes (number x) (group_at c.args.link.now.state.groups (number x)).group) in
    record {
      put = item_passed text _ _ _ _ _ _ _ _ c.address-item.result c.address-item.result c.loop-address-test.true c.address-item.is before.put
          c.in_ok-put_group.ensures.text;
      same = grind (arith, nat_tests, c.in_ok-put_group.ensures.failed, before.same);
    }

pub returns-in_err-put_group-clause-text : goal.returns-in_err-put_group-clause-text
returns-in_err-put_group-clause-text g c =
    let p = err_from_is_err_and c.from_residual.result c.from_residual.ensures.1 in
    let number = g.F.Address.Key.number in
    let text : _ → List ℕ =
    λ x. event_in c.args.json g.F.Address.LineKey.family c.args.moment (Changes (number x) (group_at c.args.link.now.state.groups (number x)).group) in
    let family = g.F.Address.LineKey.family in
    let groups = c.args.link.now.state.groups in
    let items = c.changed-address-items.result.now in
    rw p.1 (item_broken text _ _ _ _ _ _ _ c.address-item.result c.address-item.result _ c.loop-address-test.true c.address-item.is
    (events-numbered number c.args.json family c.args.moment groups items
    ∙ ap (change_events c.args.json family c.args.moment groups) c.changed-address-items.ensures.changed)
    c.loop-address.invariant.put c.in_err-put_group.ensures.text)

pub returns-clause-text : goal.returns-clause-text
returns-clause-text g c =
    let number = g.F.Address.Key.number in
    let family = g.F.Address.LineKey.family in
    let groups = c.args.link.now.state.groups in
    let items = c.changed-address-items.result.now in
    let text : _ → List ℕ = λ x. event_in c.args.json family c.args.moment (Changes (number x) (group_at groups (number x)).group) in
    all_passed text _ _ _ _ items c.loop-address.address-index _ (grind (arith, nat_tests))
    (events-numbered number c.args.json family c.args.moment groups items
    ∙ ap (change_events c.args.json family c.args.moment groups) c.changed-address-items.ensures.changed) c.loop-address.invariant.put
