use Rattle.mq_table.proofs.Common.{◌≡◌, ◌||◌, ◌-◌, ◌++◌, ap, ◌∙◌, arith, refl, Spends-join_within, merged, merged_lists, pair_of, comparisons_along}
use Rattle.mq_table.proofs.Common.{option_to_list, number_in, source_made, source_asked, source_turned, common_steps}
use Rattle.mq_table.proofs.Pushed.{pushed_next, pushed_few, tested_next}
use Rattle.mq_table.proofs.merged_records.push_changes.Goals as goal

pub returns-clause-compares : goal.returns-clause-compares
returns-clause-compares g c =
    let number = number_in g.K.Key.number in
    let ahead = merged number g.K.Key.number c.loop-item.merge in
    let all = merged_lists number g.K.Key.number c.args.held.now c.args.named.now in
    let used_up = c.in_default.ensures.handed_out in
    let none : comparisons_along ahead ≡ 0 = rw (used_up.0, used_up.1) refl in
    let at_least = rw c.merge-merge.ensures.sides at c.merge-merge.ensures.compares_at_least in
    let at_most = rw c.merge-merge.ensures.sides at c.merge-merge.ensures.compares_at_most in
    let compared = comparisons_along all - comparisons_along ahead in
    Spends-join_within {a = compared} {b = compared} _ _ c.loop-item.invariant.spent c.next.ensures.spent
    (omega (arith, at_least, none, c.next.ensures.comparisons_ahead)) (omega (arith, at_most, none, c.next.ensures.comparisons_ahead))

pub returns-clause-compares_at_most : goal.returns-clause-compares_at_most
returns-clause-compares_at_most g c =
    let number = number_in g.K.Key.number in
    let all = merged_lists number g.K.Key.number c.args.held.now c.args.named.now in
    let at_most = rw c.merge-merge.ensures.sides at c.merge-merge.ensures.compares_at_most in
    let compared = comparisons_along all - comparisons_along (merged number g.K.Key.number c.loop-item.merge) in
    Spends-join_within {a = compared} {b = compared} 0 _ c.loop-item.invariant.spent c.next.ensures.spent (omega arith)
    (omega (arith, at_most, c.next.ensures.comparisons_ahead, c.loop-item.invariant.fewer))

pub returns-in_err-push_if_some-clause-compares_at_most : goal.returns-in_err-push_if_some-clause-compares_at_most
returns-in_err-push_if_some-clause-compares_at_most g c =
    let number = number_in g.K.Key.number in
    let all = merged_lists number g.K.Key.number c.args.held.now c.args.named.now in
    let at_most = rw c.merge-merge.ensures.sides at c.merge-merge.ensures.compares_at_most in
    let compared = comparisons_along all - comparisons_along (merged number g.K.Key.number c.loop-item.merge) in
    Spends-join_within {a = compared} {b = compared} 0 _ c.loop-item.invariant.spent c.in-Some.ensures.spent (omega arith)
    (omega (arith, at_most, c.in-Some.ensures.comparisons_ahead, c.loop-item.invariant.fewer))

pub returns-in_err-push_if_some-2-clause-compares_at_most : goal.returns-in_err-push_if_some-2-clause-compares_at_most
returns-in_err-push_if_some-2-clause-compares_at_most g c =
    let number = number_in g.K.Key.number in
    let all = merged_lists number g.K.Key.number c.args.held.now c.args.named.now in
    let at_most = rw c.merge-merge.ensures.sides at c.merge-merge.ensures.compares_at_most in
    let compared = comparisons_along all - comparisons_along (merged number g.K.Key.number c.loop-item.merge) in
    Spends-join_within {a = compared} {b = compared} 0 _ c.loop-item.invariant.spent c.in-Some.ensures.spent (omega arith)
    (omega (arith, at_most, c.in-Some.ensures.comparisons_ahead, c.loop-item.invariant.fewer))

pub loop-item-preserved : goal.loop-item-preserved
loop-item-preserved g c =
    let number = number_in g.K.Key.number in
    let rule = c.args.rule.now in
    let next = c.in-Some.ensures in
    let pair = pair_of c.in-Some.item in
    let compared = comparisons_along (merged_lists number g.K.Key.number c.args.held.now c.args.named.now) - comparisons_along
    (merged number g.K.Key.number c.loop-item.merge) in
    record {
      sources = pushed_next (source_made rule) c.loop-item.sources.items c.push_if_some.new.list.items pair _ _ _
          (c.in_ok-push_if_some.ensures.items ∙ ap (λ o. c.loop-item.sources.items ++ option_to_list o) c.source_made.ensures) next.handed_out
          c.loop-item.invariant.sources;
      asked = pushed_next (source_asked rule) c.loop-item.asked.items c.push_if_some-in-Some.new.list.items pair _ _ _
          (c.in_ok-push_if_some-2.ensures.items ∙ ap (λ o. c.loop-item.asked.items ++ option_to_list o) c.source_asked.ensures) next.handed_out
          c.loop-item.invariant.asked;
      turned = tested_next (source_turned rule) c.loop-item.turned _ pair _ _ _ (ap (λ b. c.loop-item.turned || b) c.source_turned-turned.ensures)
          next.handed_out c.loop-item.invariant.turned;
      few_sources = pushed_few c.source_made.result _ _ c.in-Some.item _ _ _ _ _ c.in_ok-push_if_some.ensures.items next.left next.right
          c.loop-item.invariant.few_sources;
      few_asked = pushed_few c.source_asked.result _ _ c.in-Some.item _ _ _ _ _ c.in_ok-push_if_some-2.ensures.items next.left next.right
          c.loop-item.invariant.few_asked;
      sources_room = omega (arith, c.loop-item.invariant.sources_room, c.in_ok-push_if_some.ensures.capacity);
      asked_room = omega (arith, c.loop-item.invariant.asked_room, c.in_ok-push_if_some-2.ensures.capacity);
      fewer = omega (arith, c.loop-item.invariant.fewer, next.comparisons_ahead);
      spent = Spends-join_within {a = compared} {b = compared} _ _ c.loop-item.invariant.spent next.spent
          (omega (arith, c.loop-item.invariant.fewer, next.comparisons_ahead)) (omega (arith, c.loop-item.invariant.fewer, next.comparisons_ahead));
    }

pub returns-in_err-push_if_some-2-clause-memory : goal.returns-in_err-push_if_some-2-clause-memory
returns-in_err-push_if_some-2-clause-memory g c = grind (arith, common_steps)

pub returns-in_err-push_if_some-clause-memory : goal.returns-in_err-push_if_some-clause-memory
returns-in_err-push_if_some-clause-memory g c = grind (arith, common_steps)
