use Rattle.std.proofs.Common.{◌≡◌, ◌-◌, arith, refl}
use Rattle.mq_count.proofs.Spent.{Spends-join_within}
use Rattle.mq_sets.specs.Merging.{merged, merged_lists, comparisons_along}
use Rattle.mq_tests.proofs.merges.pairs_of.Goals as goal

pub returns-clause-spent : goal.returns-clause-spent
returns-clause-spent g c =
    let number = g.K.Key.number in
    let ahead = merged number number c.loop-item.merge in
    let all = merged_lists number number c.args.left.now c.args.right.now in
    let used_up = c.in_default.ensures.handed_out in
    let none : comparisons_along ahead ≡ 0 = rw (used_up.0, used_up.1) refl in
    let at_least = rw c.merge-merge.ensures.sides at c.merge-merge.ensures.compares_at_least in
    let at_most = rw c.merge-merge.ensures.sides at c.merge-merge.ensures.compares_at_most in
    let compared = comparisons_along all - comparisons_along ahead in
    Spends-join_within {a = compared} {b = compared} _ _ c.loop-item.invariant.2 c.next.ensures.spent
    (omega (arith, at_least, none, c.next.ensures.comparisons_ahead)) (omega (arith, at_most, none, c.next.ensures.comparisons_ahead))
