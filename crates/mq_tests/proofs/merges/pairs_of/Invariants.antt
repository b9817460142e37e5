use Rattle.std.proofs.Common.{◌≡◌, ◌-◌, ◌≤◌, ◌++◌, length}
use Rattle.mq_count.specs.Spending.{Spends}
use Rattle.mq_sets.specs.Merging.{merged, merged_lists, comparisons_along}
use Rattle.mq_tests.proofs.merges.pairs_of.Given as goal

-- the pairs so far and those ahead are the whole merge, and so are their comparisons
abbrev pub invariant-loop-item : goal.invariant-loop-item
invariant-loop-item g l =
    let number = g.K.Key.number in
    let ahead = merged number number l.merge in
    let all = merged_lists number number l.left l.right in
    let compared = comparisons_along all - comparisons_along ahead in
    (l.pairs.items ++ ahead ≡ all) × (comparisons_along ahead ≤ comparisons_along all) × Spends compared compared l.initial.m l.m

abbrev pub decreases-loop-item : goal.decreases-loop-item
decreases-loop-item g l = length (merged g.K.Key.number g.K.Key.number l.merge)
