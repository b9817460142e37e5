use Rattle.mq_sets.proofs.Common.{rules}
use Rattle.mq_sets.proofs.{MergeCount.comparisons_along-at_least, MergeCount.comparisons_along-at_most, WholeMerge.merged-ascending, WholeMerge.merged-at}
use Rattle.mq_sets.proofs.merging.merge.Goals as goal

pub of-requires : goal.of-requires
of-requires g c = record { left_ascending = c.requires.left_ascending; right_ascending = c.requires.right_ascending }

pub returns : goal.returns
returns g c = record {
  ascending = rw c.of.ensures (merged-ascending g.L.Keyed.key_number g.R.Keyed.key_number _ _ c.requires.left_ascending c.requires.right_ascending);
  at_each_number = λ n. rw c.of.ensures (merged-at g.L.Keyed.key_number g.R.Keyed.key_number _ _ n c.requires.left_ascending);
  compares_at_least = rw c.of.ensures
      (comparisons_along-at_least g.L.Keyed.key_number g.R.Keyed.key_number _ _ c.requires.left_ascending c.requires.right_ascending);
  compares_at_most = rw c.of.ensures
      (comparisons_along-at_most g.L.Keyed.key_number g.R.Keyed.key_number _ _ c.requires.left_ascending c.requires.right_ascending);
  sides = search rules;
}
