use Rattle.mq_table.proofs.Common.{◌≡◌, ◌||◌, ◌+◌, ◌-◌, ◌≤◌, ◌++◌, length, vec_capacity, filter_map, list_any, Spends, merged, merged_lists, comparisons_along}
use Rattle.mq_table.proofs.Common.{number_in, source_made, source_asked, source_turned}
use Rattle.mq_table.proofs.merged_records.push_changes.Given as goal

-- The pushed results and those of the pairs ahead are all results of the merge. At most as many were pushed as
-- both sides have passed. The comparisons so far and those ahead are all.
abbrev pub invariant-loop-item : goal.invariant-loop-item
invariant-loop-item g l =
    let number = number_in g.K.Key.number in
    let ahead = merged number g.K.Key.number l.merge in
    let all = merged_lists number g.K.Key.number l.held l.named in
    let compared = comparisons_along all - comparisons_along ahead in
    let rest = length l.merge.left + length l.merge.right in
    let both = length l.held + length l.named in
    record {
      sources : l.sources.items ++ filter_map (source_made l.rule) ahead ≡ filter_map (source_made l.rule) all;
      asked : l.asked.items ++ filter_map (source_asked l.rule) ahead ≡ filter_map (source_asked l.rule) all;
      turned : (l.turned || list_any (source_turned l.rule) ahead) ≡ list_any (source_turned l.rule) all;
      few_sources : length l.sources.items + rest ≤ both;
      few_asked : length l.asked.items + rest ≤ both;
      sources_room : vec_capacity l.initial.sources ≤ vec_capacity l.sources;
      asked_room : vec_capacity l.initial.asked ≤ vec_capacity l.asked;
      fewer : comparisons_along ahead ≤ comparisons_along all;
      spent : Spends compared compared l.initial.m l.m;
    }

abbrev pub decreases-loop-item : goal.decreases-loop-item
decreases-loop-item g l = length l.merge.left + length l.merge.right
