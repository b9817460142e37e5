use Rattle.mq_table.proofs.Common.{◌≡◌, ◌||◌, ◌+◌, ◌-◌, ◌≤◌, ◌++◌, length, drop, max, min, vec_capacity, filter_map, list_any, Spends, IsAscending}
use Rattle.mq_table.proofs.Common.{merged_lists, number_in, source_made, source_asked, source_turned, LeavesAlone}
use Rattle.mq_table.proofs.merged_runs.push_runs.Given as goal

-- The pushed results and those of the pairs ahead are all results of the merge. At most as many were pushed as both
-- sides have passed. Each passed source took a comparison, and each name at most one more.
abbrev pub invariant-loop-name : goal.invariant-loop-name
invariant-loop-name g l =
    let number = number_in g.K.Key.number in
    let ahead = merged_lists number g.K.Key.number l.left (drop l.name-index l.named) in
    let all = merged_lists number g.K.Key.number l.fn.held l.named in
    let passed = length l.fn.held - length l.left in
    record {
      sources : l.sources.items ++ filter_map (source_made l.rule) ahead ≡ filter_map (source_made l.rule) all;
      asked : l.asked.items ++ filter_map (source_asked l.rule) ahead ≡ filter_map (source_asked l.rule) all;
      turned : (l.turned || list_any (source_turned l.rule) ahead) ≡ list_any (source_turned l.rule) all;
      ascending : IsAscending number l.left;
      named_ascending : IsAscending g.K.Key.number (drop l.name-index l.named);
      alone : LeavesAlone l.rule l.left;
      few_sources : length l.sources.items + length l.left ≤ length l.fn.held + l.name-index;
      few_asked : length l.asked.items ≤ l.name-index;
      fewer : length l.left ≤ length l.fn.held;
      sources_room : vec_capacity l.initial.sources ≤ vec_capacity l.sources;
      asked_room : vec_capacity l.initial.asked ≤ vec_capacity l.asked;
      spent : Spends (max passed (min (length l.fn.held) l.name-index)) (passed + l.name-index) l.initial.m l.m;
    }
