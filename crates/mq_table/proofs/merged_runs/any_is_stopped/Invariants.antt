use Rattle.mq_table.proofs.Common.{◌≡◌, take, list_any, item_is_stopped}
use Rattle.mq_table.proofs.merged_runs.any_is_stopped.Given as goal

-- the test of the passed sources for a stopped one
abbrev pub invariant-loop-source : goal.invariant-loop-source
invariant-loop-source g l = l.some ≡ list_any item_is_stopped (take l.source-index l.row)
