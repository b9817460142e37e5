-- the records so far, and then the rest, have the result of all
use Rattle.mq_check.proofs.Common.{◌≡◌, fold, list_map, group_in, with_refused}
use Rattle.mq_check.proofs.refused.Refused.put_all.Given as goal

abbrev pub invariant-loop-view : goal.invariant-loop-view
invariant-loop-view g l = fold with_refused l.fn.self (list_map group_in l.fn.records) ≡ fold with_refused l.self (list_map group_in l.view-iterator)
