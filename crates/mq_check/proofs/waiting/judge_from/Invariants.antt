-- the entries so far were judged
use Rattle.mq_check.proofs.Common.{◌≡◌, ◌-◌, length, deque_capacity, numbered_entry, is_set}
use Rattle.mq_check.proofs.JudgedEntries.{AreJudged}
use Rattle.mq_check.proofs.waiting.judge_from.Given as goal

abbrev pub invariant-loop-place : goal.invariant-loop-place
invariant-loop-place g l = record {
  so_far : AreJudged l.beside l.now (is_set l.link.state.groups) (numbered_entry g.F.Address.Key.number) l.fn.entries.items l.entries.items l.place;
  capacity : deque_capacity l.entries ≡ deque_capacity l.fn.entries;
}

abbrev pub decreases-loop-place : goal.decreases-loop-place
decreases-loop-place g l = length l.entries.items - l.place
