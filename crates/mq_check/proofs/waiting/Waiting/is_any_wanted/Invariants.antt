-- none of the entries so far is such a query
use Rattle.mq_check.proofs.Common.{◌≡◌, drop, list_any, is_group_wanted}
use Rattle.mq_check.proofs.waiting.Waiting.is_any_wanted.Given as goal

abbrev pub invariant-loop-place : goal.invariant-loop-place
invariant-loop-place g l =
    list_any (is_group_wanted l.moment (g.F.Address.Key.number l.group)) l.self.entries
    ≡ list_any (is_group_wanted l.moment (g.F.Address.Key.number l.group)) (drop l.place l.self.entries)
