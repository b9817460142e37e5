-- none of the groups so far is this one
use Rattle.mq_check.proofs.Common.{◌≡◌, drop, list_any, ◌==◌}
use Rattle.mq_check.proofs.refused.Refused.has.Given as goal

abbrev pub invariant-loop-place : goal.invariant-loop-place
invariant-loop-place g l =
    list_any (λ other. other == g.F.Address.Key.number l.group) l.self ≡ list_any (λ other. other == g.F.Address.Key.number l.group) (drop l.place l.self)
