use Rattle.mq_held.proofs.Common.{sym, ap, DeadlinesState}
use Rattle.mq_held.proofs.RestartedTimers.{insert-same}
use Rattle.mq_held.proofs.timers_in_place.change_moment.Goals as goal

pub returns-in-None-clause-moments : goal.returns-in-None-clause-moments
returns-in-None-clause-moments g c earliest is =
    rw c.in-None.is (ap (λ moments. let s : DeadlinesState = record { moments = moments; room = c.args.moments.now.room } in s)
    (sym (insert-same c.args.moments.now.moments c.args.number earliest is)))
