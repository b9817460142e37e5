use Rattle.mq_sched.proofs.Common.{ltb, ◌∙◌, sym, retransmissions_of, any_in_row}
use Rattle.mq_sched.proofs.schedules.has_retransmissions.Goals as goal

pub returns : goal.returns
returns g c =
    rw (← c.sources.ensures.timers)
    (c.any_has_retransmissions.ensures ∙ sym
    (any_in_row g.K.Key.number (λ s timer. ltb 0 (retransmissions_of timer)) c.sources.result.now c.sources.ensures.ascending))
