use Rattle.mq_laws.proofs.Common.{◌≡◌, Ok, ap, sym, ◌∙◌, subst, length, length-map, counted_at, kind_number, read_of, pseudo_of, drop_reason, receipt_after}
use Rattle.mq_laws.proofs.Common.{kind_of, outgoing, tick_of, records_in, CountsRecords}
use Rattle.mq_laws.proofs.Counting.{decided_received, decided_counted, decided_records, decided_spelled, two_answers}
use Rattle.mq_laws.proofs.links.each_datagram_is_counted_once.Goals as goal

pub returns-clause-received : goal.returns-clause-received
returns-clause-received c config envelope bytes now state =
    let read = read_of config.family (pseudo_of config.family envelope bytes) bytes in
    decided_received config envelope (tick_of config now state) read (drop_reason config envelope read)

pub returns-clause-answer : goal.returns-clause-answer
returns-clause-answer c config envelope bytes now state =
    let read = read_of config.family (pseudo_of config.family envelope bytes) bytes in
    decided_counted config envelope (tick_of config now state) read (drop_reason config envelope read)

pub returns-clause-records : goal.returns-clause-records
returns-clause-records c config envelope bytes now state message is =
    subst (λ read. CountsRecords (records_in message) (receipt_after config envelope read (tick_of config now state)).answer) (sym is)
    (decided_records config envelope (tick_of config now state) message (drop_reason config envelope (Ok message)))

pub returns-clause-kind : goal.returns-clause-kind
returns-clause-kind c config envelope bytes now state message is =
    subst (λ read. (receipt_after config envelope read (tick_of config now state)).step.state.counters.spelled
    ≡ counted_at kind_number (kind_of message) 1 state.counters.spelled) (sym is)
    (decided_spelled config envelope (tick_of config now state) message (drop_reason config envelope (Ok message)))

pub returns-clause-queries : goal.returns-clause-queries
returns-clause-queries c config step messages answers after h =
    two_answers answers ∙ h.answered_each ∙ ap length h.handed ∙ length-map step.queries (outgoing config step.timing)
