use Rattle.mq_sched.proofs.Common.{◌≡◌, ◌+◌, true, false, ◌∙◌, ap, lowered_to, arith, common_steps}
use Rattle.mq_sched.proofs.Collecting.{going_between, waiting_are_sent}
use Rattle.mq_sched.proofs.sending.send_waiting.Goals as goal

pub returns-clause-sent : goal.returns-clause-sent
returns-clause-sent g c group is =
    let number = g.K.Key.number in
    let row = c.args.row.now in
    let places = c.places_of_retransmissions-places.result in
    let limit : c.after-limit.result ≡ lowered_to c.args.timing.now c.args.now = c.after-limit.ensures.later ∙
    ap (λ n. c.args.now + n) c.last_member_time.ensures in
    let set =
    going_between number c.after-limit.result true row places.first places.end c.places_of_retransmissions-places.ensures in
    let clear =
    going_between number c.after-limit.result false row places.first places.end c.places_of_retransmissions-places.ensures in
    waiting_are_sent g.S.Sink.takes c.args.sink.now c.send_sources.new.sink c.send_sources-2.new.sink number c.args.per_query c.args.timing.now
    c.args.now (number c.args.address)
    group c.after-limit.result row limit c.requires.ascending is
    (rw set at c.send_sources.ensures.sent) (rw clear at c.send_sources-2.ensures.sent)

pub returns-clause-spent : goal.returns-clause-spent
returns-clause-spent g c = grind (arith, common_steps)
