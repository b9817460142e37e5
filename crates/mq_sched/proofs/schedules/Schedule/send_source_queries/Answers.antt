use Rattle.mq_sched.proofs.Common.{◌≡◌, true, cond, [], ◌∙◌, sym, ap, subst, le-leb, between_in_group, is_due, waiting_messages, Sends}
use Rattle.mq_sched.proofs.schedules.Schedule.send_source_queries.Goals as goal

pub count_retransmissions_between-left-requires : goal.count_retransmissions_between-left-requires
count_retransmissions_between-left-requires g c =
    let places = c.send_waiting-places.result in
    between_in_group g.K.Key.number c.args.group.now.state c.sources-row.result.now c.sources-row.ensures.ascending c.sources-row.ensures.timers
    places.first places.end c.send_waiting-places.ensures.places

pub returns-then-reached-clause-sent : goal.returns-then-reached-clause-sent
returns-then-reached-clause-sent g c =
    let due : is_due c.args.now c.args.self.now.sources_due ≡ true = ap (λ s. is_due c.args.now s.sources_due) (sym c.self.view_is) ∙
    ap (is_due c.args.now) c.in-Some.is ∙ le-leb c.in-Some.due c.args.now (c.reached.ensures.answer.0 c.if-reached.true) in
    subst (λ b. Sends g.S.Sink.takes c.args.sink.now
    (cond b (waiting_messages c.args.per_query c.args.timing.now c.args.now (g.K.Key.number c.args.address) c.args.group.now.state) [])
    c.send_waiting-places.new.sink) (sym due)
    (c.send_waiting-places.ensures.sent c.args.group.now.state c.sources-row.ensures.timers)
