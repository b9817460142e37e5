use Rattle.mq_sched.proofs.Common.{arith, common_steps}
use Rattle.mq_sched.proofs.Collecting.{full_is_sent}
use Rattle.mq_sched.proofs.portions.Collected.push.Goals as goal

pub returns-then-len-self-clause-sent : goal.returns-then-len-self-clause-sent
returns-then-len-self-clause-sent g c rest =
    full_is_sent g.K.Key.number c.args.self.now.per_query (g.K.Key.number c.args.self.now.group) c.args.self.now.suppress g.S.Sink.takes c.args.sink.now
    c.send.new.sink
    c.args.self.now.sources.items c.push.new.self.items c.send.new.self.sources.items c.args.source rest
    (omega arith) c.push.ensures.items (omega arith) c.send.ensures.empty c.send.ensures.sent

pub returns-else-len-self-clause-sent : goal.returns-else-len-self-clause-sent
returns-else-len-self-clause-sent g c = grind (arith, common_steps)
