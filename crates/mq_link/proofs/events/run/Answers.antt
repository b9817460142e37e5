use Rattle.mq_link.proofs.Common.{◌+◌, map, drop, sym, ap, subst, event_of, HasRun, Tick, Datagram}
use Rattle.std.proofs.Math.ListN.{drop_of_length-le}
use Rattle.mq_link.proofs.EventsRun.{none_run, ticked_first, received_first, one_more, left_at}
use Rattle.mq_link.proofs.events.run.Goals as goal
use Rattle.mq_link.proofs.events.run.Goals.{in-Tick, in-Datagram}

pub loop-event-preserved : goal.loop-event-preserved
loop-event-preserved g c =
    let f = event_of g.F.Family.envelope_of in
    let xs = c.args.events.now in
    let i = c.loop-event.event-index in
    let others = map f (drop (i + 1) xs) in
    let left = left_at f xs i c.event-item.result in
    let before = c.loop-event.link in
    let old = c.loop-event.outlet in
    elim c.match-event.branch [
      | in-Tick w ↦
          let e = Tick w.in-Tick.now in
          let one = ticked_first g.O.QueryOutlet.takes w.in-Tick.now others before w.tick.new.self old w.tick.new.outlet w.tick.ensures.config
          w.tick.ensures.ticks in
          rw (w.link-is, w.outlet-is)
          (one_more _ _ _ _ _ _ _ _ _ _ _ (left e c.loop-event-test.true c.event-item.is (ap f w.in-Tick.is)) c.loop-event.invariant one)
      | in-Datagram w ↦
          let envelope = g.F.Family.envelope_of w.in-Datagram.envelope in
          let e = Datagram envelope w.in-Datagram.body.now w.in-Datagram.now in
          let one = received_first g.O.QueryOutlet.takes envelope w.in-Datagram.body.now w.in-Datagram.now w.receive.result others before
          w.receive.new.self old w.receive.new.outlet w.receive.ensures.config w.receive.ensures.receives in
          rw (w.link-is, w.outlet-is)
          (one_more _ _ _ _ _ _ _ _ _ _ _ (left e c.loop-event-test.true c.event-item.is (ap f w.in-Datagram.is)) c.loop-event.invariant one)
    ]

pub returns : goal.returns
returns g c =
    let f = event_of g.F.Family.envelope_of in
    let xs = c.args.events.now in
    let last = c.loop-event.link in
    let outlet = c.loop-event.outlet in
    let none_left = sym (drop_of_length-le xs c.loop-event-test.false) in
    record {
      runs = c.loop-event.invariant last outlet
          (subst (λ ys. HasRun g.O.QueryOutlet.takes (map f ys) last last outlet outlet) none_left (none_run g.O.QueryOutlet.takes last outlet));
    }
