use Rattle.mq_link.proofs.Common.{map, drop, event_of}
use Rattle.mq_link.proofs.EventsRun.{RunsOn}
use Rattle.mq_link.proofs.events.run.Given as goal

-- it is enough to run the events that are left
abbrev pub invariant-loop-event : goal.invariant-loop-event
invariant-loop-event g l =
    RunsOn g.O.QueryOutlet.takes (map (event_of g.F.Family.envelope_of) l.events) l.fn.link l.fn.outlet
    (map (event_of g.F.Family.envelope_of) (drop l.event-index l.events)) l.link l.outlet
